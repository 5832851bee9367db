-- The tally after a firing, by the row of its rule.
--   body-raisable, body-raised     the tally less the heads that are removed, and more by the body
-- Assumes nothing.
use Prim.Native.Nat.{ℕ, ◌*◌}
use native.Mathlib.Omega.{arith}
use mathlib.Core.List.{List, []}
use mathlib.Core.Path.{◌≡◌, ◌∙◌}
use lib.ListN.{length, get_or}
use Rattle.semantics.specs.Terms.{removed_heads}
use Rattle.semantics.specs.Tally.{exchanged}
use Rattle.tables.specs.Cells.{cell_constraints}
use Rattle.tables.specs.Rows.{rule_of_row}
use Rattle.tallies.specs.Symbols.{Raisable, Raised, Lowered, Exchangeable, Exchanged}

-- the cells of a body, and as many constraints as the row says
module _ (row table : List ℕ) (x : Exchangeable row table) (cells : List ℕ) (size : length cells ≡ 5 * get_or row 4 0)
    (same : cell_constraints cells ≡ (rule_of_row [] row).body) (b : ℕ) (e : b ≡ get_or row 4 0)
    (low : List ℕ) (kept : length low ≡ length table) (l : Lowered (removed_heads (rule_of_row [] row)) table low) where
  -- what raising by the body asks
  pub body-raisable : Raisable cells b low
  body-raisable =
      record {
        cells-size = size ∙ omega arith;
        low = rw same x.body-low;
        size = kept ∙ x.table-size;
        room = λ s. omega (arith, l.lowered s, x.room s, x.body-few);
      }

  -- and what the tally is then
  pub body-raised : (table' : List ℕ) → Raised (cell_constraints cells) low table' → Exchanged row table table'
  unfolding exchanged
  body-raised table' r =
      let now' : Raised (rule_of_row [] row).body low table' = rw same at r in
      record { same = λ s. omega (arith, now'.raised s, l.lowered s) }
