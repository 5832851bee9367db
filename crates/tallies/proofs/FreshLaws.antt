-- The tally of what entered an empty store.
--   none-tallied       a table of zeros has none of any symbol
--   fresh-raisable     what raising such a table asks
--   raised-fresh       raised by constraints, it equals a fresh count of them
-- Assumes nothing.
use Prim.Native.Nat.{ℕ, zero, suc, ◌*◌, ◌≤◌}
use native.Mathlib.Omega.{arith}
use mathlib.Core.Bool.{true}
use mathlib.Core.List.{List, [], ◌∷◌}
use mathlib.Core.Path.{◌≡◌, refl, sym, ◌∙◌}
use lib.Dec.{eqb}
use lib.ListN.{length}
use borrow.Author.Tests.{eqb-true}
use Rattle.text.specs.Lists.{every}
use Rattle.text.proofs.Bools.{and-true}
use Rattle.semantics.specs.Terms.{Constraint}
use Rattle.tables.specs.Cells.{cell_constraints, is_low}
use Rattle.tallies.specs.Symbols.{tallied, Tallied, Raisable, Raised}

-- a table of zeros has none of any symbol
pub none-tallied : (table : List ℕ) (s : ℕ) → every (eqb 0) table ≡ true → tallied table s ≡ 0
unfolding tallied
none-tallied [] zero h = refl
none-tallied [] (suc s) h = refl
none-tallied (x ∷ table) zero h = sym (eqb-true 0 x (and-true (eqb 0 x) (every (eqb 0) table) h).0)
none-tallied (x ∷ table) (suc s) h = none-tallied table s (and-true (eqb 0 x) (every (eqb 0) table) h).1

module _ (table : List ℕ) (size : length table ≡ 64) (zeros : every (eqb 0) table ≡ true) where
  -- it has room for the constraints of cells
  pub fresh-raisable :
      (cells : List ℕ) (n : ℕ) → length cells ≡ 5 * n → every is_low (cell_constraints cells) ≡ true → n ≤ 65000
      → Raisable cells n table
  fresh-raisable cells n cells-size low few =
      record {
        cells-size = cells-size;
        low = low;
        size = size;
        room = λ s. omega (arith, none-tallied table s zeros);
      }

  -- raised by constraints, it equals a fresh count of them
  pub raised-fresh :
      (cs : List Constraint) (table' : List ℕ) → length table' ≡ length table → Raised cs table table' → Tallied table' cs
  raised-fresh cs table' same r =
      record { size = same ∙ size; counts = λ s. omega (arith, r.raised s, none-tallied table s zeros) }
