-- The table of new cells gives every variable of a state its place in the order of first appearance.
--   kept, placed   a cell under the table
--   renumbers      the rewritten cells are the constraints renumbered
--   rows-asks      what numbering the constraints asks
--   zeros          a table of zeros, of which v entries are lent: no variable has appeared
-- Assumes nothing.
use mathlib.Core.Path.{◌≡◌, refl, sym, ap, ◌∙◌}
use mathlib.Core.Bool.{true}
use mathlib.Core.List.{List, [], ◌∷◌}
use mathlib.Core.Logic.{⊎_elim}
use Prim.Native.Nat.{ℕ, zero, suc, ◌+◌, ◌-◌, ◌≤◌}
use native.Mathlib.Omega.{arith}
use borrow.Author.Tests.{eqb-true, eqb-false}
use lib.Dec.{eqb}
use lib.ListN.{length, take, get_or}
use Rattle.text.specs.Lists.{has, every, index_from, up_to}
use Rattle.semantics.specs.Terms.{var}
use Rattle.semantics.specs.Overlaps.{numbered}
use Rattle.text.proofs.Bools.{and-true}
use Rattle.tables.specs.Cells.{cell_term, cell_constraints}
use Rattle.tables.specs.Numbers.{order_of, new_cell, Numbering, RowsNumbered, renumbered_cell, is_within, Numberable}
use Rattle.tables.specs.Numbers.{Renumbered}
use Rattle.tables.proofs.CellLaws.{cell-low, cell-high, le-or-lt, either}
use Rattle.tables.proofs.NumberLaws.{new-seen, cell_below, cell-unnumbered, cell-new}
use Rattle.tables.proofs.Appearing.{var_in}

module _ (order table : List ℕ) (count : ℕ) (n : Numbering order table count) where
  -- a used cell stays used
  pub kept : (x : ℕ) → (x ≡ 0 → ⊥) → renumbered_cell table x ≡ 0 → ⊥
  kept x h z =
      let new = get_or table (x - 256) 0 in
      ⊎_elim
      (λ high. ⊎_elim (λ none. h (cell-unnumbered table x (x - 256) refl high (eqb-true new 0 none) ∙ z))
      (λ some. eqb-false new 0 some (cell-new table x (x - 256) refl high (eqb-false new 0 some) ∙ z)) (either (eqb new 0)))
      (λ low. h (cell_below table x low ∙ z)) (le-or-lt 256 x)

  -- a term that has appeared becomes its place
  pub placed : (x : ℕ) → var_in order (cell_term x) ≡ true → cell_term (renumbered_cell table x) ≡ numbered order (cell_term x)
  unfolding numbered
  placed x h =
      ⊎_elim
      (λ high.
      let place = index_from (eqb (x - 256)) 0 order in
      let seen : has (x - 256) order ≡ true = rw (cell-high x high) at h in
      let new : get_or table (x - 256) 0 ≡ 256 + place = n.each (x - 256) ∙ new-seen order (x - 256) seen in
      let found : 256 + place ≡ renumbered_cell table x =
      sym new ∙ cell-new table x (x - 256) refl high (λ e. omega (arith, e, new)) in
      rw (← found, cell-high x high) (cell-high (256 + place) (omega arith) ∙ ap var (omega arith)))
      (λ low. rw (← cell_below table x low, cell-low x low)) (le-or-lt 256 x)

-- the constraints as they were rewritten, behind the first n variables, are renumbered
pub renumbers : (n : ℕ) (cells table after cells' : List ℕ) (count : ℕ) → Numbering (up_to n) table n
    → RowsNumbered cells cells' table after n count → Renumbered n cells cells' count
unfolding order_of
renumbers n cells table after cells' count first rows =
    record { same = rows.same (up_to n) first; counted = (rows.next (up_to n) first).counted }

-- what numbering the constraints asks, in a table of the same size
pub rows-asks : (v n : ℕ) (table cells : List ℕ) → Numberable v n cells → length table ≡ v
    → (every (is_within (length table)) (cell_constraints cells) ≡ true) × (n + length cells ≤ 65000)
rows-asks v n table cells r e = (rw e r.within, r.few)

-- a table of zeros, of which v entries are lent: no variable has appeared
pub zeros : (l : List ℕ) (v : ℕ) → every (eqb 0) l ≡ true → Numbering [] (take v l) 0
unfolding new_cell
zeros l v h = record { each = go l v h; counted = refl }
  where
    go : (l : List ℕ) (v : ℕ) → every (eqb 0) l ≡ true → (x : ℕ) → get_or (take v l) x 0 ≡ 0
    go [] zero h x = refl
    go [] (suc v) h x = refl
    go (y ∷ l) zero h x = refl
    go (y ∷ l) (suc v) h zero = sym (eqb-true 0 y (and-true (eqb 0 y) (every (eqb 0) l) h).0)
    go (y ∷ l) (suc v) h (suc x) = go l v (and-true (eqb 0 y) (every (eqb 0) l) h).1 x
