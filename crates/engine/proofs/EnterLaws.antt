-- A goal enters, cell by cell.
--   starting-next            each goal variable is itself
--   copying-…                the goal's cells in front
--   Freeing, freeing-…       its constraints at none of the positions in front
-- Assumes nothing.
use Prim.Native.Nat.{ℕ, suc, ◌+◌, ◌-◌, ◌*◌, ◌≤◌, ◌<◌}
use native.Mathlib.Omega.{arith}
use native.Mathlib.Numerals.{add-one}
use mathlib.Core.Bool.{Bool, true, false}
use mathlib.Core.List.{List, [], ◌∷◌, ◌++◌, map, map-append, append_assoc, append-nil}
use mathlib.Core.Path.{◌≡◌, refl, ap, sym, ◌∙◌}
use lib.ListN.{length, get_or, set, take, drop, length-drop, drop_of_length-le}
use lib.Seq.{take-suc, take-suc-set, take_all, length-take-le}
use lib.Seq.{paste, take-paste}
use Rattle.text.specs.Lists.{has, tabled}
use Rattle.semantics.specs.Terms.{Constraint, var}
use Rattle.semantics.specs.Firing.{without}
use Rattle.tables.specs.Cells.{cell_term, cell_constraints, row_constraint}
use Rattle.tables.proofs.CellLaws.{cell-high, constraints-at}
use Rattle.engine.specs.States.{Removed}
use Rattle.engine.proofs.FireLaws.{constraints-append, row-constraints}

variable-cell : (i : ℕ) → cell_term (256 + i) ≡ var i
variable-cell i = let e : 256 + i - 256 ≡ i = omega arith in cell-high (256 + i) (omega arith) ∙ rw e

-- where the first i goal variables are themselves, one more is
pub starting-next :
    (bound : List ℕ) (i : ℕ) → i < length bound → map cell_term (take i bound) ≡ tabled var i
    → map cell_term (take (i + 1) (set bound i (256 + i))) ≡ tabled var (i + 1)
starting-next bound i l h =
    rw (
      add-one i,
      take-suc-set bound i (256 + i) l,
      map-append cell_term (take i bound) ((256 + i) ∷ []),
      h,
      variable-cell i,
    )

-- where the first i cells are the goal's, one more is; and then all of them are
module _ (goal cells : List ℕ) (i : ℕ) where
  pub copying-next :
      i < length goal → i < length cells → take i cells ≡ take i goal
      → take (i + 1) (set cells i (get_or goal i 0)) ≡ take (i + 1) goal
  copying-next l m h = rw (add-one i, take-suc-set cells i (get_or goal i 0) m, take-suc goal i 0 l, h)

  pub copying-end : i ≡ length goal → take i cells ≡ take i goal → take (length goal) cells ≡ goal
  copying-end e h = ap (λ k. take k cells) (sym e) ∙ h ∙ take_all i goal (omega arith)

-- the constraints in front and those of the goal from p on that stay are all that stay
pub record Freeing (goal ps cells : List ℕ) (p k : ℕ) : Type 0 where
  pub fewer : k ≤ p
  pub same :
      cell_constraints (take (5 * k) cells) ++ without p ps (cell_constraints (drop (5 * p) goal))
      ≡ without 0 ps (cell_constraints goal)

pub freeing-start : (goal ps start : List ℕ) → Freeing goal ps start 0 0
unfolding cell_constraints
freeing-start goal ps start = record { fewer = omega arith; same = refl }

module _ (goal : List ℕ) (m : ℕ) (ps cells : List ℕ) (p k : ℕ) (goal-size : length goal ≡ 5 * m) (w : Freeing goal ps cells p k) where
  -- all have been looked at
  pub freeing-end : p ≡ m → Removed m ps goal cells k
  unfolding cell_constraints without
  freeing-end l =
      record {
        few = omega (arith, w.fewer);
        same = rw (drop_of_length-le goal {i = 5 * p} (omega arith), append-nil) at w.same;
      }

  module _ (l : p < m) where
    this : Constraint
    this = row_constraint (take 5 (drop (5 * p) goal))

    split :
        cell_constraints (take (5 * k) cells) ++ without p ps (this ∷ cell_constraints (drop (5 * suc p) goal))
        ≡ without 0 ps (cell_constraints goal)
    unfolding this
    split = rw (constraints-at goal p (omega arith)) at w.same

    -- the constraint stands at a position
    pub freeing-taken : (r : Bool) → r ≡ true → r ≡ has p ps → Freeing goal ps cells (p + 1) k
    unfolding without
    freeing-taken r e f = rw (add-one p) (record { fewer = omega (arith, w.fewer); same = rw (sym f ∙ e) at split })

    -- it stays
    pub freeing-kept :
        (r : Bool) (c : List ℕ) → 5 * m ≤ length cells → r ≡ false → r ≡ has p ps
        → c ≡ paste cells (5 * k) (drop (5 * p) goal) 5 → Freeing goal ps c (p + 1) (k + 1)
    unfolding without this
    freeing-kept r c room e f q =
        let fits : 5 * k + 5 ≤ length cells = omega (arith, w.fewer) in
        let tail : 5 ≤ length (drop (5 * p) goal) = omega (arith, length-drop (5 * p) goal) in
        let s : 5 * k + 5 ≡ 5 * suc k = omega arith in
        let front : take (5 * suc k) c ≡ take (5 * k) cells ++ take 5 (drop (5 * p) goal) =
        rw (q, ← s) (take-paste cells (5 * k) (drop (5 * p) goal) 5 (omega arith) tail) in
        let rows : cell_constraints (take (5 * suc k) c) ≡ cell_constraints (take (5 * k) cells) ++ (this ∷ []) =
        rw front (constraints-append k (take (5 * k) cells) (take 5 (drop (5 * p) goal))
        (length-take-le (5 * k) cells (omega arith)) ∙ rw (row-constraints (drop (5 * p) goal) tail)) in
        rw (add-one p, add-one k)
        (record { fewer = omega (arith, w.fewer); same = rw (rows, append_assoc) (rw (sym f ∙ e) at split) })
