-- The joined heads of the second rule removed from behind the first's.
--   constraints-take, constraints-drop     the first constraints of cells, and the others
--   Dropping, dropping-…                   the loop over the second rule's heads
-- Assumes nothing.
use Prim.Native.Nat.{ℕ, suc, ◌+◌, ◌*◌, ◌≤◌, ◌<◌}
use native.Mathlib.Omega.{arith}
use native.Mathlib.Numerals.{add-one}
use mathlib.Core.Bool.{Bool, true, false}
use mathlib.Core.List.{List, [], ◌∷◌, ◌++◌, append_assoc, append-nil}
use mathlib.Core.Path.{◌≡◌, refl, sym, ap, ◌∙◌}
use lib.ListN.{length, take, drop, length-drop, take-append-drop, drop_of_length-le}
use lib.Seq.{take_at, drop_at, take-paste, length-paste, length-take-le}
use Rattle.text.specs.Lists.{has}
use Rattle.semantics.specs.Terms.{Constraint}
use Rattle.semantics.specs.Overlaps.{unjoined_heads}
use Rattle.tables.specs.Cells.{row_constraint, cell_constraints}
use Rattle.tables.proofs.CellLaws.{constraints-length}
use Rattle.tables.proofs.CellLaws.{constraints-at}
use Rattle.engine.specs.Cells.{moved_row}
use Rattle.engine.proofs.FireLaws.{constraints-append, drop-moved, row-constraints}
use Rattle.overlaps.specs.Cells.{Unjoined}

-- the first m constraints of cells, and the others
module _ (m : ℕ) (l : List ℕ) (h : 5 * m ≤ length l) where
  both : cell_constraints l ≡ cell_constraints (take (5 * m) l) ++ cell_constraints (drop (5 * m) l)
  both =
      ap cell_constraints (sym (take-append-drop (5 * m) l))
      ∙ constraints-append m (take (5 * m) l) (drop (5 * m) l) (length-take-le (5 * m) l h)

  few : length (cell_constraints (take (5 * m) l)) ≡ m
  few = constraints-length m (take (5 * m) l) (length-take-le (5 * m) l h)

  pub constraints-take : cell_constraints (take (5 * m) l) ≡ take m (cell_constraints l)
  constraints-take =
      sym (ap (take m) both ∙ take_at (cell_constraints (take (5 * m) l)) (cell_constraints (drop (5 * m) l)) m few)

  pub constraints-drop : cell_constraints (drop (5 * m) l) ≡ drop m (cell_constraints l)
  constraints-drop =
      sym (ap (drop m) both ∙ drop_at (cell_constraints (take (5 * m) l)) (cell_constraints (drop (5 * m) l)) m few)

-- the first k heads and those from g on that stay are all that stay
pub record Dropping (m n : ℕ) (ds start cells : List ℕ) (g k : ℕ) : Type 0 where
  pub within : g ≤ n
  pub fewer : k ≤ m + g
  pub start-size : length start ≡ 5 * (m + n)
  pub size : length cells ≡ length start
  pub same :
      cell_constraints (take (5 * k) cells) ++ unjoined_heads (suc g) (cell_constraints (drop (5 * (m + g)) cells)) ds
      ≡ take m (cell_constraints start) ++ unjoined_heads 1 (drop m (cell_constraints start)) ds

pub dropping-start : (m n : ℕ) (ds start : List ℕ) → length start ≡ 5 * (m + n) → Dropping m n ds start start 0 m
dropping-start m n ds start e =
    let z : m + 0 ≡ m = omega arith in
    record {
      within = omega arith;
      fewer = omega arith;
      start-size = e;
      size = refl;
      same = rw (z, constraints-take m start (omega arith), constraints-drop m start (omega arith));
    }

module _ (m n : ℕ) (ds start cells : List ℕ) (g k : ℕ) (w : Dropping m n ds start cells g k) where
  -- all have been looked at
  pub dropping-end : n ≤ g → Unjoined m n ds start cells k
  unfolding cell_constraints unjoined_heads
  dropping-end l =
      record {
        few = omega (arith, w.fewer, w.within);
        same =
            rw (drop_of_length-le cells {i = 5 * (m + g)} (omega (arith, w.size, w.start-size)), append-nil) at w.same;
      }

  module _ (l : g < n) where
    this : Constraint
    this = row_constraint (take 5 (drop (5 * (m + g)) cells))

    next : m + suc g ≡ suc (m + g)
    next = omega arith

    split :
        cell_constraints (take (5 * k) cells) ++ unjoined_heads (suc g) (this ∷ cell_constraints (drop (5 * suc (m + g)) cells)) ds
        ≡ take m (cell_constraints start) ++ unjoined_heads 1 (drop m (cell_constraints start)) ds
    unfolding this
    split = rw (constraints-at cells (m + g) (omega (arith, w.size, w.start-size))) at w.same

    -- the head is joined
    pub dropping-joined : (r : Bool) → r ≡ true → r ≡ has (g + 1) ds → Dropping m n ds start cells (g + 1) k
    unfolding unjoined_heads
    dropping-joined r e f =
        rw (add-one g) (record {
          within = l;
          fewer = omega (arith, w.fewer);
          start-size = w.start-size;
          size = w.size;
          same = rw next (rw (sym f' ∙ e) at split);
        })
      where
        f' : r ≡ has (suc g) ds
        f' = rw (add-one g) at f

    -- it stays
    pub dropping-kept :
        (r : Bool) (c : List ℕ) → r ≡ false → r ≡ has (g + 1) ds → c ≡ moved_row (m + g) k cells
        → Dropping m n ds start c (g + 1) (k + 1)
    unfolding unjoined_heads moved_row this
    dropping-kept r c e f q =
        let p = m + g in
        let fits : 5 * p + 5 ≤ length cells = omega (arith, w.size, w.start-size) in
        let few : k ≤ p = w.fewer in
        let tail : 5 ≤ length (drop (5 * p) cells) = omega (arith, length-drop (5 * p) cells) in
        let s : 5 * k + 5 ≡ 5 * suc k = omega arith in
        let front : take (5 * suc k) c ≡ take (5 * k) cells ++ take 5 (drop (5 * p) cells) =
        rw (q, ← s) (take-paste cells (5 * k) (drop (5 * p) cells) 5 (omega arith) tail) in
        let behind : drop (5 * suc p) c ≡ drop (5 * suc p) cells =
        rw q (drop-moved (5 * k) (drop (5 * p) cells) cells (5 * suc p) (omega arith) (omega arith) tail) in
        let heads : cell_constraints (take (5 * suc k) c) ≡ cell_constraints (take (5 * k) cells) ++ (this ∷ []) =
        rw front (constraints-append k (take (5 * k) cells) (take 5 (drop (5 * p) cells))
        (length-take-le (5 * k) cells (omega arith)) ∙ rw (row-constraints (drop (5 * p) cells) tail)) in
        rw (add-one g, add-one k) (record {
          within = l;
          fewer = omega arith;
          start-size = w.start-size;
          size = rw q (length-paste cells (5 * k) (drop (5 * p) cells) 5 (omega arith) tail) ∙ w.size;
          same = rw (next, heads, behind, append_assoc) (rw (sym (rw (add-one g) at f) ∙ e) at split);
        })
