-- Laws of numbering variables by first appearance.
--   used-here, used_step, used-end, used-terms     the cells before the first 0
--   new-…                 the new cell of a variable, with one more variable seen
--   numbered-…            one more term: a constant, a variable that has appeared, one that has not
--   Reaching, reach-…     the table so far, from which the terms left lead to the whole order
--   first-place           each of the first n variables is its own place among them
--   Keeping, keeping-…    the first n variables keep their numbers
--   cell_below, cell-unnumbered, cell-new          a cell under the table
-- Assumes nothing.
use mathlib.Core.Path.{◌≡◌, refl, sym, ap, ◌∙◌, subst}
use mathlib.Core.Bool.{Bool, true, false, cond, ◌||◌}
use mathlib.Core.List.{List, [], ◌∷◌, ◌++◌, map}
use mathlib.Core.Logic.{⊎_elim}
use Prim.Native.Nat.{ℕ, zero, suc, ◌+◌, ◌-◌, ◌≤◌, ◌<◌}
use native.Mathlib.Omega.{arith}
use borrow.Author.Tests.{eq-eqb, ne_eqb, eqb-true, eqb-false, lt-ltb, le-ltb}
use lib.Dec.{eqb}
use lib.ListN.{length, take, drop, get_or, set, length-append, length-set, drop_of_length-le}
use lib.ListN.{get_or-eq_default}
use lib.Seq.{drop-cons, get_or-set_same, get_or-set_other}
use Rattle.text.specs.Lists.{has, index_from, up_to}
use Rattle.text.proofs.Laws.{tabled-length}
use Rattle.semantics.specs.Terms.{Term, con, var}
use Rattle.semantics.specs.Overlaps.{appearing_in}
use Rattle.semantics.proofs.Appearing.{up_to-has, up_to-lacks}
use Rattle.tables.specs.Cells.{cell_term, cell_terms}
use Rattle.tables.specs.Numbers.{used_cells, new_cell, Numbering, Numbered, renumbered_cell}
use Rattle.tables.proofs.CellLaws.{cell-low, cell-high, le-or-lt}

module _ (l : List ℕ) (i : ℕ) where
  -- how many cells stand before the first 0, one cell on
  pub used-here : i < length l → get_or l i 0 ≡ 0 → used_cells (drop i l) ≡ 0
  unfolding used_cells
  used-here h e = rw (drop-cons l i 0 h, e)

  pub used_step : i < length l → (get_or l i 0 ≡ 0 → ⊥) → used_cells (drop i l) ≡ suc (used_cells (drop (suc i) l))
  unfolding used_cells
  used_step h e = rw (drop-cons l i 0 h, ne_eqb (get_or l i 0) 0 e)

  pub used-end : length l ≤ i → used_cells (drop i l) ≡ 0
  unfolding used_cells
  used-end h = rw (drop_of_length-le l h)

-- they are the terms
pub used-terms : (l : List ℕ) → cell_terms l ≡ map cell_term (take (used_cells l) l)
unfolding cell_terms used_cells
used-terms [] = refl
used-terms (x ∷ l) = go (eqb x 0) (used-terms l)
  where
    go : (b : Bool) → cell_terms l ≡ map cell_term (take (used_cells l) l)
        → cond b [] (cell_term x ∷ cell_terms l) ≡ map cell_term (take (cond b 0 (suc (used_cells l))) (x ∷ l))
    go true e = refl
    go false e = ap (λ (r : List Term). cell_term x ∷ r) e

-- whether a variable stands in a list with one more
pub has_more : (z y : ℕ) (o : List ℕ) → has z (o ++ (y ∷ [])) ≡ (has z o || eqb z y)
has_more z y [] = go (eqb z y)
  where
    go : (b : Bool) → (b || false) ≡ (false || b)
    go true = refl
    go false = refl
has_more z y (x ∷ o) = go (eqb z x) (has_more z y o)
  where
    go : (b : Bool) → has z (o ++ (y ∷ [])) ≡ (has z o || eqb z y) → (b || has z (o ++ (y ∷ []))) ≡ ((b || has z o) || eqb z y)
    go true e = refl
    go false e = e

-- its place stays where it was
pub index_kept : (z y i : ℕ) (o : List ℕ) → has z o ≡ true → index_from (eqb z) i (o ++ (y ∷ [])) ≡ index_from (eqb z) i o
index_kept z y i [] h = let bad : ◌≡◌ {A = ℕ} 0 1 = cc in absurd (omega arith)
index_kept z y i (x ∷ o) h = go (eqb z x) h (λ k. index_kept z y (suc i) o k)
  where
    go : (b : Bool) → (b || has z o) ≡ true
        → (has z o ≡ true → index_from (eqb z) (suc i) (o ++ (y ∷ [])) ≡ index_from (eqb z) (suc i) o)
        → cond b i (index_from (eqb z) (suc i) (o ++ (y ∷ []))) ≡ cond b i (index_from (eqb z) (suc i) o)
    go true e f = refl
    go false e f = f e

-- a new variable's place is behind the others
pub index-new : (y i : ℕ) (o : List ℕ) → has y o ≡ false → index_from (eqb y) i (o ++ (y ∷ [])) ≡ i + length o
index-new y i [] h = rw (eq-eqb y y refl) (omega arith)
index-new y i (x ∷ o) h = go (eqb y x) h (λ k. index-new y (suc i) o k)
  where
    go : (b : Bool) → (b || has y o) ≡ false → (has y o ≡ false → index_from (eqb y) (suc i) (o ++ (y ∷ [])) ≡ suc i + length o)
        → cond b i (index_from (eqb y) (suc i) (o ++ (y ∷ []))) ≡ i + suc (length o)
    go true e f = let bad : ◌≡◌ {A = ℕ} 0 1 = cc in absurd (omega arith)
    go false e f = omega (arith, f e)

-- the new cell of a variable that has appeared, and of one that has not
pub new-seen : (order : List ℕ) (x : ℕ) → has x order ≡ true → new_cell order x ≡ 256 + index_from (eqb x) 0 order
unfolding new_cell
new-seen order x h = rw h

new-unseen : (order : List ℕ) (x : ℕ) → has x order ≡ false → new_cell order x ≡ 0
unfolding new_cell
new-unseen order x h = rw h

-- a variable has appeared just where its new cell is not 0
unseen-zero : (order : List ℕ) (x : ℕ) → new_cell order x ≡ 0 → has x order ≡ false
unseen-zero order x h = go (has x order) refl
  where
    go : (b : Bool) → has x order ≡ b → has x order ≡ false
    go true e = absurd (omega (arith, new-seen order x e))
    go false e = e

seen-cell : (order : List ℕ) (x : ℕ) → (new_cell order x ≡ 0 → ⊥) → has x order ≡ true
seen-cell order x h = go (has x order) refl
  where
    go : (b : Bool) → has x order ≡ b → has x order ≡ true
    go true e = e
    go false e = absurd (h (new-unseen order x e))

-- one more variable: its new cell, and that of every other
new-new : (order : List ℕ) (y : ℕ) → has y order ≡ false → new_cell (order ++ (y ∷ [])) y ≡ 256 + length order
new-new order y h =
    new-seen (order ++ (y ∷ [])) y (has_more y y order ∙ rw (h, eq-eqb y y refl))
    ∙ ap (λ (k : ℕ). 256 + k) (index-new y 0 order h ∙ omega arith)

new-other : (order : List ℕ) (y z : ℕ) → (z ≡ y → ⊥) → new_cell (order ++ (y ∷ [])) z ≡ new_cell order z
new-other order y z h = go (has z order) refl
  where
    same : has z (order ++ (y ∷ [])) ≡ (has z order || false)
    same = has_more z y order ∙ rw (ne_eqb z y h)

    go : (b : Bool) → has z order ≡ b → new_cell (order ++ (y ∷ [])) z ≡ new_cell order z
    go true e =
        new-seen (order ++ (y ∷ [])) z (same ∙ rw e) ∙ ap (λ (k : ℕ). 256 + k) (index_kept z y 0 order e)
        ∙ sym (new-seen order z e)
    go false e = new-unseen (order ++ (y ∷ [])) z (same ∙ rw e) ∙ sym (new-unseen order z e)

-- one more term: a constant
pub numbered-constant : (table : List ℕ) (seen x : ℕ) → x < 256 → Numbered (cell_term x) table table seen seen
unfolding appearing_in
numbered-constant table seen x h = rw (cell-low x h) (record { next = λ order n. n; few = omega arith })

-- a variable that has appeared; y is its number as read
pub numbered-old : (table : List ℕ) (seen x y : ℕ) → 256 ≤ x → y ≡ x - 256 → (get_or table y 0 ≡ 0 → ⊥)
    → Numbered (cell_term x) table table seen seen
unfolding appearing_in
numbered-old table seen x y h e old =
    rw (cell-high x h, ← e)
    record {
      next = λ order n. rw (seen-cell order y (λ z. old (n.each y ∙ z))) n;
      few = omega arith;
    }

-- a variable that has not
pub numbered-new : (table : List ℕ) (seen x y : ℕ) → 256 ≤ x → y ≡ x - 256 → y < length table → get_or table y 0 ≡ 0
    → Numbered (cell_term x) table (set table y (256 + seen)) seen (seen + 1)
unfolding appearing_in
numbered-new table seen x y h e inside new = rw (cell-high x h, ← e) record { next = next; few = omega arith }
  where
    fresh : (order : List ℕ) → Numbering order table seen → has y order ≡ false
    fresh order n = unseen-zero order y (sym (n.each y) ∙ new)

    entry : (order : List ℕ) → Numbering order table seen → (b : Bool) (z : ℕ) → eqb z y ≡ b
        → get_or (set table y (256 + seen)) z 0 ≡ new_cell (order ++ (y ∷ [])) z
    entry order n true z t =
        let same : z ≡ y = eqb-true z y t in
        rw same
        (get_or-set_same table y (256 + seen) 0 inside
        ∙ ap (λ (k : ℕ). 256 + k) n.counted ∙ sym (new-new order y (fresh order n)))
    entry order n false z t =
        get_or-set_other table y z (256 + seen) 0 (eqb-false z y t)
        ∙ n.each z ∙ sym (new-other order y z (eqb-false z y t))

    next : (order : List ℕ) → Numbering order table seen
        → Numbering (appearing_in order (var y ∷ [])) (set table y (256 + seen)) (seen + 1)
    next order n =
        rw (fresh order n)
        record {
          each = λ z. entry order n (eqb z y) z refl;
          counted = omega (arith, n.counted, length-append order (y ∷ []));
        }

-- terms one after the other
pub appearing-step : (order : List ℕ) (t : Term) (ts : List Term) → appearing_in (appearing_in order (t ∷ [])) ts
    ≡ appearing_in order (t ∷ ts)
unfolding appearing_in
appearing-step order (con c) ts = refl
appearing-step order (var x) ts = refl

-- the table so far, from which the terms left lead to the whole order
pub record Reaching (whole table : List ℕ) (seen : ℕ) (left : List Term) : Type 0 where
  pub order : List ℕ
  pub numbering : Numbering order table seen
  pub reaches : appearing_in order left ≡ whole

pub reach-more : {whole table after : List ℕ} {seen count : ℕ} {left : List Term} (t : Term) (rest : List Term)
    → left ≡ t ∷ rest → Numbered t table after seen count → Reaching whole table seen left
    → Reaching whole after count rest
reach-more t rest e n r =
    record {
      order = appearing_in r.order (t ∷ []);
      numbering = n.next r.order r.numbering;
      reaches = appearing-step r.order t rest ∙ ap (appearing_in r.order) (sym e) ∙ r.reaches;
    }

pub reach-end : {whole table : List ℕ} {seen : ℕ} {left : List Term} → left ≡ [] → Reaching whole table seen left
    → Numbering whole table seen
unfolding appearing_in
reach-end {whole} {table} {seen} {left} e r =
    let same : r.order ≡ whole = ap (appearing_in r.order) (sym e) ∙ r.reaches in
    subst (λ (o : List ℕ). Numbering o table seen) same r.numbering

-- each of the first n is its own place among them
pub first-place : (n x : ℕ) → x < n → index_from (eqb x) 0 (up_to n) ≡ x
first-place zero x h = absurd (omega arith)
first-place (suc n) x h = go (eqb x n) refl (first-place n x)
  where
    go :
        (b : Bool) → eqb x n ≡ b → (x < n → index_from (eqb x) 0 (up_to n) ≡ x)
        → index_from (eqb x) 0 (up_to n ++ (n ∷ [])) ≡ x
    go true e more =
        let same : x ≡ n = eqb-true x n e in
        rw same (index-new n 0 (up_to n) (up_to-lacks n n (omega arith)) ∙ omega (arith, tabled-length (λ (i : ℕ). i) n))
    go false e more =
        let below : x < n = omega (arith, eqb-false x n e) in
        index_kept x n 0 (up_to n) (up_to-has n x below) ∙ more below

-- the table while variables get their own cells: the first i have theirs, and none behind has one
pub record Keeping (start : List ℕ) (table : List ℕ) (i : ℕ) : Type 0 where
  pub size : length table ≡ length start
  pub own : (x : ℕ) → x < i → get_or table x 0 ≡ 256 + x
  pub behind : (x : ℕ) → i ≤ x → get_or table x 0 ≡ 0

pub keeping_start : (start : List ℕ) → Numbering [] start 0 → Keeping start start 0
keeping_start start h =
    record {
      size = refl;
      own = λ x k. absurd (omega arith);
      behind = λ x l. h.each x ∙ new-unseen [] x refl;
    }

module _ (start : List ℕ) (table : List ℕ) (i : ℕ) (w : Keeping start table i) where
  pub keeping-next : i < length start → Keeping start (set table i (256 + i)) (i + 1)
  keeping-next h =
      record {
        size = length-set table i (256 + i) ∙ w.size;
        own = λ x k. mine x k (eqb x i) refl;
        behind = λ x k. get_or-set_other table i x (256 + i) 0 (λ q. omega (arith, q)) ∙ w.behind x (omega arith);
      }
    where
      mine : (x : ℕ) → x < i + 1 → (b : Bool) → eqb x i ≡ b → get_or (set table i (256 + i)) x 0 ≡ 256 + x
      mine x k true q =
          let same : x ≡ i = eqb-true x i q in
          rw same (get_or-set_same table i (256 + i) 0 (omega (arith, w.size)))
      mine x k false q =
          let apart = eqb-false x i q in
          get_or-set_other table i x (256 + i) 0 apart ∙ w.own x (omega (arith, apart))

  pub keeping-end : Numbering (up_to i) table i
  keeping-end =
      record {
        each = λ x. ⊎_elim (λ high. w.behind x high ∙ sym (new-unseen (up_to i) x (up_to-lacks i x high)))
            (λ low. w.own x low
            ∙ sym (new-seen (up_to i) x (up_to-has i x low) ∙ ap (λ (k : ℕ). 256 + k) (first-place i x low))) (le-or-lt i x);
        counted = sym (tabled-length (λ (k : ℕ). k) i);
      }

module _ (table : List ℕ) (x : ℕ) where
  -- a cell under the table: a constant, a variable without an entry, and one with its new cell
  pub cell_below : x < 256 → x ≡ renumbered_cell table x
  unfolding renumbered_cell
  cell_below h = rw (lt-ltb x 256 h)

  pub cell-outside : (y : ℕ) → y ≡ x - 256 → 256 ≤ x → length table ≤ y → x ≡ renumbered_cell table x
  unfolding renumbered_cell
  cell-outside y e h k = rw (le-ltb x 256 h, ← e, get_or-eq_default table 0 k)

  pub cell-unnumbered : (y : ℕ) → y ≡ x - 256 → 256 ≤ x → get_or table y 0 ≡ 0 → x ≡ renumbered_cell table x
  unfolding renumbered_cell
  cell-unnumbered y e h k = rw (le-ltb x 256 h, ← e, k)

  pub cell-new : (y : ℕ) → y ≡ x - 256 → 256 ≤ x → (get_or table y 0 ≡ 0 → ⊥) → get_or table y 0 ≡ renumbered_cell table x
  unfolding renumbered_cell
  cell-new y e h k = rw (le-ltb x 256 h, ← e, ne_eqb (get_or table y 0) 0 k)
