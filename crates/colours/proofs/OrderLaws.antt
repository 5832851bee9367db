-- Constraints in another order: one law for each way that the code goes.
--   swapping-…         two constraints change positions
--   swapped-multiset   they are the same constraints then
--   reordered-…        one change after the other
-- Assumes nothing.
use Rattle.std.proofs.Common.{◌≡◌, ℕ, zero, suc, ◌+◌, ◌*◌, ◌<◌, ◌≤◌, true, false, eqb, ◌⊎◌, List, [], ◌∷◌, length, get_or, set, sym, refl, ap, ◌∙◌, subst, inl, inr, add-one, arith, length-set, get_or-set_other, get_or-set_same, ext_get_or, eqb-true}
use borrow.Author.Tests.{eqb-false}
use Rattle.std.specs.List.{swap}
use Rattle.std.proofs.lemmas.List.Edits.{swap_is}
use Rattle.semantics.specs.Terms.{Constraint}
use Rattle.semantics.specs.Variants.{SameMultiset, put, Inserted, here, there}
use Rattle.semantics.proofs.Multisets.{multiset-refl, multiset-right}
use Rattle.tables.specs.Cells.{cell_constraints}
use Rattle.tables.proofs.CellLaws.{constraints-length}
use Rattle.tables.proofs.CellLaws.{either}
use Rattle.colours.specs.Rows.{row_of}
use Rattle.colours.specs.Bounds.{TermsBelow}
use Rattle.colours.specs.Order.{Ordering, swapped, Swapped, Reordered}
use Rattle.colours.proofs.RowLaws.{row_at}

-- the columns before c are exchanged, the others are as they were
pub record Swapping (i j : ℕ) (cells₀ cells : List ℕ) (c : ℕ) : Type 0 where
  pub size : length cells ≡ length cells₀
  pub made : (k d : ℕ) → d < c → get_or cells (5 * k + d) 0 ≡ get_or cells₀ (5 * swapped i j k + d) 0
  pub left : (k d : ℕ) → c ≤ d → d < 5 → get_or cells (5 * k + d) 0 ≡ get_or cells₀ (5 * k + d) 0

pub swapping_start : (i j : ℕ) (cells : List ℕ) → Swapping i j cells cells 0
swapping_start i j cells =
    record { size = refl; made = λ k d h. absurd (omega arith); left = λ k d h l. refl }

-- a cell's constraint and its column
apart-column : (k i c d : ℕ) → c < 5 → d < 5 → (c ≡ d → ⊥) → 5 * k + c ≡ 5 * i + d → ⊥
apart-column k i c d h l n e = n (omega arith)

apart-row : (k i c : ℕ) → (k ≡ i → ⊥) → 5 * k + c ≡ 5 * i + c → ⊥
apart-row k i c n e = n (omega arith)

module _ (i j : ℕ) (cells₀ cells : List ℕ) (c : ℕ) (hi : 5 * i + 5 ≤ length cells₀) (hj : 5 * j + 5 ≤ length cells₀)
    (w : Swapping i j cells₀ cells c) where
  module _ (h : c < 5) where
    -- what the code stores
    abbrev after : List ℕ
    after = set (set cells (5 * i + c) (get_or cells (5 * j + c) 0)) (5 * j + c) (get_or cells (5 * i + c) 0)

    in_left : 5 * i + c < length cells
    in_left = omega (arith, w.size)

    in_right : 5 * j + c < length (set cells (5 * i + c) (get_or cells (5 * j + c) 0))
    in_right = rw (length-set cells (5 * i + c) (get_or cells (5 * j + c) 0)) (omega (arith, w.size))

    -- another column
    other-column : (k d : ℕ) → d < 5 → (d ≡ c → ⊥) → get_or after (5 * k + d) 0 ≡ get_or cells (5 * k + d) 0
    other-column k d l n =
        get_or-set_other (set cells (5 * i + c) (get_or cells (5 * j + c) 0)) (5 * j + c) (5 * k + d) (get_or cells (5 * i + c) 0) 0
        (apart-column k j d c l h n)
        ∙ get_or-set_other cells (5 * i + c) (5 * k + d) (get_or cells (5 * j + c) 0) 0 (apart-column k i d c l h n)

    -- this column
    this-column :
        (k : ℕ) → (eqb k i ≡ true) ⊎ (eqb k i ≡ false) → (eqb k j ≡ true) ⊎ (eqb k j ≡ false)
        → get_or after (5 * k + c) 0 ≡ get_or cells₀ (5 * swapped i j k + c) 0
    unfolding swapped
    this-column k (inl x) (inl y) =
        let p : k ≡ i = eqb-true k i x in
        let q : k ≡ j = eqb-true k j y in
        rw x (
        ap (λ n. get_or after (5 * n + c) 0) q
        ∙ (get_or-set_same (set cells (5 * i + c) (get_or cells (5 * j + c) 0)) (5 * j + c) (get_or cells (5 * i + c) 0) 0 in_right
        ∙ (w.left i c (omega arith) h ∙ ap (λ n. get_or cells₀ (5 * n + c) 0) (sym p ∙ q))))
    this-column k (inl x) (inr y) =
        let p : k ≡ i = eqb-true k i x in
        let n : k ≡ j → ⊥ = eqb-false k j y in
        rw (x) (
        get_or-set_other (set cells (5 * i + c) (get_or cells (5 * j + c) 0)) (5 * j + c) (5 * k + c) (get_or cells (5 * i + c) 0) 0
        (apart-row k j c n)
        ∙ (rw p (get_or-set_same cells (5 * i + c) (get_or cells (5 * j + c) 0) 0 in_left) ∙ w.left j c (omega arith) h))
    this-column k (inr x) (inl y) =
        let q : k ≡ j = eqb-true k j y in
        rw (x, y) (rw q (
        get_or-set_same (set cells (5 * i + c) (get_or cells (5 * j + c) 0)) (5 * j + c) (get_or cells (5 * i + c) 0) 0 in_right)
        ∙ w.left i c (omega arith) h)
    this-column k (inr x) (inr y) =
        rw (x, y) (
        get_or-set_other (set cells (5 * i + c) (get_or cells (5 * j + c) 0)) (5 * j + c) (5 * k + c) (get_or cells (5 * i + c) 0) 0
        (apart-row k j c (eqb-false k j y))
        ∙ (get_or-set_other cells (5 * i + c) (5 * k + c) (get_or cells (5 * j + c) 0) 0 (apart-row k i c (eqb-false k i x))
        ∙ w.left k c (omega arith) h))

    pub swapping-next : Swapping i j cells₀ (swap cells (5 * i + c) (5 * j + c)) (c + 1)
    swapping-next =
        rw (add-one c, ← swap_is cells (5 * i + c) (5 * j + c) 0 in_left (omega (arith, w.size)))
        (record {
          size = length-set (set cells (5 * i + c) (get_or cells (5 * j + c) 0)) (5 * j + c) (get_or cells (5 * i + c) 0)
              ∙ (length-set cells (5 * i + c) (get_or cells (5 * j + c) 0) ∙ w.size);
          made = λ k d l. go k d l (either (eqb d c));
          left = λ k d l r. other-column k d r (λ e. omega arith) ∙ w.left k d (omega arith) r;
        })
      where
        go :
            (k d : ℕ) → d < suc c → (eqb d c ≡ true) ⊎ (eqb d c ≡ false)
            → get_or after (5 * k + d) 0 ≡ get_or cells₀ (5 * swapped i j k + d) 0
        go k d l (inl e) = rw (eqb-true d c e) (this-column k (either (eqb k i)) (either (eqb k j)))
        go k d l (inr e) =
            let n : d ≡ c → ⊥ = eqb-false d c e in
            other-column k d (omega arith) n ∙ w.made k d (omega (arith, n))

-- an element put in the place of another
set-exchange :
    {A : Type 0} (l : List A) (i : ℕ) (v z : A) → i < length l → SameMultiset ◌≡◌ (get_or l i z ∷ set l i v) (v ∷ l)
set-exchange [] i v z h = absurd (omega arith)
set-exchange (x ∷ l) zero v z h = put refl (there here) (put refl here (multiset-refl (λ a. refl) l))
set-exchange (x ∷ l) (suc i) v z h = go (set-exchange l i v z (omega arith))
  where
    go : SameMultiset ◌≡◌ (get_or l i z ∷ set l i v) (v ∷ l) → SameMultiset ◌≡◌ (get_or l i z ∷ x ∷ set l i v) (v ∷ x ∷ l)
    go s = multiset-right (swap-two _ x _) (put_second s)
      where
        swap-two : {A : Type 0} (a b : A) (k : List A) → SameMultiset ◌≡◌ (a ∷ b ∷ k) (b ∷ a ∷ k)
        swap-two a b k = put refl (there here) (put refl here (multiset-refl (λ c. refl) k))

        put_second : SameMultiset ◌≡◌ (get_or l i z ∷ set l i v) (v ∷ l) → SameMultiset ◌≡◌ (x ∷ get_or l i z ∷ set l i v) (v ∷ x ∷ l)
        put_second s = put refl (there here) s

-- what is put in, taken out
insert-cancel : {A : Type 0} {a b : A} {m l : List A} → Inserted b m (a ∷ l) → a ≡ b → SameMultiset ◌≡◌ m l
insert-cancel {l} here e = multiset-refl (λ c. refl) l
insert-cancel {A} {a} {b} (there {l = m} {m = l} i) e = put e i (multiset-refl (λ c. refl) m)

cancel : {A : Type 0} {a : A} {k l : List A} → SameMultiset ◌≡◌ (a ∷ k) (a ∷ l) → SameMultiset ◌≡◌ k l
cancel (put r i s) = multiset-right s (insert-cancel i r)

-- two elements change positions
pub swapped-multiset :
    {A : Type 0} (l : List A) (i j : ℕ) (z : A) → i < length l → j < length l
    → SameMultiset ◌≡◌ (set (set l i (get_or l j z)) j (get_or l i z)) l
swapped-multiset {A} l i j z hi hj =
    cancel (multiset-right (subst (λ a. SameMultiset ◌≡◌ (a ∷ set (set l i (get_or l j z)) j (get_or l i z))
    (get_or l i z ∷ set l i (get_or l j z)))
    (there-still (either (eqb j i)))
    (set-exchange (set l i (get_or l j z)) j (get_or l i z) z (rw (length-set l i (get_or l j z)) hj)))
    (set-exchange l i (get_or l j z) z hi))
  where
    there-still : (eqb j i ≡ true) ⊎ (eqb j i ≡ false) → get_or (set l i (get_or l j z)) j z ≡ get_or l j z
    there-still (inl e) =
        ap (λ n. get_or (set l i (get_or l j z)) n z) (eqb-true j i e) ∙ get_or-set_same l i (get_or l j z) z hi
    there-still (inr e) = get_or-set_other l i j (get_or l j z) z (eqb-false j i e)

-- a constraint with nothing in it
nothing : Constraint
nothing = record { symbol = 0; terms = [] }

module _ (n : ℕ) (cells cells' : List ℕ) (s : length cells ≡ 5 * n) (s' : length cells' ≡ 5 * n) (i j : ℕ) (hi : i < n)
    (hj : j < n)
    (w : Swapped i j cells cells') where
  abbrev cs : List Constraint
  cs = cell_constraints cells

  row-swapped : (k : ℕ) → row_of cells' k ≡ row_of cells (swapped i j k)
  unfolding row_of
  row-swapped k =
      let e : 5 * k + 0 ≡ 5 * k = omega arith in
      let f : 5 * swapped i j k + 0 ≡ 5 * swapped i j k = omega arith in
      let zero-column : get_or cells' (5 * k) 0 ≡ get_or cells (5 * swapped i j k) 0 = rw (e, f) at (w.at k 0 (omega arith)) in
      rw (zero-column, w.at k 1 (omega arith), w.at k 2 (omega arith), w.at k 3 (omega arith), w.at k 4 (omega arith))

  constraint-swapped :
      (k : ℕ) → k < n → (eqb k i ≡ true) ⊎ (eqb k i ≡ false) → (eqb k j ≡ true) ⊎ (eqb k j ≡ false)
      → row_of cells (swapped i j k) ≡ get_or (set (set cs i (get_or cs j nothing)) j (get_or cs i nothing)) k nothing
  unfolding swapped
  constraint-swapped k h (inl x) (inl y) =
      let p : k ≡ i = eqb-true k i x in
      let q : k ≡ j = eqb-true k j y in
      rw x (ap (row_of cells) (sym q ∙ p) ∙ (sym (row_at i cells nothing (omega arith))
      ∙ (sym (get_or-set_same (set cs i (get_or cs j nothing)) j (get_or cs i nothing) nothing
      (rw (length-set cs i (get_or cs j nothing), constraints-length n cells s) hj))
      ∙ ap (λ m. get_or (set (set cs i (get_or cs j nothing)) j (get_or cs i nothing)) m nothing) (sym q))))
  constraint-swapped k h (inl x) (inr y) =
      let p : k ≡ i = eqb-true k i x in
      rw x (sym (row_at j cells nothing (omega arith))
      ∙ (sym (get_or-set_same cs i (get_or cs j nothing) nothing (rw (constraints-length n cells s) hi))
      ∙ (ap (λ m. get_or (set cs i (get_or cs j nothing)) m nothing) (sym p)
      ∙ sym (get_or-set_other (set cs i (get_or cs j nothing)) j k (get_or cs i nothing) nothing (eqb-false k j y)))))
  constraint-swapped k h (inr x) (inl y) =
      let q : k ≡ j = eqb-true k j y in
      rw (x, y) (sym (row_at i cells nothing (omega arith))
      ∙ (sym (get_or-set_same (set cs i (get_or cs j nothing)) j (get_or cs i nothing) nothing
      (rw (length-set cs i (get_or cs j nothing), constraints-length n cells s) hj))
      ∙ ap (λ m. get_or (set (set cs i (get_or cs j nothing)) j (get_or cs i nothing)) m nothing) (sym q)))
  constraint-swapped k h (inr x) (inr y) =
      rw (x, y) (sym (row_at k cells nothing (omega arith))
      ∙ (sym (get_or-set_other cs i k (get_or cs j nothing) nothing (eqb-false k i x))
      ∙ sym (get_or-set_other (set cs i (get_or cs j nothing)) j k (get_or cs i nothing) nothing (eqb-false k j y))))

  rows-swapped : cell_constraints cells' ≡ set (set cs i (get_or cs j nothing)) j (get_or cs i nothing)
  rows-swapped =
      ext_get_or nothing (cell_constraints cells') (set (set cs i (get_or cs j nothing)) j (get_or cs i nothing))
      (constraints-length n cells' s' ∙ sym (length-set (set cs i (get_or cs j nothing)) j (get_or cs i nothing)
      ∙ (length-set cs i (get_or cs j nothing) ∙ constraints-length n cells s)))
      (λ k h.
      let l : k < n = rw (constraints-length n cells' s') at h in
      row_at k cells' nothing (omega arith)
      ∙ (row-swapped k ∙ constraint-swapped k l (either (eqb k i)) (either (eqb k j))))

  -- they are the same constraints then
  pub swapped-reordered : Reordered cells cells'
  swapped-reordered =
      record {
        same = rw rows-swapped
            (swapped-multiset cs i j nothing (rw (constraints-length n cells s) hi) (rw (constraints-length n cells s) hj));
        below = λ m b. record {
          below = λ k d h. rw (w.at k (1 + d) (omega arith)) (b.below (swapped i j k) d h);
        };
      }

-- the constraints before k are placed
pub record Arranging (cells₀ cells : List ℕ) (k n m m₀ : ℕ) : Type 0 where
  pub ordering : Ordering cells k n m
  pub marks : m ≡ m₀
  pub size : length cells ≡ length cells₀
  pub reordered : Reordered cells₀ cells

pub arranging-start : (cells : List ℕ) (n m : ℕ) → Ordering cells 0 n m → Arranging cells cells 0 n m m
arranging-start cells n m o =
    record {
      ordering = o;
      marks = refl;
      size = refl;
      reordered = record { same = multiset-refl (λ c. refl) (cell_constraints cells); below = λ p b. b };
    }

module _ (cells₀ cells : List ℕ) (k n m m₀ : ℕ) (w : Arranging cells₀ cells k n m m₀) (h : k < n) (i : ℕ) (hi : i < n)
    (cells' : List ℕ) (l : length cells' ≡ length cells) (t : Swapped k i cells cells') where
  step : Reordered cells cells'
  step = swapped-reordered n cells cells' w.ordering.size (l ∙ w.ordering.size) k i h hi t

  -- the marks have room
  pub arranging-terms : TermsBelow m cells'
  arranging-terms = step.below m w.ordering.terms

  pub arranging-next : (m' : ℕ) → m' ≡ m → Arranging cells₀ cells' (k + 1) n m' m₀
  arranging-next m' e =
      rw (add-one k)
      (record {
        ordering = record { size = l ∙ w.ordering.size; within = h; terms = rw e arranging-terms };
        marks = e ∙ w.marks;
        size = l ∙ w.size;
        reordered = record {
          same = multiset-right step.same w.reordered.same;
          below = λ p b. step.below p (w.reordered.below p b);
        };
      })
