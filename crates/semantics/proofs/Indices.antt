-- Numbers and indices in lists: whether a number stands in one, its first index, and what stands at an index.
--   le-or-lt, leb-true, leb-false        the order of numbers and its test
--   indexFrom-…, index-…                 the first index
--   getElem-…, get_d_at, get_d_past        the element at an index; behind the list the default
--   pointwise-at, pointwise-get          the elements at one index of two related lists
--   has-…, Distinct                      a number of a list; lists without repetition
--   distinct-fresh, fresh-distinct       distinct positions are fresh ones
-- Assumes nothing.
use Prim.Native.Nat.{ℕ, zero, suc, ◌+◌, ◌≤◌, ◌<◌}
use native.Mathlib.Omega.{arith}
use mathlib.Core.Bool.{Bool, true, false, cond, not, ◌||◌}
use mathlib.Core.List.{List, [], ◌∷◌, ◌++◌, map}
use mathlib.Core.Option.{some}
use mathlib.Core.Path.{◌≡◌, refl, sym, ap, subst, subst₂, ◌∙◌}
use lib.Dec.{eqb, leb, leb→le, le→leb, nleb→lt}
use lib.ListN.{length, get_or, get_elem?}
use Rattle.text.specs.Lists.{has, index_from}
use Rattle.semantics.specs.Variants.{Pointwise, empty, each}
use Rattle.semantics.proofs.Configurations.{Or, inl, inr}
use Rattle.semantics.proofs.Options.{decide, true-false, none-some, true-T, T_true, eqb-equal, equal-eqb, apart_eqb}
use Rattle.semantics.proofs.Bools.{or_right}
use Rattle.semantics.proofs.PositionLaws.{Fresh}
use Rattle.semantics.proofs.Removal.{has_last, has_other}

-- one of two numbers is below the other, or they are equal
pub le-or-lt : (m n : ℕ) → Or (m ≤ n) (n < m)
le-or-lt m n = go (decide (leb m n))
  where
    go : Or (leb m n ≡ true) (leb m n ≡ false) → Or (m ≤ n) (n < m)
    go (inl t) = inl (leb→le m n (true-T t))
    go (inr t) = inr (nleb→lt m n (true-T (ap not t)))

-- a test of order, passed and failed
pub leb-true : (m n : ℕ) → m ≤ n → leb m n ≡ true
leb-true m n h = T_true (leb m n) (le→leb m n h)

pub leb-false : (m n : ℕ) → n < m → leb m n ≡ false
leb-false m n h = go (decide (leb m n))
  where
    go : Or (leb m n ≡ true) (leb m n ≡ false) → leb m n ≡ false
    go (inl t) = absurd (let z : m ≤ n = leb→le m n (true-T t) in omega arith)
    go (inr t) = t

-- a test whose negation passes fails
pub not-true : (b : Bool) → not b ≡ true → b ≡ false
not-true true e = true-false e refl
not-true false e = refl

-- a test that cannot pass fails
pub false-unless : (b : Bool) → (b ≡ true → ⊥) → b ≡ false
false-unless true f = absurd (f refl)
false-unless false f = refl

-- the value of an answer
pub some-equal : {A : Type 0} {a b : A} → some a ≡ some b → a ≡ b
some-equal p = cc

-- the index counts on
pub index_from-suc : {A : Type 0} (t : A → Bool) (i : ℕ) (l : List A) → index_from t (suc i) l ≡ suc (index_from t i l)
index_from-suc t i [] = refl
index_from-suc t i (x ∷ l) = go (t x) (index_from-suc t (suc i) l)
  where
    go :
        (b : Bool) → index_from t (suc (suc i)) l ≡ suc (index_from t (suc i) l)
        → cond b (suc i) (index_from t (suc (suc i)) l) ≡ suc (cond b i (index_from t (suc i) l))
    go true e = refl
    go false e = e

-- the index of an element that passes, and of one behind an element that does not
pub index_from-hit : {A : Type 0} (t : A → Bool) (i : ℕ) {x : A} (l : List A) → t x ≡ true → index_from t i (x ∷ l) ≡ i
index_from-hit t i l e = rw e

pub index_from-miss :
    {A : Type 0} (t : A → Bool) (i : ℕ) {x : A} (l : List A) → t x ≡ false → index_from t i (x ∷ l) ≡ suc (index_from t i l)
index_from-miss t i l e = rw e (index_from-suc t i l)

-- elements at one index of related lists are related
pub pointwise-at :
    {A B : Type 0} {R : A → B → Type 0} {l : List A} {m : List B} (i : ℕ) {a : A} {b : B} → Pointwise R l m
    → get_elem? l i ≡ some a → get_elem? m i ≡ some b → R a b
pointwise-at i empty p q = none-some refl p
pointwise-at {R} zero (each r h) p q = subst₂ R (some-equal p) (some-equal q) r
pointwise-at (suc i) (each r h) p q = pointwise-at i h p q

-- the element of an image
pub get_elem_map :
    {A B : Type 0} (f : A → B) (l : List A) (i : ℕ) {a : A} → get_elem? l i ≡ some a → get_elem? (map f l) i ≡ some (f a)
get_elem_map f [] i p = none-some refl p
get_elem_map f (x ∷ l) zero p = ap some (ap f (some-equal p))
get_elem_map f (x ∷ l) (suc i) p = get_elem_map f l i p

-- an element of an image is the image of an element
pub get_elem-unmap :
    {A B : Type 0} (f : A → B) (l : List A) (i : ℕ) {b : B} → get_elem? (map f l) i ≡ some b
    → (a : A) × (get_elem? l i ≡ some a) × (f a ≡ b)
get_elem-unmap f [] i p = none-some refl p
get_elem-unmap f (a ∷ l) zero p = (a, refl, some-equal p)
get_elem-unmap f (a ∷ l) (suc i) p = get_elem-unmap f l i p

-- the partner of an element, at its index
pub pointwise-get :
    {A B : Type 0} {R : A → B → Type 0} {l : List A} {m : List B} (i : ℕ) {a : A} → Pointwise R l m → get_elem? l i ≡ some a
    → (b : B) × (get_elem? m i ≡ some b) × R a b
pointwise-get i empty p = none-some refl p
pointwise-get {R} zero (each {b = y} r h) p = (y, refl, subst (λ x. R x y) (some-equal p) r)
pointwise-get (suc i) (each r h) p = pointwise-get i h p

pub pointwise-get-back :
    {A B : Type 0} {R : A → B → Type 0} {l : List A} {m : List B} (i : ℕ) {b : B} → Pointwise R l m → get_elem? m i ≡ some b
    → (a : A) × (get_elem? l i ≡ some a) × R a b
pointwise-get-back i empty p = none-some refl p
pointwise-get-back {R} zero (each {a = x} r h) p = (x, refl, subst (R x) (some-equal p) r)
pointwise-get-back (suc i) (each r h) p = pointwise-get-back i h p

-- what stands at an index, with a default
pub get_d_at : {A : Type 0} (l : List A) (i : ℕ) {a : A} (z : A) → get_elem? l i ≡ some a → get_or l i z ≡ a
get_d_at [] i z e = none-some refl e
get_d_at (x ∷ l) zero z e = some-equal e
get_d_at (x ∷ l) (suc i) z e = get_d_at l i z e

pub get_d_past : {A : Type 0} (l : List A) (i : ℕ) (z : A) → length l ≤ i → get_or l i z ≡ z
get_d_past [] i z h = refl
get_d_past (x ∷ l) zero z h = absurd (omega arith)
get_d_past (x ∷ l) (suc i) z h = get_d_past l i z (omega arith)

-- an element of the first of two lists, and of the second
pub get_elem-left :
    {A : Type 0} (l m : List A) (i : ℕ) {a : A} → get_elem? l i ≡ some a → get_elem? (l ++ m) i ≡ some a
get_elem-left [] m i p = none-some refl p
get_elem-left (x ∷ l) m zero p = p
get_elem-left (x ∷ l) m (suc i) p = get_elem-left l m i p

pub get_elem-right : {A : Type 0} (l m : List A) (i : ℕ) → get_elem? (l ++ m) (length l + i) ≡ get_elem? m i
get_elem-right [] m i = ap (get_elem? m) (let z : 0 + i ≡ i = omega arith in z)
get_elem-right (x ∷ l) m i =
    ap (get_elem? (x ∷ (l ++ m))) (let z : suc (length l) + i ≡ suc (length l + i) = omega arith in z) ∙ get_elem-right l m i

-- an element stands below the length
pub get_elem-below : {A : Type 0} (l : List A) (i : ℕ) {a : A} → get_elem? l i ≡ some a → i < length l
get_elem-below [] i p = none-some refl p
get_elem-below (x ∷ l) zero p = omega arith
get_elem-below (x ∷ l) (suc i) p = let h = get_elem-below l i p in omega arith

-- below the length an element stands
pub get_elem-at : {A : Type 0} (l : List A) (i : ℕ) → i < length l → (a : A) × (get_elem? l i ≡ some a)
get_elem-at [] i h = absurd (omega arith)
get_elem-at (x ∷ l) zero h = (x, refl)
get_elem-at (x ∷ l) (suc i) h = get_elem-at l i (omega arith)

-- a number of a list stands at its first index
pub index-stands : (n : ℕ) (l : List ℕ) → has n l ≡ true → get_elem? l (index_from (eqb n) 0 l) ≡ some n
index-stands n [] h = true-false h refl
index-stands n (m ∷ l) h = go (decide (eqb n m)) (index-stands n l)
  where
    go :
        Or (eqb n m ≡ true) (eqb n m ≡ false) → (has n l ≡ true → get_elem? l (index_from (eqb n) 0 l) ≡ some n)
        → get_elem? (m ∷ l) (index_from (eqb n) 0 (m ∷ l)) ≡ some n
    go (inl e) ih = rw (index_from-hit (eqb n) 0 l e) (ap some (sym (eqb-equal e)))
    go (inr e) ih = rw (index_from-miss (eqb n) 0 l e) (ih (rw e at h))

pub index_below : (n : ℕ) (l : List ℕ) → has n l ≡ true → index_from (eqb n) 0 l < length l
index_below n l h = get_elem-below l (index_from (eqb n) 0 l) (index-stands n l h)

-- what stands at an index is a number of the list
pub has-at : (n : ℕ) (l : List ℕ) (i : ℕ) → get_elem? l i ≡ some n → has n l ≡ true
has-at n [] i p = none-some refl p
has-at n (m ∷ l) zero p = rw (equal-eqb {m = n} {n = m} (sym (some-equal p)))
has-at n (m ∷ l) (suc i) p = or_right (eqb n m) (has n l) (has-at n l i p)

-- a number of two lists
pub has-append : (n : ℕ) (l m : List ℕ) → has n (l ++ m) ≡ (has n l || has n m)
has-append n [] m = refl
has-append n (x ∷ l) m = ap (eqb n x ||◌) (has-append n l m) ∙ sym (or_assoc (eqb n x) (has n l) (has n m))
  where
    or_assoc : (a b c : Bool) → ((a || b) || c) ≡ (a || (b || c))
    or_assoc true b c = refl
    or_assoc false b c = refl

-- no number stands twice
abbrev pub Distinct : List ℕ → Type 0
Distinct [] = Unit {0}
Distinct (p ∷ ps) = (has p ps ≡ false) × Distinct ps

-- distinct numbers, none of which is chosen, are fresh
pub distinct-fresh :
    (chosen ps : List ℕ) → Distinct ps → ((q : ℕ) → has q ps ≡ true → has q chosen ≡ false) → Fresh chosen ps
distinct-fresh chosen [] d h = tt
distinct-fresh chosen (p ∷ ps) d h = (
  h p (rw (equal-eqb {m = p} refl)),
  distinct-fresh (chosen ++ (p ∷ [])) ps d.1 (λ q e.
      has_other q p chosen (λ z. true-false (subst (λ k. has k ps ≡ true) z e) d.0) ∙ h q (or_right (eqb q p) (has q ps) e)),
)

-- fresh numbers are not chosen
pub fresh-avoids : (chosen ps : List ℕ) (q : ℕ) → Fresh chosen ps → has q chosen ≡ true → has q ps ≡ false
fresh-avoids chosen [] q f h = refl
fresh-avoids chosen (p ∷ ps) q f h =
    rw (apart_eqb {m = q} {n = p} (λ e. true-false h (ap (λ k. has k chosen) e ∙ f.0)))
    (fresh-avoids (chosen ++ (p ∷ [])) ps q f.1 (has-append q chosen (p ∷ []) ∙ rw h))

-- and they are distinct
pub fresh-distinct : (chosen ps : List ℕ) → Fresh chosen ps → Distinct ps
fresh-distinct chosen [] f = tt
fresh-distinct chosen (p ∷ ps) f =
    (fresh-avoids (chosen ++ (p ∷ [])) ps p f.1 (has_last p chosen), fresh-distinct (chosen ++ (p ∷ [])) ps f.1)

-- two lists of distinct numbers that share none are distinct together
pub distinct_append :
    (l m : List ℕ) → Distinct l → Distinct m → ((q : ℕ) → has q l ≡ true → has q m ≡ false) → Distinct (l ++ m)
distinct_append [] m d e h = e
distinct_append (p ∷ l) m d e h = (
  has-append p l m ∙ rw d.0 (h p (rw (equal-eqb {m = p} refl))),
  distinct_append l m d.1 e (λ q k. h q (or_right (eqb q p) (has q l) k)),
)

-- an index of distinct numbers is the first index of what stands there
pub index-unique : (l : List ℕ) (i n : ℕ) → Distinct l → get_elem? l i ≡ some n → index_from (eqb n) 0 l ≡ i
index-unique [] i n d s = none-some refl s
index-unique (m ∷ l) zero n d s = index_from-hit (eqb n) 0 l (equal-eqb {m = n} {n = m} (sym (some-equal s)))
index-unique (m ∷ l) (suc i) n d s =
    index_from-miss (eqb n) 0 l (apart_eqb {m = n} {n = m} (λ e.
    true-false (has-at m l i (s ∙ ap some e)) d.0)) ∙ ap suc (index-unique l i n d.1 s)
