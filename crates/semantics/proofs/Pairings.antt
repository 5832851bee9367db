-- Two lists some of whose elements are joined: each element of the first has the number, from 1, of its partner in the second,
-- or 0.
--   leftover, alone        the elements of the second and of the first list that are joined to none
--   Agreed                 joined elements are equal
--   agreed-of, agreed-at   the same by numbers
--   join-union             the first list and what is left of the second are the second and what is alone of the first
--   join-pointwise         what relates the first lists and what is left of the second ones relates the second ones
-- Assumes nothing.
use Prim.Native.Nat.{ℕ, zero, suc, ◌+◌, ◌≤◌, ◌<◌}
use native.Mathlib.Omega.{arith}
use mathlib.Core.Bool.{Bool, true, false, cond, not, ◌||◌}
use mathlib.Core.List.{List, [], ◌∷◌, ◌++◌, map, append-nil}
use mathlib.Core.Option.{some}
use mathlib.Core.Path.{◌≡◌, refl, sym, ap, subst, subst₂, ◌∙◌}
use lib.Dec.{eqb, leb}
use lib.ListN.{length, get_elem?}
use Rattle.text.specs.Lists.{has, every, index_from}
use Rattle.semantics.specs.Terms.{Constraint}
use Rattle.semantics.specs.Overlaps.{is_one_to_one, unjoined_heads}
use Rattle.semantics.specs.Variants.{Pointwise, empty, each, Inserted, here, there, SameMultiset}
use Rattle.semantics.proofs.Configurations.{Or, inl, inr, All, also}
use Rattle.semantics.proofs.Options.{decide, true-false, none-some, eqb-equal, equal-eqb, apart_eqb}
use Rattle.text.proofs.Bools.{and-true, or-false}
use Rattle.semantics.proofs.Bools.{or_cases, or_right}
use Rattle.semantics.proofs.Indices.{le-or-lt, leb-true, leb-false, not-true, some-equal, index_from-miss, pointwise-at}
use Rattle.semantics.proofs.Indices.{get_elem_map, index_from-hit, has-at}
use Rattle.semantics.proofs.Multisets.{multiset-put, multiset-of-path, inserted-left, inserted-right}

-- the elements of the second list, the first of them numbered n, that are joined to none
abbrev pub leftover : {A : Type 0} → ℕ → List A → List ℕ → List A
leftover n [] ds = []
leftover n (y ∷ ys) ds = cond (has n ds) (leftover (suc n) ys ds) (y ∷ leftover (suc n) ys ds)

-- the elements of the first list that are joined to none
abbrev pub alone : {A : Type 0} → List A → List ℕ → List A
alone [] ds = []
alone (x ∷ xs) [] = []
alone (x ∷ xs) (zero ∷ ds) = x ∷ alone xs ds
alone (x ∷ xs) (suc d ∷ ds) = alone xs ds

-- joined elements are equal, from number n of the second list on
abbrev pub Agreed : {A : Type 0} → ℕ → List A → List A → List ℕ → Type 0
Agreed n xs [] ds = Unit {0}
Agreed n xs (y ∷ ys) ds = (has n ds ≡ true → get_elem? xs (index_from (eqb n) 0 ds) ≡ some y) × Agreed (suc n) xs ys ds

-- an element whose partner is none, or has number n or more
abbrev keeps : ℕ → ℕ → Bool
keeps n d = eqb d 0 || leb n d

-- the elements of the first list that are joined to none, or to number n or more
abbrev rest : {A : Type 0} → ℕ → List A → List ℕ → List A
rest n [] ds = []
rest n (x ∷ xs) [] = []
rest n (x ∷ xs) (d ∷ ds) = cond (keeps n d) (x ∷ rest n xs ds) (rest n xs ds)

-- number 1 keeps everything
keeps-one : (d : ℕ) → keeps 1 d ≡ true
keeps-one zero = refl
keeps-one (suc d) = rw (apart_eqb {m = suc d} {n = 0} (λ e. omega arith), leb-true 1 (suc d) (omega arith))

-- a number other than d keeps what the next one keeps
keeps-skip : (n d : ℕ) → (n ≡ d → ⊥) → keeps n d ≡ keeps (suc n) d
keeps-skip n d h = go (le-or-lt n d)
  where
    above : n ≤ d → suc n ≤ d
    above z = go2 (le-or-lt (suc n) d)
      where
        go2 : Or (suc n ≤ d) (d < suc n) → suc n ≤ d
        go2 (inl y) = y
        go2 (inr y) = absurd (h (omega arith))

    go : Or (n ≤ d) (d < n) → keeps n d ≡ keeps (suc n) d
    go (inl z) = rw (leb-true n d z, leb-true (suc n) d (above z))
    go (inr z) = rw (leb-false n d z, leb-false (suc n) d (omega arith))

-- number n itself is kept, and not by the next one
keeps-at : (n d : ℕ) → n ≡ d → keeps n d ≡ true
keeps-at n d e = rw (leb-true n d (omega arith)) (or_right (eqb d 0) true refl)

keeps-past : (n d : ℕ) → 1 ≤ n → n ≡ d → keeps (suc n) d ≡ false
keeps-past n d l e = rw (leb-false (suc n) d (omega arith), apart_eqb {m = d} {n = 0} (λ z. omega arith))

-- all elements are joined to none, or to number 1 or more
rest-one : {A : Type 0} (xs : List A) (ds : List ℕ) → length ds ≡ length xs → rest 1 xs ds ≡ xs
rest-one [] ds e = refl
rest-one (x ∷ xs) [] e = absurd (omega arith)
rest-one (x ∷ xs) (d ∷ ds) e = rw keeps-one (ap (x ∷◌) (rest-one xs ds (omega arith)))

-- none is joined beyond the last number
rest_end : {A : Type 0} (k : ℕ) (xs : List A) (ds : List ℕ) → All (λ d. d ≤ k) ds → rest (suc k) xs ds ≡ alone xs ds
rest_end k [] ds h = refl
rest_end k (x ∷ xs) [] h = refl
rest_end k (x ∷ xs) (zero ∷ ds) (also a h) = ap (x ∷◌) (rest_end k xs ds h)
rest_end k (x ∷ xs) (suc d ∷ ds) (also a h) =
    rw (apart_eqb {m = suc d} {n = 0} (λ e. omega arith), leb-false (suc k) (suc d) (omega arith)) (rest_end k xs ds h)

-- a number that joins nothing
rest-skip : {A : Type 0} (n : ℕ) (xs : List A) (ds : List ℕ) → has n ds ≡ false → rest n xs ds ≡ rest (suc n) xs ds
rest-skip n [] ds h = refl
rest-skip n (x ∷ xs) [] h = refl
rest-skip n (x ∷ xs) (d ∷ ds) h =
    let (a, b) = or-false (eqb n d) (has n ds) h in
    rw (keeps-skip n d (λ e. true-false (equal-eqb e) a), rest-skip n xs ds b)

-- a number that joins an element
rest-take :
    {A : Type 0} (n : ℕ) {y : A} (xs : List A) (ds : List ℕ) → 1 ≤ n → is_one_to_one ds ≡ true → has n ds ≡ true
    → get_elem? xs (index_from (eqb n) 0 ds) ≡ some y → Inserted y (rest (suc n) xs ds) (rest n xs ds)
unfolding is_one_to_one
rest-take n [] ds l u h e = none-some {o = get_elem? [] (index_from (eqb n) 0 ds)} refl e
rest-take n (x ∷ xs) [] l u h e = true-false h refl
rest-take {A} n {y} (x ∷ xs) (d ∷ ds) l u h e =
    let (v, w) = and-true (eqb d 0 || not (has d ds)) (is_one_to_one ds) u in
    go (decide (eqb n d)) v (rest-take n xs ds l w)
  where
    under : (b : Bool) {k m : List A} → Inserted y k m → Inserted y (cond b (x ∷ k) k) (cond b (x ∷ m) m)
    under true i = there i
    under false i = i

    once : Or (eqb d 0 ≡ true) (not (has d ds) ≡ true) → n ≡ d → has n ds ≡ false
    once (inl z) q = let z' : d ≡ 0 = eqb-equal z in absurd (omega arith)
    once (inr z) q = rw q (not-true (has d ds) z)

    go :
        Or (eqb n d ≡ true) (eqb n d ≡ false) → (eqb d 0 || not (has d ds)) ≡ true
        → (has n ds ≡ true → get_elem? xs (index_from (eqb n) 0 ds) ≡ some y → Inserted y (rest (suc n) xs ds) (rest n xs ds))
        → Inserted y (rest (suc n) (x ∷ xs) (d ∷ ds)) (rest n (x ∷ xs) (d ∷ ds))
    go (inl t) v ih =
        let q : n ≡ d = eqb-equal t in
        let alone : has n ds ≡ false = once (or_cases (eqb d 0) (not (has d ds)) v) q in
        let p : x ≡ y = some-equal (rw t at e) in
        rw (keeps-past n d l q, keeps-at n d q, rest-skip n xs ds alone, p) here
    go (inr t) v ih =
        let p : get_elem? xs (index_from (eqb n) 0 ds) ≡ some y = rw (index_from-miss (eqb n) 0 ds t) at e in
        rw (keeps-skip n d (λ q. true-false (equal-eqb q) t)) (under (keeps (suc n) d) (ih (rw t at h) p))

-- the first list from number n on and what is left of the second are the second and what the first has beyond it
rest-union :
    {A : Type 0} (n : ℕ) (xs ys : List A) (ds : List ℕ) → 1 ≤ n → is_one_to_one ds ≡ true → Agreed n xs ys ds
    → SameMultiset ◌≡◌ (rest n xs ds ++ leftover n ys ds) (ys ++ rest (n + length ys) xs ds)
rest-union n xs [] ds l u a =
    multiset-of-path (append-nil (rest n xs ds) ∙ ap (λ k. rest k xs ds) (let z : n ≡ n + 0 = omega arith in z))
rest-union {A} n xs (y ∷ ys) ds l u a =
    let more : SameMultiset ◌≡◌ (rest (suc n) xs ds ++ leftover (suc n) ys ds) (ys ++ rest (n + suc (length ys)) xs ds) =
    subst (λ k. SameMultiset ◌≡◌ (rest (suc n) xs ds ++ leftover (suc n) ys ds) (ys ++ rest k xs ds)) (omega arith)
    (rest-union (suc n) xs ys ds (omega arith) u a.1) in
    go (decide (has n ds)) more
  where
    go :
        Or (has n ds ≡ true) (has n ds ≡ false)
        → SameMultiset ◌≡◌ (rest (suc n) xs ds ++ leftover (suc n) ys ds) (ys ++ rest (n + suc (length ys)) xs ds)
        → SameMultiset ◌≡◌ (rest n xs ds ++ leftover n (y ∷ ys) ds) (y ∷ (ys ++ rest (n + suc (length ys)) xs ds))
    go (inl h) more =
        rw h (multiset-put refl (inserted-left (leftover (suc n) ys ds) (rest-take n xs ds l u h (a.0 h))) here more)
    go (inr h) more =
        rw (h, rest-skip n xs ds h) (multiset-put refl (inserted-right (rest (suc n) xs ds) here) here more)

-- the first list and what is left of the second are the second and what is alone of the first
pub join-union :
    {A : Type 0} (xs ys : List A) (ds : List ℕ) → length ds ≡ length xs → is_one_to_one ds ≡ true
    → All (λ d. d ≤ length ys) ds → Agreed 1 xs ys ds → SameMultiset ◌≡◌ (xs ++ leftover 1 ys ds) (ys ++ alone xs ds)
join-union xs ys ds e u h a =
    subst₂ (λ k l. SameMultiset ◌≡◌ (k ++ leftover 1 ys ds) (ys ++ l)) (rest-one xs ds e)
    (ap (λ k. rest k xs ds) (let z : 1 + length ys ≡ suc (length ys) = omega arith in z) ∙ rest_end (length ys) xs ds h)
    (rest-union 1 xs ys ds (omega arith) u a)

-- what relates the first lists and what is left of the second ones relates the second ones
pub join-pointwise :
    {A B : Type 0} {R : A → B → Type 0} {xs : List A} {xs' : List B} (n : ℕ) (ys : List A) (ys' : List B) (ds : List ℕ)
    → Pointwise R xs xs' → Pointwise R (leftover n ys ds) (leftover n ys' ds) → Agreed n xs ys ds → Agreed n xs' ys' ds
    → length ys ≡ length ys' → Pointwise R ys ys'
join-pointwise n [] [] ds p q a b e = empty
join-pointwise n [] (y ∷ ys') ds p q a b e = absurd (omega arith)
join-pointwise n (y ∷ ys) [] ds p q a b e = absurd (omega arith)
join-pointwise {A} {B} {R} {xs} {xs'} n (y ∷ ys) (y' ∷ ys') ds p q a b e =
    go (decide (has n ds)) (λ k. join-pointwise (suc n) ys ys' ds p k a.1 b.1 (omega arith))
  where
    split : Pointwise R (y ∷ leftover (suc n) ys ds) (y' ∷ leftover (suc n) ys' ds)
        → R y y' × Pointwise R (leftover (suc n) ys ds) (leftover (suc n) ys' ds)
    split (each r k) = (r, k)

    go :
        Or (has n ds ≡ true) (has n ds ≡ false)
        → (Pointwise R (leftover (suc n) ys ds) (leftover (suc n) ys' ds) → Pointwise R ys ys')
        → Pointwise R (y ∷ ys) (y' ∷ ys')
    go (inl h) more = each (pointwise-at (index_from (eqb n) 0 ds) p (a.0 h) (b.0 h)) (more (rw h at q))
    go (inr h) more = let k = split (rw h at q) in each k.0 (more k.1)

-- what is left, and what is alone, of related lists are related
pub leftover-pointwise :
    {A B : Type 0} {R : A → B → Type 0} {ys : List A} {ys' : List B} (n : ℕ) (ds : List ℕ) → Pointwise R ys ys'
    → Pointwise R (leftover n ys ds) (leftover n ys' ds)
leftover-pointwise n ds empty = empty
leftover-pointwise {R} n ds (each {a = y} {b = y'} {l} {m} r p) = go (has n ds) (leftover-pointwise (suc n) ds p)
  where
    go :
        (b : Bool) → Pointwise R (leftover (suc n) l ds) (leftover (suc n) m ds)
        → Pointwise R (cond b (leftover (suc n) l ds) (y ∷ leftover (suc n) l ds))
        (cond b (leftover (suc n) m ds) (y' ∷ leftover (suc n) m ds))
    go true k = k
    go false k = each r k

pub alone-pointwise :
    {A B : Type 0} {R : A → B → Type 0} {xs : List A} {xs' : List B} (ds : List ℕ) → Pointwise R xs xs'
    → Pointwise R (alone xs ds) (alone xs' ds)
alone-pointwise ds empty = empty
alone-pointwise [] (each r p) = empty
alone-pointwise (zero ∷ ds) (each r p) = each r (alone-pointwise ds p)
alone-pointwise (suc d ∷ ds) (each r p) = alone-pointwise ds p

-- the same of images
pub leftover-map :
    {A B : Type 0} (f : A → B) (n : ℕ) (ys : List A) (ds : List ℕ) → leftover n (map f ys) ds ≡ map f (leftover n ys ds)
leftover-map f n [] ds = refl
leftover-map f n (y ∷ ys) ds = go (has n ds) (leftover-map f (suc n) ys ds)
  where
    go :
        (b : Bool) → leftover (suc n) (map f ys) ds ≡ map f (leftover (suc n) ys ds)
        → cond b (leftover (suc n) (map f ys) ds) (f y ∷ leftover (suc n) (map f ys) ds)
        ≡ map f (cond b (leftover (suc n) ys ds) (y ∷ leftover (suc n) ys ds))
    go true e = e
    go false e = ap (f y ∷◌) e

pub alone-map : {A B : Type 0} (f : A → B) (xs : List A) (ds : List ℕ) → alone (map f xs) ds ≡ map f (alone xs ds)
alone-map f [] ds = refl
alone-map f (x ∷ xs) [] = refl
alone-map f (x ∷ xs) (zero ∷ ds) = ap (f x ∷◌) (alone-map f xs ds)
alone-map f (x ∷ xs) (suc d ∷ ds) = alone-map f xs ds

-- the images of joined elements agree
pub agreed-map :
    {A B : Type 0} (f : A → B) (n : ℕ) (xs ys : List A) (ds : List ℕ) → Agreed n xs ys ds → Agreed n (map f xs) (map f ys) ds
agreed-map f n xs [] ds a = tt
agreed-map f n xs (y ∷ ys) ds a =
    ((λ h. get_elem_map f xs (index_from (eqb n) 0 ds) (a.0 h)), agreed-map f (suc n) xs ys ds a.1)

-- the definitions' unjoined heads are what is left
pub unjoined-leftover : (n : ℕ) (gs : List Constraint) (ds : List ℕ) → unjoined_heads n gs ds ≡ leftover n gs ds
unfolding unjoined_heads
unjoined-leftover n [] ds = refl
unjoined-leftover n (g ∷ gs) ds =
    ap (λ l. cond (has n ds) l (g ∷ l)) (unjoined-leftover (suc n) gs ds)

-- where nothing is joined, no number stands among the partners
has-zeros : (n : ℕ) (ds : List ℕ) → every (eqb 0) ds ≡ true → has (suc n) ds ≡ false
has-zeros n [] h = refl
has-zeros n (d ∷ ds) h =
    let (a, b) = and-true (eqb 0 d) (every (eqb 0) ds) h in
    let z : 0 ≡ d = eqb-equal a in
    rw (apart_eqb {m = suc n} {n = d} (λ e. omega arith)) (has-zeros n ds b)

-- and all of both lists is left
pub leftover-all :
    {A : Type 0} (n : ℕ) (ys : List A) (ds : List ℕ) → every (eqb 0) ds ≡ true → leftover (suc n) ys ds ≡ ys
leftover-all n [] ds h = refl
leftover-all n (y ∷ ys) ds h = rw (has-zeros n ds h) (ap (y ∷◌) (leftover-all (suc n) ys ds h))

pub alone-all :
    {A : Type 0} (xs : List A) (ds : List ℕ) → every (eqb 0) ds ≡ true → length ds ≡ length xs → alone xs ds ≡ xs
alone-all [] ds h e = refl
alone-all (x ∷ xs) [] h e = absurd (omega arith)
alone-all (x ∷ xs) (zero ∷ ds) h e = ap (x ∷◌) (alone-all xs ds h (omega arith))
alone-all (x ∷ xs) (suc d ∷ ds) h e =
    let (a, b) = and-true (eqb 0 (suc d)) (every (eqb 0) ds) h in
    absurd (let z : 0 ≡ suc d = eqb-equal a in omega arith)

-- joined elements are equal if they are at every number
pub agreed-of :
    {A : Type 0} (n : ℕ) (xs ys : List A) (ds : List ℕ)
    → ((m k : ℕ) (y : A) → m ≡ n + k → get_elem? ys k ≡ some y → has m ds ≡ true → get_elem? xs (index_from (eqb m) 0 ds) ≡ some y)
    → Agreed n xs ys ds
agreed-of n xs [] ds h = tt
agreed-of n xs (y ∷ ys) ds h =
    (h n 0 y (omega arith) refl, agreed-of (suc n) xs ys ds (λ m k z e. h m (suc k) z (omega arith)))

-- joined elements are equal, by their numbers
pub agreed-at :
    {A : Type 0} (n : ℕ) (xs ys : List A) (ds : List ℕ) → Agreed n xs ys ds → (m k : ℕ) {y : A} → m ≡ n + k
    → get_elem? ys k ≡ some y → has m ds ≡ true → get_elem? xs (index_from (eqb m) 0 ds) ≡ some y
agreed-at n xs [] ds a m k e s h = none-some refl s
agreed-at n xs (y ∷ ys) ds a m zero e s h =
    let z : n ≡ m = omega arith in
    subst (λ i. get_elem? xs (index_from (eqb i) 0 ds) ≡ some y) z (a.0 (subst (λ i. has i ds ≡ true) (sym z) h)) ∙ s
agreed-at n xs (y ∷ ys) ds a m (suc k) e s h = agreed-at (suc n) xs ys ds a.1 m k (omega arith) s h

-- a partner other than 0 stands once
pub once-index :
    (ds : List ℕ) (k d : ℕ) → is_one_to_one ds ≡ true → get_elem? ds k ≡ some (suc d) → index_from (eqb (suc d)) 0 ds ≡ k
unfolding is_one_to_one
once-index [] k d u e = none-some refl e
once-index (c ∷ ds) zero d u e = index_from-hit (eqb (suc d)) 0 ds (equal-eqb {m = suc d} {n = c} (sym (some-equal e)))
once-index (c ∷ ds) (suc k) d u e =
    let (v, w) = and-true (eqb c 0 || not (has c ds)) (is_one_to_one ds) u in
    index_from-miss (eqb (suc d)) 0 ds (apart_eqb {m = suc d} {n = c} (λ z. twice z (or_cases (eqb c 0) (not (has c ds)) v)))
    ∙ ap suc (once-index ds k d w e)
  where
    twice : suc d ≡ c → Or (eqb c 0 ≡ true) (not (has c ds) ≡ true) → ⊥
    twice z (inl p) = let q : c ≡ 0 = eqb-equal p in omega arith
    twice z (inr p) = true-false (has-at c ds k (e ∙ ap some z)) (not-true (has c ds) p)
