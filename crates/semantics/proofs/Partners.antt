-- Two lists of positions in one list of constraints, joined where they share a position: the pairing of a peak (document 000).
--   partners_of                      for each of the first positions its place among the second, from 1, or 0
--   partners-length, -once, -bound  as many as the first, one to one, and within the second
--   partners-agreed                 what stands at joined positions is equal
--   partners-fresh, -stand          the first positions and what is left of the second, and what stands there
--   partners-whole, -first, -second the list, and what each side leaves of it, in these parts
--   partners-cases                  nothing is joined, or it is a pairing
--   multiset-cancel                 equal multisets without a common part
-- Assumes nothing.
use Prim.Native.Nat.{ℕ, zero, suc, ◌+◌, ◌≤◌}
use native.Mathlib.Omega.{arith}
use mathlib.Core.Bool.{true, false, cond, not, ◌&&◌, ◌||◌}
use mathlib.Core.List.{List, [], ◌∷◌, ◌++◌, append_assoc}
use mathlib.Core.Option.{some}
use mathlib.Core.Path.{◌≡◌, refl, sym, ap, subst, ◌∙◌}
use lib.Dec.{eqb}
use lib.ListN.{length, get_elem?}
use Rattle.text.specs.Lists.{has, every, index_from}
use Rattle.semantics.specs.Terms.{Constraint}
use Rattle.semantics.specs.Firing.{without}
use Rattle.semantics.specs.Overlaps.{is_one_to_one, is_pairing}
use Rattle.semantics.specs.Variants.{Pointwise, Inserted, here, there, SameMultiset, put}
use Rattle.semantics.proofs.Configurations.{Or, inl, inr, All, none, also}
use Rattle.semantics.proofs.Options.{decide, true-false, none-some, eqb-equal, equal-eqb}
use Rattle.semantics.proofs.Bools.{or_cases, or_right}
use Rattle.semantics.proofs.PositionLaws.{Stands, Fresh, without-taken}
use Rattle.semantics.proofs.Multisets.{multiset-refl, multiset-right, multiset-back, multiset-append, pointwise-append}
use Rattle.semantics.proofs.Multisets.{pointwise-length}
use Rattle.semantics.proofs.Indices.{false-unless, some-equal, get_elem-below, index-stands}
use Rattle.semantics.proofs.Indices.{has-at, Distinct, distinct-fresh, fresh-distinct, distinct_append, index-unique}
use Rattle.semantics.proofs.Indices.{pointwise-get, pointwise-get-back}
use Rattle.semantics.proofs.Pairings.{leftover, alone, Agreed, join-union, leftover-pointwise, agreed-of}

-- one position's place in a list, from 1; 0 where it does not stand there
abbrev partner : List ℕ → ℕ → ℕ
partner qs p = cond (has p qs) (suc (index_from (eqb p) 0 qs)) 0

-- for each of the first positions its place among the second, from 1, or 0
abbrev pub partners_of : List ℕ → List ℕ → List ℕ
partners_of [] qs = []
partners_of (p ∷ ps) qs = cond (has p qs) (suc (index_from (eqb p) 0 qs)) 0 ∷ partners_of ps qs

-- a partner is 0, or the number of an equal position
partner-cases : (p : ℕ) (qs : List ℕ) → Or (partner qs p ≡ 0) ((k : ℕ) × (partner qs p ≡ suc k) × (get_elem? qs k ≡ some p))
partner-cases p qs = go (decide (has p qs))
  where
    go :
        Or (has p qs ≡ true) (has p qs ≡ false)
        → Or (partner qs p ≡ 0) ((k : ℕ) × (partner qs p ≡ suc k) × (get_elem? qs k ≡ some p))
    go (inl h) = inr (index_from (eqb p) 0 qs, rw h, index-stands p qs h)
    go (inr h) = inl (rw h)

-- a partner that is not 0 is the number of an equal position
partner-at : (p k : ℕ) (qs : List ℕ) → partner qs p ≡ suc k → get_elem? qs k ≡ some p
partner-at p k qs e = go (partner-cases p qs)
  where
    go : Or (partner qs p ≡ 0) ((i : ℕ) × (partner qs p ≡ suc i) × (get_elem? qs i ≡ some p)) → get_elem? qs k ≡ some p
    go (inl z) = absurd (omega arith)
    go (inr (i, z, s)) = ap (get_elem? qs) (let w : k ≡ i = omega arith in w) ∙ s

-- the number of a position among distinct ones is its partner
partner-is : (p k : ℕ) (qs : List ℕ) → Distinct qs → get_elem? qs k ≡ some p → partner qs p ≡ suc k
partner-is p k qs d s = rw (has-at p qs k s) (ap suc (index-unique qs k p d s))

-- as many as the first positions
pub partners-length : (ps qs : List ℕ) → length (partners_of ps qs) ≡ length ps
partners-length [] qs = refl
partners-length (p ∷ ps) qs = ap suc (partners-length ps qs)

-- none is beyond the second positions
pub partners-bound : (ps qs : List ℕ) → All (λ d. d ≤ length qs) (partners_of ps qs)
partners-bound [] qs = none
partners-bound (p ∷ ps) qs = also (go (partner-cases p qs)) (partners-bound ps qs)
  where
    go : Or (partner qs p ≡ 0) ((k : ℕ) × (partner qs p ≡ suc k) × (get_elem? qs k ≡ some p)) → partner qs p ≤ length qs
    go (inl e) = omega arith
    go (inr (k, e, s)) = let b = get_elem-below qs k s in omega arith

-- the partner at a place is that of the position there
partners-at :
    (ps qs : List ℕ) (i d : ℕ) → get_elem? (partners_of ps qs) i ≡ some d → (p : ℕ) × (get_elem? ps i ≡ some p) × (partner qs p ≡ d)
partners-at [] qs i d s = none-some refl s
partners-at (p ∷ ps) qs zero d s = (p, refl, some-equal s)
partners-at (p ∷ ps) qs (suc i) d s = partners-at ps qs i d s

-- a number among the partners is that of an equal position
partners-from :
    (ps qs : List ℕ) (k : ℕ) → has (suc k) (partners_of ps qs) ≡ true
    → (p : ℕ) × (has p ps ≡ true) × (get_elem? qs k ≡ some p)
partners-from ps qs k h =
    let i = index_from (eqb (suc k)) 0 (partners_of ps qs) in
    let (p, s, e) = partners-at ps qs i (suc k) (index-stands (suc k) (partners_of ps qs) h) in
    (p, has-at p ps i s, partner-at p k qs e)

-- and the number of a shared position is among them
partners-has :
    (ps qs : List ℕ) (k p : ℕ) → Distinct qs → has p ps ≡ true → get_elem? qs k ≡ some p
    → has (suc k) (partners_of ps qs) ≡ true
partners-has [] qs k p d h s = true-false h refl
partners-has (r ∷ ps) qs k p d h s = go (or_cases (eqb p r) (has p ps) h) (λ t. partners-has ps qs k p d t s)
  where
    go :
        Or (eqb p r ≡ true) (has p ps ≡ true) → (has p ps ≡ true → has (suc k) (partners_of ps qs) ≡ true)
        → has (suc k) (partners_of (r ∷ ps) qs) ≡ true
    go (inl t) ih =
        let e : p ≡ r = eqb-equal t in
        let z : suc k ≡ partner qs r = sym (partner-is r k qs d (s ∙ ap some e)) in
        rw (equal-eqb z)
    go (inr t) ih = or_right (eqb (suc k) (partner qs r)) (has (suc k) (partners_of ps qs)) (ih t)

-- distinct positions have partners one to one
partners-distinct : (ps qs : List ℕ) → Distinct ps → is_one_to_one (partners_of ps qs) ≡ true
unfolding is_one_to_one
partners-distinct [] qs d = refl
partners-distinct (p ∷ ps) qs d = rw (go (partner-cases p qs)) (partners-distinct ps qs d.1)
  where
    twice : (k : ℕ) → get_elem? qs k ≡ some p → (r : ℕ) × (has r ps ≡ true) × (get_elem? qs k ≡ some r) → ⊥
    twice k s (r, h, t) =
        let e : r ≡ p = some-equal (sym t ∙ s) in
        true-false (subst (λ x. has x ps ≡ true) e h) d.0

    go :
        Or (partner qs p ≡ 0) ((k : ℕ) × (partner qs p ≡ suc k) × (get_elem? qs k ≡ some p))
        → (eqb (partner qs p) 0 || not (has (partner qs p) (partners_of ps qs))) ≡ true
    go (inl e) = rw (equal-eqb e)
    go (inr (k, e, s)) =
        let f : has (suc k) (partners_of ps qs) ≡ false =
        false-unless (has (suc k) (partners_of ps qs)) (λ h. twice k s (partners-from ps qs k h)) in
        rw (e, f) (or_right (eqb (suc k) 0) true refl)

pub partners-once : (ps qs : List ℕ) → Fresh [] ps → is_one_to_one (partners_of ps qs) ≡ true
partners-once ps qs f = partners-distinct ps qs (fresh-distinct [] ps f)

-- what stands at joined positions is equal
pub partners-agreed :
    (cs : List Constraint) {M N : List Constraint} {ps qs : List ℕ} → Pointwise (Stands cs) ps M → Pointwise (Stands cs) qs N
    → Agreed 1 M N (partners_of ps qs)
partners-agreed cs {M} {N} {ps} {qs} f g = agreed-of 1 M N (partners_of ps qs) joined
  where
    joined :
        (m k : ℕ) (y : Constraint) → m ≡ 1 + k → get_elem? N k ≡ some y → has m (partners_of ps qs) ≡ true
        → get_elem? M (index_from (eqb m) 0 (partners_of ps qs)) ≡ some y
    joined m k y e s h =
        let (p, at, is) = partners-at ps qs (index_from (eqb m) 0 (partners_of ps qs)) m (index-stands m (partners_of ps qs) h) in
        let here : get_elem? qs k ≡ some p = partner-at p k qs (is ∙ (let z : m ≡ suc k = omega arith in z)) in
        let (q, atq, stq) = pointwise-get-back k g s in
        let (x, atx, stx) = pointwise-get (index_from (eqb m) 0 (partners_of ps qs)) f at in
        let same : q ≡ p = some-equal (sym atq ∙ here) in
        atx ∙ sym stx ∙ ap (get_elem? cs) (sym same) ∙ stq

-- what is left of a list was at a number that is joined to none
leftover-from :
    (n q : ℕ) (qs ds : List ℕ) → has q (leftover n qs ds) ≡ true
    → (m : ℕ) × (k : ℕ) × (m ≡ n + k) × (get_elem? qs k ≡ some q) × (has m ds ≡ false)
leftover-from n q [] ds h = true-false h refl
leftover-from n q (p ∷ qs) ds h = go (decide (has n ds)) (leftover-from (suc n) q qs ds)
  where
    on :
        (m : ℕ) × (k : ℕ) × (m ≡ suc n + k) × (get_elem? qs k ≡ some q) × (has m ds ≡ false)
        → (m : ℕ) × (k : ℕ) × (m ≡ n + k) × (get_elem? (p ∷ qs) k ≡ some q) × (has m ds ≡ false)
    on (m, k, e, s, f) = (m, suc k, omega arith, s, f)

    front :
        has n ds ≡ false → Or (eqb q p ≡ true) (has q (leftover (suc n) qs ds) ≡ true)
        → (has q (leftover (suc n) qs ds) ≡ true
        → (m : ℕ) × (k : ℕ) × (m ≡ suc n + k) × (get_elem? qs k ≡ some q) × (has m ds ≡ false))
        → (m : ℕ) × (k : ℕ) × (m ≡ n + k) × (get_elem? (p ∷ qs) k ≡ some q) × (has m ds ≡ false)
    front f (inl e) ih = (n, 0, omega arith, ap some (sym (eqb-equal e)), f)
    front f (inr e) ih = on (ih e)

    go :
        Or (has n ds ≡ true) (has n ds ≡ false)
        → (has q (leftover (suc n) qs ds) ≡ true
        → (m : ℕ) × (k : ℕ) × (m ≡ suc n + k) × (get_elem? qs k ≡ some q) × (has m ds ≡ false))
        → (m : ℕ) × (k : ℕ) × (m ≡ n + k) × (get_elem? (p ∷ qs) k ≡ some q) × (has m ds ≡ false)
    go (inl t) ih = on (ih (rw t at h))
    go (inr t) ih = front t (or_cases (eqb q p) (has q (leftover (suc n) qs ds)) (rw t at h)) ih

-- what is left of distinct numbers is distinct
leftover-distinct : (n : ℕ) (qs ds : List ℕ) → Distinct qs → Distinct (leftover n qs ds)
leftover-distinct n [] ds d = tt
leftover-distinct n (q ∷ qs) ds d = go (decide (has n ds)) (leftover-distinct (suc n) qs ds d.1)
  where
    go : Or (has n ds ≡ true) (has n ds ≡ false) → Distinct (leftover (suc n) qs ds) → Distinct (leftover n (q ∷ qs) ds)
    go (inl t) ih = rw t ih
    go (inr t) ih =
        rw t (
          false-unless (has q (leftover (suc n) qs ds)) (λ h.
              let (m, k, e, s, f) = leftover-from (suc n) q qs ds h in
              true-false (has-at q qs k s) d.0),
          ih,
        )

-- the first positions and what is left of the second are distinct
pub partners-fresh : (ps qs : List ℕ) → Fresh [] ps → Fresh [] qs → Fresh [] (ps ++ leftover 1 qs (partners_of ps qs))
partners-fresh ps qs f g =
    let d = fresh-distinct [] ps f in
    let e = fresh-distinct [] qs g in
    distinct-fresh [] (ps ++ leftover 1 qs (partners_of ps qs))
    (distinct_append ps (leftover 1 qs (partners_of ps qs)) d (leftover-distinct 1 qs (partners_of ps qs) e) (λ q h.
    false-unless (has q (leftover 1 qs (partners_of ps qs))) (λ t.
    let (m, k, z, s, w) = leftover-from 1 q qs (partners_of ps qs) t in
    true-false (partners-has ps qs k q e h s) (ap (λ x. has x (partners_of ps qs)) (let y : suc k ≡ m = omega arith in y) ∙ w))))
    (λ q h. refl)

-- what stands there
pub partners-stand :
    (cs : List Constraint) {M N : List Constraint} {ps qs : List ℕ} → Pointwise (Stands cs) ps M → Pointwise (Stands cs) qs N
    → Pointwise (Stands cs) (ps ++ leftover 1 qs (partners_of ps qs)) (M ++ leftover 1 N (partners_of ps qs))
partners-stand cs {ps = ps} {qs} f g = pointwise-append f (leftover-pointwise 1 (partners_of ps qs) g)

-- equal multisets are equal without an element of both
multiset-uncons : {A : Type 0} {x : A} {l m : List A} → SameMultiset ◌≡◌ (x ∷ l) (x ∷ m) → SameMultiset ◌≡◌ l m
multiset-uncons {A} {x} {l} {m} (put e i s) = go i e s
  where
    go : {b : A} {k : List A} → Inserted b k (x ∷ m) → x ≡ b → SameMultiset ◌≡◌ l k → SameMultiset ◌≡◌ l m
    go here e s = s
    go (there {l = k} i) e s = multiset-right s (put e i (multiset-refl (λ a. refl) k))

pub multiset-cancel : {A : Type 0} (a : List A) {b c : List A} → SameMultiset ◌≡◌ (a ++ b) (a ++ c) → SameMultiset ◌≡◌ b c
multiset-cancel [] s = s
multiset-cancel (x ∷ a) s = multiset-cancel a (multiset-uncons s)

-- the list is the first side's, what is left of the second's, and the rest
pub partners-whole :
    (cs : List Constraint) {M N : List Constraint} (ps qs : List ℕ) → Fresh [] ps → Fresh [] qs → Pointwise (Stands cs) ps M
    → Pointwise (Stands cs) qs N → SameMultiset ◌≡◌ cs
    ((M ++ leftover 1 N (partners_of ps qs)) ++ without 0 (ps ++ leftover 1 qs (partners_of ps qs)) cs)
partners-whole cs ps qs f g s t =
    without-taken cs (ps ++ leftover 1 qs (partners_of ps qs)) (partners-fresh ps qs f g) (partners-stand cs s t)

-- the first side leaves what is left of the second, and the rest
pub partners-first :
    (cs : List Constraint) {M N : List Constraint} (ps qs : List ℕ) → Fresh [] ps → Fresh [] qs → Pointwise (Stands cs) ps M
    → Pointwise (Stands cs) qs N → SameMultiset ◌≡◌ (without 0 ps cs)
    (leftover 1 N (partners_of ps qs) ++ without 0 (ps ++ leftover 1 qs (partners_of ps qs)) cs)
partners-first cs {M} {N} ps qs f g s t =
    multiset-cancel M (rw append_assoc at
    (multiset-right (multiset-back (without-taken cs ps f s)) (partners-whole cs ps qs f g s t)))

-- the second side leaves what is alone of the first, and the rest
pub partners-second :
    (cs : List Constraint) {M N : List Constraint} (ps qs : List ℕ) → Fresh [] ps → Fresh [] qs → Pointwise (Stands cs) ps M
    → Pointwise (Stands cs) qs N → SameMultiset ◌≡◌ (without 0 qs cs)
    (alone M (partners_of ps qs) ++ without 0 (ps ++ leftover 1 qs (partners_of ps qs)) cs)
partners-second cs {M} {N} ps qs f g s t =
    let ds = partners_of ps qs in
    let rest = without 0 (ps ++ leftover 1 qs ds) cs in
    let union = join-union M N ds (partners-length ps qs ∙ pointwise-length s) (partners-once ps qs f)
    (subst (λ k. All (λ d. d ≤ k) ds) (pointwise-length t) (partners-bound ps qs)) (partners-agreed cs s t) in
    let whole = multiset-right (partners-whole cs ps qs f g s t) (multiset-append union (multiset-refl (λ a. refl) rest)) in
    multiset-cancel N (rw append_assoc at (multiset-right (multiset-back (without-taken cs qs g t)) whole))

-- partners one to one join nothing, or are a pairing
pub partners-cases : (ds : List ℕ) → is_one_to_one ds ≡ true → Or (every (eqb 0) ds ≡ true) (is_pairing ds ≡ true)
unfolding is_pairing
partners-cases ds u = go (decide (every (eqb 0) ds))
  where
    go :
        Or (every (eqb 0) ds ≡ true) (every (eqb 0) ds ≡ false)
        → Or (every (eqb 0) ds ≡ true) ((is_one_to_one ds && not (every (eqb 0) ds)) ≡ true)
    go (inl h) = inl h
    go (inr h) = inr (rw (u, h))
