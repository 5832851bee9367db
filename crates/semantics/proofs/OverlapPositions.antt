-- The positions of an overlap's two sides (document 000): where the heads of the first rule and of the second stand in the first
-- list with what is left of the second behind it.
--   first-stand, first-fresh        the first side: the numbers below the length of the first list
--   second-stand, second-fresh      the second side: joined elements at their partners' positions, the others behind
-- Assumes nothing.
use Prim.Native.Nat.{ℕ, zero, suc, ◌+◌, ◌≤◌}
use native.Mathlib.Omega.{arith}
use mathlib.Core.Bool.{true, false}
use mathlib.Core.List.{List, [], ◌∷◌, ◌++◌}
use mathlib.Core.Path.{◌≡◌, refl, sym, ap, ◌∙◌}
use lib.Dec.{eqb}
use lib.ListN.{length, get_elem?}
use Rattle.text.specs.Lists.{has, index_from, up_to}
use Rattle.semantics.specs.Terms.{Constraint}
use Rattle.semantics.specs.Overlaps.{second_positions}
use Rattle.semantics.specs.Variants.{Pointwise, empty, each}
use Rattle.semantics.proofs.Configurations.{Or, inl, inr}
use Rattle.semantics.proofs.Options.{decide, true-false, eqb-equal}
use Rattle.semantics.proofs.Bools.{or_cases}
use Rattle.semantics.proofs.PositionLaws.{Stands, Fresh}
use Rattle.semantics.proofs.Indices.{false-unless, some-equal, get_elem-left, get_elem-right, index-stands, index_below}
use Rattle.semantics.proofs.Indices.{Distinct, distinct-fresh}
use Rattle.semantics.proofs.Pairings.{leftover, Agreed}

-- n numbers from k on
abbrev from : ℕ → ℕ → List ℕ
from k zero = []
from k (suc n) = k ∷ from (suc k) n

-- one more of them
from_last : (k n : ℕ) → from k n ++ ((k + n) ∷ []) ≡ from k (suc n)
from_last k zero = ap (◌∷ []) (let z : k + 0 ≡ k = omega arith in z)
from_last k (suc n) =
    ap (k ∷◌) (ap (λ i. from (suc k) n ++ (i ∷ [])) (let z : k + suc n ≡ suc k + n = omega arith in z) ∙ from_last (suc k) n)

-- the numbers below n are those from 0 on
up_to-from : (n : ℕ) → up_to n ≡ from 0 n
up_to-from zero = refl
up_to-from (suc n) =
    ap (◌++ (n ∷ [])) (up_to-from n) ∙ ap (λ i. from 0 n ++ (i ∷ [])) (let z : n ≡ 0 + n = omega arith in z) ∙ from_last 0 n

-- numbers from k on are no smaller, and distinct
from-above : (q k n : ℕ) → has q (from k n) ≡ true → k ≤ q
from-above q k zero h = true-false h refl
from-above q k (suc n) h = go (or_cases (eqb q k) (has q (from (suc k) n)) h) (from-above q (suc k) n)
  where
    go : Or (eqb q k ≡ true) (has q (from (suc k) n) ≡ true) → (has q (from (suc k) n) ≡ true → suc k ≤ q) → k ≤ q
    go (inl e) ih = let z : q ≡ k = eqb-equal e in omega arith
    go (inr e) ih = let z = ih e in omega arith

from-distinct : (k n : ℕ) → Distinct (from k n)
from-distinct k zero = tt
from-distinct k (suc n) =
    (false-unless (has k (from (suc k) n)) (λ h. let z = from-above k (suc k) n h in omega arith), from-distinct (suc k) n)

-- a list stands where another begins with it
from-stand :
    (cs : List Constraint) (k : ℕ) (xs w : List Constraint) → ((i : ℕ) → get_elem? cs (k + i) ≡ get_elem? (xs ++ w) i)
    → Pointwise (Stands cs) (from k (length xs)) xs
from-stand cs k [] w h = empty
from-stand cs k (x ∷ xs) w h =
    each (ap (get_elem? cs) (let z : k ≡ k + 0 = omega arith in z) ∙ h 0)
    (from-stand cs (suc k) xs w (λ i. ap (get_elem? cs) (let z : suc k + i ≡ k + suc i = omega arith in z) ∙ h (suc i)))

-- the first list stands at the numbers below its length
pub first-stand : (xs w : List Constraint) → Pointwise (Stands (xs ++ w)) (up_to (length xs)) xs
first-stand xs w =
    rw (up_to-from (length xs))
    (from-stand (xs ++ w) 0 xs w (λ i. ap (get_elem? (xs ++ w)) (let z : 0 + i ≡ i = omega arith in z)))

pub first-fresh : (m : ℕ) → Fresh [] (up_to m)
first-fresh m = rw (up_to-from m) (distinct-fresh [] (from 0 m) (from-distinct 0 m) (λ q h. refl))

-- the elements of the second list from number n on stand at the second side's positions, the free ones beginning at `free`
second_from :
    (cs xs : List Constraint) (n free : ℕ) (ys : List Constraint) (ds : List ℕ) → Agreed n xs ys ds
    → ((i : ℕ) (c : Constraint) → Stands xs i c → Stands cs i c)
    → ((i : ℕ) → get_elem? cs (free + i) ≡ get_elem? (leftover n ys ds) i)
    → Pointwise (Stands cs) (second_positions n free (length ys) ds) ys
unfolding second_positions
second_from cs xs n free [] ds a f g = empty
second_from cs xs n free (y ∷ ys) ds a f g =
    go (decide (has n ds)) (λ k h. second_from cs xs (suc n) k ys ds a.1 f h)
  where
    go :
        Or (has n ds ≡ true) (has n ds ≡ false)
        → ((k : ℕ) → ((i : ℕ) → get_elem? cs (k + i) ≡ get_elem? (leftover (suc n) ys ds) i)
        → Pointwise (Stands cs) (second_positions (suc n) k (length ys) ds) ys)
        → Pointwise (Stands cs) (second_positions n free (suc (length ys)) ds) (y ∷ ys)
    go (inl h) more = rw h (each (f (index_from (eqb n) 0 ds) y (a.0 h)) (more free (λ i. rw h at (g i))))
    go (inr h) more =
        rw h (each (ap (get_elem? cs) (let z : free ≡ free + 0 = omega arith in z) ∙ (rw h at (g 0)))
        (more (suc free) (λ i.
        ap (get_elem? cs) (let z : suc free + i ≡ free + suc i = omega arith in z) ∙ (rw h at (g (suc i))))))

-- the second list stands at the second side's positions
pub second-stand :
    (xs ys : List Constraint) (ds : List ℕ) → Agreed 1 xs ys ds
    → Pointwise (Stands (xs ++ leftover 1 ys ds)) (second_positions 1 (length xs) (length ys) ds) ys
second-stand xs ys ds a =
    second_from (xs ++ leftover 1 ys ds) xs 1 (length xs) ys ds a (λ i c. get_elem-left xs (leftover 1 ys ds) i)
    (get_elem-right xs (leftover 1 ys ds))

-- a position of the second side is a free one, or the place of a number of a joined element
second-cases :
    (q n free k : ℕ) (ds : List ℕ) → has q (second_positions n free k ds) ≡ true
    → Or (free ≤ q) ((i : ℕ) × (n ≤ i) × (has i ds ≡ true) × (q ≡ index_from (eqb i) 0 ds))
unfolding second_positions
second-cases q n free zero ds h = true-false h refl
second-cases q n free (suc k) ds h =
    go (decide (has n ds)) (second-cases q (suc n) free k ds) (second-cases q (suc n) (suc free) k ds)
  where
    Section : ℕ → ℕ → Type 0
    Section f m = Or (f ≤ q) ((i : ℕ) × (m ≤ i) × (has i ds ≡ true) × (q ≡ index_from (eqb i) 0 ds))

    weaken : (f : ℕ) → free ≤ f → Section f (suc n) → Section free n
    weaken f l (inl z) = inl (omega arith)
    weaken f l (inr (i, z, t, e)) = inr (i, omega arith, t, e)

    in_section :
        has n ds ≡ true → Or (eqb q (index_from (eqb n) 0 ds) ≡ true) (has q (second_positions (suc n) free k ds) ≡ true)
        → (has q (second_positions (suc n) free k ds) ≡ true → Section free (suc n)) → Section free n
    in_section t (inl e) ih = inr (n, omega arith, t, eqb-equal e)
    in_section t (inr e) ih = weaken free (omega arith) (ih e)

    at_free :
        Or (eqb q free ≡ true) (has q (second_positions (suc n) (suc free) k ds) ≡ true)
        → (has q (second_positions (suc n) (suc free) k ds) ≡ true → Section (suc free) (suc n)) → Section free n
    at_free (inl e) ih = let z : q ≡ free = eqb-equal e in inl (omega arith)
    at_free (inr e) ih = weaken (suc free) (omega arith) (ih e)

    go :
        Or (has n ds ≡ true) (has n ds ≡ false)
        → (has q (second_positions (suc n) free k ds) ≡ true → Section free (suc n))
        → (has q (second_positions (suc n) (suc free) k ds) ≡ true → Section (suc free) (suc n)) → Section free n
    go (inl t) one two =
        in_section t (or_cases (eqb q (index_from (eqb n) 0 ds)) (has q (second_positions (suc n) free k ds)) (rw t at h)) one
    go (inr t) one two =
        at_free (or_cases (eqb q free) (has q (second_positions (suc n) (suc free) k ds)) (rw t at h)) two

-- the second side's positions are distinct
second-distinct : (n free k : ℕ) (ds : List ℕ) → length ds ≤ free → Distinct (second_positions n free k ds)
unfolding second_positions
second-distinct n free zero ds l = tt
second-distinct n free (suc k) ds l =
    go (decide (has n ds)) (second-distinct (suc n) free k ds l) (second-distinct (suc n) (suc free) k ds (omega arith))
  where
    placed :
        has n ds ≡ true
        → Or (free ≤ index_from (eqb n) 0 ds)
        ((i : ℕ) × (suc n ≤ i) × (has i ds ≡ true) × (index_from (eqb n) 0 ds ≡ index_from (eqb i) 0 ds)) → ⊥
    placed t (inl z) = let b = index_below n ds t in omega arith
    placed t (inr (i, z, s, e)) =
        let w : n ≡ i = some-equal (sym (index-stands n ds t) ∙ ap (get_elem? ds) e ∙ index-stands i ds s) in
        omega arith

    freed :
        Or (suc free ≤ free) ((i : ℕ) × (suc n ≤ i) × (has i ds ≡ true) × (free ≡ index_from (eqb i) 0 ds)) → ⊥
    freed (inl z) = omega arith
    freed (inr (i, z, s, e)) = let b = index_below i ds s in omega arith

    go :
        Or (has n ds ≡ true) (has n ds ≡ false) → Distinct (second_positions (suc n) free k ds)
        → Distinct (second_positions (suc n) (suc free) k ds) → Distinct (second_positions n free (suc k) ds)
    go (inl t) one two =
        rw t (
          false-unless (has (index_from (eqb n) 0 ds) (second_positions (suc n) free k ds)) (λ h.
              placed t (second-cases (index_from (eqb n) 0 ds) (suc n) free k ds h)),
          one,
        )
    go (inr t) one two =
        rw t (
          false-unless (has free (second_positions (suc n) (suc free) k ds)) (λ h.
              freed (second-cases free (suc n) (suc free) k ds h)),
          two,
        )

pub second-fresh : (n free k : ℕ) (ds : List ℕ) → length ds ≤ free → Fresh [] (second_positions n free k ds)
second-fresh n free k ds l =
    distinct-fresh [] (second_positions n free k ds) (second-distinct n free k ds l) (λ q h. refl)
