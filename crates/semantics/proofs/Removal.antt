-- The constraints at none of some positions: removing one more position takes one constraint out.
--   has_last, has_other, has-front      whether a number stands in a list with one more number behind it
--   without-none                        nothing is removed at no positions
--   without-same                        the same positions remove the same
--   without-every                       nothing is left at all positions
--   without-one                         one more position, which was not removed: one constraint less
--   without-found                       what stands among the rest stands at a position that is not removed
-- Assumes nothing.
use Prim.Native.Nat.{ℕ, zero, suc, ◌+◌, ◌<◌}
use native.Mathlib.Omega.{arith}
use mathlib.Core.Bool.{Bool, true, false, cond, ◌||◌}
use mathlib.Core.List.{List, [], ◌∷◌, ◌++◌}
use mathlib.Core.Option.{some}
use mathlib.Core.Path.{◌≡◌, refl, ap}
use lib.Dec.{eqb}
use lib.ListN.{length, get_elem?}
use Rattle.text.specs.Lists.{has}
use Rattle.semantics.specs.Terms.{Constraint}
use Rattle.semantics.specs.Firing.{without}
use Rattle.semantics.specs.Variants.{Inserted, here, there}
use Rattle.semantics.proofs.Options.{none-some, apart_eqb}
use Rattle.semantics.proofs.Bools.{eqb_same, or_right}

-- the last number of a list stands in it
pub has_last : (n : ℕ) (l : List ℕ) → has n (l ++ (n ∷ [])) ≡ true
has_last n [] = rw eqb_same
has_last n (m ∷ l) = or_right (eqb n m) (has n (l ++ (n ∷ []))) (has_last n l)

-- another number behind a list changes nothing
pub has_other : (n m : ℕ) (l : List ℕ) → (n ≡ m → ⊥) → has n (l ++ (m ∷ [])) ≡ has n l
has_other n m [] d = rw (apart_eqb {m = n} {n = m} d)
has_other n m (k ∷ l) d = ap (eqb n k ||◌) (has_other n m l d)

-- a number behind a list or in front of it
pub has-front : (n m : ℕ) (l : List ℕ) → has n (l ++ (m ∷ [])) ≡ has n (m ∷ l)
has-front n m [] = refl
has-front n m (k ∷ l) = rw (has-front n m l) (go (eqb n k) (eqb n m))
  where
    go : (a b : Bool) → (a || (b || has n l)) ≡ (b || (a || has n l))
    go true true = refl
    go true false = refl
    go false true = refl
    go false false = refl

-- the same positions remove the same
pub without-same :
    (k : ℕ) (ps qs : List ℕ) (cs : List Constraint) → ((n : ℕ) → has n ps ≡ has n qs) → without k ps cs ≡ without k qs cs
unfolding without
without-same k ps qs [] e = refl
without-same k ps qs (c ∷ cs) e = rw (e k, without-same (suc k) ps qs cs e)

-- nothing is removed at no positions
pub without-none : (k : ℕ) (cs : List Constraint) → without k [] cs ≡ cs
unfolding without
without-none k [] = refl
without-none k (c ∷ cs) = ap (c ∷◌) (without-none (suc k) cs)

-- a position before the first removes nothing
pub without-before :
    (k q : ℕ) (ps : List ℕ) (cs : List Constraint) → q < k → without k (ps ++ (q ∷ [])) cs ≡ without k ps cs
unfolding without
without-before k q ps [] l = refl
without-before k q ps (c ∷ cs) l =
    rw (has_other k q ps (λ e. omega arith), without-before (suc k) q ps cs (omega arith))

-- one more position, which was not removed: one constraint less
pub without-one :
    (k : ℕ) (ps : List ℕ) (cs : List Constraint) (i q : ℕ) (c : Constraint) → q ≡ k + i → get_elem? cs i ≡ some c
    → has q ps ≡ false → Inserted c (without k (ps ++ (q ∷ [])) cs) (without k ps cs)
unfolding without
without-one k ps [] i q c e s f = none-some refl s
without-one k ps (b ∷ cs) zero q c e s f =
    let m : k ≡ q = omega arith in
    let n : b ≡ c = cc in
    rw (m, has_last q ps, f, without-before (suc q) q ps cs (omega arith), n) here
without-one k ps (b ∷ cs) (suc i) q c e s f =
    rw (has_other k q ps (λ d. omega arith)) (go (has k ps) (without-one (suc k) ps cs i q c (omega arith) s f))
  where
    go :
        (t : Bool) → Inserted c (without (suc k) (ps ++ (q ∷ [])) cs) (without (suc k) ps cs)
        → Inserted c (cond t (without (suc k) (ps ++ (q ∷ [])) cs) (b ∷ without (suc k) (ps ++ (q ∷ [])) cs))
        (cond t (without (suc k) ps cs) (b ∷ without (suc k) ps cs))
    go true h = h
    go false h = there h

-- nothing is left where all positions are removed
pub without-every :
    (k : ℕ) (ps : List ℕ) (cs : List Constraint) → ((i : ℕ) → i < k + length cs → has i ps ≡ true) → without k ps cs ≡ []
unfolding without
without-every k ps [] f = refl
without-every k ps (c ∷ cs) f = rw (f k (omega arith)) (without-every (suc k) ps cs (λ i l. f i (omega arith)))

-- where an element of the rest stands: at a position that is not removed, and the others are the rest without it too
pub record Among (k : ℕ) (ps : List ℕ) (cs : List Constraint) (c : Constraint) (m : List Constraint) : Type 0 where
  pub at : ℕ
  pub position : ℕ
  pub counted : position ≡ k + at
  pub stands : get_elem? cs at ≡ some c
  pub free : has position ps ≡ false
  pub rest : m ≡ without k (ps ++ (position ∷ [])) cs

-- an element of the rest behind the first constraint
among_later :
    (k : ℕ) (ps : List ℕ) (b : Constraint) (cs : List Constraint) (c : Constraint) (m : List Constraint)
    → Among (suc k) ps cs c m → (t : Bool) → has k ps ≡ t → Among k ps (b ∷ cs) c (cond t m (b ∷ m))
unfolding without
among_later k ps b cs c m h t e = record {
  at = suc h.at;
  position = h.position;
  counted = omega (arith, h.counted);
  stands = h.stands;
  free = h.free;
  rest = rw (has_other k h.position ps (λ d. omega (arith, h.counted)), e, h.rest);
}

-- nothing is put into a list to make it empty
inserted-empty {ℓ} : {B : Type ℓ} {A : Type 0} {a : A} {m n : List A} → Inserted a m n → n ≡ [] → B
inserted-empty here e = let z : ◌≡◌ {A = ℕ} 0 1 = cc in absurd (omega arith)
inserted-empty (there i) e = let z : ◌≡◌ {A = ℕ} 0 1 = cc in absurd (omega arith)

-- what stands among the rest stands at a position that is not removed
pub without-found :
    (k : ℕ) (ps : List ℕ) (cs : List Constraint) (c : Constraint) (m n : List Constraint) → n ≡ without k ps cs
    → Inserted c m n → Among k ps cs c m
unfolding without
without-found k ps [] c m n e i = inserted-empty i e
without-found k ps (b ∷ cs) c m n e i = go (has k ps) refl m n e i (without-found (suc k) ps cs c)
  where
    go :
        (t : Bool) → has k ps ≡ t → (m n : List Constraint) → n ≡ cond t (without (suc k) ps cs) (b ∷ without (suc k) ps cs)
        → Inserted c m n
        → ((m n : List Constraint) → n ≡ without (suc k) ps cs → Inserted c m n → Among (suc k) ps cs c m)
        → Among k ps (b ∷ cs) c m
    go true f m n e i more = among_later k ps b cs c m (more m n e i) true f
    go false f m n e here more = record {
      at = 0;
      position = k;
      counted = omega arith;
      stands = cc;
      free = f;
      rest = rw (has_last k ps, without-before (suc k) k ps cs (omega arith)) (cc);
    }
    go false f m n e (there {b = a} {l = l} {m = j} i) more =
        let p : b ≡ a = cc in
        let q : j ≡ without (suc k) ps cs = cc in
        rw (← p) (among_later k ps b cs c l (more l j q i) false f)
