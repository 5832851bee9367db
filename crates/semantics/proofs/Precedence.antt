-- The order of lists of numbers, compared from the left.
--   before-irreflexive, before-transitive      it is strict
--   before-compare                             of two lists of one length it has one first, or they are the same
-- Assumes nothing.
use Prim.Native.Nat.{ℕ, ◌<◌}
use native.Mathlib.Omega.{arith}
use native.Mathlib.Decide.{dec_lt}
use mathlib.Core.List.{List, [], ◌∷◌}
use mathlib.Core.Logic.{◌⊎◌, inl, inr}
use mathlib.Core.Path.{◌≡◌, refl, ap, subst}
use lib.ListN.{length, drop, get_or}
use Rattle.semantics.specs.Runs.{Before, at_first, at_later}

before-apart {ℓ} : {A : Type ℓ} {ps qs : List ℕ} → Before ps qs → ps ≡ qs → A
before-apart (at_first {p} {q} l) e = let h : p ≡ q = ap (λ k. get_or k 0 0) e in absurd (omega arith)
before-apart (at_later b) e = before-apart b (ap (drop 1) e)

pub before-irreflexive {ℓ} : {A : Type ℓ} {ps : List ℕ} → Before ps ps → A
before-irreflexive b = before-apart b refl

pub before-transitive : {ps qs rs : List ℕ} → Before ps qs → Before qs rs → Before ps rs
before-transitive (at_first {p} l) (at_first {q = r} k) = let h : p < r = omega arith in at_first h
before-transitive (at_first l) (at_later b) = at_first l
before-transitive (at_later a) (at_first k) = at_first k
before-transitive (at_later a) (at_later b) = at_later (before-transitive a b)

pub before-compare : (ps qs : List ℕ) → length ps ≡ length qs → (ps ≡ qs) ⊎ (Before ps qs ⊎ Before qs ps)
before-compare [] [] e = inl refl
before-compare [] (q ∷ qs) e = absurd (omega arith)
before-compare (p ∷ ps) [] e = absurd (omega arith)
before-compare (p ∷ ps) (q ∷ qs) e = go (dec_lt p q) (dec_lt q p) (before-compare ps qs (omega arith))
  where
    later : (p ≡ q) → (ps ≡ qs) ⊎ (Before ps qs ⊎ Before qs ps)
        → (p ∷ ps ≡ q ∷ qs) ⊎ (Before (p ∷ ps) (q ∷ qs) ⊎ Before (q ∷ qs) (p ∷ ps))
    later h (inl f) = inl (λ i. h i ∷ f i)
    later h (inr (inl b)) = inr (inl (subst (λ x. Before (p ∷ ps) (x ∷ qs)) h (at_later b)))
    later h (inr (inr b)) = inr (inr (subst (λ x. Before (x ∷ qs) (p ∷ ps)) h (at_later b)))

    go : Dec (p < q) → Dec (q < p) → (ps ≡ qs) ⊎ (Before ps qs ⊎ Before qs ps)
        → (p ∷ ps ≡ q ∷ qs) ⊎ (Before (p ∷ ps) (q ∷ qs) ⊎ Before (q ∷ qs) (p ∷ ps))
    go (yes l) k rest = inr (inl (at_first l))
    go (no l) (yes k) rest = inr (inr (at_first k))
    go (no l) (no k) rest = later (omega arith) rest
