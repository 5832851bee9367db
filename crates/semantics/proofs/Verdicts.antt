-- What a verdict says (document 01): a program is found confluent where all of its overlaps join, and otherwise the first overlap
-- that does not join is shown, with both ends.
--   verdict-confluent, confluent-verdict      the first answer
--   verdict-unjoined                          the second
-- Assumes nothing.
use Prim.Native.Nat.{ℕ, zero, suc, ◌+◌, ◌<◌}
use native.Mathlib.Omega.{arith}
use mathlib.Core.Bool.{Bool, true, false, cond}
use mathlib.Core.List.{List, [], ◌∷◌}
use mathlib.Core.Option.{some}
use mathlib.Core.Path.{◌≡◌, refl, sym, ap, subst, ◌∙◌}
use lib.ListN.{length, get_elem?}
use Rattle.semantics.specs.Terms.{Program}
use Rattle.semantics.specs.Strategy.{Final}
use Rattle.semantics.specs.Overlaps.{Overlap, overlaps, first_end, second_end}
use Rattle.semantics.specs.Verdict.{confluent, unjoined, is_joinable, judge, verdict}
use Rattle.semantics.proofs.Configurations.{Member, All, none, also}
use Rattle.semantics.proofs.Multisets.{all-member, all-of-members}
use Rattle.semantics.proofs.Indices.{some-equal}

-- an answer of one kind is not of the other
kinds {ℓ} : {A : Type ℓ} {n : ℕ} {o : Overlap} {e f : Final} → confluent n ≡ unjoined o e f → A
kinds p = absurd (let z : ◌≡◌ {A = ℕ} 0 1 = cc in omega arith)

-- where the overlaps that are left all join, they are counted
confluent-judge :
    (p : Program) (n : ℕ) {os : List Overlap} → All (λ o. is_joinable p o ≡ true) os → judge p n os ≡ confluent (n + length os)
unfolding judge
confluent-judge p n none = ap confluent (omega arith)
confluent-judge p n (also j a) = rw j (confluent-judge p (suc n) a ∙ ap confluent (omega arith))

-- and only there is a program found confluent
judge-confluent :
    (p : Program) (n k : ℕ) (os : List Overlap) → judge p n os ≡ confluent k
    → All (λ o. is_joinable p o ≡ true) os × (k ≡ n + length os)
unfolding judge
judge-confluent p n k [] e = (none, (let z : n ≡ k = cc in omega arith))
judge-confluent p n k (o ∷ os) e = go (is_joinable p o) refl e (judge-confluent p (suc n) k os)
  where
    go :
        (b : Bool) → is_joinable p o ≡ b → cond b (judge p (suc n) os) (unjoined o (first_end p o) (second_end p o)) ≡ confluent k
        → (judge p (suc n) os ≡ confluent k → All (λ o. is_joinable p o ≡ true) os × (k ≡ suc n + length os))
        → All (λ o. is_joinable p o ≡ true) (o ∷ os) × (k ≡ n + suc (length os))
    go true j q ih = let (a, c) = ih q in (also j a, omega arith)
    go false j q ih = kinds (sym q)

-- the first overlap of a list that does not join
pub record FirstUnjoined (p : Program) (os : List Overlap) (o : Overlap) : Type 0 where
  pub number : ℕ
  pub listed : get_elem? os number ≡ some o
  pub unequal : is_joinable p o ≡ false
  pub earlier : (k : ℕ) (u : Overlap) → k < number → get_elem? os k ≡ some u → is_joinable p u ≡ true

-- what is shown of the overlaps that are left is the first of them that does not join, with its ends
judge-unjoined :
    (p : Program) (n : ℕ) {o : Overlap} {e f : Final} (os : List Overlap) → judge p n os ≡ unjoined o e f
    → FirstUnjoined p os o × (e ≡ first_end p o) × (f ≡ second_end p o)
unfolding judge
judge-unjoined p n [] q = kinds q
judge-unjoined p n {o} {e} {f} (x ∷ os) q = go (is_joinable p x) refl q (judge-unjoined p (suc n) os)
  where
    shown :
        is_joinable p x ≡ false → unjoined x (first_end p x) (second_end p x) ≡ unjoined o e f
        → FirstUnjoined p (x ∷ os) o × (e ≡ first_end p o) × (f ≡ second_end p o)
    shown j q =
        let one : x ≡ o = cc in
        let two : first_end p x ≡ e = cc in
        let three : second_end p x ≡ f = cc in (
          record {
            number = 0;
            listed = ap some one;
            unequal = subst (λ y. is_joinable p y ≡ false) one j;
            earlier = λ k u l h. absurd (omega arith);
          },
          sym two ∙ ap (first_end p) one,
          sym three ∙ ap (second_end p) one,
        )

    before :
        is_joinable p x ≡ true → (r : FirstUnjoined p os o) (k : ℕ) (u : Overlap) → k < suc r.number
        → get_elem? (x ∷ os) k ≡ some u → is_joinable p u ≡ true
    before j r zero u l h = subst (λ y. is_joinable p y ≡ true) (some-equal h) j
    before j r (suc k) u l h = r.earlier k u (omega arith) h

    behind : is_joinable p x ≡ true → FirstUnjoined p os o → FirstUnjoined p (x ∷ os) o
    behind j r = record {
      number = suc r.number;
      listed = r.listed;
      unequal = r.unequal;
      earlier = before j r;
    }

    go :
        (b : Bool) → is_joinable p x ≡ b
        → cond b (judge p (suc n) os) (unjoined x (first_end p x) (second_end p x)) ≡ unjoined o e f
        → (judge p (suc n) os ≡ unjoined o e f → FirstUnjoined p os o × (e ≡ first_end p o) × (f ≡ second_end p o))
        → FirstUnjoined p (x ∷ os) o × (e ≡ first_end p o) × (f ≡ second_end p o)
    go true j r ih = let (a, b, c) = ih r in (behind j a, b, c)
    go false j r ih = shown j r

-- an overlap that is shown is the first of the program's that does not join, and its ends are those that are shown
pub verdict-unjoined :
    (p : Program) {o : Overlap} {e f : Final} → verdict p ≡ unjoined o e f
    → FirstUnjoined p (overlaps p) o × (e ≡ first_end p o) × (f ≡ second_end p o)
unfolding verdict
verdict-unjoined p q = judge-unjoined p 0 (overlaps p) q

-- a program that is found confluent: every overlap joins, and their number is stated
pub verdict-confluent :
    (p : Program) {n : ℕ} → verdict p ≡ confluent n
    → ((o : Overlap) → Member o (overlaps p) → is_joinable p o ≡ true) × (n ≡ length (overlaps p))
unfolding verdict
verdict-confluent p {n} e =
    let (a, c) = judge-confluent p 0 n (overlaps p) e in
    ((λ o m. all-member a m), omega arith)

-- and where every overlap joins, a program is found so
pub confluent-verdict :
    (p : Program) → ((o : Overlap) → Member o (overlaps p) → is_joinable p o ≡ true)
    → verdict p ≡ confluent (length (overlaps p))
unfolding verdict
confluent-verdict p h = confluent-judge p 0 (all-of-members (overlaps p) h) ∙ ap confluent (omega arith)
