-- Tests and optional values, taken apart: what an answer of a test or of a computation says.
--   decide                        a test passes or fails
--   bind-some, bind-none          what a bind's answer came from
--   cond-some, cond-none          what the answer of a tested computation came from
--   chosen, cond-chosen           one of two values, whatever the test
--   eqb-equal, equal-eqb          the test of numbers, both ways
--   same-equal, equal-same        the test of terms, both ways
--   below-is_below, is_below-below  the test whether a term is below a number, both ways
-- Assumes nothing.
use Prim.Native.Nat.{ℕ, suc}
use mathlib.Core.Bool.{Bool, true, false, cond}
use mathlib.Core.Option.{Option, none, some}
use mathlib.Core.Path.{◌≡◌, refl, sym, ap, subst}
use native.Mathlib.Omega.{arith}
use lib.Dec.{T, eqb, ltb, eqb→eq, eqb_refl, leb→le, le→leb}
use Rattle.text.specs.Lists.{bind}
use Rattle.semantics.specs.Terms.{Term, con, var, same_term, is_below}
use Rattle.semantics.proofs.Configurations.{Or, inl, inr, TermBelow}

-- a test passes or fails
pub decide : (b : Bool) → Or (b ≡ true) (b ≡ false)
decide true = inl refl
decide false = inr refl

-- a test does not do both
pub true-false {ℓ} : {A : Type ℓ} {b : Bool} → b ≡ true → b ≡ false → A
true-false p q = absurd (let z : ◌≡◌ {A = ℕ} 0 1 = cc in omega arith)

-- a value is not missing
pub none-some {ℓ κ} : {B : Type κ} {A : Type ℓ} {o : Option A} {a : A} → o ≡ none → o ≡ some a → B
none-some p q = absurd (let z : ◌≡◌ {A = ℕ} 0 1 = cc in omega arith)

-- a passed test, as a type and as an equation
pub true-T : {b : Bool} → b ≡ true → T b
true-T p = subst T (sym p) tt

pub T_true : (b : Bool) → T b → b ≡ true
T_true true t = refl
T_true false t = absurd t

-- the answer of a bind came from a value
pub bind-some {ℓ κ} :
    {A : Type ℓ} {B : Type κ} (o : Option A) (next : A → Option B) {b : B} → bind o next ≡ some b
    → (a : A) × (o ≡ some a) × (next a ≡ some b)
bind-some none next p = none-some refl p
bind-some (some a) next p = (a, refl, p)

-- a bind without answer: its first part has none, or what follows has none
pub bind-none {ℓ κ} :
    {A : Type ℓ} {B : Type κ} (o : Option A) (next : A → Option B) → bind o next ≡ none
    → Or (o ≡ none) ((a : A) × (o ≡ some a) × (next a ≡ none))
bind-none none next p = inl refl
bind-none (some a) next p = inr (a, refl, p)

-- the answer of a computation that is made only if a test passes
pub cond-some {ℓ} : {A : Type ℓ} (b : Bool) {o : Option A} {a : A} → cond b o none ≡ some a → (b ≡ true) × (o ≡ some a)
cond-some true p = (refl, p)
cond-some false p = none-some refl p

-- the answer of a computation that is made only if a test fails
pub cond-some-not {ℓ} : {A : Type ℓ} (b : Bool) {o : Option A} {a : A} → cond b none o ≡ some a → (b ≡ false) × (o ≡ some a)
cond-some-not true p = none-some refl p
cond-some-not false p = (refl, p)

-- one of two values by a test, as a call that stays shut: so a law about any test finds which test it is about
unfoldable pub chosen {ℓ} : {A : Type ℓ} → Bool → A → A → A
chosen b x y = cond b x y

pub cond-chosen {ℓ} : {A : Type ℓ} (b : Bool) (x y : A) → cond b x y ≡ chosen b x y
unfolding chosen
cond-chosen b x y = refl

-- the test of numbers: a passed one says that they are equal, and equal ones pass
pub eqb-equal : {m n : ℕ} → eqb m n ≡ true → m ≡ n
eqb-equal {m} {n} p = eqb→eq m n (true-T p)

pub equal-eqb : {m n : ℕ} → m ≡ n → eqb m n ≡ true
equal-eqb {m} {n} p = T_true (eqb m n) (subst (λ k. T (eqb m k)) p (eqb_refl m))

-- different numbers fail it
pub apart_eqb : {m n : ℕ} → (m ≡ n → ⊥) → eqb m n ≡ false
apart_eqb {m} {n} d = go (decide (eqb m n))
  where
    go : Or (eqb m n ≡ true) (eqb m n ≡ false) → eqb m n ≡ false
    go (inl p) = absurd (d (eqb-equal p))
    go (inr p) = p

-- the test of terms, likewise
pub same-equal : (s t : Term) → same_term s t ≡ true → s ≡ t
unfolding same_term
same-equal (con a) (con b) p = ap con (eqb-equal p)
same-equal (con a) (var y) p = true-false p refl
same-equal (var x) (con b) p = true-false p refl
same-equal (var x) (var y) p = ap var (eqb-equal p)

pub same_refl : (t : Term) → same_term t t ≡ true
unfolding same_term
same_refl (con a) = equal-eqb {m = a} refl
same_refl (var x) = equal-eqb {m = x} refl

pub equal-same : {s t : Term} → s ≡ t → same_term s t ≡ true
equal-same {s} {t} p = subst (λ u. same_term s u ≡ true) p (same_refl s)

-- a term is below a number, as a test and as a type
pub is_below-below : (n : ℕ) (t : Term) → is_below n t ≡ true → TermBelow n t
unfolding is_below
is_below-below n (con c) p = tt
is_below-below n (var x) p = leb→le (suc x) n (true-T p)

pub below-is_below : (n : ℕ) (t : Term) → TermBelow n t → is_below n t ≡ true
unfolding is_below
below-is_below n (con c) p = refl
below-is_below n (var x) p = T_true (ltb x n) (le→leb (suc x) n p)
