-- Built-in stores and valuations: what equations make equivalent is equal under each valuation that makes them hold, and the
-- solved equations have a valuation that makes nothing else equal.
--   hold-member, hold-members      equations that hold, one by one
--   hold-eqv                       what they make equivalent has equal values
--   generic, generic-holds         the valuation of a solution, by which unequal terms differ
--   read, read_above               which term of the solution a value stands for
--   solving-is-exact                            what solving means
--   satisfiable-solved, solved-satisfiable      a store is not false exactly when solving it has an answer
-- Assumes nothing.
use Prim.Native.Nat.{ℕ, ◌+◌, ◌-◌, ◌<◌}
use mathlib.Core.Bool.{true, false, cond}
use mathlib.Core.List.{List, [], ◌∷◌, map}
use mathlib.Core.Option.{Option, none, some}
use mathlib.Core.Path.{◌≡◌, refl, sym, ap, ◌∙◌}
use native.Mathlib.Omega.{arith}
use lib.Dec.{ltb, ltb→lt, lt→ltb}
use Rattle.semantics.specs.Terms.{Term, con, var, Equation}
use Rattle.semantics.specs.Solving.{solve}
use Rattle.semantics.specs.Published.{value, Hold, all, and, Satisfiable}
use Rattle.semantics.specs.Correspondence.{SolvingIsExact}
use Rattle.semantics.proofs.Configurations.{Or, inl, inr, Member, first, later, Tm, Eqv, given, same, flip, chain, lift}
use Rattle.semantics.proofs.Configurations.{lift_eqn}
use Rattle.semantics.proofs.Configurations as C
use Rattle.semantics.proofs.Multisets.{member-unmap}
use Rattle.semantics.proofs.Options.{decide, true-T, T_true}
use Rattle.semantics.proofs.Lifting.{down, down-lift}
use Rattle.semantics.proofs.SolveLaws.{Solution, solve-solution, solve-clash}

-- each of the equations holds; and where each does, all do
pub hold-member :
    {α : ℕ → ℕ} {e : Equation} {es : List Equation} → Hold α es → Member e es → value α e.left ≡ value α e.right
hold-member {α = α} {e = e} all x3 = elim x3 [ ]
hold-member (and p h) first = p
hold-member (and p h) (later i) = hold-member h i

pub hold-members :
    {α : ℕ → ℕ} (es : List Equation) → ((e : Equation) → Member e es → value α e.left ≡ value α e.right) → Hold α es
hold-members [] h = all
hold-members (e ∷ es) h = and (h e first) (hold-members es (λ d i. h d (later i)))

-- what the equations make equivalent has equal values
pub hold-eqv :
    {α : ℕ → ℕ} {es : List Equation} → Hold α es → {s t : Tm ℕ} → Eqv (map lift_eqn es) s t
    → value α (down s) ≡ value α (down t)
hold-eqv {α} {es} h (given i) =
    let (e, j, p) = member-unmap lift_eqn es i in
    rw p (simp down-lift (hold-member h j))
hold-eqv h same = refl
hold-eqv h (flip r) = sym (hold-eqv h r)
hold-eqv h (chain r q) = hold-eqv h r ∙ hold-eqv h q

-- a constant as itself, a variable as a number from n on
abbrev pub above : ℕ → Term → ℕ
above n (con c) = c
above n (var y) = n + y

-- each variable as what a solution makes of it
abbrev pub generic : ℕ → (Term → Term) → ℕ → ℕ
generic n σ x = above n (σ (var x))

pub generic-value :
    {es : List Equation} {σ : Term → Term} (n : ℕ) → Solution es σ → (t : Term) → value (generic n σ) t ≡ above n (σ t)
unfolding value
generic-value n q (con c) = rw (q.fixes c)
generic-value n q (var x) = refl

-- the equations hold under it
pub generic-holds : {es : List Equation} {σ : Term → Term} (n : ℕ) → Solution es σ → Hold (generic n σ) es
generic-holds {es} n q =
    hold-members es (λ e i.
    generic-value n q e.left ∙ ap (above n) (q.joins i) ∙ sym (generic-value n q e.right))

-- a constant below n
abbrev pub ConBelow : ℕ → Term → Type 0
ConBelow n (con c) = c < n
ConBelow n (var x) = Unit {0}

-- the term that a value stands for: the constant below n, the variable from n on
abbrev pub read : ℕ → ℕ → Tm ℕ
read n k = cond (ltb k n) (C.con k) (C.var (k - n))

pub read-constant : (n c : ℕ) → c < n → read n c ≡ C.con c
read-constant n c h = rw (T_true (ltb c n) (lt→ltb c n h))

pub read_above : (n : ℕ) (t : Term) → ConBelow n t → read n (above n t) ≡ lift t
read_above n (con c) h = read-constant n c h
read_above n (var y) h = go (decide (ltb (n + y) n))
  where
    go : Or (ltb (n + y) n ≡ true) (ltb (n + y) n ≡ false) → cond (ltb (n + y) n) (C.con (n + y)) (C.var (n + y - n)) ≡ C.var y
    go (inl p) = absurd (let k : n + y < n = ltb→lt (n + y) n (true-T p) in omega arith)
    go (inr p) = rw p (let e : n + y - n ≡ y = omega arith in ap C.var e)

-- a store that is not false has a solution, and conversely
pub satisfiable-solved : (es : List Equation) → Satisfiable es → (σ : Term → Term) × (solve es (λ t. t) ≡ some σ)
unfolding value
satisfiable-solved es s = go (solve es (λ t. t)) refl
  where
    go : (o : Option (Term → Term)) → solve es (λ t. t) ≡ o → (σ : Term → Term) × (solve es (λ t. t) ≡ some σ)
    go none p = let (a, b, d, e) = solve-clash es p in absurd (d (hold-eqv s.holds e))
    go (some σ) p = (σ, p)

pub solved-satisfiable : (es : List Equation) {σ : Term → Term} → solve es (λ t. t) ≡ some σ → Satisfiable es
solved-satisfiable es {σ} p = record { valuation = generic 0 σ; holds = generic-holds 0 (solve-solution es p) }

-- solving is exact: values make the equations hold exactly when they respect the answer, and never where there is none
pub solving-is-exact : (es : List Equation) → SolvingIsExact es
unfolding value
solving-is-exact es = record {
  answer = λ σ p α.
      (let q = solve-solution es p in (
        λ h t. sym (simp down-lift at (hold-eqv h (q.follows t))),
        λ h. hold-members es (λ e i. sym (h e.left) ∙ ap (value α) (q.joins i) ∙ h e.right),
      ));
  refusal = λ p α h. (let (a, b, d, e) = solve-clash es p in d (hold-eqv h e));
}
