-- What solving does (document 01): it answers with a substitution under which the equations hold and which uses only them, and it
-- has no answer only where the equations make two different constants equivalent.
--   Unifies, unify-unifies, unify-clash      one equation
--   Solution, solve-solution                 a list of equations, solved
--   solution-equal, solution-eqv             equivalent under the equations is equal under their solution
--   solve-clash                              no answer: the equations equate two different constants
--   solve-within, solve-keeps                a term stays, or becomes one that has what all sides of the equations have
-- Assumes nothing.
use Prim.Native.Nat.{ℕ}
use mathlib.Core.Bool.{Bool, true, false, cond}
use mathlib.Core.List.{List, [], ◌∷◌, map}
use mathlib.Core.Option.{none, some}
use mathlib.Core.Path.{◌≡◌, refl, sym, ap, subst, ◌∙◌}
use lib.Dec.{eqb}
use Rattle.semantics.specs.Terms.{Term, con, var, Equation}
use Rattle.semantics.specs.Solving.{replace, unify, solve}
use Rattle.semantics.proofs.Configurations.{Or, inl, inr, Member, first, later, Tm, Eqn, Eqv, given, same, flip, chain}
use Rattle.semantics.proofs.Configurations.{lift, lift_eqn}
use Rattle.semantics.proofs.Configurations as C
use Rattle.semantics.proofs.Options.{decide, none-some, bind-some, bind-none, cond-some, chosen, cond-chosen}
use Rattle.semantics.proofs.Options.{eqb-equal, equal-eqb}
use Rattle.semantics.proofs.Lifting.{down, down-lift}
use Rattle.semantics.proofs.Multisets.{member-map, member-unmap}

-- a substitution that solves one equation: constants remain, the sides become equal, and a term stays or is one side and becomes
-- the other
pub record Unifies (s t : Term) (τ : Term → Term) : Type 0 where
  pub fixes : (c : ℕ) → τ (con c) ≡ con c
  pub joins : τ s ≡ τ t
  pub moves : (u : Term) → Or (τ u ≡ u) (Or ((u ≡ s) × (τ u ≡ t)) ((u ≡ t) × (τ u ≡ s)))

-- the sides may be exchanged
unifies-flip : {s t : Term} {τ : Term → Term} → Unifies s t τ → Unifies t s τ
unifies-flip {s} {t} {τ} q = record { fixes = q.fixes; joins = sym q.joins; moves = λ u. turn (q.moves u) }
  where
    turn : {A B C : Type 0} → Or A (Or B C) → Or A (Or C B)
    turn (inl a) = inl a
    turn (inr (inl b)) = inr (inr b)
    turn (inr (inr c)) = inr (inl c)

-- the replaced variable becomes the term, which stays
replace-at : (x : ℕ) (t : Term) → replace x t (var x) ≡ t
unfolding replace
replace-at x t = rw (equal-eqb {m = x} refl)

replace-moves : (x : ℕ) (t u : Term) → Or (replace x t u ≡ u) ((u ≡ var x) × (replace x t u ≡ t))
unfolding replace
replace-moves x t (con c) = inl refl
replace-moves x t (var y) = go (decide (eqb x y))
  where
    go :
        Or (eqb x y ≡ true) (eqb x y ≡ false)
        → Or (cond (eqb x y) t (var y) ≡ var y) ((var y ≡ var x) × (cond (eqb x y) t (var y) ≡ t))
    go (inl p) = inr (ap var (sym (eqb-equal p)), rw p)
    go (inr p) = inl (rw p)

-- replacing a variable by a term solves their equation
replace-unifies : (x : ℕ) (t : Term) → Unifies (var x) t (replace x t)
unfolding replace
replace-unifies x t = record {
  fixes = λ c. refl;
  joins = replace-at x t ∙ sym (stays (replace-moves x t t));
  moves = λ u. sort u (replace-moves x t u);
}
  where
    stays : Or (replace x t t ≡ t) ((t ≡ var x) × (replace x t t ≡ t)) → replace x t t ≡ t
    stays (inl p) = p
    stays (inr q) = q.1

    sort :
        (u : Term) → Or (replace x t u ≡ u) ((u ≡ var x) × (replace x t u ≡ t))
        → Or (replace x t u ≡ u) (Or ((u ≡ var x) × (replace x t u ≡ t)) ((u ≡ t) × (replace x t u ≡ var x)))
    sort u (inl p) = inl p
    sort u (inr q) = inr (inl q)

-- whichever of two variables stays, their equation is solved
chosen-unifies :
    (x y : ℕ) (b : Bool) {τ : Term → Term} → chosen b (some (replace y (var x))) (some (replace x (var y))) ≡ some τ
    → Unifies (var x) (var y) τ
unfolding chosen
chosen-unifies x y true p = subst (Unifies (var x) (var y)) (cc) (unifies-flip (replace-unifies y (var x)))
chosen-unifies x y false p = subst (Unifies (var x) (var y)) (cc) (replace-unifies x (var y))

-- the answer of a unification solves its equation
pub unify-unifies : (s t : Term) {τ : Term → Term} → unify s t ≡ some τ → Unifies s t τ
unfolding unify
unify-unifies (con a) (con b) {τ} p = same-constants (cond-some (eqb a b) p)
  where
    same-constants : (eqb a b ≡ true) × (some (λ t. t) ≡ some τ) → Unifies (con a) (con b) τ
    same-constants q =
        subst (Unifies (con a) (con b)) (let z : (λ (t : Term). t) ≡ τ = cc in z)
        (record { fixes = λ c. refl; joins = ap con (eqb-equal q.0); moves = λ u. inl refl })
unify-unifies (con a) (var y) p = subst (Unifies (con a) (var y)) (cc) (unifies-flip (replace-unifies y (con a)))
unify-unifies (var x) (con b) p = subst (Unifies (var x) (con b)) (cc) (replace-unifies x (con b))
unify-unifies (var x) (var y) p = chosen-unifies x y _ (rw (cond-chosen, unify) at p)

-- and there is an answer
chosen-answers :
    {A : Type 0} (x y : ℕ) (b : Bool) → chosen b (some (replace y (var x))) (some (replace x (var y))) ≡ none → A
unfolding chosen
chosen-answers x y true p = none-some p refl
chosen-answers x y false p = none-some p refl

-- a unification has no answer only for two different constants
pub unify-clash : (s t : Term) → unify s t ≡ none → (a : ℕ) × (b : ℕ) × (s ≡ con a) × (t ≡ con b) × (a ≡ b → ⊥)
unfolding unify
unify-clash (con a) (con b) p = (a, b, refl, refl, λ e. none-some (rw (equal-eqb e) at p) refl)
unify-clash (con a) (var y) p = none-some p refl
unify-clash (var x) (con b) p = none-some p refl
unify-clash (var x) (var y) p = chosen-answers x y _ (rw (cond-chosen, unify) at p)

-- solving, one equation after the other: from σ the equations lead to τ
pub data Solves : List Equation → (Term → Term) → (Term → Term) → Type 0 where
  solved : {σ : Term → Term} → Solves [] σ σ
  further :
      {e : Equation} {es : List Equation} {σ ν τ : Term → Term} → Unifies (σ e.left) (σ e.right) ν
      → Solves es (λ t. ν (σ t)) τ → Solves (e ∷ es) σ τ

-- an answer of solving came about so
pub solve-solves : (es : List Equation) (σ : Term → Term) {τ : Term → Term} → solve es σ ≡ some τ → Solves es σ τ
unfolding solve
solve-solves [] σ p = subst (Solves [] σ) (cc) solved
solve-solves (e ∷ es) σ p =
    let (ν, q, r) = bind-some (unify (σ e.left) (σ e.right)) (λ ν. solve es (λ t. ν (σ t))) p in
    further (unify-unifies (σ e.left) (σ e.right) q) (solve-solves es (λ t. ν (σ t)) r)

-- the answer is σ and then a substitution that fixes constants
solves-factor :
    {es : List Equation} {σ τ : Term → Term} → Solves es σ τ
    → (ρ : Term → Term) × ((c : ℕ) → ρ (con c) ≡ con c) × ((t : Term) → τ t ≡ ρ (σ t))
solves-factor solved = ((λ t. t), (λ c. refl), λ t. refl)
solves-factor (further {ν = ν} u r) =
    let (ρ, f, h) = solves-factor r in
    ((λ t. ρ (ν t)), (λ c. ap ρ (u.fixes c) ∙ f c), h)

-- each equation holds under the answer
solves-joins :
    {es : List Equation} {σ τ : Term → Term} → Solves es σ τ → {e : Equation} → Member e es → τ e.left ≡ τ e.right
solves-joins (solved {σ = σ}) {e = e} x5 = elim x5 [ ]
solves-joins (further {e = e} u r) first =
    let (ρ, f, h) = solves-factor r in
    h e.left ∙ ap ρ u.joins ∙ sym (h e.right)
solves-joins (further u r) (later m) = solves-joins r m

-- one equation more: where σ uses only equivalences of F, so does what solves an equation of F under it
unifies-follows :
    (F : List (Eqn ℕ)) (e : Equation) (σ : Term → Term) {ν : Term → Term} → Unifies (σ e.left) (σ e.right) ν
    → Eqv F (lift e.left) (lift e.right) → ((t : Term) → Eqv F (lift t) (lift (σ t)))
    → (t : Term) → Eqv F (lift t) (lift (ν (σ t)))
unifies-follows F e σ {ν} u holds within t = chain (within t) (moved (σ t) (u.moves (σ t)))
  where
    sides : Eqv F (lift (σ e.left)) (lift (σ e.right))
    sides = chain (flip (within e.left)) (chain holds (within e.right))

    moved :
        (v : Term)
        → Or (ν v ≡ v) (Or ((v ≡ σ e.left) × (ν v ≡ σ e.right)) ((v ≡ σ e.right) × (ν v ≡ σ e.left)))
        → Eqv F (lift v) (lift (ν v))
    moved v (inl p) = rw p same
    moved v (inr (inl q)) = rw q.1 (rw q.0 sides)
    moved v (inr (inr q)) = rw q.1 (rw q.0 (flip sides))

-- with σ and the equations all within the equivalences of F, the answer is too
solves-follows :
    (F : List (Eqn ℕ)) {es : List Equation} {σ τ : Term → Term} → Solves es σ τ
    → ((e : Equation) → Member e es → Eqv F (lift e.left) (lift e.right))
    → ((t : Term) → Eqv F (lift t) (lift (σ t))) → (t : Term) → Eqv F (lift t) (lift (τ t))
solves-follows F solved holds within = within
solves-follows F (further {e = e} {σ = σ} u r) holds within =
    solves-follows F r (λ e' m. holds e' (later m)) (unifies-follows F e σ u (holds e first) within)

-- a term stays, or becomes one that has every property that σ gives and that all sides of the equations have
solves-within :
    (P : Term → Type 0) {es : List Equation} {σ τ : Term → Term} → Solves es σ τ
    → ((e : Equation) → Member e es → P e.left × P e.right)
    → ((t : Term) → Or (σ t ≡ t) (P (σ t))) → (t : Term) → Or (τ t ≡ t) (P (τ t))
solves-within P solved sides within = within
solves-within P (further {e = e} {σ = σ} {ν = ν} u r) sides within =
    solves-within P r (λ e' m. sides e' (later m)) (λ t. moved t (within t) (u.moves (σ t)))
  where
    reach : (t : Term) → P t → Or (σ t ≡ t) (P (σ t)) → P (σ t)
    reach t p (inl q) = subst P (sym q) p
    reach t p (inr q) = q

    at_left : P (σ e.left)
    at_left = reach e.left (sides e first).0 (within e.left)

    at_right : P (σ e.right)
    at_right = reach e.right (sides e first).1 (within e.right)

    moved :
        (t : Term) → Or (σ t ≡ t) (P (σ t))
        → Or (ν (σ t) ≡ σ t)
        (Or ((σ t ≡ σ e.left) × (ν (σ t) ≡ σ e.right)) ((σ t ≡ σ e.right) × (ν (σ t) ≡ σ e.left)))
        → Or (ν (σ t) ≡ t) (P (ν (σ t)))
    moved t (inl p) (inl q) = inl (q ∙ p)
    moved t (inr p) (inl q) = inr (subst P (sym q) p)
    moved t w (inr (inl q)) = inr (subst P (sym q.1) at_right)
    moved t w (inr (inr q)) = inr (subst P (sym q.1) at_left)

-- two different constants are equivalent
abbrev pub Clash : List (Eqn ℕ) → Type 0
Clash F = (a : ℕ) × (b : ℕ) × (a ≡ b → ⊥) × Eqv F (C.con a) (C.con b)

-- solving has no answer only where two different constants are equivalent under F
clash-follows :
    (F : List (Eqn ℕ)) (es : List Equation) (σ : Term → Term) → solve es σ ≡ none
    → ((e : Equation) → Member e es → Eqv F (lift e.left) (lift e.right))
    → ((t : Term) → Eqv F (lift t) (lift (σ t))) → Clash F
unfolding solve
clash-follows F [] σ p holds within = none-some p refl
clash-follows F (e ∷ es) σ p holds within =
    go (bind-none (unify (σ e.left) (σ e.right)) (λ ν. solve es (λ t. ν (σ t))) p) (λ ν q r.
    clash-follows F es (λ t. ν (σ t)) r (λ e' m. holds e' (later m))
    (unifies-follows F e σ (unify-unifies (σ e.left) (σ e.right) q) (holds e first) within))
  where
    constants :
        (a : ℕ) × (b : ℕ) × (σ e.left ≡ con a) × (σ e.right ≡ con b) × (a ≡ b → ⊥) → Clash F
    constants (a, b, p, q, d) =
        let at_left = rw (ap lift p) at (within e.left) in
        let at_right = rw (ap lift q) at (within e.right) in
        (a, b, d, chain (flip at_left) (chain (holds e first) at_right))

    go :
        Or (unify (σ e.left) (σ e.right) ≡ none)
        ((ν : Term → Term) × (unify (σ e.left) (σ e.right) ≡ some ν) × (solve es (λ t. ν (σ t)) ≡ none))
        → ((ν : Term → Term) → unify (σ e.left) (σ e.right) ≡ some ν → solve es (λ t. ν (σ t)) ≡ none → Clash F)
        → Clash F
    go (inl q) more = constants (unify-clash (σ e.left) (σ e.right) q)
    go (inr (ν, q, r)) more = more ν q r

-- the solution of equations: constants remain, the equations hold, and a term is equivalent to what it becomes
pub record Solution (es : List Equation) (τ : Term → Term) : Type 0 where
  pub fixes : (c : ℕ) → τ (con c) ≡ con c
  pub joins : {e : Equation} → Member e es → τ e.left ≡ τ e.right
  pub follows : (t : Term) → Eqv (map lift_eqn es) (lift t) (lift (τ t))

-- solving answers with a solution
pub solve-solution : (es : List Equation) {τ : Term → Term} → solve es (λ t. t) ≡ some τ → Solution es τ
solve-solution es p =
    let r = solve-solves es (λ t. t) p in
    let (ρ, f, h) = solves-factor r in
    record {
      fixes = λ c. h (con c) ∙ f c;
      joins = solves-joins r;
      follows = solves-follows (map lift_eqn es) r (λ e m. given (member-map lift_eqn m)) (λ t. same);
    }

-- what is equivalent under the equations is equal under their solution
pub solution-down :
    {es : List Equation} {τ : Term → Term} → Solution es τ → {s t : Tm ℕ} → Eqv (map lift_eqn es) s t → τ (down s) ≡ τ (down t)
solution-down {es} q (given m) =
    let (e, i, p) = member-unmap lift_eqn es m in
    rw p (simp down-lift (q.joins i))
solution-down q same = refl
solution-down q (flip r) = sym (solution-down q r)
solution-down q (chain r s) = solution-down q r ∙ solution-down q s

pub solution-equal :
    {es : List Equation} {τ : Term → Term} → Solution es τ → (s t : Term) → Eqv (map lift_eqn es) (lift s) (lift t) → τ s ≡ τ t
solution-equal q s t r = simp down-lift at (solution-down q r)

-- and what is equal under their solution is equivalent
pub solution-eqv :
    {es : List Equation} {τ : Term → Term} → Solution es τ → (s t : Term) → τ s ≡ τ t → Eqv (map lift_eqn es) (lift s) (lift t)
solution-eqv {es} {τ} q s t p = chain (q.follows s) (rw (ap lift (sym p)) at (flip (q.follows t)))

-- the solution of its own answer is that answer
pub solution-again : {es : List Equation} {τ : Term → Term} → Solution es τ → (t : Term) → τ (τ t) ≡ τ t
solution-again {τ} q t = sym (solution-equal q t (τ t) (q.follows t))

-- without an answer, the equations equate two different constants
pub solve-clash : (es : List Equation) → solve es (λ t. t) ≡ none → Clash (map lift_eqn es)
solve-clash es p = clash-follows (map lift_eqn es) es (λ t. t) p (λ e m. given (member-map lift_eqn m)) (λ t. same)

-- a term stays, or becomes one that has every property that all sides of the equations have
pub solve-within :
    (P : Term → Type 0) (es : List Equation) {τ : Term → Term} → solve es (λ t. t) ≡ some τ
    → ((e : Equation) → Member e es → P e.left × P e.right) → (t : Term) → Or (τ t ≡ t) (P (τ t))
solve-within P es p sides = solves-within P (solve-solves es (λ t. t) p) sides (λ t. inl refl)

-- so what all sides have, and a term has, the term's solution has
pub solve-keeps :
    (P : Term → Type 0) (es : List Equation) {τ : Term → Term} → solve es (λ t. t) ≡ some τ
    → ((e : Equation) → Member e es → P e.left × P e.right) → (t : Term) → P t → P (τ t)
solve-keeps P es {τ} p sides t h = go (solve-within P es p sides t)
  where
    go : Or (τ t ≡ t) (P (τ t)) → P (τ t)
    go (inl q) = subst P (sym q) h
    go (inr q) = q
