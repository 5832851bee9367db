-- Which variable remains (document 02: W5): where equations are solved, in every derivation and at the end of every run.
--   Lowered, Lowers             a variable becomes a constant or one with no greater number
--   smaller-stays               of two variables the one with the smaller number stays
--   solve-lowers                so the solution of equations lowers
--   equated-eqv, eqv-equated    `Equated` is the equivalence of the configurations
--   solve-remains               what the solution of equations puts for a variable is what remains of it
--   goal-remains                so a goal variable remains over a new one and over a later one
--   Standing, Kept              a goal variable that stands in a state is itself there; a firing and an entry keep that
--   goal-variables-remain       so what goal variables become, in every derivation, is a constant or the earliest of them
--   run-keeps                   also at the end of a run
-- Assumes nothing.
use Prim.Native.Nat.{ℕ, suc, ◌+◌, ◌≤◌, ◌<◌}
use native.Mathlib.Omega.{arith}
use mathlib.Core.Bool.{Bool, true, false, cond, not}
use mathlib.Core.List.{List, [], ◌∷◌, ◌++◌, map}
use mathlib.Core.Option.{Option, none, some}
use mathlib.Core.Path.{◌≡◌, refl, sym, ap, subst, ◌∙◌}
use lib.Dec.{leb, eqb, leb→le, nleb→lt}
use lib.ListN.{length, drop, get_or, get_elem?, length-map}
use Rattle.text.specs.Lists.{onward, has, tabled}
use Rattle.semantics.specs.Terms.{Term, con, var, Constraint, Equation, Rule, Program, Goal, State, failed, live}
use Rattle.semantics.specs.Terms.{map_terms, map_sides, alphabet}
use Rattle.semantics.specs.Matching.{Assignment, unassigned, match_at}
use Rattle.semantics.specs.Solving.{replace, unify, solve}
use Rattle.semantics.specs.Firing.{instance, settle, fired, fire_at}
use Rattle.semantics.specs.Derivations.{Event, enter, fire, Progress, become, taken, entering, firing, follow, follow_all}
use Rattle.semantics.specs.Derivations.{start, derive}
use Rattle.semantics.specs.Remaining.{Equated, Remains, constant, smallest, KeepsGoalVariables, GoalVariablesRemain}
use Rattle.semantics.specs.Remaining as R
use Rattle.semantics.specs.Strategy.{Final}
use Rattle.semantics.specs.Runs.{arrivals, RunsTo}
use Rattle.semantics.proofs.Configurations.{Or, inl, inr, Member, Tm, Eqv, given, same, flip, chain}
use Rattle.semantics.proofs.Configurations.{lift, lift_eqn, TermBelow, All, also}
use Rattle.semantics.proofs.Configurations as C
use Rattle.semantics.proofs.Multisets.{all-mono, all_append, all_map, member-map, member-unmap}
use Rattle.semantics.proofs.Options.{decide, none-some, bind-some, cond-some, chosen, cond-chosen, true-T, eqb-equal}
use Rattle.semantics.proofs.Lifting.{down, down-lift}
use Rattle.semantics.proofs.SolveLaws.{Solution, solve-solution, solution-equal, solution-again, solve-keeps}
use Rattle.semantics.proofs.MatchedTerms.{without_all, instance-all}
use Rattle.semantics.proofs.Indices.{le-or-lt, get_elem_map, get_elem-unmap, get_elem-below, get_elem-at, get_d_at, get_d_past}
use Rattle.semantics.proofs.Listings.{at-member, member-at}
use Rattle.semantics.proofs.Entering.{tabled-length, tabled-entry}

-- what a term may become: a constant itself, a variable a constant or a variable with no greater number
pub data Lowered : Term → Term → Type 0 where
  fixed : {c : ℕ} → Lowered (con c) (con c)
  settled : {x c : ℕ} → Lowered (var x) (con c)
  lower : {x y : ℕ} → y ≤ x → Lowered (var x) (var y)

-- a substitution that makes nothing else of a term
abbrev pub Lowers : (Term → Term) → Type 0
Lowers σ = (t : Term) → Lowered t (σ t)

-- a term may stay, and become in turn what each may
lowered-itself : (t : Term) → Lowered t t
lowered-itself (con c) = fixed
lowered-itself (var x) = let h : x ≤ x = omega arith in lower h

lowered-through : {s t u : Term} → Lowered s t → Lowered t u → Lowered s u
lowered-through fixed fixed = fixed
lowered-through settled fixed = settled
lowered-through (lower h) settled = settled
lowered-through (lower {x = x} h) (lower {y = z} k) = let l : z ≤ x = omega arith in lower l

-- of variables that says the order of their numbers
lowered-le : {x y : ℕ} → Lowered (var x) (var y) → y ≤ x
lowered-le (lower h) = h

-- what a term below a number may become is below it
pub lowered-below : (n : ℕ) {t u : Term} → Lowered t u → TermBelow n t → TermBelow n u
lowered-below n fixed h = tt
lowered-below n settled h = tt
lowered-below n (lower l) h = omega arith

-- replacing a variable by what it may become
replace-lowers : (x : ℕ) (t : Term) → Lowered (var x) t → Lowers (replace x t)
unfolding replace
replace-lowers x t l (con c) = fixed
replace-lowers x t l (var y) = go (decide (eqb x y))
  where
    go : Or (eqb x y ≡ true) (eqb x y ≡ false) → Lowered (var y) (cond (eqb x y) t (var y))
    go (inl e) = rw e (subst (λ z. Lowered (var z) t) (eqb-equal e) l)
    go (inr e) = rw e (lowered-itself (var y))

-- of two variables that a test chooses from, the smaller stays if the test is one of order
chosen-lowers :
    (x y : ℕ) (b : Bool) {τ : Term → Term} → chosen b (some (replace y (var x))) (some (replace x (var y))) ≡ some τ
    → (b ≡ true → x ≤ y) → (b ≡ false → y ≤ x) → Lowers τ
unfolding chosen
chosen-lowers x y true p le ge = subst Lowers (cc) (replace-lowers y (var x) (lower (le refl)))
chosen-lowers x y false p le ge = subst Lowers (cc) (replace-lowers x (var y) (lower (ge refl)))

-- a passed test of order, and a failed one
tested_le : {m n : ℕ} → leb m n ≡ true → m ≤ n
tested_le {m} {n} e = leb→le m n (true-T e)

tested-ge : {m n : ℕ} → leb m n ≡ false → n ≤ m
tested-ge {m} {n} e = let h = nleb→lt m n (true-T (ap not e)) in omega arith

-- of two variables the one with the smaller number stays
smaller-stays : (x y : ℕ) {τ : Term → Term} → unify (var x) (var y) ≡ some τ → Lowers τ
unfolding unify
smaller-stays x y p = chosen-lowers x y _ (rw (cond-chosen, unify) at p) tested_le tested-ge

-- one equation
unify-lowers : (s t : Term) {τ : Term → Term} → unify s t ≡ some τ → Lowers τ
unfolding unify
unify-lowers (con a) (con b) {τ} p =
    let q = (cond-some (eqb a b) p).1 in
    let e : (λ (t : Term). t) ≡ τ = cc in
    subst Lowers e lowered-itself
unify-lowers (con a) (var y) p = subst Lowers (cc) (replace-lowers y (con a) settled)
unify-lowers (var x) (con b) p = subst Lowers (cc) (replace-lowers x (con b) settled)
unify-lowers (var x) (var y) p = smaller-stays x y p

-- equations one after the other, from a substitution that lowers, and from the start
solve-lowers-from : (es : List Equation) (σ : Term → Term) {τ : Term → Term} → Lowers σ → solve es σ ≡ some τ → Lowers τ
unfolding solve
solve-lowers-from [] σ l p = subst Lowers (cc) l
solve-lowers-from (e ∷ es) σ l p =
    let (ν, q, r) = bind-some (unify (σ e.left) (σ e.right)) (λ ν. solve es (λ t. ν (σ t))) p in
    solve-lowers-from es (λ t. ν (σ t)) (λ t. lowered-through (l t) (unify-lowers (σ e.left) (σ e.right) q (σ t))) r

pub solve-lowers : (es : List Equation) {σ : Term → Term} → solve es (λ t. t) ≡ some σ → Lowers σ
solve-lowers es p = solve-lowers-from es (λ t. t) lowered-itself p

-- terms that equations make equal are equivalent under them as configurations have it, and the other way round
pub equated-eqv : {es : List Equation} {s t : Term} → Equated es s t → Eqv (map lift_eqn es) (lift s) (lift t)
equated-eqv {es} (R.given n e) = given (member-map lift_eqn (at-member es n e))
equated-eqv R.itself = same
equated-eqv (R.turned r) = flip (equated-eqv r)
equated-eqv (R.through r q) = chain (equated-eqv r) (equated-eqv q)

eqv-down : {es : List Equation} {s t : Tm ℕ} → Eqv (map lift_eqn es) s t → Equated es (down s) (down t)
eqv-down {es} (given m) =
    let (e, i, p) = member-unmap lift_eqn es m in
    let (n, q) = member-at i in
    rw p (simp down-lift (R.given n q))
eqv-down same = R.itself
eqv-down (flip r) = R.turned (eqv-down r)
eqv-down (chain r q) = R.through (eqv-down r) (eqv-down q)

pub eqv-equated : {es : List Equation} (s t : Term) → Eqv (map lift_eqn es) (lift s) (lift t) → Equated es s t
eqv-equated {es} s t r = simp down-lift at (eqv-down {es = es} r)

-- a constant is no variable
con-var {ℓ} : {A : Type ℓ} {c x : ℕ} → con c ≡ var x → A
con-var p = absurd (let z : ◌≡◌ {A = ℕ} 0 1 = cc in omega arith)

-- what a solution puts for a variable is what remains of it
pub solve-remains :
    (es : List Equation) {σ : Term → Term} → solve es (λ t. t) ≡ some σ → (x : ℕ) → Remains es x (σ (var x))
solve-remains es {σ} p x = go (σ (var x)) refl
  where
    s : Solution es σ
    s = solve-solution es p

    -- it is equated with the variable
    becomes : Equated es (var x) (σ (var x))
    becomes = eqv-equated (var x) (σ (var x)) (s.follows (var x))

    -- and so what is equated with the variable becomes the same
    joined : (t : Term) → Equated es (var x) t → σ t ≡ σ (var x)
    joined t r = sym (solution-equal s (var x) t (equated-eqv r))

    go : (u : Term) → σ (var x) ≡ u → Remains es x u
    go (con c) e = constant (subst (Equated es (var x)) e becomes)
    go (var y) e =
        smallest (subst (Equated es (var x)) e becomes)
        (λ z r. lowered-le (subst (Lowered (var z)) (joined (var z) r ∙ e) (solve-lowers es p (var z))))
        (λ c r. con-var (sym (s.fixes c) ∙ joined (con c) r ∙ e))

-- so, in a goal of n variables, whatever is equated with a goal variable becomes a constant or a goal variable that is not later
pub goal-remains :
    (es : List Equation) {σ : Term → Term} → solve es (λ t. t) ≡ some σ → (n x y z : ℕ) → x < n → Equated es (var y) (var x)
    → σ (var y) ≡ var z → (z ≤ x) × (z < n)
goal-remains es {σ} p n x y z h r e = go (σ (var y)) (solve-remains es p y) e
  where
    go : (t : Term) → Remains es y t → t ≡ var z → (z ≤ x) × (z < n)
    go (con c) (constant q) k = con-var k
    go (var w) (smallest q least other) k =
        let l = least x r in
        let same : w ≡ z = cc in
        (omega (arith, l), omega (arith, l))

-- a term that may stand in a state: where it is a goal variable, this is still itself
abbrev Standing : List Term → Term → Type 0
Standing bound (con c) = Unit {0}
Standing bound (var y) = y < length bound → get_elem? bound y ≡ some (var y)

-- what goal variables have become, as `KeepsGoalVariables` has it
abbrev Own : List Term → Type 0
Own bound = (i y : ℕ) → get_elem? bound i ≡ some (var y) → (y ≤ i) × (get_elem? bound y ≡ some (var y))

-- a live state over such terms, whose number is above all goal variables
record Kept (next : ℕ) (bound : List Term) (cs : List Constraint) : Type 0 where
  own : Own bound
  constraints : All (λ c. All (Standing bound) c.terms) cs
  numbered : length bound ≤ next

-- a state that has failed, or is so
abbrev KeptState : State → Type 0
KeptState failed = Unit {0}
KeptState (live next bound cs) = Kept next bound cs

-- what a goal variable has become may stand in the state
bound-stands : (bound : List Term) → Own bound → (i : ℕ) (t : Term) → get_elem? bound i ≡ some t → Standing bound t
bound-stands bound own i (con c) e = tt
bound-stands bound own i (var y) e = λ below. (own i y e).1

-- a term that a substitution leaves as it is may stand where the substitution has been put in
stays-standing :
    (bound : List Term) (σ : Term → Term) (u : Term) → σ u ≡ u → Standing bound u → Standing (map σ bound) u
stays-standing bound σ (con c) e h = tt
stays-standing bound σ (var y) e h = λ below.
    get_elem_map σ bound y (h (subst (λ n. y < n) (length-map bound σ) below)) ∙ ap some e

-- solving equations between such terms keeps all that
settle-keeps :
    (es : List Equation) (next : ℕ) (bound : List Term) (cs : List Constraint)
    → ((e : Equation) → Member e es → Standing bound e.left × Standing bound e.right)
    → Kept next bound cs → KeptState (settle (solve es (λ t. t)) next bound cs)
unfolding settle map_terms
settle-keeps es next bound cs sides k = go (solve es (λ t. t)) refl
  where
    -- a term that may stand becomes one that may
    stands : {σ : Term → Term} → solve es (λ t. t) ≡ some σ → (t : Term) → Standing bound t → Standing (map σ bound) (σ t)
    stands {σ} e t h =
        stays-standing bound σ (σ t) (solution-again (solve-solution es e) t) (solve-keeps (Standing bound) es e sides t h)

    -- a goal variable had become u, which becomes the variable y
    variable :
        {σ : Term → Term} → solve es (λ t. t) ≡ some σ → (i y : ℕ) (u : Term) → get_elem? bound i ≡ some u → σ u ≡ var y
        → (y ≤ i) × (get_elem? (map σ bound) y ≡ some (var y))
    variable {σ} e i y (con c) at q = con-var (sym ((solve-solution es e).fixes c) ∙ q)
    variable {σ} e i y (var x) at q =
        let first = k.own i x at in
        let less : y ≤ x = lowered-le (subst (Lowered (var x)) q (solve-lowers es e (var x))) in
        let within = get_elem-below bound i at in
        let below : y < length (map σ bound) = rw length-map (omega (arith, first.0)) in
        (omega (arith, first.0), subst (Standing (map σ bound)) q (stands e (var x) (λ l. first.1)) below)

    go : (o : Option (Term → Term)) → solve es (λ t. t) ≡ o → KeptState (settle o next bound cs)
    go none e = tt
    go (some σ) e = record {
      own = λ i y at. let (u, p, q) = get_elem-unmap σ bound i at in variable e i y u p q;
      constraints = all_map (map_terms σ) (all-mono (λ c h. all_map σ (all-mono (stands e) h)) k.constraints);
      numbered = rw length-map k.numbered;
    }

module _ (r : Rule) (ps : List ℕ) (θ : Assignment) (next : ℕ) (bound : List Term) (cs : List Constraint)
    (fits : match_at r.heads ps cs [] unassigned ≡ some θ) (k : Kept next bound cs) where
  -- a term of the rule may stand in the state: a new variable is none of the goal's
  instance-stands : (t : Term) → Standing bound (instance next θ t)
  instance-stands t =
      instance-all r.heads ps next fits k.constraints (λ y below. absurd (omega (arith, k.numbered))) t (λ c e. tt)

  -- the same for the terms of a constraint, for the body, and for the sides of equations
  instances-stand : (ts : List Term) → All (Standing bound) (map (instance next θ) ts)
  instances-stand [] = C.none
  instances-stand (t ∷ ts) = also (instance-stands t) (instances-stand ts)

  body-stands : (ds : List Constraint) → All (λ c. All (Standing bound) c.terms) (map (map_terms (instance next θ)) ds)
  unfolding map_terms
  body-stands [] = C.none
  body-stands (d ∷ ds) = also (instances-stand d.terms) (body-stands ds)

  sides-stand :
      (es : List Equation) (e : Equation) → Member e (map (map_sides (instance next θ)) es)
      → Standing bound e.left × Standing bound e.right
  unfolding map_sides
  sides-stand es e i =
      let (d, m, q) = member-unmap (map_sides (instance next θ)) es i in
      rw q (instance-stands d.left, instance-stands d.right)

  -- a firing keeps the goal variables
  fired-keeps : KeptState (fired r ps θ next bound cs)
  unfolding fired
  fired-keeps =
      settle-keeps _ (next + alphabet) bound _ (sides-stand r.equations) (record {
        own = k.own;
        constraints = all_append (without_all 0 (drop r.kept ps) k.constraints) (body-stands r.body);
        numbered = omega (arith, k.numbered);
      })

-- the same for a firing at stated positions
fire_at-keeps : (r : Rule) (ps : List ℕ) (s : State) {t : State} → fire_at r ps s ≡ some t → KeptState s → KeptState t
unfolding fire_at
fire_at-keeps r ps failed e k = none-some refl e
fire_at-keeps r ps (live next bound cs) {t} e k =
    let (θ, m, q) = bind-some (match_at r.heads ps cs [] unassigned) (λ θ. some (fired r ps θ next bound cs)) e in
    let final : fired r ps θ next bound cs ≡ t = cc in
    subst KeptState final (fired-keeps r ps θ next bound cs m k)

-- what a term of the goal has become may stand in the state
become-stands : (bound : List Term) → Own bound → (t : Term) → Standing bound (become bound t)
unfolding become
become-stands bound own (con c) = tt
become-stands bound own (var x) = go (le-or-lt (length bound) x)
  where
    go : Or (length bound ≤ x) (x < length bound) → Standing bound (get_or bound x (var x))
    go (inl l) = subst (Standing bound) (sym (get_d_past bound x (var x) l)) (λ below. absurd (omega arith))
    go (inr l) =
        let (t, e) = get_elem-at bound x l in
        subst (Standing bound) (sym (get_d_at bound x (var x) e)) (bound-stands bound own x t e)

-- so an entry keeps them too
taken-keeps : (c : Constraint) (s : State) → KeptState s → KeptState (taken c s)
unfolding taken map_terms
taken-keeps c failed k = tt
taken-keeps c (live next bound cs) k = record {
  own = k.own;
  constraints = all_append k.constraints (also (enters c.terms) C.none);
  numbered = k.numbered;
}
  where
    enters : (ts : List Term) → All (Standing bound) (map (become bound) ts)
    enters [] = C.none
    enters (t ∷ ts) = also (become-stands bound k.own t) (enters ts)

-- at the start each goal variable is itself
tabled-own : (n i y : ℕ) → get_elem? (tabled var n) i ≡ some (var y) → i ≡ y
tabled-own n i y e = let q : var i ≡ var y = sym (tabled-entry var n i) ∙ get_d_at (tabled var n) i (var i) e in cc

start-keeps : (g : Goal) → KeptState (start g).state
unfolding start
start-keeps g = record {
  own = λ i y e.
      (let q = tabled-own g.variables i y e in
      (omega (arith, q), subst (λ n. get_elem? (tabled var g.variables) n ≡ some (var y)) q e));
  constraints = C.none;
  numbered = rw tabled-length (omega arith);
}

-- each event keeps the goal variables: an entry
entering-keeps : (g : Goal) (n : ℕ) (d : Progress) → KeptState d.state → KeptState (entering g n d).state
unfolding entering
entering-keeps g n d k = go (has n d.entered) (get_elem? g.constraints n)
  where
    go :
        (b : Bool) (o : Option Constraint)
        → KeptState
        (cond b d
        (onward o d (λ c. record { state = taken c d.state; entered = n ∷ d.entered; firings = d.firings }))).state
    go true o = k
    go false none = k
    go false (some c) = taken-keeps c d.state k

-- a firing
firing-keeps : (p : Program) (n : ℕ) (ps : List ℕ) (d : Progress) → KeptState d.state → KeptState (firing p n ps d).state
unfolding firing
firing-keeps p n ps d k = go (get_elem? p.rules n)
  where
    fires-or-not :
        (r : Rule) (o : Option State) → fire_at r ps d.state ≡ o
        → KeptState (onward o d (λ s. record { state = s; entered = d.entered; firings = suc d.firings })).state
    fires-or-not r none e = k
    fires-or-not r (some t) e = fire_at-keeps r ps d.state e k

    go :
        (o : Option Rule)
        → KeptState
        (onward o d
        (λ r. onward (fire_at r ps d.state) d
        (λ s. record { state = s; entered = d.entered; firings = suc d.firings }))).state
    go none = k
    go (some r) = fires-or-not r (fire_at r ps d.state) refl

-- all events
follows-keep :
    (p : Program) (g : Goal) (es : List Event) (d : Progress) → KeptState d.state → KeptState (follow_all p g es d).state
unfolding follow_all follow
follows-keep p g [] d k = k
follows-keep p g (enter n ∷ es) d k = follows-keep p g es (entering g n d) (entering-keeps g n d k)
follows-keep p g (fire n ps ∷ es) d k = follows-keep p g es (firing p n ps d) (firing-keeps p n ps d k)

-- so every derivation keeps them
pub goal-variables-remain : (p : Program) → GoalVariablesRemain p
unfolding derive
goal-variables-remain p g es = of-state (follow_all p g es (start g)).state (follows-keep p g es (start g) (start-keeps g))
  where
    of-state : (s : State) → KeptState s → KeepsGoalVariables s
    of-state failed k = tt
    of-state (live next bound cs) k = k.own

-- and so does every finished derivation that ends with a run
pub run-keeps : (p : Program) (g : Goal) (es : List Event) (end : Final) → RunsTo p g es end → KeepsGoalVariables end.state
run-keeps p g es end r =
    subst KeepsGoalVariables r.state (goal-variables-remain p g (arrivals g ++ (es ++ r.events)))
