-- No derivation of a well-formed program fires more often than the goal's weight.
--   waiting-enters       a constraint that enters was waiting
--   Bounded              firings, the state's weight and the weight that waits are within the goal's weight
--   firings-bounded      a derivation's firings are within the goal's weight
-- Assumes nothing.
use Prim.Native.Nat.{ℕ, suc, ◌+◌, ◌≤◌}
use native.Mathlib.Omega.{arith}
use mathlib.Core.Bool.{Bool, true, false, cond}
use mathlib.Core.List.{List, [], ◌∷◌, ◌++◌}
use mathlib.Core.Option.{Option, none, some}
use mathlib.Core.Path.{◌≡◌, refl}
use lib.ListN.{get_elem?}
use Rattle.text.specs.Lists.{onward, has}
use Rattle.semantics.specs.Terms.{Constraint, Symbol, Rule, Program, Goal, State, failed, live, map_terms}
use Rattle.semantics.specs.Terms.{symbol_at, weight, is_well_formed}
use Rattle.semantics.specs.Firing.{without, fire_at}
use Rattle.semantics.specs.Variants.{Inserted}
use Rattle.semantics.specs.Derivations.{Event, enter, fire, Progress, become, taken, entering, firing, follow, follow_all}
use Rattle.semantics.specs.Derivations.{start, derive, waiting}
use Rattle.semantics.proofs.Removal.{has-front, without-none, without-same, without-one}
use Rattle.semantics.proofs.Weights.{weight-cons, weight-nil, weight-append, weight-inserted, state_weight, fire_at-lighter}

-- a constraint that enters was waiting
pub waiting-enters :
    (g : Goal) (entered : List ℕ) (n : ℕ) (c : Constraint) → has n entered ≡ false → get_elem? g.constraints n ≡ some c
    → Inserted c (without 0 (n ∷ entered) g.constraints) (without 0 entered g.constraints)
waiting-enters g entered n c f s =
    rw (without-same 0 (entered ++ (n ∷ [])) (n ∷ entered) g.constraints (λ q. has-front q n entered))
    at (without-one 0 entered g.constraints n n c (omega arith) s f)

-- firings, the state's weight and the weight that waits are within the goal's weight
abbrev Bounded : Program → Goal → Progress → Type 0
Bounded p g d =
    d.firings + state_weight p.symbols d.state + weight p.symbols (waiting g d) ≤ weight p.symbols g.constraints

-- a state that takes a constraint weighs at most that much more
taken-weight :
    (symbols : List Symbol) (c : Constraint) (s : State)
    → state_weight symbols (taken c s) ≤ state_weight symbols s + (symbol_at symbols c.symbol).weight
unfolding state_weight taken map_terms
taken-weight symbols c failed = omega arith
taken-weight symbols c (live next bound cs) =
    let e = map_terms (become bound) c in
    omega (arith, weight-append symbols cs (e ∷ []), weight-cons symbols e [], weight-nil symbols)

-- each event keeps the bound: an entry takes what it adds from what waits
bounded-entering : (p : Program) (g : Goal) (n : ℕ) (d : Progress) → Bounded p g d → Bounded p g (entering g n d)
unfolding entering
bounded-entering p g n d b = go (has n d.entered) refl (get_elem? g.constraints n) refl
  where
    go :
        (t : Bool) → has n d.entered ≡ t → (o : Option Constraint) → get_elem? g.constraints n ≡ o
        → Bounded p g
        (cond t d (onward o d (λ c. record { state = taken c d.state; entered = n ∷ d.entered; firings = d.firings })))
    go true f o s = b
    go false f none s = b
    go false f (some c) s =
        omega (
          arith,
          b,
          taken-weight p.symbols c d.state,
          weight-inserted p.symbols (waiting-enters g d.entered n c f s),
        )

-- a firing takes one or more from the state's weight
bounded-firing :
    (p : Program) (g : Goal) (n : ℕ) (ps : List ℕ) (d : Progress) → is_well_formed p ≡ true → Bounded p g d
    → Bounded p g (firing p n ps d)
unfolding firing
bounded-firing p g n ps d w b = go (get_elem? p.rules n) refl
  where
    fires :
        (r : Rule) → get_elem? p.rules n ≡ some r → (o : Option State) → fire_at r ps d.state ≡ o
        → Bounded p g (onward o d (λ s. record { state = s; entered = d.entered; firings = suc d.firings }))
    fires r e none f = b
    fires r e (some t) f = omega (arith, b, fire_at-lighter p n r ps d.state t w e f)

    go :
        (o : Option Rule) → get_elem? p.rules n ≡ o
        → Bounded p g
        (onward o d
        (λ r. onward (fire_at r ps d.state) d
        (λ s. record { state = s; entered = d.entered; firings = suc d.firings })))
    go none e = b
    go (some r) e = fires r e (fire_at r ps d.state) refl

-- either event
bounded-follow :
    (p : Program) (g : Goal) (e : Event) (d : Progress) → is_well_formed p ≡ true → Bounded p g d → Bounded p g (follow p g e d)
unfolding follow
bounded-follow p g (enter n) d w b = bounded-entering p g n d b
bounded-follow p g (fire n ps) d w b = bounded-firing p g n ps d w b

-- all events
bounded-all :
    (p : Program) (g : Goal) (es : List Event) (d : Progress) → is_well_formed p ≡ true → Bounded p g d
    → Bounded p g (follow_all p g es d)
unfolding follow_all
bounded-all p g [] d w b = b
bounded-all p g (e ∷ es) d w b = bounded-all p g es (follow p g e d) w (bounded-follow p g e d w b)

-- a derivation's firings are within the goal's weight
pub firings-bounded :
    (p : Program) (g : Goal) (es : List Event) → is_well_formed p ≡ true
    → (derive p g es).firings ≤ weight p.symbols g.constraints
unfolding derive start state_weight
firings-bounded p g es w =
    let b : Bounded p g (start g) = rw (without-none 0 g.constraints, weight-nil) (omega arith) in
    omega (arith, bounded-all p g es (start g) w b)
