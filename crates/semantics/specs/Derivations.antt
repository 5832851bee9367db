-- Derivations (document 01: runs): lists of events, from the state with no constraints.
--   Event, Progress, follow, derive      one event after the other; an event that does not apply changes nothing
--   waiting                              the constraints that have not entered
--   NoRuleFits, Finished                 a derivation's end
-- Assumes nothing.
use Rattle.std.specs.Prelude.{ℕ, suc, Bool, true, cond, List, [], ◌∷◌, ◌++◌, ◌≡◌, length, get_or}
use Rattle.std.proofs.Math.Option.{none, some}
use Rattle.std.proofs.Math.ListN.{get_elem?}
use Rattle.text.specs.Lists.{onward, every, has, tabled, up_to}
use Rattle.semantics.specs.Terms.{Term, con, var, Constraint, Rule, Program, Goal, State, failed, live}
use Rattle.semantics.specs.Terms.{map_terms}
use Rattle.semantics.specs.Firing.{without, fire_at}

-- an event: the goal's constraint of a number, from 0, enters; or the rule of a number, from 0, fires at positions
pub data Event : Type 0 where
  enter : ℕ → Event
  fire : ℕ → List ℕ → Event

-- how far a derivation is: its state, the numbers of the goal's constraints that have entered, and its firings so far
pub record Progress : Type 0 where
  pub state : State
  pub entered : List ℕ
  pub firings : ℕ

-- what a term of the goal has become
unfoldable pub become : List Term → Term → Term
become bound (con c) = con c
become bound (var x) = get_or bound x (var x)

-- a state that a constraint of the goal has entered: appended, with its variables replaced by what they have become; a failed
-- state takes it and remains failed
unfoldable pub taken : Constraint → State → State
taken c failed = failed
taken c (live next bound cs) = live next bound (cs ++ (map_terms (become bound) c ∷ []))

-- the constraint of a number enters, unless the goal lacks that number or it has entered before
unfoldable pub entering : Goal → ℕ → Progress → Progress
entering g n d =
    cond (has n d.entered) d
    (onward (get_elem? g.constraints n) d
    (λ c. record { state = taken c d.state; entered = n ∷ d.entered; firings = d.firings }))

-- the rule of a number fires at positions, unless the program lacks that number or the rule does not fit there
unfoldable pub firing : Program → ℕ → List ℕ → Progress → Progress
firing p n ps d =
    onward (get_elem? p.rules n) d
    (λ r. onward (fire_at r ps d.state) d (λ s. record { state = s; entered = d.entered; firings = suc d.firings }))

-- one event; one that is turned away leaves all as it was, and is not counted
unfoldable pub follow : Program → Goal → Event → Progress → Progress
follow p g (enter n) d = entering g n d
follow p g (fire n ps) d = firing p n ps d

-- the events, in order
unfoldable pub follow_all : Program → Goal → List Event → Progress → Progress
follow_all p g [] d = d
follow_all p g (e ∷ es) d = follow_all p g es (follow p g e d)

-- where a derivation starts: no constraints, and each goal variable is itself
unfoldable pub start : Goal → Progress
start g = record { state = live g.variables (tabled var g.variables) []; entered = []; firings = 0 }

-- the derivation of a goal by a list of events (document 01: a run)
unfoldable pub derive : Program → Goal → List Event → Progress
derive p g es = follow_all p g es (start g)

-- the constraints of the goal that have not entered
abbrev pub waiting : Goal → Progress → List Constraint
waiting g d = without 0 d.entered g.constraints

-- no rule of the program can fire in a state, at any positions
abbrev pub NoRuleFits : Program → State → Type 0
NoRuleFits p s = (n : ℕ) (r : Rule) (ps : List ℕ) → get_elem? p.rules n ≡ some r → fire_at r ps s ≡ none

-- whether all constraints of the goal have entered
unfoldable pub all_entered : Goal → Progress → Bool
all_entered g d = every (λ n. has n d.entered) (up_to (length g.constraints))

-- a derivation is finished when it has failed, or when all constraints have entered and no rule fits
pub data Finished (p : Program) (g : Goal) (d : Progress) : Type 0 where
  by_failure : d.state ≡ failed → Finished p g d
  by_rest : all_entered g d ≡ true → NoRuleFits p d.state → Finished p g d
