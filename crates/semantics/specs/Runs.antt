-- What a run is (document 01: the run), said without the search that finds it.
--   Before             the order of lists of positions, and of partners: compared one by one, from the left
--   ChosenFiring       the firing that comes first in the order of choice
--   Run                such firings, until no rule fits
--   RunsTo             a finished derivation of a goal that ends with a run
--   RunsByChoice       what is claimed of `run`
-- Assumes nothing.
use Rattle.std.specs.Prelude.{ℕ, ◌+◌, ◌<◌, List, [], ◌∷◌, ◌++◌, map, ◌≡◌, length}
use Rattle.std.proofs.Math.Option.{none, some}
use Rattle.std.proofs.Math.ListN.{get_elem?}
use Rattle.text.specs.Lists.{up_to}
use Rattle.semantics.specs.Terms.{Rule, Program, Goal, State}
use Rattle.semantics.specs.Firing.{fire_at}
use Rattle.semantics.specs.Derivations.{Event, enter, fire, derive, NoRuleFits, Finished}
use Rattle.semantics.specs.Strategy.{Final, run}

-- one list of numbers comes before another: it has the smaller number where they first differ from the left
pub data Before : List ℕ → List ℕ → Type 0 where
  at_first : {p q : ℕ} {ps qs : List ℕ} → p < q → Before (p ∷ ps) (q ∷ qs)
  at_later : {p : ℕ} {ps qs : List ℕ} → Before ps qs → Before (p ∷ ps) (p ∷ qs)

-- rule n fires at positions ps by the order of choice: no rule of a lower number fits anywhere, and every other list of positions
-- at which rule n fits comes later
pub record ChosenFiring (p : Program) (n : ℕ) (ps : List ℕ) (s t : State) : Type 0 where
  pub rule : Rule
  pub numbered : get_elem? p.rules n ≡ some rule
  pub fires : fire_at rule ps s ≡ some t
  pub lowest : (m : ℕ) (r : Rule) (qs : List ℕ) → m < n → get_elem? p.rules m ≡ some r → fire_at r qs s ≡ none
  pub smallest : (qs : List ℕ) (u : State) → fire_at rule qs s ≡ some u → (qs ≡ ps → ⊥) → Before ps qs

-- a run from a state to a state, by its events: it rests where no rule fits, as in every failed state, and otherwise fires by the
-- order of choice and goes on from there
pub data Run (p : Program) : State → List Event → State → Type 0 where
  rests : {s : State} → NoRuleFits p s → Run p s [] s
  fires :
      {s t u : State} {es : List Event} (n : ℕ) (ps : List ℕ) → ChosenFiring p n ps s t → Run p t es u
      → Run p s (fire n ps ∷ es) u

-- all constraints of a goal enter, in order
unfoldable pub arrivals : Goal → List Event
arrivals g = map enter (up_to (length g.constraints))

-- a finished derivation of a goal: all its constraints enter in order, the events es follow, then come those of a run. It ends so,
-- and its firings are es and the run's, none of them turned away
pub record RunsTo (p : Program) (g : Goal) (es : List Event) (end : Final) : Type 0 where
  pub events : List Event
  pub runs : Run p (derive p g (arrivals g ++ es)).state events end.state
  pub finished : Finished p g (derive p g (arrivals g ++ (es ++ events)))
  pub state : (derive p g (arrivals g ++ (es ++ events))).state ≡ end.state
  pub firings : (derive p g (arrivals g ++ (es ++ events))).firings ≡ end.firings
  pub counted : end.firings ≡ length es + length events

-- the run of every goal is one, from the state in which all its constraints have entered; and no state has two runs
pub record RunsByChoice (p : Program) : Type 0 where
  pub goals : (g : Goal) → RunsTo p g [] (run p g)
  pub only : (s t u : State) (es fs : List Event) → Run p s es t → Run p s fs u → (es ≡ fs) × (t ≡ u)
