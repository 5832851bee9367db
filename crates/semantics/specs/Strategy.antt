-- The fixed choice of a run (document 01: the run fires the lowest-numbered rule that fits, at the smallest list of places).
--   find         positions head by head, each head over the positions still free, in rising order
--   choose       the first rule that has positions
--   normalise    the derivation by that choice to its end
-- Assumes nothing.
use Rattle.std.specs.Prelude.{ℕ, zero, suc, cond, List, [], ◌∷◌, ◌++◌}
use Rattle.std.proofs.Math.Option.{Option, none, some, map}
use Rattle.text.specs.Lists.{onward, bind, or_else, has, tabled}
use Rattle.semantics.specs.Terms.{var, Constraint, Rule, Program, Goal, State, failed, live, weight}
use Rattle.semantics.specs.Matching.{Assignment, unassigned, match_constraint}
use Rattle.semantics.specs.Firing.{fired}

-- positions at which a rule's heads fit, and the assignment under which they do
pub record Match : Type 0 where
  pub positions : List ℕ
  pub assignment : Assignment

-- the first answer of `try` over a list, its first element at position p
unfoldable pub first_in {ℓ} : {A : Type ℓ} → ℕ → List Constraint → (ℕ → Constraint → Option A) → Option A
first_in p [] try = none
first_in p (c ∷ cs) try =
    let more = first_in (suc p) cs try in
    or_else (try p c) more

-- positions for the heads that are left, each over the positions that are not chosen yet
unfoldable pub find : List Constraint → List Constraint → List ℕ → Assignment → Option Match
find [] cs chosen θ = some (record { positions = chosen; assignment = θ })
find (h ∷ hs) cs chosen θ =
    first_in 0 cs (λ p c. cond (has p chosen) none (bind (match_constraint h c θ) (find hs cs (chosen ++ (p ∷ [])))))

-- a rule, by its number, and where it fits
pub record Choice : Type 0 where
  pub number : ℕ
  pub rule : Rule
  pub found : Match

-- the first rule, the first of them numbered n, that fits
unfoldable pub choose_from : ℕ → List Rule → List Constraint → Option Choice
choose_from n [] cs = none
choose_from n (r ∷ rs) cs =
    let more = choose_from (suc n) rs cs in
    or_else (map (λ m. record { number = n; rule = r; found = m }) (find r.heads cs [] unassigned)) more

-- what the strategy fires among these constraints
unfoldable pub choose : List Rule → List Constraint → Option Choice
choose rs cs = choose_from 0 rs cs

-- the state after the strategy's firing; none where no rule fits, and in a failed state
unfoldable pub advance : List Rule → State → Option State
advance rs failed = none
advance rs (live next bound cs) =
    bind (choose rs cs) (λ c. some (fired c.rule c.found.positions c.found.assignment next bound cs))

-- a state at the end of a derivation, and the derivation's firings (document 01: an end)
pub record Final : Type 0 where
  pub state : State
  pub firings : ℕ

-- the strategy from a state that took f firings, for at most `fuel` firings more
unfoldable pub normalise : ℕ → List Rule → State → ℕ → Final
normalise zero rs s f = record { state = s; firings = f }
normalise (suc fuel) rs s f = onward (advance rs s) (record { state = s; firings = f }) (λ t. normalise fuel rs t (suc f))

-- the state in which all constraints of a goal have entered, in order
unfoldable pub goal_state : Goal → State
goal_state g = live g.variables (tabled var g.variables) g.constraints

-- the run of a goal: all constraints enter, then the strategy fires. Weights make it end, so the goal's weight is fuel enough
unfoldable pub run : Program → Goal → Final
run p g = normalise (weight p.symbols g.constraints) p.rules (goal_state g) 0
