-- Which variable remains where variables are equated (document 02: W5).
--   Equated                two terms that equations make equal
--   Remains                what remains of a variable under equations
--   KeepsGoalVariables     what goal variables have become in a state
--   GoalVariablesRemain    the same of every derivation of a program
-- Assumes nothing.
use Rattle.std.specs.Prelude.{ℕ, ◌≤◌, List, ◌≡◌}
use Rattle.std.proofs.Math.Option.{some}
use Rattle.std.proofs.Math.ListN.{get_elem?}
use Rattle.semantics.specs.Terms.{Term, con, var, Equation, Program, Goal, State, failed, live}
use Rattle.semantics.specs.Derivations.{Event, derive}

-- two terms that equations make equal: the sides of each equation are, and it is an equivalence
pub data Equated (es : List Equation) : Term → Term → Type 0 where
  given : (n : ℕ) {e : Equation} → get_elem? es n ≡ some e → Equated es e.left e.right
  itself : {t : Term} → Equated es t t
  turned : {s t : Term} → Equated es s t → Equated es t s
  through : {s t u : Term} → Equated es s t → Equated es t u → Equated es s u

-- what remains of variable x under equations: the constant that is equated with it, where there is one; otherwise, of all
-- variables equated with it, the one with the smallest number
pub data Remains (es : List Equation) (x : ℕ) : Term → Type 0 where
  constant : {c : ℕ} → Equated es (var x) (con c) → Remains es x (con c)
  smallest :
      {y : ℕ} → Equated es (var x) (var y) → ((z : ℕ) → Equated es (var x) (var z) → y ≤ z)
      → ((c : ℕ) → Equated es (var x) (con c) → ⊥) → Remains es x (var y)

-- what goal variables have become in a state: each a constant, or a goal variable that is not later and is still itself. So of
-- all goal variables that have become one variable the earliest remains, and never a new one
abbrev pub KeepsGoalVariables : State → Type 0
KeepsGoalVariables failed = Unit {0}
KeepsGoalVariables (live next bound cs) =
    (i y : ℕ) → get_elem? bound i ≡ some (var y) → (y ≤ i) × (get_elem? bound y ≡ some (var y))

-- the goal variables of every derivation of a program, over all goals and all lists of events
abbrev pub GoalVariablesRemain : Program → Type 0
GoalVariablesRemain p = (g : Goal) (es : List Event) → KeepsGoalVariables (derive p g es).state
