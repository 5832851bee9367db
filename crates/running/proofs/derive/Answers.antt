-- `running::derive` meets its contract: the goal enters, and its derivation ends. Assumes nothing.
use borrow.Author.Rules.{rules}
use native.Mathlib.Omega.{arith}
use Rattle.running.proofs.EnterLaws.{goal-there, goal-lent, goal-raises, goal-tallied, goal-next}
use Rattle.running.proofs.ReadyLaws.{entered-ended}
use Rattle.running.proofs.derive.Goals as goal

pub returns : goal.returns
returns c =
    entered-ended c.args.bound.now c.normalise.ensures c.start_bound.ensures (search rules)
    (search rules)

-- the goal's cells are there
pub slice_bounds-raise-end : goal.slice_bounds-raise-end
slice_bounds-raise-end c =
    goal-there _ _ _ _ _ c.requires.0

pub slice_bounds-raise-end-2 : goal.slice_bounds-raise-end-2
slice_bounds-raise-end-2 c =
    goal-lent _ _ _ _ _ c.requires.0

pub raise-requires : goal.raise-requires
raise-requires c =
    goal-raises _ _ _ _ _ c.requires.0

pub normalise-requires : goal.normalise-requires
normalise-requires c = (
  goal-next _ _ _ _ _ c.requires.0 _ (search rules),
  goal-tallied _ _ _ _ _ c.requires.0 _ c.raise.auto.tally c.raise.ensures,
)

pub overflow_mul-e : goal.overflow_mul-e
overflow_mul-e c = omega (arith, goal-there _ _ _ _ _ c.requires.0)
