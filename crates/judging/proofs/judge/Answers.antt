-- `judge` meets its contract: both sides fire; where they are not in the same state then, they are run and compared.
-- Assumes nothing.
use Rattle.judging.proofs.EndLaws.{lent-kept}
use Rattle.judging.proofs.StepLaws.{steps-ask, step-joins}
use Rattle.judging.proofs.judge.Goals as goal

pub begin_both-steps-requires : goal.begin_both-steps-requires
begin_both-steps-requires c =
    c.requires

pub same_step-requires : goal.same_step-requires
same_step-requires c =
    steps-ask (lent-kept c.requires
    c.begin_both-steps.auto.bound_one c.begin_both-steps.auto.one
    c.begin_both-steps.auto.bound_two c.begin_both-steps.auto.two) c.begin_both-steps.ensures

pub returns-then-same_step : goal.returns-then-same_step
returns-then-same_step c =
    step-joins c.requires c.begin_both-steps.ensures
    c.same_step.ensures c.if-same_step.true

pub judge_from-requires : goal.judge_from-requires
judge_from-requires c = (
  lent-kept c.requires c.begin_both-steps.auto.bound_one
      c.begin_both-steps.auto.one c.begin_both-steps.auto.bound_two
      c.begin_both-steps.auto.two,
  c.begin_both-steps.ensures,
)
