-- `goals::goal::goal_lines` meets its contract: what is left of the text, read from here, is the answer.
-- Assumes nothing.
use Rattle.std.proofs.Common.{◌≡◌, refl, ◌∙◌}
use Rattle.std.proofs.lemmas.Result.{err_from_is_err_and}
use Rattle.faults.specs.Faults.{fault_at}
use Rattle.faults.proofs.Placed.{at-err, at-ok}
use Rattle.goals.proofs.GoalLaws.{lines_start, lines-faulty, lines-refused, lines_next, lines_end}
use Rattle.goals.proofs.goal.goal_lines.Goals as goal

pub loop-at-init : goal.loop-at-init
loop-at-init c =
    (lines_start _ _ _ _ _ _ _ c.requires.0 c.requires.1, refl)

pub returns-then-f : goal.returns-then-f
returns-then-f c =
    rw c.at.ensures
    (lines-faulty _ _ _ _ _ _ _ _ _ _ _ _ c.loop-at.invariant.0 c.loop-at-test.true _
    c.line_at-f.ensures c.if-f.true)

pub returns-in_err-counts : goal.returns-in_err-counts
returns-in_err-counts c =
    let met = at-err _ _ _ _ c.in_err-counts.was c.map_err.ensures.cases in
    let known = met.2 in
    let at : c.in_err-counts.field-0.0 ≡ fault_at met.0 c.loop-at.number = cc in
    let p = err_from_is_err_and c.from_residual.result c.from_residual.ensures.1 in
    rw (p.1, p.2, at)
    (lines-refused _ _ _ _ _ _ _ _ _ _ _ _ c.loop-at.invariant.0 c.loop-at-test.true _
    c.line_at-f.ensures c.if-f.false _ _ _ _ _
    c.goal_line-read.ensures _ met.1)

pub loop-at-preserved : goal.loop-at-preserved
loop-at-preserved c = (
  lines_next _ _ _ _ _ _ _ _ _ _ _ _ c.loop-at.invariant.0 c.loop-at-test.true _
      c.line_at-f.ensures c.if-f.false _ _ _ _ _
      c.goal_line-read.ensures _ (at-ok _ _ _ _ c.in_ok-counts.was c.map_err.ensures.cases),
  c.goal_line-read.ensures.cells-size ∙ c.loop-at.invariant.1,
)

pub returns : goal.returns
returns c =
    lines_end _ _ _ _ _ _ _ _ _ _ _ _ c.loop-at.invariant.0 c.loop-at-test.false
