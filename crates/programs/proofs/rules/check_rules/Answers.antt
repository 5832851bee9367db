-- `programs::rules::check_rules` meets its contract: the rules before here meet neither number.
-- Assumes nothing.
use Rattle.std.proofs.Common.{◌≡◌, ◌∙◌, get_or, arith}
use Rattle.std.proofs.lemmas.Result.{err_from_is_err_and}
use Rattle.faults.specs.Faults.{fault_at}
use Rattle.faults.proofs.Placed.{at-err, at-ok}
use Rattle.programs.proofs.RuleLaws.{check-refused, check-next, check-end}
use Rattle.programs.proofs.rules.check_rules.Goals as goal

pub returns-in_err-map_err : goal.returns-in_err-map_err
returns-in_err-map_err c =
    let loop = c.loop-row in
    let steps = c.in-Some.ensures.steps in
    let met = at-err _ _ _ _ c.in_err-map_err.was c.map_err.ensures.cases in
    let known = met.2 in
    let at : c.in_err-map_err.field-0.0 ≡ fault_at met.0 (get_or c.in-Some.row.now 2 0) = cc in
    let p = err_from_is_err_and c.from_residual.result c.from_residual.ensures.1 in
    rw (p.1, p.2, at)
    (check-refused _ _ _ loop.invariant.checked _ _ steps.1.0 (steps.1.1 ∙ loop.invariant.sized) _ c.check_rule.ensures _ met.1)

pub loop-row-preserved : goal.loop-row-preserved
loop-row-preserved c =
    let loop = c.loop-row in
    let steps = c.in-Some.ensures.steps in
    record {
      ready = omega (arith, steps.0, loop.invariant.sized);
      ends = tt;
      sized = steps.0 ∙ loop.invariant.sized;
      checked =
          check-next _ _ _ loop.invariant.checked _ _ steps.1.0 (steps.1.1 ∙ loop.invariant.sized) _ c.check_rule.ensures _
          (at-ok _ _ _ _ c.in_ok-map_err.was c.map_err.ensures.cases);
    }

pub returns : goal.returns
returns c =
    check-end _ _ _ c.loop-row.invariant.checked
    (omega (arith, c.in-None.ensures.steps.1.0, c.loop-row.invariant.sized))
