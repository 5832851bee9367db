-- `programs::program::read_program` meets its contract: number 1, its lines, then its rules.
-- Assumes nothing.
use Rattle.std.proofs.Common.{◌*◌, arith}
use Rattle.std.proofs.lemmas.Result.{err_from_is_err_and}
use Rattle.programs.proofs.Whole.{stage-sound, used-fit, used-short, program-long, program-lines, program-rules}
use Rattle.programs.proofs.Whole.{program-read}
use Rattle.programs.proofs.program.read_program.Goals as goal

pub returns-then-long : goal.returns-then-long
returns-then-long c =
    rw c.at.ensures (program-long _ _ _ _ _ (omega (arith, c.if-long.true)) c.requires)

pub returns-in_err-stage : goal.returns-in_err-stage
returns-in_err-stage c =
    let p = err_from_is_err_and c.from_residual.result c.from_residual.ensures.1 in
    rw (p.1, p.2)
    (program-lines _ _ _ _ _ _ _ (omega (arith, c.if-long.false)) _ c.read_lines.ensures _
    c.in_err-stage.was)

pub check_rules-requires : goal.check_rules-requires
check_rules-requires c = (
  used-short (64 * c.in_ok-stage.stage.rules) c.read_lines.new.rules
      c.read_lines.ensures.room.rules-size,
  used-fit _ _ (stage-sound _ c.in_ok-stage.was c.read_lines.ensures),
)

pub returns-in_err-check_rules : goal.returns-in_err-check_rules
returns-in_err-check_rules c =
    let p = err_from_is_err_and c.from_residual-in_err-check_rules.result c.from_residual-in_err-check_rules.ensures.1 in
    rw (p.1, p.2)
    (program-rules _ _ _ _ _ _ _ (omega (arith, c.if-long.false)) _ c.read_lines.ensures _
    c.in_ok-stage.was _
    c.check_rules.ensures _ c.in_err-check_rules.was)

pub returns : goal.returns
returns c =
    program-read _ _ _ _ _ _ _ (omega (arith, c.if-long.false)) _ c.read_lines.ensures _
    c.in_ok-stage.was _
    c.check_rules.ensures _ c.in_ok-check_rules.was
