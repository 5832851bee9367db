-- `line_part` meets its contract: the second state has the same constraints after each try.
-- Assumes nothing.
use Rattle.std.proofs.Common.{◌≡◌, length, refl, ◌∙◌, arith}
use Rattle.parts.proofs.LineLaws.{reordered-same, reordered-trans, reordered-swap}
use Rattle.parts.proofs.lining.line_part.Goals as goal

pub loop-last-init : goal.loop-last-init
loop-last-init c = (refl, reordered-same _)

pub returns-in-Ok-clause-same : goal.returns-in-Ok-clause-same
returns-in-Ok-clause-same c = reordered-trans c.loop-last.invariant.1 c.try_part.ensures.same

pub returns-then-left-cost-clause-same : goal.returns-then-left-cost-clause-same
returns-then-left-cost-clause-same c = reordered-trans c.loop-last.invariant.1 c.try_part.ensures.same

pub loop-last-preserved : goal.loop-last-preserved
loop-last-preserved c =
    let inv = c.loop-last.invariant in
    let tried = c.try_part in
    let size : length tried.new.b ≡ length c.args.b.now = tried.auto.b ∙ inv.0 in (
      c.swap_rows.auto.cells ∙ size,
      reordered-swap _ _ _ _ _ _ c.requires.2 size (reordered-trans inv.1 tried.ensures.same) (omega arith) (omega arith)
          c.swap_rows.auto.cells c.swap_rows.ensures,
    )
