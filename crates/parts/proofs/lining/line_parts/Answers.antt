-- `line_parts` meets its contract: both states have the same constraints after each part.
-- Assumes nothing.
use Rattle.std.proofs.Common.{refl, ◌∙◌, arith}
use Rattle.parts.proofs.LineLaws.{reordered-same, reordered-trans, rows-count}
use Rattle.parts.proofs.lining.line_parts.Goals as goal

pub loop-s-init : goal.loop-s-init
loop-s-init c = (omega arith, omega arith, refl, reordered-same _, refl, reordered-same _)

pub loop-s-preserved-in-Some : goal.loop-s-preserved-in-Some
loop-s-preserved-in-Some c =
    let inv = c.loop-s.invariant in
    let made = c.line_part in (
      omega (arith, c.in-Some.ensures.ends),
      inv.1,
      inv.2,
      inv.3,
      made.auto.b ∙ inv.4,
      reordered-trans inv.5 made.ensures.same,
    )

pub returns-then-left-eq0 : goal.returns-then-left-eq0
returns-then-left-eq0 c =
    let inv = c.loop-s.invariant in
    (inv.3, reordered-trans inv.5 c.line_part.ensures.same, omega arith)

-- what is put off is whole constraints
pub put_off-top-requires : goal.put_off-top-requires
put_off-top-requires c =
    let inv = c.loop-s.invariant in
    (rows-count _ _ (inv.2 ∙ c.requires.0), omega (arith, inv.1, inv.2, c.requires.0), c.loop-s-test.true)

pub loop-s-preserved : goal.loop-s-preserved
loop-s-preserved c =
    let inv = c.loop-s.invariant in
    let made = c.line_part in
    let off = c.put_off-top in (
      omega (arith, off.ensures.2),
      omega (arith, inv.1),
      off.auto.a ∙ inv.2,
      reordered-trans inv.3 off.ensures.0,
      made.auto.b ∙ inv.4,
      reordered-trans inv.5 made.ensures.same,
    )
