-- `part` meets its contract: both states in another order answer for those at the start, and so does what is left of them.
-- Assumes nothing.
use native.Mathlib.Omega.{arith}
use Rattle.comparison.proofs.NarrowLaws.{narrowing-answer}
use Rattle.comparison.proofs.PartingLaws.{rest-colourable, lined-up, parting-rest}
use Rattle.comparison.proofs.parting.part.Goals as goal

pub returns-then-not-cancels : goal.returns-then-not-cancels
returns-then-not-cancels c =
    let made = c.line_up-k in
    let lined = lined-up _ _ _ _ _ _ c.requires.0 c.requires.1 _ _ made.auto.a made.ensures.0 made.auto.b made.ensures.1 in
    narrowing-answer _ _ _ _ _ _ _ _ lined _ c.narrow.ensures

pub narrow-requires-2 : goal.narrow-requires-2
narrow-requires-2 c =
    let made = c.line_up-k in
    let lined = lined-up _ _ _ _ _ _ c.requires.0 c.requires.1 _ _ made.auto.a made.ensures.0 made.auto.b made.ensures.1 in (
      rest-colourable _ _ _ _ _ lined.left made.ensures.2,
      rest-colourable _ _ _ _ _ lined.right made.ensures.2,
      c.requires.2,
      omega (arith, c.requires.3),
    )

pub returns : goal.returns
returns c =
    let made = c.line_up-k in
    let lined = lined-up _ _ _ _ _ _ c.requires.0 c.requires.1 _ _ made.auto.a made.ensures.0 made.auto.b made.ensures.1 in
    parting-rest _ _ _ _ _ _ _ _ _ lined made.ensures.2 _ c.cancels.ensures
    c.if-not-cancels.false _ c.narrow-2.ensures
