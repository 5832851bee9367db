-- `fire_front` meets its contract: behind the first constraints, or as `fire` does.
-- Assumes nothing.
use native.Mathlib.Omega.{arith}
use Rattle.engine.proofs.FrontLaws.{front-completes, front-done, front-skips}
use Rattle.engine.proofs.firing.fire_front.Goals as goal

pub complete-count-requires : goal.complete-count-requires
complete-count-requires c =
    front-completes _ _ _ _ _ _ c.requires.0 c.requires.1 _ _ c.wide-heads.ensures.0 c.wide-kept.ensures.0
    (c.is_front.ensures c.if-is_front.true)

pub returns-then-is_front : goal.returns-then-is_front
returns-then-is_front c =
    let pre' = c.requires in
    let heads' = c.wide-heads.ensures.0 in
    let kept' = c.wide-kept.ensures.0 in
    let first' = c.is_front.ensures c.if-is_front.true in (
      front-done _ _ _ _ _ _ pre'.0 pre'.1 _ _ heads' kept' first' _ _ _ _ _ c.complete-count.ensures,
      front-skips _ _ _ _ _ _ pre'.0 pre'.1 _ _ heads' kept' first' _ _ _ _ _ c.complete-count.ensures,
      omega (arith, heads', kept'),
    )
