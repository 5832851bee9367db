-- `comparison::placing::attempt` and `place`, which call one another, meet their contracts: one law for each way out. Assumes
-- nothing.
use Rattle.std.proofs.Common.{◌∙◌, arith}
use Rattle.comparison.proofs.PlaceLaws.{try-rows-in, try-others, try-found, try-dead, behind-length}
use Rattle.comparison.proofs.PlaceLaws.{placing-none, placing-start, placing-end, placing-found, placing-next}
use Rattle.comparison.proofs.placing.+attempt_place.Goals as goal

pub attempt-place-requires : goal.attempt-place-requires
attempt-place-requires t c =
    let paired = c.pair_at in
    let asked = c.requires in (
      omega (arith, c.decreases, behind-length c.args.a.now asked.2),
      try-others _ _ _ _ _ _ asked.0 asked.1 asked.2 _ _ _ _ c.in-Some.ensures paired.auto.forth paired.auto.back,
    )

pub attempt-returns-then-place : goal.attempt-returns-then-place
attempt-returns-then-place t c =
    let asked = c.requires in
    try-found _ _ _ _ _ _ asked.0 asked.1 asked.2 _ _ _ _ c.in-Some.ensures _ _ _ _ c.place.ensures c.if-place.true

pub attempt-unpair-requires : goal.attempt-unpair-requires
attempt-unpair-requires t c =
    let asked = c.requires in
    let paired = c.pair_at in (
      try-rows-in _ _ _ _ _ _ asked.0 asked.1 asked.2 _ _ (c.place.auto.forth ∙ paired.auto.forth)
          (c.place.auto.back ∙ paired.auto.back),
      c.in-Some.ensures.size,
    )

pub attempt-returns : goal.attempt-returns
attempt-returns t c =
    let asked = c.requires in
    try-dead _ _ _ _ _ _ asked.0 asked.1 asked.2 _ _ _ _ c.in-Some.ensures _ _ _ _ c.place.ensures c.if-place.false
    _ _ c.unpair.ensures.0 c.unpair.ensures.1

pub place-returns-then-a-lt5 : goal.place-returns-then-a-lt5
place-returns-then-a-lt5 t c = placing-none _ _ _ _ _ c.requires c.if-a-lt5.true

pub place-loop-j-init : goal.place-loop-j-init
place-loop-j-init t c = placing-start _ _ _ _ _ c.requires c.if-a-lt5.false

pub place-returns-then-attempt : goal.place-returns-then-attempt
place-returns-then-attempt t c =
    placing-found _ _ _ _ _ c.requires c.if-a-lt5.false _ _ _ _ c.loop-j.invariant c.loop-j-test.true
    _ _ _ _ c.attempt.ensures c.if-attempt.true

pub place-loop-j-preserved : goal.place-loop-j-preserved
place-loop-j-preserved t c =
    placing-next _ _ _ _ _ c.requires c.if-a-lt5.false _ _ _ _ c.loop-j.invariant c.loop-j-test.true
    _ _ _ _ c.attempt.ensures c.if-attempt.false

pub place-returns : goal.place-returns
place-returns t c =
    placing-end _ _ _ _ _ c.requires c.if-a-lt5.false _ _ _ _ c.loop-j.invariant c.loop-j-test.false
