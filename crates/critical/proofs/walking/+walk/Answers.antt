-- `walk` meets its contract: of the overlaps whose partners begin so, those with partner d or a later one are left. The heads
-- that are left fall at each call.
-- Assumes nothing.
use Rattle.std.proofs.Common.{arith, refl, ◌∙◌}
use Rattle.std.proofs.lemmas.Result.{err_from_is_err_and}
use Rattle.critical.proofs.StandLaws.{pair-few}
use Rattle.critical.proofs.StepLaws.{room-kept, leaf-start, leaf_walked, step_room, step-lent}
use Rattle.critical.proofs.StepLaws.{step-partner, step_start}
use Rattle.critical.proofs.StepLaws.{step_cut, step-next, step-stop, step-on, step_end}
use Rattle.critical.proofs.walking.+walk.Goals as goal
use Rattle.critical.proofs.walking.+walk.Goals.{then-join_partner+in_ok-seen, else-join_partner}

pub judge_pairing-requires : goal.judge_pairing-requires
judge_pairing-requires t c =
    (leaf-start _ _ _ _ _ _ _ _ _ _ c.requires.0 c.if-left-eq0.true, c.requires.1)

pub returns-then-left-eq0 : goal.returns-then-left-eq0
returns-then-left-eq0 t c =
    leaf_walked _ _ _ _ _ _ _ _ _ c.if-left-eq0.true c.judge_pairing.ensures

pub overflow_add-e : goal.overflow_add-e
overflow_add-e t c =
    omega (arith, step_room _ _ _ _ _ _ _ _ _ _ c.requires.0 c.if-left-eq0.false)

pub overflow_mul-e : goal.overflow_mul-e
overflow_mul-e t c =
    omega (arith, step_room _ _ _ _ _ _ _ _ _ _ c.requires.0 c.if-left-eq0.false)

pub loop-d-init : goal.loop-d-init
loop-d-init t c =
    (step_start _ _ _ _ _ _ _ _ _ _ c.requires.0 c.if-left-eq0.false, refl, refl)

pub slice_bounds-joined-end : goal.slice_bounds-joined-end
slice_bounds-joined-end t c =
    omega (arith, step_room _ _ _ _ _ _ _ _ _ _ c.requires.0 c.if-left-eq0.false)

pub slice_bounds-join_partner-end : goal.slice_bounds-join_partner-end
slice_bounds-join_partner-end t c =
    step-lent _ _ _ _ _ _ _ _ _ _ c.requires.0 c.if-left-eq0.false

pub join_partner-requires : goal.join_partner-requires
join_partner-requires t c =
    step-partner _ _ _ _ _ _ _ _ _ _ c.requires.0 c.if-left-eq0.false _ (omega (arith, c.loop-d-test.true))

pub offset_bounds-more-h : goal.offset_bounds-more-h
offset_bounds-more-h t c =
    omega (arith, (pair-few _ _ _ _ _ _ c.requires.0.pair).0, c.if-left-eq0.false, c.requires.0.there)

pub bounds-more-h : goal.bounds-more-h
bounds-more-h t c =
    omega (arith, (pair-few _ _ _ _ _ _ c.requires.0.pair).0, c.if-left-eq0.false, c.requires.0.there)

pub walk-requires : goal.walk-requires
walk-requires t c = (
  omega arith,
  (
    step-next _ _ _ _ _ _ _ _ _ _ c.requires.0 c.if-left-eq0.false _ _ c.loop-d.invariant.0
        (omega (arith, c.loop-d-test.true)) _ _ c.join_partner.ensures c.join_partner.auto.cells
        c.if-join_partner.true,
    room-kept c.requires.1 c.loop-d.invariant.1 c.loop-d.invariant.2,
  ),
)

pub returns-in_err-seen : goal.returns-in_err-seen
returns-in_err-seen t c =
    let p = err_from_is_err_and c.from_residual.result c.from_residual.ensures.1 in
    rw (p.1, p.2)
    (step-stop _ _ _ _ _ _ _ _ _ _ c.requires.0 c.if-left-eq0.false _ _ c.loop-d.invariant.0
    (omega (arith, c.loop-d-test.true)) _ _ c.join_partner.ensures c.join_partner.auto.cells
    c.if-join_partner.true _ c.in_err-seen.ensures)

pub loop-d-preserved : goal.loop-d-preserved
loop-d-preserved t c =
    elim c.if-join_partner.branch [
      | then-join_partner+in_ok-seen w ↦
          rw (w.one-is, w.two-is, w.seen-is) (
            step-on _ _ _ _ _ _ _ _ _ _ c.requires.0 c.if-left-eq0.false _ _ c.loop-d.invariant.0
                (omega (arith, c.loop-d-test.true)) _ _ c.join_partner.ensures c.join_partner.auto.cells
                w.if-join_partner.true _ w.in_ok-seen.ensures,
            w.walk.auto.one ∙ c.loop-d.invariant.1,
            w.walk.auto.two ∙ c.loop-d.invariant.2,
          )
      | else-join_partner w ↦
          rw (w.one-is, w.two-is, w.seen-is) (
            step_cut _ _ _ _ _ _ _ _ _ _ c.requires.0 c.if-left-eq0.false _ _ c.loop-d.invariant.0
                (omega (arith, c.loop-d-test.true)) _ _ c.join_partner.ensures c.join_partner.auto.cells
                w.if-join_partner.false,
            c.loop-d.invariant.1,
            c.loop-d.invariant.2,
          )
    ]

pub returns : goal.returns
returns t c =
    step_end _ _ _ _ _ _ _ _ _ _ c.requires.0 c.if-left-eq0.false _ _ c.loop-d.invariant.0
    (omega (arith, c.loop-d-test.false))
