-- `judge_pairing` meets its contract: partners that join no head are no pairing, others are an overlap, which is judged.
-- Assumes nothing.
use native.Mathlib.Omega.{arith}
use Rattle.critical.proofs.StandLaws.{pair-few}
use Rattle.critical.proofs.StepLaws.{leaf-count, leaf_room, leaf-lent, leaf-nothing, leaf-whole}
use Rattle.critical.proofs.StepLaws.{leaf-used, leaf-share, leaf-goal, leaf-judged, leaf-joins, leaf-parts}
use Rattle.critical.proofs.walking.judge_pairing.Goals as goal

pub is_alone-requires : goal.is_alone-requires
is_alone-requires c =
    ((pair-few _ _ _ _ _ _ c.requires.0.pair).0, c.requires.0.partners-size)

pub returns-then-is_alone : goal.returns-then-is_alone
returns-then-is_alone c =
    leaf-nothing _ _ _ _ _ _ _ _ _ c.requires.0 _ c.if-is_alone.true c.is_alone.ensures

pub overflow_add-e : goal.overflow_add-e
overflow_add-e c =
    omega (arith, leaf_room _ _ _ _ _ _ _ _ _ c.requires.0)

pub overflow_mul-e : goal.overflow_mul-e
overflow_mul-e c =
    omega (arith, leaf_room _ _ _ _ _ _ _ _ _ c.requires.0)

pub slice_bounds-made-end : goal.slice_bounds-made-end
slice_bounds-made-end c =
    omega (arith, leaf_room _ _ _ _ _ _ _ _ _ c.requires.0)

pub slice_bounds-finish-end : goal.slice_bounds-finish-end
slice_bounds-finish-end c = leaf-lent _ _ _ _ _ _ _ _ _ c.requires.0

pub finish-goal-requires : goal.finish-goal-requires
finish-goal-requires c = leaf-whole _ _ _ _ _ _ _ _ _ c.requires.0

pub overflow_mul-used : goal.overflow_mul-used
overflow_mul-used c =
    let used =
    leaf-used _ _ _ _ _ _ _ _ _ c.requires.0 _ c.if-is_alone.false c.is_alone.ensures _ _ _
    c.finish-goal.auto.cells c.finish-goal.ensures in
    omega (arith, used)

pub second_positions-positions-requires : goal.second_positions-positions-requires
second_positions-positions-requires c =
    let few = pair-few _ _ _ _ _ _ c.requires.0.pair in
    (few.0, few.1, c.requires.0.partners-size)

pub slice_bounds-made-end-2 : goal.slice_bounds-made-end-2
slice_bounds-made-end-2 c =
    leaf-share _ _ _ _ _ _ _ _ _ c.requires.0 _ c.if-is_alone.false c.is_alone.ensures _ _ _
    c.finish-goal.auto.cells c.finish-goal.ensures _

pub slice_bounds-joins-end : goal.slice_bounds-joins-end
slice_bounds-joins-end c =
    leaf-goal _ _ _ _ _ _ _ _ _ c.requires.0 _ c.if-is_alone.false c.is_alone.ensures _ _ _
    c.finish-goal.auto.cells c.finish-goal.ensures _

pub joins-requires : goal.joins-requires
joins-requires c = (
  leaf-judged _ _ _ _ _ _ _ _ _ c.requires.0 _ c.if-is_alone.false c.is_alone.ensures _ _ _
      c.finish-goal.auto.cells c.finish-goal.ensures _
      c.second_positions-positions.ensures.1 c.second_positions-positions.ensures.0 _,
  c.requires.1.first,
  c.requires.1.second,
)

pub overflow_add-result : goal.overflow_add-result
overflow_add-result c =
    omega (arith, leaf-count _ _ _ _ _ _ _ _ _ c.requires.0)

pub returns-then-joins : goal.returns-then-joins
returns-then-joins c =
    leaf-joins _ _ _ _ _ _ _ _ _ c.requires.0 _ c.if-is_alone.false c.is_alone.ensures _ _ _
    c.finish-goal.auto.cells c.finish-goal.ensures _
    c.second_positions-positions.ensures.1 c.second_positions-positions.ensures.0 _ _
    c.joins.ensures c.if-joins.true

pub returns : goal.returns
returns c =
    leaf-parts _ _ _ _ _ _ _ _ _ c.requires.0 _ c.if-is_alone.false c.is_alone.ensures _ _ _
    c.finish-goal.auto.cells c.finish-goal.ensures _
    c.second_positions-positions.ensures.1 c.second_positions-positions.ensures.0 _ _
    c.joins.ensures c.if-joins.false
