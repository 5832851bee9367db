-- `is_short` meets its contract: the first i heads do not outnumber the tally.
-- Assumes nothing.
use native.Mathlib.Omega.{arith}
use mathlib.Core.Path.{refl}
use Rattle.tallies.proofs.CountLaws.{sufficing-start, sufficing-none, sufficing-many, earlier-few}
use Rattle.tallies.proofs.CountLaws.{sufficing-some, sufficing-short, sufficing-end}
use Rattle.tallies.proofs.counting.is_short.Goals as goal
use Rattle.tallies.proofs.counting.is_short.Goals.{then-there-i+else-there-wanted, else-there-i}

pub returns-then-there-eq0 : goal.returns-then-there-eq0
returns-then-there-eq0 c =
    sufficing-none _ _ _ c.loop-i.invariant (omega (arith, c.loop-i-test.true, c.requires)) _ _ refl
    c.tally_at-there.ensures c.if-there-eq0.true

pub returns-then-there-wanted : goal.returns-then-there-wanted
returns-then-there-wanted c =
    sufficing-short _ _ _ c.loop-i.invariant (omega (arith, c.loop-i-test.true, c.requires)) _ _ refl
    c.tally_at-there.ensures _ c.count_symbol-wanted.ensures _ refl c.if-there-wanted.true

pub loop-i-init : goal.loop-i-init
loop-i-init c = sufficing-start _ _

pub overflow_add-wanted : goal.overflow_add-wanted
overflow_add-wanted c =
    let few = earlier-few _ _ _ c.loop-i.invariant (omega arith) _ _ refl c.tally_at-there.ensures
    _ c.count_symbol-wanted.ensures in
    omega (arith, few)

pub loop-i-preserved : goal.loop-i-preserved
loop-i-preserved c =
    elim c.if-there-i.branch [
      | then-there-i+else-there-wanted w ↦ sufficing-some _ _ _ c.loop-i.invariant
          (omega (arith, c.loop-i-test.true, c.requires)) _ _ refl c.tally_at-there.ensures
          _ w.count_symbol-wanted.ensures _ refl w.if-there-wanted.false
      | else-there-i w ↦ sufficing-many _ _ _ c.loop-i.invariant
          (omega (arith, c.loop-i-test.true, c.requires)) _ _ refl c.tally_at-there.ensures w.if-there-i.false
    ]

pub returns : goal.returns
returns c =
    sufficing-end _ _ _ c.loop-i.invariant
    (omega (arith, c.loop-i-test.false, c.requires))
