-- `count_symbol` meets its contract: k of the first i constraints have the symbol.
-- Assumes nothing.
use Rattle.std.proofs.Common.{arith, refl}
use Rattle.tallies.proofs.CountLaws.{counting-start, counting-own, counting-other, counting-end}
use Rattle.tallies.proofs.counting.count_symbol.Goals as goal
use Rattle.tallies.proofs.counting.count_symbol.Goals.{then-cells-i, else-cells-i}

pub loop-i-init : goal.loop-i-init
loop-i-init c = counting-start _ _

pub loop-i-preserved : goal.loop-i-preserved
loop-i-preserved c =
    elim c.if-cells-i.branch [
      | then-cells-i w ↦ rw w.k-is
          (counting-own _ _ _ _ c.loop-i.invariant (omega (arith, c.loop-i-test.true, c.requires)) _ refl w.if-cells-i.true)
      | else-cells-i w ↦ rw w.k-is
          (counting-other _ _ _ _ c.loop-i.invariant (omega (arith, c.loop-i-test.true, c.requires)) _ refl w.if-cells-i.false)
    ]

pub returns : goal.returns
returns c =
    counting-end _ _ _ _ c.loop-i.invariant (omega (arith, c.loop-i-test.false, c.requires))
