-- `pairing::pair_rows` meets its contract. Assumes nothing.
use Rattle.pairing.proofs.PairLaws.{columns-start, columns-end, columns-over, columns-short}
use Rattle.pairing.proofs.PairLaws.{columns-apart, columns-next, columns-done}
use Rattle.pairing.proofs.pair_rows.Goals as goal

pub returns-in_default : goal.returns-in_default
returns-in_default c =
    columns-apart _ _ _ _ _ _ _ _ c.requires c.loop-i.invariant c.loop-i-test.true c.if-x-eq0.false c.if-y-eq0-2.false
    _ _ c.in_default.ensures

pub loop-i-preserved : goal.loop-i-preserved
loop-i-preserved c =
    columns-next _ _ _ _ _ _ _ _ c.requires c.loop-i.invariant c.loop-i-test.true c.if-x-eq0.false c.if-y-eq0-2.false
    _ _ _ c.in-Some.ensures c.pair.auto.forth c.pair.auto.back

pub loop-i-init : goal.loop-i-init
loop-i-init c = search columns-start

pub returns-then-y-eq0 : goal.returns-then-y-eq0
returns-then-y-eq0 c = search columns-end

pub returns-else-y-eq0 : goal.returns-else-y-eq0
returns-else-y-eq0 c = search columns-over

pub returns-then-y-eq0-2 : goal.returns-then-y-eq0-2
returns-then-y-eq0-2 c = search columns-short

pub returns : goal.returns
returns c = search columns-done
