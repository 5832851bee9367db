-- `tables::names::name_length` meets its contract: no byte passed is a comma or a line feed. Assumes nothing.
use Rattle.std.proofs.Common.{add-one, arith}
use Rattle.tables.proofs.NameLaws.{word-comma, word-feed, word_end, word-step}
use Rattle.tables.proofs.names.name_length.Goals as goal
use Rattle.tables.proofs.names.name_length.Goals.{then-b-eq44-via-then-b-eq44, then-b-eq44-via-else-b-eq44+then-b-eq10}

pub returns-then-b-eq44 : goal.returns-then-b-eq44
returns-then-b-eq44 c =
    let s = c.args.s.now in
    let i = c.loop-i.i in
    let inside = c.loop-i-test.true in
    elim c.then-b-eq44.branch [
      | then-b-eq44-via-then-b-eq44 w ↦ (omega (arith, word-comma s i inside w.if-b-eq44.true), omega arith)
      | then-b-eq44-via-else-b-eq44+then-b-eq10 w ↦ (omega (arith, word-feed s i inside w.if-b-eq10.true), omega arith)
    ]

pub loop-i-preserved : goal.loop-i-preserved
loop-i-preserved c =
    let s = c.args.s.now in
    let i = c.loop-i.i in
    (omega arith, rw add-one (omega (arith, word-step s i c.loop-i-test.true c.if-b-eq44.false c.if-b-eq10.false)))

pub returns : goal.returns
returns c = (omega (arith, word_end c.args.s.now c.loop-i.i c.loop-i-test.false), omega arith)
