-- `text::fields::word_end` meets its contract: no byte passed ends the word, so it ends at the same place from each.
-- Assumes nothing.
use Rattle.std.proofs.Common.{arith}
use Rattle.text.proofs.Words.{word-comma, word-feed, word-step, word_end}
use Rattle.text.proofs.fields.word_end.Goals as goal
use Rattle.text.proofs.fields.word_end.Goals.{then-s-i-eq44-via-then-s-i-eq44, then-s-i-eq44-via-else-s-i-eq44+then-s-i-eq10}

pub returns-then-s-i-eq44 : goal.returns-then-s-i-eq44
returns-then-s-i-eq44 c =
    let s = c.args.s.now in
    let i = c.loop-i.i in
    let inv = c.loop-i.invariant in
    let inside = c.loop-i-test.true in
    elim c.then-s-i-eq44.branch [
      | then-s-i-eq44-via-then-s-i-eq44 w ↦ (word-comma s _ i inv inside w.if-s-i-eq44.true, omega arith, omega arith)
      | then-s-i-eq44-via-else-s-i-eq44+then-s-i-eq10 w ↦ (word-feed s _ i inv inside w.if-s-i-eq10.true, omega arith, omega arith)
    ]

pub loop-i-preserved : goal.loop-i-preserved
loop-i-preserved c =
    word-step _ _ _ c.loop-i.invariant c.loop-i-test.true c.if-s-i-eq44.false c.if-s-i-eq10.false

pub returns : goal.returns
returns c =
    let end = word_end c.args.s.now _ c.loop-i.i c.loop-i.invariant c.loop-i-test.false in
    (omega arith, omega arith, omega arith)
