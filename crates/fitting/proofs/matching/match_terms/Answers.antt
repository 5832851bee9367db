-- `match_terms` meets its contract: the columns from i on, under the bindings so far, give the answer for all columns.
-- Assumes nothing.
use Rattle.std.proofs.Common.{arith}
use Rattle.fitting.proofs.MatchLaws.{walk_start, walk-head-ends, walk-constraint-ends, walk-letter, walk-fails}
use Rattle.fitting.proofs.MatchLaws.{walk-fits, walk_end}
use Rattle.fitting.proofs.matching.match_terms.Goals as goal
use Rattle.fitting.proofs.matching.match_terms.Goals.{then-t-eq0-via-then-t-eq0, then-t-eq0-via-else-t-eq0+then-not-match_term}

pub loop-i-init : goal.loop-i-init
loop-i-init c = walk_start _ _ _ (c.requires)

pub returns-then-h-eq0 : goal.returns-then-h-eq0
returns-then-h-eq0 c = search walk-head-ends

pub returns-then-t-eq0 : goal.returns-then-t-eq0
returns-then-t-eq0 c =
    elim c.then-t-eq0.branch [
      | then-t-eq0-via-then-t-eq0 w ↦ rw w.bindings-is (walk-constraint-ends _ _ _ _ _ c.loop-i.invariant c.loop-i-test.true
          c.if-h-eq0.false w.if-t-eq0.true)
      | then-t-eq0-via-else-t-eq0+then-not-match_term w ↦ rw w.bindings-is (walk-fails _ _ _ _ _ c.loop-i.invariant
          c.loop-i-test.true c.if-h-eq0.false w.if-t-eq0.false _ _ w.match_term.ensures w.if-not-match_term.true)
    ]

pub match_term-requires : goal.match_term-requires
match_term-requires c = (
  walk-letter _ _ _ _ _ c.loop-i.invariant c.loop-i-test.true c.if-h-eq0.false,
  omega (
    arith,
    c.if-t-eq0.false,
  ),
  c.loop-i.invariant.size,
)

pub loop-i-preserved : goal.loop-i-preserved
loop-i-preserved c =
    walk-fits _ _ _ _ _ c.loop-i.invariant c.loop-i-test.true c.if-h-eq0.false c.if-t-eq0.false
    _ _ c.match_term.ensures c.if-not-match_term.false

pub returns : goal.returns
returns c = search walk_end
