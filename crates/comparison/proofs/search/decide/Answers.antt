-- `decide` meets its contract: with classes for symbols, and then in another order, the states answer for those at the start.
-- Assumes nothing.
use Rattle.comparison.proofs.NarrowLaws.{narrowing-classes, narrowing-order}
use Rattle.comparison.proofs.NarrowLaws.{narrowing-found, narrowing-answer}
use Rattle.comparison.proofs.search.decide.Goals as goal

pub returns-then-settles : goal.returns-then-settles
returns-then-settles c =
    let classed =
    narrowing-classes _ _ _ _ _ _ c.requires.0 c.requires.1 _ _ _ c.classify.ensures c.if-not-classify.false
    c.classify.auto.a c.classify.auto.b in
    let ordered = narrowing-order _ _ _ _ _ _ _ _ classed _ c.arrange.auto.cells c.arrange.ensures in
    narrowing-found _ _ _ _ _ _ _ _ ordered _ c.settles.ensures c.if-settles.true

pub returns : goal.returns
returns c =
    let classed =
    narrowing-classes _ _ _ _ _ _ c.requires.0 c.requires.1 _ _ _ c.classify.ensures c.if-not-classify.false
    c.classify.auto.a c.classify.auto.b in
    let ordered = narrowing-order _ _ _ _ _ _ _ _ classed _ c.arrange.auto.cells c.arrange.ensures in
    narrowing-answer _ _ _ _ _ _ _ _ ordered _ c.part_fixed.ensures
