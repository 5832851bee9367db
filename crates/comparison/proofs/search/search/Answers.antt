-- `search` meets its contract: it starts with no partners and no position used.
-- Assumes nothing.
use mathlib.Core.Path.{refl}
use Rattle.comparison.proofs.SearchLaws.{search-apart, search-answer}
use Rattle.comparison.proofs.search.search.Goals as goal

pub returns-then-not-pair_bound : goal.returns-then-not-pair_bound
returns-then-not-pair_bound c =
    search-apart c.args.a.now _ c.args.bound_a.now c.args.b.now _ c.args.bound_b.now c.requires.0.count
    c.requires.1.count 2844
    _ _ _ c.pair_bound.ensures c.if-not-pair_bound.true

pub returns : goal.returns
returns c =
    search-answer c.args.a.now _ c.args.bound_a.now c.args.b.now _ c.args.bound_b.now c.requires.0.count
    c.requires.1.count 2844
    _ _ _ c.pair_bound.ensures c.if-not-pair_bound.false refl _ _ _ _ c.place.ensures
