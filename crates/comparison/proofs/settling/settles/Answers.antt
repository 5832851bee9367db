-- `settles` meets its contract: it starts with no partners and no position used.
-- Assumes nothing.
use Rattle.comparison.proofs.SettleLaws.{found_all}
use Rattle.comparison.proofs.settling.settles.Goals as goal

pub returns : goal.returns
returns c =
    found_all c.args.bound_a.now c.args.a.now c.args.bound_b.now c.args.b.now _ c.requires.0.count
    c.requires.1.count 2844 _ _ _
    c.pair_bound.ensures c.if-not-pair_bound.false _ c.settle_all.ensures
