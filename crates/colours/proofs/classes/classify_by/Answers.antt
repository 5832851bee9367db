-- `colours::classes::classify_by` meets its contract. Assumes nothing.
use Rattle.std.proofs.Common.{◌<◌, ℕ, get_or, rules}
use Rattle.colours.proofs.ClassLaws.{classified-apart, classified-same}
use Rattle.colours.proofs.classes.classify_by.Goals as goal

pub returns-then-sum : goal.returns-then-sum
returns-then-sum c =
    classified-apart _ _ _ _ _ _ _ _ c.make_keys.ensures c.make_keys-2.ensures _ _
    c.sum.ensures c.sum-2.ensures c.if-sum.true

pub returns : goal.returns
returns c =
    let sa : (i : ℕ) → get_or c.args.a.now i 0 < 65536 = search rules in
    let sb : (i : ℕ) → get_or c.args.b.now i 0 < 65536 = search rules in
    classified-same _ _ _ _ _ _ _ _ c.make_keys.ensures c.make_keys-2.ensures sa sb _ _ c.relabel.ensures c.relabel-2.ensures
