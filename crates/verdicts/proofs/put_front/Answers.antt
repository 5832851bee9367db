-- `verdicts::put_front` meets its contract: the rules, the pairs and the goal. Assumes nothing.
use borrow.Author.Rules.{rules}
use mathlib.Core.Path.{◌≡◌, sym}
use native.Mathlib.Omega.{arith}
use lib.ListN.{length}
use lib.Seq.{length-take-le}
use Rattle.listing.proofs.WriteLaws.{wrote_then, wrote-is, count-is, count-first, count_next}
use Rattle.verdicts.proofs.CheckLaws.{front-is}
use Rattle.verdicts.proofs.put_front.Goals as goal

pub put_rules-first-requires : goal.put_rules-first-requires
put_rules-first-requires c =
    let all = count-is (front-is _ _ _ _) c.requires.0 in
    (count-first _ all, c.requires.1.first-few, c.requires.1.second-few)

pub slice_bounds-partners-end : goal.slice_bounds-partners-end
slice_bounds-partners-end c =
    let few = c.requires.1.heads-few in
    let own = c.well_formed in
    let size : length c.args.shown.partners ≡ 4 = search (rules, own) in
    omega (arith, few, size)

pub slice_bounds-put_pairs-end : goal.slice_bounds-put_pairs-end
slice_bounds-put_pairs-end c =
    let few = c.requires.1.heads-few in
    let own = c.well_formed in
    let size : length c.args.shown.partners ≡ 4 = search (rules, own) in
    sym (length-take-le c.args.shown.heads c.args.shown.partners (omega (arith, few, size)))

pub put_pairs-pairs-requires : goal.put_pairs-pairs-requires
put_pairs-pairs-requires c =
    let all = count-is (front-is _ _ _ _) c.requires.0 in
    count-first _ (count_next all c.put_rules-first.ensures)

pub put_rows-requires : goal.put_rows-requires
put_rows-requires c =
    let all = count-is (front-is _ _ _ _) c.requires.0 in
    count_next (count_next all c.put_rules-first.ensures) c.put_pairs-pairs.ensures

pub returns : goal.returns
returns c =
    let rules = c.put_rules-first in
    let pairs = c.put_pairs-pairs in
    wrote-is (sym (front-is _ _ _ _))
    (wrote_then rules.ensures (wrote_then pairs.ensures c.put_rows.ensures pairs.auto.out) rules.auto.out)
