-- `judge_from` meets its contract: both sides go on to their ends, and these are compared.
-- Assumes nothing.
use Rattle.std.proofs.Common.{refl, ap}
use Rattle.std.specs.Prelude.{is_some}
use Rattle.judging.proofs.JoinLaws.{joins-failed, joins-apart, joins-counts, joins-compared}
use Rattle.judging.proofs.judge_from.Goals as goal

pub returns-in_default : goal.returns-in_default
returns-in_default c =
    joins-failed c.follow_both-ends.ensures.first c.follow_both-ends.ensures.second (ap is_some c.in_default.is) _
    c.is_none.ensures

pub returns-in_default-count : goal.returns-in_default-count
returns-in_default-count c =
    joins-apart c.follow_both-ends.ensures.first c.follow_both-ends.ensures.second (ap is_some c.in-Some.is)
    (ap is_some c.in_default-count.is)

pub returns-then-k-n : goal.returns-then-k-n
returns-then-k-n c =
    let first = rw c.in-Some.is at c.follow_both-ends.ensures.first in
    let second = rw c.in-Some-count.is at c.follow_both-ends.ensures.second in
    joins-counts first second refl refl c.if-k-n.true

pub returns : goal.returns
returns c =
    let first = rw c.in-Some.is at c.follow_both-ends.ensures.first in
    let second = rw c.in-Some-count.is at c.follow_both-ends.ensures.second in
    joins-compared first second refl refl _ c.if-k-n.false c.same_ends.ensures
