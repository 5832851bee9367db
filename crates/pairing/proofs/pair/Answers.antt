-- `pair` meets its contract: one law for each way out.
-- Assumes nothing.
use Rattle.pairing.proofs.PairLaws.{link-constant, link-constants, link_apart, link-partners, link_left, link-right, link-new}
use Rattle.pairing.proofs.pair.Goals as goal
use Rattle.pairing.proofs.pair.Goals.{then-forth-i-ne0-via-then-forth-i-ne0, then-forth-i-ne0-via-else-forth-i-ne0+then-back-j-ne0}

pub returns : goal.returns
returns c =
    link-new _ _ _ _ _ _ c.wide-i.ensures.0 c.wide-j.ensures.0 c.if-x-lt-FIRST_VARIABLE.false c.if-y-lt-FIRST_VARIABLE.false
    c.if-forth-i.false c.if-forth-i-ne0.false c.if-back-j-ne0.false c.requires.0 c.requires.1

pub returns-then-x-y : goal.returns-then-x-y
returns-then-x-y c = search link-constant

pub returns-else-x-y : goal.returns-else-x-y
returns-else-x-y c = search link-constants

pub returns-then-y-lt-FIRST_VARIABLE : goal.returns-then-y-lt-FIRST_VARIABLE
returns-then-y-lt-FIRST_VARIABLE c = search link_apart

pub returns-then-forth-i : goal.returns-then-forth-i
returns-then-forth-i c = search link-partners

pub returns-then-forth-i-ne0 : goal.returns-then-forth-i-ne0
returns-then-forth-i-ne0 c =
    elim c.then-forth-i-ne0.branch [
      | then-forth-i-ne0-via-then-forth-i-ne0 w ↦ search link_left
      | then-forth-i-ne0-via-else-forth-i-ne0+then-back-j-ne0 w ↦ search link-right
    ]
