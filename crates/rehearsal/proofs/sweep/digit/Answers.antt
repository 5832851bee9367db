-- `rehearsal::sweep::digit` meets its contract. Assumes nothing.
use borrow.Author.Rules.{rules}
use Rattle.rehearsal.proofs.SweepLaws.{digit_low, digit-high}
use Rattle.rehearsal.proofs.sweep.digit.Goals as goal

pub returns-then-number-lt10 : goal.returns-then-number-lt10
returns-then-number-lt10 c = search (rules, digit_low)

pub returns : goal.returns
returns c = search (rules, digit-high)
