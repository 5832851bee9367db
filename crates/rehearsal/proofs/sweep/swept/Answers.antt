-- `rehearsal::sweep::swept` meets its contract. Assumes nothing.
use borrow.Author.Rules.{rules}
use Rattle.rehearsal.proofs.SweepLaws.{program-swept, goal-swept, nothing-swept}
use Rattle.rehearsal.proofs.sweep.swept.Goals as goal

pub returns-then-i-lt26 : goal.returns-then-i-lt26
returns-then-i-lt26 c = search (rules, program-swept)

pub returns-then-i-lt42 : goal.returns-then-i-lt42
returns-then-i-lt42 c = search (rules, goal-swept)

pub returns : goal.returns
returns c = search (rules, nothing-swept)
