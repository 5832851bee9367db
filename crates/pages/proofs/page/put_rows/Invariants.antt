-- `pages::page::put_rows` meets its contract: some lines are written, and the next row starts at `at`. Assumes nothing.
use Rattle.pages.proofs.PageLaws.{Rowing}
use Rattle.pages.proofs.page.put_rows.Given as goal

abbrev pub invariant-loop : goal.invariant-loop
invariant-loop l = Rowing l.listing l.start l.continued l.from l.initial.out l.out l.end l.at l.inside l.counter
