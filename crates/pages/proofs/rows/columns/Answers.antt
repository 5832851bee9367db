-- `pages::rows::columns` meets its contract. Assumes nothing.
use Rattle.pages.specs.Places.{width}
use Rattle.pages.proofs.rows.columns.Goals as goal

pub returns-then-inside : goal.returns-then-inside
unfolding width
returns-then-inside c = rw c.if-inside.true

pub returns-else-inside : goal.returns-else-inside
unfolding width
returns-else-inside c = rw c.if-inside.false
