-- `pages::page::fill` meets its contract: no spaces, spaces that fit, and spaces that do not. Assumes nothing.
use Rattle.pages.proofs.PageLaws.{fill-none, fill-part, fill-past}
use Rattle.pages.proofs.page.fill.Goals as goal

pub returns-then-to-from : goal.returns-then-to-from
returns-then-to-from c = fill-none _ _ _ c.if-to-from.true

pub returns-then-to-out : goal.returns-then-to-out
returns-then-to-out c = fill-part _ _ c.if-to-from.false c.if-to-out.true (c.fill.ensures.after (λ y e. e))

pub returns-else-to-out : goal.returns-else-to-out
returns-else-to-out c = fill-past _ _ _ c.if-to-from.false c.if-to-out.false
