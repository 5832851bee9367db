-- `pages::page::margin` meets its contract: by the number of digits. Assumes nothing.
use Rattle.pages.proofs.PageLaws.{margin-one, margin-two, margin-three, margin-more}
use Rattle.pages.proofs.page.margin.Goals as goal

pub returns-then-n-lt10 : goal.returns-then-n-lt10
returns-then-n-lt10 c = margin-one _ c.if-n-lt10.true

pub returns-then-n-lt100 : goal.returns-then-n-lt100
returns-then-n-lt100 c = margin-two _ c.if-n-lt10.false c.if-n-lt100.true

pub returns-then-n-lt1000 : goal.returns-then-n-lt1000
returns-then-n-lt1000 c = margin-three _ c.if-n-lt100.false c.if-n-lt1000.true

pub returns : goal.returns
returns c = margin-more _ c.if-n-lt1000.false
