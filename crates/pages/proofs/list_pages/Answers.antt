-- `pages::list_pages` meets its contract: what it writes are the pages, which fit an ample output. Assumes nothing.
use Rattle.std.proofs.Common.{rules, leb-true}
use Rattle.pages.proofs.PageLaws.{pages-count, pages-ample}
use Rattle.pages.proofs.list_pages.Goals as goal

pub list_by-requires : goal.list_by-requires
list_by-requires c = let few = pages-count _ c.requires in record { at = λ a. search rules }

pub returns : goal.returns
returns c =
    c.list_by.ensures _ (record { writes = λ p q n e. search rules }) (λ t. pages-ample _ c.requires (leb-true _ _ t))
