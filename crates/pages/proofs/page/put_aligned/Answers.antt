-- `pages::page::put_aligned` meets its contract: the spaces, then the digits. Assumes nothing.
use native.Mathlib.Omega.{arith}
use Rattle.pages.proofs.PageLaws.{aligned-room, aligned-count, aligned-wrote}
use Rattle.pages.proofs.page.put_aligned.Goals as goal

pub returns : goal.returns
returns c =
    aligned-wrote _ _ c.margin.ensures c.fill-digits.ensures c.put_decimal.ensures
    c.fill-digits.auto.out

pub overflow_add-at : goal.overflow_add-at
overflow_add-at c = omega (arith, aligned-room _ _ c.margin.ensures c.requires)

pub put_decimal-requires : goal.put_decimal-requires
put_decimal-requires c =
    aligned-count _ _ c.margin.ensures c.requires c.fill-digits.ensures
