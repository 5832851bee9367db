-- `pages::page::put_indent` meets its contract: two spaces, or nothing. Assumes nothing.
use native.Mathlib.Omega.{arith}
use Rattle.pages.proofs.PageLaws.{indent-put, indent-none}
use Rattle.pages.proofs.page.put_indent.Goals as goal

pub returns-then-inside : goal.returns-then-inside
returns-then-inside c =
    indent-put c.if-inside.true c.copy.ensures

pub returns : goal.returns
returns c = indent-none _ c.if-inside.false

pub copy-requires : goal.copy-requires
copy-requires c = record { few = omega arith }
