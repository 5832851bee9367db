-- `pages::page::put_row` meets its contract: what stands before the bytes, the bytes, spaces and the line feed. Assumes nothing.
use mathlib.Core.Path.{refl, ◌∙◌}
use Rattle.listing.proofs.WriteLaws.{wrote_then, count_next}
use Rattle.pages.proofs.PageLaws.{line-bytes, line-feed, line_wrote}
use Rattle.pages.proofs.page.put_row.Goals as goal

pub returns : goal.returns
returns c =
    let bytes = wrote_then c.put_indent-start.ensures c.copy-end.ensures c.put_indent-start.auto.out in
    line_wrote _ bytes c.fill-feed.ensures refl c.put_byte.ensures
    (c.copy-end.auto.out ∙ c.put_indent-start.auto.out) c.fill-feed.auto.out

pub copy-end-requires : goal.copy-end-requires
copy-end-requires c =
    count_next (line-bytes _ c.requires) c.put_indent-start.ensures

pub put_byte-requires : goal.put_byte-requires
put_byte-requires c =
    let bytes = wrote_then c.put_indent-start.ensures c.copy-end.ensures c.put_indent-start.auto.out in
    line-feed _ c.requires bytes c.fill-feed.ensures
    (c.copy-end.auto.out ∙ c.put_indent-start.auto.out)
