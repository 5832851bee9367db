-- `pages::page::put_first` meets its contract: the field, spaces, the number, and the line's end. Assumes nothing.
use mathlib.Core.Path.{refl, ◌∙◌}
use Rattle.pages.specs.Pages.{head_line}
use Rattle.pages.proofs.PageLaws.{line-feed, line_wrote, head-field, head-number, head-wrote}
use Rattle.pages.proofs.page.put_first.Goals as goal

pub returns : goal.returns
unfolding head_line
returns c =
    let bytes =
    head-wrote _ c.copy-field.ensures c.fill-start.ensures c.put_aligned-digits.ensures c.copy-field.auto.out
    c.fill-start.auto.out in
    line_wrote _ bytes c.fill-feed.ensures refl c.put_byte.ensures
    (c.put_aligned-digits.auto.out ∙ c.fill-start.auto.out ∙ c.copy-field.auto.out) c.fill-feed.auto.out

pub copy-field-requires : goal.copy-field-requires
copy-field-requires c = head-field _ _ c.requires

pub put_aligned-digits-requires : goal.put_aligned-digits-requires
put_aligned-digits-requires c =
    head-number _ _ c.requires c.copy-field.ensures c.fill-start.ensures c.copy-field.auto.out

pub put_byte-requires : goal.put_byte-requires
unfolding head_line
put_byte-requires c =
    let bytes =
    head-wrote _ c.copy-field.ensures c.fill-start.ensures c.put_aligned-digits.ensures c.copy-field.auto.out
    c.fill-start.auto.out in
    line-feed _ c.requires bytes c.fill-feed.ensures
    (c.put_aligned-digits.auto.out ∙ c.fill-start.auto.out ∙ c.copy-field.auto.out)
