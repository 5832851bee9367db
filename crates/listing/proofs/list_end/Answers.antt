-- `listing::list_end` meets its contract: its variables are numbered, and it is listed as it was before. Assumes nothing.
use native.Mathlib.Omega.{arith}
use Rattle.tables.proofs.NameLaws.{name-short}
use Rattle.listing.proofs.EndLaws.{end-numbered, listed-is}
use Rattle.listing.proofs.SizeLaws.{end-writable}
use Rattle.listing.proofs.list_end.Goals as goal

pub list_numbered-requires : goal.list_numbered-requires
list_numbered-requires c =
    end-writable _ (name-short _ _ _) _ _ _ (λ i l. omega (arith, c.type_inv.bound i))
    (λ i l. omega (arith, c.slice_known-3-1.given i)) _
    (λ h. omega (arith, (c.requires.live h).rows.few, c.number_end.auto.end))
    (omega (arith, c.well_formed))

pub returns : goal.returns
returns c =
    listed-is (end-numbered _ _ _ _ _ _ _ _ _ c.requires c.number_end.ensures)
    c.list_numbered.ensures
