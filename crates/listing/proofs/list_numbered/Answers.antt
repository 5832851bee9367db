-- `listing::list_numbered` meets its contract: an ample output fits it. Assumes nothing.
use Rattle.std.proofs.Common.{arith, rules}
use Rattle.tables.proofs.NameLaws.{name-short}
use Rattle.listing.proofs.SizeLaws.{end-ample}
use Rattle.listing.proofs.list_numbered.Goals as goal

pub returns : goal.returns
returns c =
    c.list_by.ensures _ (record { writes = λ p q n e. search rules })
    (λ t. end-ample _ (name-short _ _ _) _ _ _ (λ i l. omega (arith, c.type_inv.bound i))
    (λ i l. omega (arith, c.type_inv.cells i)) _ (c.is_ample-fits.ensures t) (omega (arith, c.well_formed)))
