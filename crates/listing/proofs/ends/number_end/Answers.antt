-- `listing::ends::number_end` meets its contract. Assumes nothing.
use Rattle.std.proofs.Common.{ap, refl}
use Rattle.std.specs.Prelude.{is_some}
use Rattle.listing.proofs.EndLaws.{end-failed}
use Rattle.listing.proofs.ends.number_end.Goals as goal

pub renumber-requires : goal.renumber-requires
renumber-requires c =
    let asked = rw c.in-Some.is at c.requires in
    ((asked.live refl).rows, asked.few)

pub returns-in-Some : goal.returns-in-Some
returns-in-Some c = rw c.in-Some.is (record { live = λ h. c.renumber.ensures })

pub returns-in-None : goal.returns-in-None
returns-in-None c = end-failed (ap is_some c.in-None.is)
