-- `tables::names::place` meets its contract: behind the last entry stands 0. Assumes nothing.
use Rattle.tables.proofs.NameLaws.{no-entry}
use Rattle.tables.proofs.names.place.Goals as goal

pub returns-else-n-places : goal.returns-else-n-places
returns-else-n-places c = search no-entry
