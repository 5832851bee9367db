-- `tables::names::name_at` meets its contract. Assumes nothing.
use mathlib.Core.Path.{sym}
use lib.Seq.{length-take-le}
use Rattle.tables.proofs.NameLaws.{name-cut, name-none}
use Rattle.tables.proofs.names.name_at.Goals as goal

pub returns-then-text-at : goal.returns-then-text-at
returns-then-text-at c = search name-none

pub slice_bounds-result-end-2 : goal.slice_bounds-result-end-2
slice_bounds-result-end-2 c = sym (length-take-le _ _ c.name_length-e.ensures.1)

pub returns : goal.returns
returns c = search name-cut
