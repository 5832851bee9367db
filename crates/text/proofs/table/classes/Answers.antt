-- `text::table::classes` meets its contract: the constant table is the table of the definition, which antt computes, entry by
-- entry. Assumes nothing.
use Rattle.std.proofs.Common.{refl}
use Rattle.text.specs.Bytes.{between, class_of}
use Rattle.text.specs.Cursors.{class_table}
use Rattle.text.proofs.table.classes.Goals as goal

pub returns : goal.returns
unfolding between class_of class_table
returns c = refl
