-- `text::table::class_of` meets its contract: an entry of the table is the class of its number. Assumes nothing.
use Rattle.std.proofs.Common.{ap, ◌∙◌, List, slice_index_or, arith}
use Rattle.text.specs.declared.table.Class.{Class}
use Rattle.text.specs.declared.table.Class.TheVariants.{Small}
use Rattle.text.specs.Bytes.{class_of}
use Rattle.text.specs.Cursors.{class_table}
use Rattle.text.proofs.Laws.{tabled-length, tabled-at}
use Rattle.text.proofs.table.class_of.Goals as goal

pub bounds-classes-b : goal.bounds-classes-b
unfolding class_table
bounds-classes-b c = rw c.requires (omega (arith, tabled-length class_of 256, c.ranges.b))

pub returns : goal.returns
unfolding class_table
returns c =
    ap (λ (l : List Class). slice_index_or l c.args.b Small) c.requires
    ∙ tabled-at class_of 256 c.args.b Small (omega (arith, c.ranges.b))
