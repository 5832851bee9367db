-- `tables::numbering::number` meets its contract. Assumes nothing.
use Rattle.tables.proofs.Renumbering.{renumbers, rows-asks}
use Rattle.tables.proofs.numbering.number.Goals as goal

pub number_rows-requires : goal.number_rows-requires
number_rows-requires c =
    rows-asks _ _ c.keep.new.table _ c.requires.1 c.keep.auto.table

pub returns : goal.returns
returns c =
    renumbers c.args.n _ _ _ _ _ c.keep.ensures c.number_rows.ensures
