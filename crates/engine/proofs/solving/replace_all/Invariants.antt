-- `replace_all` meets its contract: after some turns the first i cells are replaced.
-- Assumes nothing.
use Rattle.engine.specs.Cells.{swap}
use Rattle.tables.proofs.MapLaws.{Mapped}
use Rattle.engine.proofs.solving.replace_all.Given as goal

abbrev pub invariant-loop-cell : goal.invariant-loop-cell
invariant-loop-cell l = Mapped (swap l.v l.t) l.initial.cells l.initial.cells l.cells l.cell-index
