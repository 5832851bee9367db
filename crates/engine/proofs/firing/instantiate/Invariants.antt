-- `instantiate` meets its contract: after i turns the first i cells are written.
-- Assumes nothing.
use Rattle.engine.specs.Cells.{instance_cell}
use Rattle.tables.proofs.MapLaws.{Mapped}
use Rattle.engine.proofs.firing.instantiate.Given as goal

abbrev pub invariant-loop-i : goal.invariant-loop-i
invariant-loop-i l = Mapped (instance_cell l.next l.bindings) l.source l.initial.out l.out l.i
