-- `refine_times` meets its contract: the rounds that are left, from the table by now, give the answer for all.
-- Assumes nothing.
use Rattle.tables.specs.Cells.{cell_constraints}
use Rattle.colours.proofs.RoundLaws.{Rounding}
use Rattle.colours.proofs.colours.refine_times.Given as goal

abbrev pub invariant-loop : goal.invariant-loop
invariant-loop l =
    Rounding l.k (cell_constraints l.cells) l.initial.colours l.initial.received l.colours l.received l.counter
