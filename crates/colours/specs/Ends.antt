-- Cells as a final state. Assumes nothing.
use Rattle.std.specs.Prelude.{ℕ, List, map}
use Rattle.semantics.specs.Terms.{State, live}
use Rattle.tables.specs.Cells.{cell_term, cell_constraints}

-- what the goal variables became and the constraints, as a final state. Which variable would come next is no part of what is
-- compared
abbrev pub end_of : List ℕ → List ℕ → State
end_of bound cells = live 0 (map cell_term bound) (cell_constraints cells)
