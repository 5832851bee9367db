-- How the engine's state decodes, and what solving and firing promise.
--   Merged, Solvable, Solved    one equation, and all of them
--   Highest, Removed, Appended  the constraints behind a firing
--   Equated, SolvedRule         a rule's equations
--   Fires, Fired                a firing
--   Skips, Placed               where the state begins in its cells
-- Assumes nothing.
use Rattle.std.specs.Prelude.{Option, None, Some, ℕ, ◌+◌, ◌*◌, ◌≤◌, ◌<◌, Bool, true, false, not, List, [], ◌++◌, map, ◌≡◌, leb, length, take, drop, get_or}
use Rattle.text.specs.Lists.{every, has}
use Rattle.semantics.specs.Terms.{map_terms, map_sides}
use Rattle.semantics.specs.Solving.{solve}
use Rattle.semantics.specs.Firing.{without, instance, settle, fired}
use Rattle.tables.specs.Layout.{constraint_size, heads_cell, body_cell}
use Rattle.tables.specs.Cells.{state_of, cell_term, cell_constraints, cell_equations, is_low}
use Rattle.tables.specs.Rows.{rule_of_row}
use Rattle.fitting.specs.Cells.{assigned}
use Rattle.engine.specs.Cells.{clashes, merge}
use Rattle.fitting.specs.Positions.{Row}

-- an equation between cells, put in throughout or found to clash
pub record Merged (alive : Bool) (a b : ℕ) (equations bound cells equations' bound' cells' : List ℕ) : Type 0 where
  pub answer : alive ≡ not (clashes a b)
  pub in-equations : alive ≡ true → equations' ≡ map (merge a b) equations
  pub in-bound : alive ≡ true → bound' ≡ map (merge a b) bound
  pub in_cells : alive ≡ true → cells' ≡ map (merge a b) cells

-- n equations of two cells each, none of them 0, and constraints whose symbols are ones that there can be
pub record Solvable (equations : List ℕ) (n : ℕ) (cells : List ℕ) : Type 0 where
  pub size : length equations ≡ 2 * n
  pub used : every (leb 1) equations ≡ true
  pub low : every is_low (cell_constraints cells) ≡ true

-- the state after the equations, whatever number comes next
pub record Solved (alive : Bool) (equations bound cells bound' cells' : List ℕ) : Type 0 where
  pub same :
      (next : ℕ) → state_of alive next bound' cells'
      ≡ settle (solve (cell_equations equations) (λ t. t)) next (map cell_term bound) (cell_constraints cells)

-- the highest of the positions below p, if one lies there
abbrev pub Highest : List ℕ → ℕ → Option ℕ → Type 0
Highest ps p None = (q : ℕ) → q < p → has q ps ≡ false
Highest ps p (Some top) = (top < p) × (has top ps ≡ true) × ((q : ℕ) → top < q → q < p → has q ps ≡ false)

-- k constraints are left in front, those of m at none of the positions
pub record Removed (m : ℕ) (ps cells cells' : List ℕ) (k : ℕ) : Type 0 where
  pub few : k ≤ m
  pub same : cell_constraints (take (constraint_size * k) cells') ≡ without 0 ps (cell_constraints cells)

-- a rule's body stands behind the first k constraints
pub record Appended (row bindings : List ℕ) (next : ℕ) (cells cells' : List ℕ) (k after : ℕ) : Type 0 where
  pub count : after ≡ k + get_or row body_cell 0
  pub same :
      cell_constraints (take (constraint_size * after) cells')
      ≡ cell_constraints (take (constraint_size * k) cells) ++ map (map_terms (instance next (assigned bindings)))
      (rule_of_row [] row).body

-- what solving a rule's equations asks
pub record Equated (row bindings : List ℕ) (next : ℕ) (cells : List ℕ) : Type 0 where
  pub given : Row row
  pub bindings-size : length bindings ≡ 26
  pub room : next ≤ 65000
  pub low : every is_low (cell_constraints cells) ≡ true

-- the state after a rule's equations, whatever number comes next
pub record SolvedRule (alive : Bool) (row bindings : List ℕ) (next : ℕ) (bound cells bound' cells' : List ℕ) : Type 0 where
  pub same :
      (after : ℕ) → state_of alive after bound' cells'
      ≡ settle (solve (map (map_sides (instance next (assigned bindings))) (rule_of_row [] row).equations) (λ t. t)) after
      (map cell_term bound) (cell_constraints cells)

-- what firing asks: a rule, positions and bindings, and room for six constraints more than the m that there are
pub record Fires (row positions bindings : List ℕ) (next : ℕ) (cells : List ℕ) (m : ℕ) : Type 0 where
  pub given : Row row
  pub positions-size : length positions ≡ 4
  pub bindings-size : length bindings ≡ 26
  pub room : next ≤ 65000
  pub space : constraint_size * m + 30 ≤ length cells
  pub low : every is_low (cell_constraints (take (constraint_size * m) cells)) ≡ true

-- the state after a firing, whatever the rule's name is
pub record Fired (row positions bindings : List ℕ) (next : ℕ) (bound cells : List ℕ) (m : ℕ) (bound' cells' : List ℕ)
    (alive : Bool) (after : ℕ) : Type 0 where
  pub same :
      (name : List ℕ) → state_of alive (next + 26) bound' (take (constraint_size * after) cells')
      ≡ fired (rule_of_row name row) (take (get_or row heads_cell 0) positions) (assigned bindings) next (map cell_term bound)
      (cell_constraints (take (constraint_size * m) cells))
  pub few : after ≤ m + 6

-- a state of m constraints begins `skip` rows later, with count constraints there, all within six more than the m
pub record Skips (m skip count : ℕ) : Type 0 where
  pub few : skip ≤ 4
  pub within : skip + count ≤ m + 6

-- count constraints that stood from one position on stand from another on, with room for six more
pub record Placed (cells : List ℕ) (at count : ℕ) (cells' : List ℕ) (at' : ℕ) : Type 0 where
  pub same :
      take (constraint_size * count) (drop (constraint_size * at') cells')
      ≡ take (constraint_size * count) (drop (constraint_size * at) cells)
  pub space : constraint_size * (at' + count) + 30 ≤ length cells'
