-- The variables of a state, numbered anew in a lent table: those of the goal keep their numbers, the others follow by first
-- appearance.
--   order_of             the goal's variables, and then the others of cells in order of first appearance
--   Numbering           a table of the variables' new cells that is being filled
--   Numbered            what numbering one more term promises
--   RowNumbered, RowsNumbered    the same for constraints, which are rewritten
--   Numberable, Renumbered       what numbering the constraints asks and promises
--   Renumberable                 what it asks of a whole state
-- Entry x of the table is the new cell of variable x, and 0 where it has not appeared. Assumes nothing.
use Rattle.std.specs.Prelude.{ℕ, suc, ◌+◌, ◌-◌, ◌≤◌, Bool, true, cond, ◌&&◌, List, [], ◌∷◌, map, ◌≡◌, eqb, ltb, length, get_or}
use Rattle.text.specs.Lists.{has, every, index_from, up_to}
use Rattle.semantics.specs.Terms.{Term, Constraint, map_terms, is_below}
use Rattle.semantics.specs.Overlaps.{appearing_in, appearing, numbered}
use Rattle.tables.specs.Layout.{first_variable}
use Rattle.tables.specs.Cells.{cell_term, cell_terms, cell_constraints, is_low}

-- how many cells stand before the first 0
unfoldable pub used_cells : List ℕ → ℕ
used_cells [] = 0
used_cells (x ∷ xs) = cond (eqb x 0) 0 (suc (used_cells xs))

-- the first n variables, which are the goal's, and then the others of the constraints in order of first appearance
unfoldable pub order_of : ℕ → List ℕ → List ℕ
order_of n cells = appearing (up_to n) (cell_constraints cells)

-- the new cell of variable x among those that have appeared; 0 where it has not
unfoldable pub new_cell : List ℕ → ℕ → ℕ
new_cell order x = cond (has x order) (first_variable + index_from (eqb x) 0 order) 0

-- a table of the new cells of all variables, with the count of those that have appeared
pub record Numbering (order table : List ℕ) (count : ℕ) : Type 0 where
  pub each : (x : ℕ) → get_or table x 0 ≡ new_cell order x
  pub counted : count ≡ length order

-- the table after one more term, whatever appeared before it
pub record Numbered (t : Term) (before after : List ℕ) (seen count : ℕ) : Type 0 where
  pub next : (order : List ℕ) → Numbering order before seen → Numbering (appearing_in order (t ∷ [])) after count
  pub few : count ≤ seen + 1

-- the same for the terms of a row, which become their new cells
pub record RowNumbered (row row' before after : List ℕ) (seen count : ℕ) : Type 0 where
  pub next : (order : List ℕ) → Numbering order before seen → Numbering (appearing_in order (cell_terms row)) after count
  pub few : count ≤ seen + length row
  pub same :
      (order : List ℕ) → Numbering order before seen
      → cell_terms row' ≡ map (numbered (appearing_in order (cell_terms row))) (cell_terms row)

-- and for constraints
pub record RowsNumbered (cells cells' before after : List ℕ) (seen count : ℕ) : Type 0 where
  pub next : (order : List ℕ) → Numbering order before seen → Numbering (appearing order (cell_constraints cells)) after count
  pub same :
      (order : List ℕ) → Numbering order before seen
      → cell_constraints cells' ≡ map (map_terms (numbered (appearing order (cell_constraints cells)))) (cell_constraints cells)

-- a cell under a table: a variable's new cell, where it has one
unfoldable pub renumbered_cell : List ℕ → ℕ → ℕ
renumbered_cell table x =
    let new = get_or table (x - first_variable) 0 in
    cond (ltb x first_variable) x (cond (eqb new 0) x new)

-- whether a constraint's symbol is one that there can be, and its variables lie below v
unfoldable pub is_within : ℕ → Constraint → Bool
is_within v c = is_low c && every (is_below v) c.terms

-- what numbering asks: every variable of the constraints, and each of the first n, has an entry in a table of v
pub record Numberable (v n : ℕ) (cells : List ℕ) : Type 0 where
  pub known : n ≤ v
  pub within : every (is_within v) (cell_constraints cells) ≡ true
  pub few : n + length cells ≤ 65000

-- what it promises: every variable is its place in the order
pub record Renumbered (n : ℕ) (cells cells' : List ℕ) (count : ℕ) : Type 0 where
  pub same : cell_constraints cells' ≡ map (map_terms (numbered (order_of n cells))) (cell_constraints cells)
  pub counted : count ≡ length (order_of n cells)

-- what it asks of a state: besides, each goal variable became a constant or a goal variable, so that its cell can stay
pub record Renumberable (v : ℕ) (bound cells : List ℕ) : Type 0 where
  pub own : every (is_below (length bound)) (map cell_term bound) ≡ true
  pub rows : Numberable v (length bound) cells
