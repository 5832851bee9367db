-- How firing changes cells; the cells are those of `tables`.
--   swap, merge          a variable's cell replaced; the solution of an equation between cells
--   instance_cell         a cell of a rule's body, in the state
--   moved_row, closed_gap  a constraint copied, and all behind a position moved one forward
-- Assumes nothing.
use Rattle.std.specs.Prelude.{ℕ, ◌+◌, ◌-◌, ◌*◌, Bool, false, cond, ◌&&◌, List, eqb, ltb, get_or, drop}
use Rattle.std.proofs.Math.Seq.{paste}
use Rattle.tables.specs.Layout.{first_variable, constraint_size}

-- a cell, with v replaced by t
unfoldable pub swap : ℕ → ℕ → ℕ → ℕ
swap v t x = cond (eqb x v) t x

-- whether two cells are different constants
unfoldable pub clashes : ℕ → ℕ → Bool
clashes a b = cond (eqb a b) false (ltb a first_variable && ltb b first_variable)

-- a cell under the solution of an equation between two cells: the larger becomes the smaller
unfoldable pub merge : ℕ → ℕ → ℕ → ℕ
merge a b = cond (ltb a b) (swap b a) (swap a b)

-- a cell of a rule's body: what the rule's variable is bound to, or a new variable
unfoldable pub instance_cell : ℕ → List ℕ → ℕ → ℕ
instance_cell next bindings x =
    let y = x - first_variable in
    cond (ltb x first_variable) x (cond (ltb y 26) (cond (eqb (get_or bindings y 0) 0) (next + x) (get_or bindings y 0)) x)

-- the cells with the constraint at one position written over that at another
unfoldable pub moved_row : ℕ → ℕ → List ℕ → List ℕ
moved_row from to cells = paste cells (constraint_size * to) (drop (constraint_size * from) cells) constraint_size

-- the cells with those of k constraints behind a position moved one constraint forward
unfoldable pub closed_gap : ℕ → ℕ → List ℕ → List ℕ
closed_gap k p cells =
    paste cells (constraint_size * p) (drop (constraint_size * p + constraint_size) cells)
    (constraint_size * k - constraint_size - constraint_size * p)
