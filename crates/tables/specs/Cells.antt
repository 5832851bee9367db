-- Cells as terms, constraints, equations and states.
--   cell_term, cell_terms          a cell as a term, and cells up to the first 0
--   row_constraint                five cells as a constraint
--   cell_constraints, cell_equations   cells as constraints and equations
--   is_low                        a constraint whose symbol is one that there can be
--   state_of                      cells as a state
-- A cell holds a symbol's number, a constant's, or 256 more than a variable's; 0 stands behind a constraint's last term.
-- Assumes nothing.
use Rattle.std.specs.Prelude.{ℕ, ◌-◌, Bool, cond, List, [], ◌∷◌, map, ltb, eqb, get_or, drop}
use Rattle.semantics.specs.Terms.{Term, con, var, Constraint, Equation, State, failed, live}
use Rattle.tables.specs.Layout.{first_variable, max_symbols}

-- a cell as a term
unfoldable pub cell_term : ℕ → Term
cell_term x = cond (ltb x first_variable) (con x) (var (x - first_variable))

-- cells as terms, up to the first 0
unfoldable pub cell_terms : List ℕ → List Term
cell_terms [] = []
cell_terms (x ∷ xs) = cond (eqb x 0) [] (cell_term x ∷ cell_terms xs)

-- five cells as a constraint
unfoldable pub row_constraint : List ℕ → Constraint
row_constraint row = record { symbol = get_or row 0 0; terms = cell_terms (drop 1 row) }

-- cells as constraints, five to each: the symbol and up to four terms
unfoldable pub cell_constraints : List ℕ → List Constraint
cell_constraints [] = []
cell_constraints (k ∷ []) = []
cell_constraints (k ∷ a ∷ []) = []
cell_constraints (k ∷ a ∷ b ∷ []) = []
cell_constraints (k ∷ a ∷ b ∷ c ∷ []) = []
cell_constraints (k ∷ a ∷ b ∷ c ∷ d ∷ cells) =
    record { symbol = k; terms = cell_terms (a ∷ b ∷ c ∷ d ∷ []) } ∷ cell_constraints cells

-- whether a constraint's symbol is one that there can be
unfoldable pub is_low : Constraint → Bool
is_low c = ltb c.symbol max_symbols

-- cells as equations, two to each
unfoldable pub cell_equations : List ℕ → List Equation
cell_equations [] = []
cell_equations (a ∷ []) = []
cell_equations (a ∷ b ∷ cells) = record { left = cell_term a; right = cell_term b } ∷ cell_equations cells

-- a state: failed, or a number above every variable in use, what the goal variables have become and the constraints, in cells
unfoldable pub state_of : Bool → ℕ → List ℕ → List ℕ → State
state_of alive next bound cells = cond alive (live next (map cell_term bound) (cell_constraints cells)) failed
