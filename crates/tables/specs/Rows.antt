-- The tables of a program, as its symbols, constants and rules.
--   symbols_of, constants_of     symbols and constants, by their number
--   rule_of_row, rules_of         a rule of 64 cells, and a table of them
--   lines_of                    the rules' R lines
--   letters_of                  the letters of a goal's variables
-- A table of names holds the key of each name at its number: symbols from 0, constants from `first_constant`, rules from
-- `first_rule`, and 0 where no name has the number. Assumes nothing.
use Rattle.std.specs.Prelude.{ℕ, ◌+◌, ◌*◌, List, [], ◌∷◌, take, drop, get_or}
use Rattle.text.specs.Lists.{tabled}
use Rattle.text.specs.Keys.{spell}
use Rattle.semantics.specs.Terms.{Symbol, Rule}
use Rattle.syntax.specs.Forms.{first_constant}
use Rattle.tables.specs.Layout.{first_rule, constraint_size, symbol_size, row_size, kept_cell}
use Rattle.tables.specs.Layout.{line_cell, heads_cell, body_cell, equations_cell, first_head, first_body, first_equation}
use Rattle.tables.specs.Cells.{cell_constraints, cell_equations}

-- the name of a number
unfoldable pub name_of : List ℕ → ℕ → List ℕ
name_of names n = spell (get_or names n 0)

-- symbol i: its name, arity and weight
unfoldable pub symbol_of : List ℕ → List ℕ → ℕ → Symbol
symbol_of names symbols i =
    record {
      name = name_of names i;
      arity = get_or symbols (symbol_size * i) 0;
      weight = get_or symbols (symbol_size * i + 1) 0;
    }

-- the first n symbols of a table
unfoldable pub symbols_of : List ℕ → List ℕ → ℕ → List Symbol
symbols_of names symbols n = tabled (symbol_of names symbols) n

-- the first n constants
unfoldable pub constants_of : List ℕ → ℕ → List (List ℕ)
constants_of names n = tabled (λ i. name_of names (first_constant + i)) n

-- a rule from its name and its row: how many of its heads are kept; how many heads, constraints of the body and equations it has,
-- and their cells
unfoldable pub rule_of_row : List ℕ → List ℕ → Rule
rule_of_row name row =
    record {
      name = name;
      kept = get_or row kept_cell 0;
      heads = cell_constraints (take (constraint_size * get_or row heads_cell 0) (drop first_head row));
      body = cell_constraints (take (constraint_size * get_or row body_cell 0) (drop first_body row));
      equations = cell_equations (take (2 * get_or row equations_cell 0) (drop first_equation row));
    }

-- the cells of rule i
abbrev pub row_of : List ℕ → ℕ → List ℕ
row_of rules i = take row_size (drop (row_size * i) rules)

-- rule i
unfoldable pub rule_of : List ℕ → List ℕ → ℕ → Rule
rule_of names rules i = rule_of_row (name_of names (first_rule + i)) (row_of rules i)

-- the first n rules of a table
unfoldable pub rules_of : List ℕ → List ℕ → ℕ → List Rule
rules_of names rules n = tabled (rule_of names rules) n

-- the R lines of the first n rules of a table
unfoldable pub lines_of : List ℕ → ℕ → List ℕ
lines_of rules n = tabled (λ i. get_or (row_of rules i) line_cell 0) n

-- the letters of the first n goal variables
unfoldable pub letters_of : List ℕ → ℕ → List (List ℕ)
letters_of letters n = tabled (λ i. get_or letters i 0 ∷ []) n
