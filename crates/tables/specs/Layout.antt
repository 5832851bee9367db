-- The layout of the flat tables by name, as src/layout.rt has it for the code.
--   max_names, max_symbols         how many names a table has room for, and how many symbols there can be
--   first_rule, first_variable     where the numbers of rules and of variables start; symbols count from 0, and constants from
--                                `first_constant` of syntax
--   goal_place                    what a place in the goal's text is more than its start
--   row_size, …Cell, first…       the cells of a rule's row
-- Assumes nothing.
use Rattle.std.specs.Prelude.{ℕ}

-- how many names a table has room for: symbols, constants and rules, each by its number
abbrev pub max_names : ℕ
max_names = 256

-- how many symbols there can be: each has a number below it
abbrev pub max_symbols : ℕ
max_symbols = 64

-- the number of the first rule's name
abbrev pub first_rule : ℕ
first_rule = 192

-- the cell of variable 0; cells below it are symbols and constants
abbrev pub first_variable : ℕ
first_variable = 256

-- the bytes that a name has at most
abbrev pub max_name : ℕ
max_name = 8

-- the place of the goal's first byte: places below it are in the program's text
abbrev pub goal_place : ℕ
goal_place = 16384

-- the cells of a constraint: its symbol and four terms, 0 behind the last
abbrev pub constraint_size : ℕ
constraint_size = 5

-- the cells of a symbol: its arity and its weight
abbrev pub symbol_size : ℕ
symbol_size = 2

-- the cells of a rule's row; its first is free
abbrev pub row_size : ℕ
row_size = 64

-- where a row holds how many heads are kept, its R line, and how many heads, constraints of the body and equations the rule has
abbrev pub kept_cell : ℕ
kept_cell = 1

abbrev pub line_cell : ℕ
line_cell = 2

abbrev pub heads_cell : ℕ
heads_cell = 3

abbrev pub body_cell : ℕ
body_cell = 4

abbrev pub equations_cell : ℕ
equations_cell = 5

-- where a row's four heads, six constraints of the body and four equations start
abbrev pub first_head : ℕ
first_head = 6

abbrev pub first_body : ℕ
first_body = 26

abbrev pub first_equation : ℕ
first_equation = 56
