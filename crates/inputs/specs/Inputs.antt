-- A program as read, in its tables: what the stages of a run and of a check ask.
--   program_table       the program that the tables hold
--   is_known            whether the tables name a number
--   ProgramReady       a program as read, in its tables
--   GoalReady          what reading a goal asks: the same, with the program's constants
--   Tabled             what reading a goal asks of the tables of a program
-- Assumes nothing.
use Rattle.std.specs.Prelude.{ℕ, ◌+◌, ◌≤◌, ◌<◌, Bool, ◌||◌, ◌&&◌, List, ◌≡◌, leb, ltb, length, get_or}
use Rattle.semantics.specs.Terms.{Program}
use Rattle.syntax.specs.Answers.{accepted}
use Rattle.syntax.specs.Forms.{first_constant}
use Rattle.syntax.specs.Programs.{Reading, read_program}
use Rattle.tables.specs.Layout.{max_names, kept_cell, heads_cell, body_cell}
use Rattle.tables.specs.Rows.{symbols_of, constants_of, row_of, rules_of}
use Rattle.tables.specs.Names.{Placed}
use Rattle.programs.specs.declared.Counts.{Counts}

-- the program that tables hold
unfoldable pub program_table : List ℕ → List ℕ → List ℕ → ℕ → ℕ → Program
program_table names symbols rules k n = record { symbols = symbols_of names symbols k; rules = rules_of names rules n }

-- whether the tables name a number: one of k symbols, or one of c constants
unfoldable pub is_known : ℕ → ℕ → ℕ → Bool
is_known k c n = ltb n k || (leb first_constant n && ltb n (first_constant + c))

-- a program as read, in its tables: a row holds at most 4 heads, keeps no more than there are, and holds at most 6 constraints of
-- the body
pub record ProgramReady (program names symbols rules : List ℕ) (k n : ℕ) (p : Reading) : Type 0 where
  pub read : read_program program ≡ accepted p
  pub holds : p.program ≡ program_table names symbols rules k n
  pub rules-size : length rules ≡ 2048
  pub heads-few : (i : ℕ) → i < n → get_or (row_of rules i) heads_cell 0 ≤ 4
  pub kept-few : (i : ℕ) → i < n → get_or (row_of rules i) kept_cell 0 ≤ get_or (row_of rules i) heads_cell 0
  pub body-few : (i : ℕ) → i < n → get_or (row_of rules i) body_cell 0 ≤ 6

-- a program as read, in its tables and that of its constants; each name stands where its place says
pub record GoalReady (program names places symbols rules : List ℕ) (c : Counts) : Type 0 where
  pub p : Reading
  pub first : ProgramReady program names symbols rules c.symbols c.rules p
  pub spelled : p.constants ≡ constants_of names c.constants
  pub placed : (goal : List ℕ) → Placed program goal names places
  pub names-size : length names ≡ max_names
  pub places-size : length places ≡ max_names
  pub symbols-size : length symbols ≡ 128

-- what reading a goal asks of the tables of a program as read
pub record Tabled (symbols names places : List ℕ) (c : Counts) : Type 0 where
  pub names-size : length names ≡ max_names
  pub places-size : length places ≡ max_names
  pub symbols-size : length symbols ≡ 128
  pub few-symbols : c.symbols ≤ 32
  pub few-constants : c.constants ≤ 64
