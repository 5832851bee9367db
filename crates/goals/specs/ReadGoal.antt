-- What the goal reader's answers and tables mean: one decoding for each, and what is promised of each line.
--   LettersFit                                 the letters of a goal's variables
--   letter_of, with_letter, numbered_cell         a variable's cell, from its letter to its number
--   LetterIn, RowIn                            what is promised of a term and of a constraint
--   Room, GoalFits                             the tables lent, and what a goal keeps to as far as it is read
--   goal_draft_of, goal_line_answer, GoalLineIn    what the tables hold behind a line, and what is promised of it
--   GoalLinesIn, goal_answer, GoalIn            of all lines, and of a goal's text
-- Assumes nothing.
use Rattle.std.specs.Prelude.{◌≡◌, ℕ, ◌+◌, ◌-◌, ◌*◌, ◌≤◌, ◌<◌, cond, List, [], ◌∷◌, map, ltb, length, get_or, take, drop, Result, Ok, Err, IfOk}
use Rattle.faults.specs.Faults.{number_of}
use Rattle.faults.specs.declared.Fault.{Fault}
use Rattle.faults.specs.declared.FaultAt.{FaultAt}
use Rattle.text.specs.Lists.{index_of, with_name}
use Rattle.text.specs.Lines.{lines}
use Rattle.text.specs.Splits.{Holds}
use Rattle.text.specs.declared.fields.Fields.{Fields}
use Rattle.syntax.specs.Answers.{Answer, refused, accepted}
use Rattle.syntax.specs.Goals.{GoalDraft, GoalReading, read_goal_fields, read_goal_lines, read_goal}
use Rattle.tables.specs.Layout.{max_names, first_variable, goal_place, constraint_size, symbol_size}
use Rattle.tables.specs.Cells.{cell_constraints}
use Rattle.tables.specs.Rows.{symbols_of, constants_of, letters_of}
use Rattle.tables.specs.Names.{Placed}
use Rattle.lines.specs.Read.{Outside, KeepsPlaces}
use Rattle.goals.specs.declared.GoalCounts.{GoalCounts}
use Rattle.goals.specs.declared.LetterRead.{LetterRead}
use Rattle.goals.specs.declared.RowRead.{RowRead}

-- the letters of the first v goal variables: capitals, each another
pub record LettersFit (letters : List ℕ) (v : ℕ) : Type 0 where
  pub few : v ≤ 26
  pub capital : (i : ℕ) → i < v → (65 ≤ get_or letters i 0) × (get_or letters i 0 ≤ 90)
  pub distinct : (i j : ℕ) → i < j → j < v → get_or letters i 0 ≡ get_or letters j 0 → ⊥

-- the field of the letter that a variable's cell stands for, A's being the first
unfoldable pub letter_of : ℕ → List ℕ
letter_of cell = (cell - 191) ∷ []

-- the letters with that of a cell behind them, if it is a variable's and new
unfoldable pub with_letter : ℕ → List (List ℕ) → List (List ℕ)
with_letter cell letters = cond (ltb cell first_variable) letters (with_name (letter_of cell) letters)

-- the letters with those of some cells, in order
unfoldable pub with_letters : List ℕ → List (List ℕ) → List (List ℕ)
with_letters [] letters = letters
with_letters (c ∷ cells) letters = with_letters cells (with_letter c letters)

-- a cell with its variable's letter replaced by the letter's number
unfoldable pub numbered_cell : List (List ℕ) → ℕ → ℕ
numbered_cell letters cell = cond (ltb cell first_variable) cell (first_variable + index_of (letter_of cell) letters)

-- what is promised of a term's cell
pub record LetterIn (cell v : ℕ) (letters letters' : List ℕ) (r : LetterRead) : Type 0 where
  pub lettered : letters_of letters' r.count ≡ with_letter cell (letters_of letters v)
  pub numbered : r.cell ≡ numbered_cell (letters_of letters' r.count) cell
  pub fits : LettersFit letters' r.count
  pub size : length letters' ≡ length letters

-- what is promised of a constraint's cells
pub record RowIn (row : List ℕ) (v : ℕ) (letters letters' : List ℕ) (r : RowRead) : Type 0 where
  pub lettered : letters_of letters' r.count ≡ with_letters (drop 1 row) (letters_of letters v)
  pub numbered : r.cells ≡ get_or row 0 0 ∷ map (numbered_cell (letters_of letters' r.count)) (drop 1 row)
  pub fits : LettersFit letters' r.count
  pub size : length letters' ≡ length letters

-- the tables lent: the used part of a program's symbols, its names and places, and what the goal fills
pub record Room (symbols names places cells letters : List ℕ) : Type 0 where
  pub few-symbols : length symbols ≤ 64
  pub names-size : length names ≡ max_names
  pub places-size : length places ≡ max_names
  pub cells-size : 320 ≤ length cells
  pub letters-size : length letters ≡ 26

-- what the counts and letters keep to, as far as the goal is read
pub record GoalFits (letters : List ℕ) (s : GoalCounts) : Type 0 where
  pub few : s.constraints ≤ 64
  pub few-constants : s.constants ≤ 64
  pub lettered : LettersFit letters s.letters

-- what the tables hold behind the lines read
unfoldable pub goal_draft_of : List ℕ → List ℕ → List ℕ → GoalCounts → GoalDraft
goal_draft_of names cells letters s =
    record {
      constraints = cell_constraints (take (constraint_size * s.constraints) cells);
      letters = letters_of letters s.letters;
      constants = constants_of names s.constants;
    }

-- the code's answer to line n
unfoldable pub goal_line_answer : List ℕ → List ℕ → List ℕ → ℕ → Result GoalCounts Fault → Answer GoalDraft
goal_line_answer names cells letters n (Err x) = refused (number_of x) n
goal_line_answer names cells letters n (Ok s) = accepted (goal_draft_of names cells letters s)

-- what the tables keep to behind a line that is not refused
abbrev pub goal_line_fits : List ℕ → Result GoalCounts Fault → Type 0
goal_line_fits letters r = IfOk r (GoalFits letters)

-- what is promised of a line
pub record GoalLineIn (f : Fields) (s : GoalCounts) (symbols names places cells letters names' places' cells' letters' : List ℕ)
    (r : Result GoalCounts Fault) : Type 0 where
  pub answers :
      (fs : List (List ℕ)) (n k : ℕ) → Holds fs f → 0 < length fs → length symbols ≡ symbol_size * k
      → goal_line_answer names' cells' letters' n r
      ≡ read_goal_fields (symbols_of names symbols k) n fs (goal_draft_of names cells letters s)
  pub fits : goal_line_fits letters' r
  pub outside : Outside names names'
  pub places-size : length places' ≡ length places
  pub cells-size : length cells' ≡ length cells
  pub letters-size : length letters' ≡ length letters
  pub keeps : KeepsPlaces goal_place f names places names' places'

-- the code's answer to all lines
unfoldable pub goal_lines_answer : List ℕ → List ℕ → List ℕ → Result GoalCounts FaultAt → Answer GoalDraft
goal_lines_answer names cells letters (Err at) = refused (number_of at.fault) at.line
goal_lines_answer names cells letters (Ok s) = accepted (goal_draft_of names cells letters s)

-- what the tables keep to behind lines that are not refused
abbrev pub goal_fits : List ℕ → Result GoalCounts FaultAt → Type 0
goal_fits letters r = IfOk r (GoalFits letters)

-- what is promised of all lines of a goal, over the symbols and the first c constants of the tables
pub record GoalLinesIn (goal symbols names places : List ℕ) (c : ℕ) (names' places' cells' letters' : List ℕ) (r : Result GoalCounts FaultAt)
    : Type 0 where
  pub answers :
      (k : ℕ) → length symbols ≡ symbol_size * k
      → goal_lines_answer names' cells' letters' r
      ≡ read_goal_lines (symbols_of names symbols k) 1 (record { constraints = []; letters = []; constants = constants_of names c })
      (lines goal)
  pub fits : goal_fits letters' r
  pub outside : Outside names names'
  pub placed : (program : List ℕ) → Placed program goal names places → Placed program goal names' places'
  pub room : Room symbols names' places' cells' letters'

-- the goal that the tables hold, with the letters of its variables and the names of all constants
unfoldable pub goal_reading_of : List ℕ → List ℕ → List ℕ → GoalCounts → GoalReading
goal_reading_of names cells letters s =
    record {
      goal = record { variables = s.letters; constraints = cell_constraints (take (constraint_size * s.constraints) cells) };
      letters = letters_of letters s.letters;
      constants = constants_of names s.constants;
    }

-- the code's answer to a goal's text
unfoldable pub goal_answer : List ℕ → List ℕ → List ℕ → Result GoalCounts FaultAt → Answer GoalReading
goal_answer names cells letters (Err at) = refused (number_of at.fault) at.line
goal_answer names cells letters (Ok s) = accepted (goal_reading_of names cells letters s)

-- what is promised of a goal's text, over the symbols and the first c constants that the tables hold: the answer, that the names
-- which are not constants stay, and that names stand where their places say, if they did
pub record GoalIn (goal symbols names places : List ℕ) (c : ℕ) (names' places' cells' letters' : List ℕ) (r : Result GoalCounts FaultAt)
    : Type 0 where
  pub answers :
      (k : ℕ) → length symbols ≡ symbol_size * k
      → goal_answer names' cells' letters' r ≡ read_goal (symbols_of names symbols k) (constants_of names c) goal
  pub fits : goal_fits letters' r
  pub outside : Outside names names'
  pub placed : (program : List ℕ) → Placed program goal names places → Placed program goal names' places'
  pub room : Room symbols names' places' cells' letters'
