-- What the program reader's answers and tables mean: one decoding for each, and what is promised of each line.
--   rule_read, rules_read, draft_of           what the tables hold behind a line
--   RowFits, RowsFit, Sound, Begun, Room   tables whose counts are within their room
--   line_answer, Kept                       the code's answer to a line, and what every line keeps
--   SymbolIn, RuleIn, AddsIn, LineIn       what is promised of a K line, an R line, a J, H, B or E line, and any line
--   head_gained                             what is promised of an H line besides
--   LinesIn, FaultIn, RulesIn              of all lines, and of the rules
--   program_answer, ProgramIn               of a program's text
-- Assumes nothing.
use Rattle.std.specs.Prelude.{◌≡◌, ℕ, zero, suc, ◌+◌, ◌-◌, ◌*◌, ◌≤◌, ◌<◌, cond, List, leb, eqb, length, get_or, take, Result, Ok, Err, IfOk}
use Rattle.faults.specs.Faults.{number_of}
use Rattle.faults.specs.declared.Fault.{Fault}
use Rattle.faults.specs.declared.FaultAt.{FaultAt}
use Rattle.text.specs.Lists.{tabled}
use Rattle.text.specs.Lines.{lines}
use Rattle.text.specs.Splits.{Holds}
use Rattle.text.specs.declared.fields.Fields.{Fields}
use Rattle.semantics.specs.Terms as terms
use Rattle.syntax.specs.Answers.{Answer, refused, accepted}
use Rattle.syntax.specs.Forms.{Form, head_form, body_form}
use Rattle.syntax.specs.Programs.{RuleRead, Draft, Reading, blank, read_symbol, read_rule}
use Rattle.syntax.specs.Programs.{read_form, read_fields, read_lines, check_rules}
use Rattle.syntax.specs.Programs.{read_program}
use Rattle.tables.specs.Layout.{max_names, symbol_size, row_size, kept_cell, line_cell, heads_cell, body_cell, equations_cell}
use Rattle.tables.specs.Rows.{symbols_of, constants_of, rule_of_row, row_of, rule_of, rules_of}
use Rattle.tables.specs.Names.{Placed}
use Rattle.lines.specs.declared.Section.TheVariants.{Symbols}
use Rattle.lines.specs.Read.{section_meant, KeepsPlaces}
use Rattle.programs.specs.declared.Stage.{Stage}
use Rattle.programs.specs.declared.Counts.{Counts}

-- rule i of a table, with its R line
unfoldable pub rule_read : List ℕ → List ℕ → ℕ → RuleRead
rule_read names rules i = record { rule = rule_of names rules i; line = get_or (row_of rules i) line_cell 0 }

-- the first n rules, with their R lines
unfoldable pub rules_read : List ℕ → List ℕ → ℕ → List RuleRead
rules_read names rules n = tabled (rule_read names rules) n

-- what the tables hold where reading stands
unfoldable pub draft_of : List ℕ → List ℕ → List ℕ → Stage → Draft
draft_of names symbols rules s =
    record {
      section = section_meant s.section;
      symbols = symbols_of names symbols s.symbols;
      rules = rules_read names rules s.rules;
      constants = constants_of names s.constants;
    }

-- the counts of a rule's row are within its room, and no more heads are kept than there are
pub record RowFits (row : List ℕ) : Type 0 where
  pub kept : get_or row kept_cell 0 ≤ get_or row heads_cell 0
  pub heads : get_or row heads_cell 0 ≤ 4
  pub body : get_or row body_cell 0 ≤ 6
  pub equations : get_or row equations_cell 0 ≤ 4

-- the counts of each row of a table are
abbrev pub RowsFit : List ℕ → Type 0
RowsFit rules = (i : ℕ) → row_size * i + row_size ≤ length rules → RowFits (row_of rules i)

-- the counts are within the tables, and each rule's counts within its row
pub record Sound (rules : List ℕ) (s : Stage) : Type 0 where
  pub few-symbols : s.symbols ≤ 32
  pub few-rules : s.rules ≤ 32
  pub few-constants : s.constants ≤ 64
  pub rows : (i : ℕ) → i < s.rules → RowFits (row_of rules i)

-- behind the K lines a rule has begun
abbrev pub Begun : Stage → Type 0
Begun s = (s.section ≡ Symbols → ⊥) → 0 < s.rules

-- the tables that a program fills, by their lengths
pub record Room (names places symbols rules : List ℕ) : Type 0 where
  pub names-size : length names ≡ max_names
  pub places-size : length places ≡ max_names
  pub symbols-size : length symbols ≡ 128
  pub rules-size : length rules ≡ 2048

-- the code's answer to line n
unfoldable pub line_answer : List ℕ → List ℕ → List ℕ → ℕ → Result Stage Fault → Answer Draft
line_answer names symbols rules n (Err x) = refused (number_of x) n
line_answer names symbols rules n (Ok s) = accepted (draft_of names symbols rules s)

-- the counts behind a line that is not refused
abbrev pub sound_after : List ℕ → Result Stage Fault → Type 0
sound_after rules r = IfOk r (λ s. Sound rules s × Begun s)

-- what every line keeps of the names and places: their lengths, and that names stand where their places say
pub record Kept (f : Fields) (names places names' places' : List ℕ) : Type 0 where
  pub names-size : length names' ≡ length names
  pub places-size : length places' ≡ length places
  pub keeps : KeepsPlaces 0 f names places names' places'

-- what is promised of a K line
pub record SymbolIn (f : Fields) (s : Stage) (names places symbols names' places' symbols' : List ℕ) (r : Result Stage Fault) : Type 0 where
  pub answers :
      (fs : List (List ℕ)) (rules : List ℕ) (n : ℕ) → Holds fs f
      → line_answer names' symbols' rules n r ≡ read_symbol n fs (draft_of names symbols rules s)
  pub sound : (rules : List ℕ) → Sound rules s → Begun s → sound_after rules r
  pub kept : Kept f names places names' places'
  pub size : length symbols' ≡ length symbols

-- what is promised of an R line at line n
pub record RuleIn (f : Fields) (n : ℕ) (s : Stage) (names places rules names' places' rules' : List ℕ) (r : Result Stage Fault)
    : Type 0 where
  pub answers :
      (fs : List (List ℕ)) (symbols : List ℕ) → Holds fs f
      → line_answer names' symbols rules' n r ≡ read_rule n fs (draft_of names symbols rules s)
  pub sound : sound_after rules' r
  pub kept : Kept f names places names' places'
  pub size : length rules' ≡ length rules

-- the form of a line that adds to part 0 of a rule, its heads, or to part 1, its body
unfoldable pub part_form : ℕ → Form
part_form zero = head_form
part_form (suc w) = body_form

-- what is promised of a J, H, B or E line, over the used part of the table of symbols
pub record AddsIn (form : Form) (f : Fields) (s : Stage) (used names places rules names' places' rules' : List ℕ) (r : Result Stage Fault)
    : Type 0 where
  pub answers :
      (fs : List (List ℕ)) (symbols : List ℕ) (n : ℕ) → Holds fs f → take (symbol_size * s.symbols) symbols ≡ used
      → line_answer names' symbols rules' n r ≡ read_form form n fs (draft_of names symbols rules s)
  pub sound : sound_after rules' r
  pub kept : Kept f names places names' places'
  pub size : length rules' ≡ length rules

-- what is promised of an H line (part 0) besides: the rules are as many as before, and not all heads of the last one are kept
abbrev pub head_gained : ℕ → Stage → List ℕ → Result Stage Fault → Type 0
head_gained part s rules r =
    IfOk r (λ t. (t.rules ≡ s.rules)
    × (part ≡ 0 → get_or (row_of rules (s.rules - 1)) kept_cell 0 < get_or (row_of rules (s.rules - 1)) heads_cell 0))

-- what is promised of line n
pub record LineIn (f : Fields) (n : ℕ) (s : Stage) (names places symbols rules names' places' symbols' rules' : List ℕ)
    (r : Result Stage Fault) : Type 0 where
  pub answers :
      (fs : List (List ℕ)) → Holds fs f → 0 < length fs
      → line_answer names' symbols' rules' n r ≡ read_fields n fs (draft_of names symbols rules s)
  pub sound : sound_after rules' r
  pub kept : Kept f names places names' places'
  pub symbols-size : length symbols' ≡ length symbols
  pub rules-size : length rules' ≡ length rules

-- the code's answer to all lines of a text
unfoldable pub lines_answer : List ℕ → List ℕ → List ℕ → Result Stage FaultAt → Answer Draft
lines_answer names symbols rules (Err at) = refused (number_of at.fault) at.line
lines_answer names symbols rules (Ok s) = accepted (draft_of names symbols rules s)

-- the counts behind all lines, if none is refused
abbrev pub lines_sound : List ℕ → Result Stage FaultAt → Type 0
lines_sound rules r = IfOk r (Sound rules)

-- what is promised of all lines of a text
pub record LinesIn (text names places names' places' symbols' rules' : List ℕ) (r : Result Stage FaultAt) : Type 0 where
  pub answers : lines_answer names' symbols' rules' r ≡ read_lines 1 blank (lines text)
  pub sound : lines_sound rules' r
  pub placed : (goal : List ℕ) → Placed text goal names places → Placed text goal names' places'
  pub room : Room names' places' symbols' rules'

-- the number that a rule meets: 8, then 9; 0 where it meets neither
unfoldable pub rule_fault : List terms.Symbol → terms.Rule → ℕ
rule_fault symbols r =
    cond (eqb (length (terms.removed_heads r)) 0) 8
    (cond (leb (terms.weight symbols (terms.removed_heads r)) (terms.weight symbols r.body)) 9 0)

-- the number of the code's answer to a rule
abbrev pub number_met : Result (Unit {0}) Fault → ℕ
number_met (Err x) = number_of x
number_met (Ok u) = 0

-- what is promised of a rule's row, whatever its name: the number that it meets
pub record FaultIn (symbols row : List ℕ) (r : Result (Unit {0}) Fault) : Type 0 where
  pub fault : (names name : List ℕ) (k : ℕ) → length symbols ≡ symbol_size * k
      → number_met r ≡ rule_fault (symbols_of names symbols k) (rule_of_row name row)

-- the code's answer to the rules, with what follows where none is refused
unfoldable pub rules_answer : Result (Unit {0}) FaultAt → Answer Reading → Answer Reading
rules_answer (Err at) otherwise = refused (number_of at.fault) at.line
rules_answer (Ok u) otherwise = otherwise

-- what is promised of the rules of a table
pub record RulesIn (symbols rules : List ℕ) (r : Result (Unit {0}) FaultAt) : Type 0 where
  pub answers :
      (names : List ℕ) (k m : ℕ) (otherwise : Answer Reading) → length symbols ≡ symbol_size * k → length rules ≡ row_size * m
      → rules_answer r otherwise ≡ check_rules (symbols_of names symbols k) (rules_read names rules m) otherwise

-- the program that the tables hold
unfoldable pub reading_of : List ℕ → List ℕ → List ℕ → Counts → Reading
reading_of names symbols rules c =
    record {
      program = record { symbols = symbols_of names symbols c.symbols; rules = rules_of names rules c.rules };
      constants = constants_of names c.constants;
    }

-- the code's answer to a program's text
unfoldable pub program_answer : List ℕ → List ℕ → List ℕ → Result Counts FaultAt → Answer Reading
program_answer names symbols rules (Err at) = refused (number_of at.fault) at.line
program_answer names symbols rules (Ok c) = accepted (reading_of names symbols rules c)

-- what a program's tables keep to
pub record ProgramFits (rules : List ℕ) (c : Counts) : Type 0 where
  pub few-symbols : c.symbols ≤ 32
  pub few-rules : c.rules ≤ 32
  pub few-constants : c.constants ≤ 64
  pub rows : (i : ℕ) → i < c.rules → RowFits (row_of rules i)

-- the same of a program that is not refused
abbrev pub program_fits : List ℕ → Result Counts FaultAt → Type 0
program_fits rules r = IfOk r (ProgramFits rules)

-- what is promised of a program's text, whatever goal the names that were there before are of
pub record ProgramIn (text names places names' places' symbols' rules' : List ℕ) (r : Result Counts FaultAt) : Type 0 where
  pub answers : program_answer names' symbols' rules' r ≡ read_program text
  pub fits : program_fits rules' r
  pub placed : (goal : List ℕ) → Placed text goal names places → Placed text goal names' places'
  pub room : Room names' places' symbols' rules'
