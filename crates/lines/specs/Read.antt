-- What the readers of both texts find in a line: one decoding for each of their answers.
--   form_meant, section_meant, section_answer      the code's forms and sections; section_numbered: those of numbers
--   constraint_head, head_answer              numbers 4 and 6 of a J, H, B or G line
--   term_cell, padded                        the cell of a term, and cells with zeros behind them
--   Lent, Outside, Spelled, KeepsPlaces     the tables lent, and what a line does to names and places
--   TermIn, TermsIn, ConstraintIn           what is promised of a term, of the terms of a line and of its constraint
--   CellsMean                               the cells of a constraint, by its term fields
-- Assumes nothing.
use Rattle.std.specs.Prelude.{◌≡◌, ℕ, zero, suc, ◌+◌, ◌*◌, ◌≤◌, ◌<◌, Bool, true, false, cond, List, [], ◌∷◌, map, length, drop, get_or, Option, Some, None, Result, Ok, Err, IfOk}
use Rattle.std.proofs.Math.Option as maybe
use Rattle.faults.specs.Faults.{number_of}
use Rattle.faults.specs.declared.Fault.{Fault}
use Rattle.faults.specs.declared.Fault.TheVariants.{LimitPassed}
use Rattle.text.specs.Lists.{every, index_of}
use Rattle.text.specs.Fields.{is_name, is_term}
use Rattle.text.specs.Constants.{constant_name}
use Rattle.text.specs.Keys.{key_of}
use Rattle.text.specs.Splits.{Holds}
use Rattle.text.specs.declared.fields.Fields.{Fields}
use Rattle.semantics.specs.Terms as terms
use Rattle.syntax.specs.Answers.{Answer, refused, accepted, refuse_if}
use Rattle.syntax.specs.Forms.{Form, symbol_form, rule_form, kept_form, head_form, body_form, equation_form, goal_form, no_form}
use Rattle.syntax.specs.Forms.{Section, in_symbols, in_kept, in_heads, in_body, in_equations, field_at, constants_after, first_constant}
use Rattle.syntax.specs.Forms.{letter_number, is_constraint_faulty, symbol_number, is_undeclared}
use Rattle.syntax.specs.Programs.{Found, constraint_line}
use Rattle.tables.specs.Layout.{max_names, first_rule, goal_place}
use Rattle.tables.specs.Cells.{row_constraint}
use Rattle.tables.specs.Rows.{symbols_of, constants_of}
use Rattle.tables.specs.Names.{placed_at, Placed}
use Rattle.lines.specs.declared.LineForm.{LineForm}
use Rattle.lines.specs.declared.LineForm.TheVariants.{Symbol, Rule, Kept, Head, Body, Equation, Goal, Nothing}
use Rattle.lines.specs.declared.Section.{Section as CodeSection}
use Rattle.lines.specs.declared.Section.TheVariants.{Symbols, Kept as InKept, Heads, Body as InBody, Equations}
use Rattle.lines.specs.declared.TermRead.{TermRead}
use Rattle.lines.specs.declared.TermsRead.{TermsRead}
use Rattle.lines.specs.declared.ConstraintRead.{ConstraintRead}

-- the form that the code's form stands for
unfoldable pub form_meant : LineForm → Form
form_meant Symbol = symbol_form
form_meant Rule = rule_form
form_meant Kept = kept_form
form_meant Head = head_form
form_meant Body = body_form
form_meant Equation = equation_form
form_meant Goal = goal_form
form_meant Nothing = no_form

-- the section that the code's section stands for
unfoldable pub section_meant : CodeSection → Section
section_meant Symbols = in_symbols
section_meant InKept = in_kept
section_meant Heads = in_heads
section_meant InBody = in_body
section_meant Equations = in_equations

-- the section that a number stands for
unfoldable pub section_numbered : ℕ → Section
section_numbered zero = in_symbols
section_numbered (suc zero) = in_kept
section_numbered (suc (suc zero)) = in_heads
section_numbered (suc (suc (suc zero))) = in_body
section_numbered (suc (suc (suc (suc n)))) = in_equations

-- the section that a line leads to, if it may stand there
abbrev pub section_answer : Option CodeSection → maybe.Option Section
section_answer None = maybe.none
section_answer (Some s) = maybe.some (section_meant s)

-- a J, H, B or G line at line n: number 4, then 6; else its symbol
unfoldable pub constraint_head : List terms.Symbol → ℕ → List (List ℕ) → Answer ℕ
constraint_head symbols n fs =
    refuse_if (is_constraint_faulty fs) 4 n
    (refuse_if (is_undeclared symbols fs) 6 n (accepted (symbol_number symbols (field_at 1 fs))))

-- the code's answer to it
abbrev pub head_answer : ℕ → Result ℕ Fault → Answer ℕ
head_answer n (Err x) = refused (number_of x) n
head_answer n (Ok s) = accepted s

-- a line that is not refused has two to six fields, and its symbol is in the table, of `size` cells
abbrev pub head_fits : Fields → ℕ → Result ℕ Fault → Type 0
head_fits f size r = IfOk r (λ s. (2 ≤ f.count) × (f.count ≤ 6) × (2 * s < size))

-- the cell of a term field: a constant's number, by its name, or 256 more than its letter's
unfoldable pub term_cell : List (List ℕ) → List ℕ → ℕ
term_cell constants f = cond (is_name f) (first_constant + index_of (constant_name f) constants) (254 + key_of f)

-- n cells: those of a list, and zeros behind them
unfoldable pub padded : ℕ → List ℕ → List ℕ
padded zero cells = []
padded (suc n) [] = 0 ∷ padded n []
padded (suc n) (x ∷ cells) = x ∷ padded n cells

-- a line's fields and the tables of names and places, lent to be read and filled
pub record Lent (f : Fields) (base : ℕ) (names places : List ℕ) : Type 0 where
  pub near : (i : ℕ) → get_or f.starts i 0 < 16384
  pub low : base ≤ goal_place
  pub names-size : length names ≡ max_names
  pub places-size : length places ≡ max_names

-- names that are the same but for constants
pub record Outside (names names' : List ℕ) : Type 0 where
  pub size : length names' ≡ length names
  pub symbols : (n : ℕ) → n < first_constant → get_or names' n 0 ≡ get_or names n 0
  pub rules : (n : ℕ) → first_rule ≤ n → get_or names' n 0 ≡ get_or names n 0

-- the names among the fields stand in the two texts where the starts say, `base` added, and so does what is left of a name behind
-- some of its bytes
pub record Spelled (program goal : List ℕ) (base : ℕ) (fs : List (List ℕ)) (f : Fields) : Type 0 where
  pub each :
      (i : ℕ) → i < 8 → i < length fs → is_name (get_or fs i []) ≡ true
      → placed_at program goal (base + get_or f.starts i 0) ≡ get_or fs i []
  pub rests :
      (i j : ℕ) → i < 8 → i < length fs → is_name (get_or fs i []) ≡ true → j < length (get_or fs i [])
      → placed_at program goal (base + get_or f.starts i 0 + j) ≡ drop j (get_or fs i [])

-- names that stand where their places say still do so behind the line
pub record KeepsPlaces (base : ℕ) (f : Fields) (names places names' places' : List ℕ) : Type 0 where
  pub keeps :
      (program goal : List ℕ) (fs : List (List ℕ)) → Holds fs f → Spelled program goal base fs f
      → Placed program goal names places → Placed program goal names' places'

-- number 7 as a fault of constants that pass the limit
pub record Passed (constants : List (List ℕ)) (x : Fault) : Type 0 where
  pub fault : x ≡ LimitPassed
  pub many : 64 < length constants

-- a term field, read behind some constants
pub record TermMeans (g : List ℕ) (before : List (List ℕ)) (names' : List ℕ) (t : TermRead) : Type 0 where
  pub after : constants_of names' t.count ≡ constants_after (g ∷ []) before
  pub cell : t.cell ≡ term_cell (constants_after (g ∷ []) before) g

-- the same, unless the constants pass the limit
abbrev pub term_means : List ℕ → List (List ℕ) → List ℕ → Result TermRead Fault → Type 0
term_means g before names' (Err x) = Passed (constants_after (g ∷ []) before) x
term_means g before names' (Ok t) = TermMeans g before names' t

-- what is promised of one term, for every field that the key may be of
pub record TermIn (key place count : ℕ) (names places names' places' : List ℕ) (r : Result TermRead Fault) : Type 0 where
  pub few : IfOk r (λ t. t.count ≤ 64)
  pub low : IfOk r (λ t. t.cell < 282)
  pub sized : length places' ≡ length places
  pub outside : Outside names names'
  pub means : (g : List ℕ) → key ≡ key_of g → is_term g ≡ true → term_means g (constants_of names count) names' r
  pub keeps :
      (program goal g : List ℕ) → key ≡ key_of g
      → (is_name g ≡ true → (j : ℕ) → j < length g → placed_at program goal (place + j) ≡ drop j g)
      → Placed program goal names places → Placed program goal names' places'

-- the term fields of a line, read behind some constants
pub record TermsMean (gs before : List (List ℕ)) (names' : List ℕ) (t : TermsRead) : Type 0 where
  pub after : constants_of names' t.count ≡ constants_after gs before
  pub cells : t.cells ≡ padded 4 (map (term_cell (constants_after gs before)) gs)

-- the same, unless the constants pass the limit
abbrev pub terms_mean : List (List ℕ) → List (List ℕ) → List ℕ → Result TermsRead Fault → Type 0
terms_mean gs before names' (Err x) = Passed (constants_after gs before) x
terms_mean gs before names' (Ok t) = TermsMean gs before names' t

-- what is promised of the terms of a line, for all fields that it may hold
pub record TermsIn (f : Fields) (from base count : ℕ) (names places names' places' : List ℕ) (r : Result TermsRead Fault)
    : Type 0 where
  pub few : IfOk r (λ t. t.count ≤ 64)
  pub size : IfOk r (λ t. length t.cells ≡ 4)
  pub low : IfOk r (λ t. (i : ℕ) → get_or t.cells i 0 < 282)
  pub sized : length places' ≡ length places
  pub outside : Outside names names'
  pub means :
      (fs : List (List ℕ)) → Holds fs f → every is_term (drop from fs) ≡ true
      → terms_mean (drop from fs) (constants_of names count) names' r
  pub keeps : KeepsPlaces base f names places names' places'

-- the code's answer to a J, H, B or G line at line n
abbrev pub constraint_answer : List ℕ → ℕ → Result ConstraintRead Fault → Answer Found
constraint_answer names n (Err x) = refused (number_of x) n
constraint_answer names n (Ok c) =
    accepted (record { constraint = row_constraint c.cells; constants = constants_of names c.count })

-- the cells of a constraint that is not refused, by its term fields
pub record CellsMean (gs before : List (List ℕ)) (names' : List ℕ) (r : ConstraintRead) : Type 0 where
  pub terms : every is_term gs ≡ true
  pub few : length gs ≤ 4
  pub after : constants_of names' r.count ≡ constants_after gs before
  pub cells : drop 1 r.cells ≡ padded 4 (map (term_cell (constants_after gs before)) gs)

-- what is promised of a J, H, B or G line: the constraint whose variables are letters, and its cells
pub record ConstraintIn (f : Fields) (full : Bool) (base count : ℕ) (symbols names places names' places' : List ℕ)
    (r : Result ConstraintRead Fault) : Type 0 where
  pub few : IfOk r (λ c. c.count ≤ 64)
  pub room : IfOk r (λ c. full ≡ false)
  pub size : IfOk r (λ c. length c.cells ≡ 5)
  pub low : IfOk r (λ c. (i : ℕ) → get_or c.cells i 0 < 282)
  pub sized : length places' ≡ length places
  pub outside : Outside names names'
  pub answers :
      (fs : List (List ℕ)) (n k : ℕ) → Holds fs f → length symbols ≡ 2 * k
      → constraint_answer names' n r ≡ constraint_line full (symbols_of names symbols k) letter_number (constants_of names count) n fs
  pub flat :
      (fs : List (List ℕ)) (k : ℕ) → Holds fs f → length symbols ≡ 2 * k
      → IfOk r (CellsMean (drop 2 fs) (constants_of names count) names')
  pub keeps : KeepsPlaces base f names places names' places'
