-- The forms of a line, and what its term fields stand for.
--   Form, form_of             what a line means, by its first field
--   Section, section_after    which form may follow which
--   constants_after, term_of   constants and variables, numbered by first appearance; constants by their names (text, Constants)
--   is_symbol_faulty, is_rule_faulty, is_equation_faulty, is_constraint_faulty    number 4 of each form
-- Assumes nothing.
use Rattle.std.specs.Prelude.{ℕ, ◌+◌, ◌-◌, Bool, cond, not, ◌||◌, List, [], ◌∷◌, map, ltb, eqb, length, get_or, drop}
use Rattle.std.proofs.Math.Option.{Option, none, some}
use Rattle.text.specs.Bytes.{between}
use Rattle.text.specs.Lists.{every, index_of, with_name}
use Rattle.text.specs.Fields.{is_name, is_term, is_number_in}
use Rattle.text.specs.Constants.{constant_name}
use Rattle.semantics.specs.Terms.{Term, con, var, Constraint, Symbol, symbol_at}

-- the forms of a line: K, R, J, H, B, E and G, and any other
pub data Form : Type 0 where
  symbol_form rule_form kept_form head_form body_form equation_form goal_form no_form : Form

-- the form that a byte stands for, over all byte values
unfoldable pub form_of_byte : ℕ → Form
form_of_byte b =
    cond (eqb b 75) symbol_form
    (cond (eqb b 82) rule_form
    (cond (eqb b 74) kept_form
    (cond (eqb b 72) head_form (cond (eqb b 66) body_form (cond (eqb b 69) equation_form (cond (eqb b 71) goal_form no_form))))))

-- the form of a line by its first field, which is one letter
unfoldable pub form_of : List ℕ → Form
form_of [] = no_form
form_of (b ∷ []) = form_of_byte b
form_of (b ∷ c ∷ s) = no_form

-- where a line stands in a program: among the K lines, or in a rule behind its R or J lines, its H lines, its B lines or its
-- E lines
pub data Section : Type 0 where
  in_symbols in_kept in_heads in_body in_equations : Section

-- the section after a line of a form, if it may stand in this section: all K lines come first; in each rule J lines come before
-- H lines, H lines before B lines, and B lines before E lines
unfoldable pub section_after : Form → Section → Option Section
section_after symbol_form in_symbols = some in_symbols
section_after symbol_form in_kept = none
section_after symbol_form in_heads = none
section_after symbol_form in_body = none
section_after symbol_form in_equations = none
section_after rule_form section = some in_kept
section_after kept_form in_symbols = none
section_after kept_form in_kept = some in_kept
section_after kept_form in_heads = none
section_after kept_form in_body = none
section_after kept_form in_equations = none
section_after head_form in_symbols = none
section_after head_form in_kept = some in_heads
section_after head_form in_heads = some in_heads
section_after head_form in_body = none
section_after head_form in_equations = none
section_after body_form in_symbols = none
section_after body_form in_kept = some in_body
section_after body_form in_heads = some in_body
section_after body_form in_body = some in_body
section_after body_form in_equations = none
section_after equation_form in_symbols = none
section_after equation_form in_kept = some in_equations
section_after equation_form in_heads = some in_equations
section_after equation_form in_body = some in_equations
section_after equation_form in_equations = some in_equations
section_after goal_form section = none
section_after no_form section = none

-- a field of a line by its number, from 0
unfoldable pub field_at : ℕ → List (List ℕ) → List ℕ
field_at n fs = get_or fs n []

-- the names of constants after a line: those before it, then those of the new ones among its term fields, in order
unfoldable pub constants_after : List (List ℕ) → List (List ℕ) → List (List ℕ)
constants_after [] constants = constants
constants_after (f ∷ fs) constants = constants_after fs (cond (is_name f) (with_name (constant_name f) constants) constants)

-- the number of the constant that appears first: constants count from 64, behind every symbol's number
abbrev pub first_constant : ℕ
first_constant = 64

-- what a term field stands for: a constant by the index of its name, or a variable by the number that its letter has
unfoldable pub term_of : (List ℕ → ℕ) → List (List ℕ) → List ℕ → Term
term_of variable constants f = cond (is_name f) (con (first_constant + index_of (constant_name f) constants)) (var (variable f))

-- the number of a rule's variable: its letter's, A being 0
unfoldable pub letter_number : List ℕ → ℕ
letter_number f = get_or f 0 65 - 65

-- number 4 of a K line: not four fields, a name, 0 to 4 terms and a weight from 1 to 31
unfoldable pub is_symbol_faulty : List (List ℕ) → Bool
is_symbol_faulty fs =
    not (eqb (length fs) 4) || not (is_name (field_at 1 fs)) || not (is_number_in 0 4 (field_at 2 fs))
    || not (is_number_in 1 31 (field_at 3 fs))

-- number 4 of an R line: not two fields, a name
unfoldable pub is_rule_faulty : List (List ℕ) → Bool
is_rule_faulty fs = not (eqb (length fs) 2) || not (is_name (field_at 1 fs))

-- number 4 of an E line: not three fields, two terms
unfoldable pub is_equation_faulty : List (List ℕ) → Bool
is_equation_faulty fs = not (eqb (length fs) 3) || not (every is_term (drop 1 fs))

-- number 4 of a J, H, B or G line: not two to six fields, a name, terms
unfoldable pub is_constraint_faulty : List (List ℕ) → Bool
is_constraint_faulty fs = not (between 2 6 (length fs)) || not (is_name (field_at 1 fs)) || not (every is_term (drop 2 fs))

-- the number of a symbol by its name; behind the last where none has it
unfoldable pub symbol_number : List Symbol → List ℕ → ℕ
symbol_number symbols name = index_of name (map (λ s. s.name) symbols)

-- whether the symbol of a J, H, B or G line was not declared, or the number of terms is not its own
unfoldable pub is_undeclared : List Symbol → List (List ℕ) → Bool
is_undeclared symbols fs =
    let n = symbol_number symbols (field_at 1 fs) in
    not (ltb n (length symbols)) || not (eqb (length (drop 2 fs)) (symbol_at symbols n).arity)

-- the constraint of a J, H, B or G line
unfoldable pub constraint_of : List Symbol → (List ℕ → ℕ) → List (List ℕ) → List (List ℕ) → Constraint
constraint_of symbols variable constants fs =
    record { symbol = symbol_number symbols (field_at 1 fs); terms = map (term_of variable constants) (drop 2 fs) }
