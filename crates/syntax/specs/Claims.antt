-- What is claimed of the numbers of constants (document 02, W3): two constants have one number exactly if they are one.
--   Among          a constant is one of a list
--   ByValue        the constants of a text as read
--   term_fields, terms_in    the term fields of a line and of lines
--   StandsIn, TextByValue  the constants of a text: those read, and no others
--   KeepsNumbers   constants that go on from others
-- `read-by-value` and `goal-by-value` of proofs/ByValue.antt say that these hold of every program and of every goal that is read.
-- Assumes nothing.
use Rattle.std.specs.Prelude.{ℕ, ◌≤◌, ◌<◌, true, List, [], ◌↔◌, ◌≡◌, length, get_or, drop}
use Rattle.text.specs.Lists.{gather}
use Rattle.text.specs.Lines.{Line, lines}
use Rattle.text.specs.Fields.{fields, is_name}
use Rattle.text.specs.Constants.{SameConstant, constant_name}
use Rattle.syntax.specs.Forms.{Form, symbol_form, rule_form, kept_form, head_form, body_form, equation_form, goal_form, no_form}
use Rattle.syntax.specs.Forms.{form_of, field_at, term_of}

-- a constant is one of a list: the i-th
pub record Among (f : List ℕ) (constants : List (List ℕ)) : Type 0 where
  pub i : ℕ
  pub inside : i < length constants
  pub same : SameConstant f (get_or constants i [])

-- constants as a text that reads gives them: two constants, of which one is among them, have one number exactly if they are one,
-- however they are spelled; no two of the list are one, so that each counts once; and each stands in the list under its name,
-- which is what listings print
pub record ByValue (constants : List (List ℕ)) : Type 0 where
  pub one_number :
      (variable : List ℕ → ℕ) (f g : List ℕ) → is_name f ≡ true → is_name g ≡ true → Among f constants
      → (term_of variable constants f ≡ term_of variable constants g) ↔ SameConstant f g
  pub once :
      (i j : ℕ) → i < length constants → j < length constants → SameConstant (get_or constants i []) (get_or constants j []) → i ≡ j
  pub named : (i : ℕ) → i < length constants → constant_name (get_or constants i []) ≡ get_or constants i []

-- the term fields of a line of a form
unfoldable pub term_fields : Form → List (List ℕ) → List (List ℕ)
term_fields symbol_form fs = []
term_fields rule_form fs = []
term_fields kept_form fs = drop 2 fs
term_fields head_form fs = drop 2 fs
term_fields body_form fs = drop 2 fs
term_fields equation_form fs = drop 1 fs
term_fields goal_form fs = drop 2 fs
term_fields no_form fs = []

-- the term fields of lines, in order
unfoldable pub terms_in : List Line → List (List ℕ)
terms_in ls = gather (λ l. term_fields (form_of (field_at 0 (fields l.bytes))) (fields l.bytes)) ls

-- a constant stands among some fields: it is the i-th
pub record StandsIn (c : List ℕ) (fs : List (List ℕ)) : Type 0 where
  pub i : ℕ
  pub inside : i < length fs
  pub name : is_name (get_or fs i []) ≡ true
  pub same : SameConstant (get_or fs i []) c

-- a text as read behind the constants before it: each constant among the fields of its lines is among the constants, and each
-- that was not there before stands in the text; they are as a text gives them
pub record TextByValue (text : List ℕ) (before constants : List (List ℕ)) : Type 0 where
  pub all :
      (i : ℕ) → i < length (terms_in (lines text)) → is_name (get_or (terms_in (lines text)) i []) ≡ true
      → Among (get_or (terms_in (lines text)) i []) constants
  pub only :
      (i : ℕ) → length before ≤ i → i < length constants → StandsIn (get_or constants i []) (terms_in (lines text))
  pub by_value : ByValue constants

-- constants that go on from others: each of those before keeps its number
pub record KeepsNumbers (before after : List (List ℕ)) : Type 0 where
  pub stays :
      (variable : List ℕ → ℕ) (f : List ℕ) → is_name f ≡ true → Among f before
      → term_of variable after f ≡ term_of variable before f
