-- Reading a goal over the symbols and constants of a program: refusals 1 to 7 and 10.
--   GoalReading     a goal as read, with its variables' letters and all constants
--   read_goal        a goal's text
-- Assumes nothing.
use Rattle.std.specs.Prelude.{ℕ, suc, Bool, true, false, cond, not, List, [], ◌∷◌, ◌++◌, leb, ltb, length, drop}
use Rattle.text.specs.Lists.{index_of, with_name}
use Rattle.text.specs.Lines.{Line, lines, line_is_faulty}
use Rattle.text.specs.Fields.{fields, is_name}
use Rattle.semantics.specs.Terms.{Constraint, Symbol, Goal, weight}
use Rattle.syntax.specs.Answers.{Answer, accepted, refuse_if, and_then}
use Rattle.syntax.specs.Forms.{Form, symbol_form, rule_form, kept_form, head_form, body_form, equation_form, goal_form, no_form}
use Rattle.syntax.specs.Forms.{form_of, field_at}
use Rattle.syntax.specs.Programs.{max_text, constraint_line}

-- the most constraints of a goal's text, and their greatest weight
abbrev pub max_goal : ℕ
max_goal = 64

abbrev pub max_weight : ℕ
max_weight = 512

-- what the lines so far have given: the goal's constraints, the letters of its variables and the names of all constants, the
-- program's among them, both in order of first appearance
pub record GoalDraft : Type 0 where
  pub constraints : List Constraint
  pub letters : List (List ℕ)
  pub constants : List (List ℕ)

-- a goal as read: the goal, the letters of its variables and the names of all constants
pub record GoalReading : Type 0 where
  pub goal : Goal
  pub letters : List (List ℕ)
  pub constants : List (List ℕ)

-- the letters after a line: those before it, then the new ones among its term fields, in order
unfoldable pub letters_after : List (List ℕ) → List (List ℕ) → List (List ℕ)
letters_after [] letters = letters
letters_after (f ∷ fs) letters = letters_after fs (cond (is_name f) letters (with_name f letters))

-- a G line at line n
unfoldable pub read_constraint_of_goal : List Symbol → ℕ → List (List ℕ) → GoalDraft → Answer GoalDraft
read_constraint_of_goal symbols n fs d =
    let letters = letters_after (drop 2 fs) d.letters in
    and_then (constraint_line (leb max_goal (length d.constraints)) symbols (λ f. index_of f letters) d.constants n fs)
    (λ found. accepted
    (record { constraints = d.constraints ++ (found.constraint ∷ []); letters = letters; constants = found.constants }))

-- whether a line of a form may stand in a goal
unfoldable pub is_goal_form : Form → Bool
is_goal_form symbol_form = false
is_goal_form rule_form = false
is_goal_form kept_form = false
is_goal_form head_form = false
is_goal_form body_form = false
is_goal_form equation_form = false
is_goal_form goal_form = true
is_goal_form no_form = false

-- the fields of line n of a goal: number 3, then 4 to 7
unfoldable pub read_goal_fields : List Symbol → ℕ → List (List ℕ) → GoalDraft → Answer GoalDraft
read_goal_fields symbols n fs d =
    refuse_if (not (is_goal_form (form_of (field_at 0 fs)))) 3 n (read_constraint_of_goal symbols n fs d)

-- line n of a goal: number 2, then 3 to 7
unfoldable pub read_goal_line : List Symbol → ℕ → Line → GoalDraft → Answer GoalDraft
read_goal_line symbols n l d = refuse_if (line_is_faulty l) 2 n (read_goal_fields symbols n (fields l.bytes) d)

-- the lines from line n on
unfoldable pub read_goal_lines : List Symbol → ℕ → GoalDraft → List Line → Answer GoalDraft
read_goal_lines symbols n d [] = accepted d
read_goal_lines symbols n d (l ∷ ls) = and_then (read_goal_line symbols n l d) (λ e. read_goal_lines symbols (suc n) e ls)

-- a goal's text over the symbols and constants of a program: number 1, its lines in order, then 10
unfoldable pub read_goal : List Symbol → List (List ℕ) → List ℕ → Answer GoalReading
read_goal symbols constants s =
    refuse_if (ltb max_text (length s)) 1 0
    (and_then (read_goal_lines symbols 1 (record { constraints = []; letters = []; constants = constants }) (lines s))
    (λ d. refuse_if (ltb max_weight (weight symbols d.constraints)) 10 0
    (accepted
    (record {
      goal = record { variables = length d.letters; constraints = d.constraints };
      letters = d.letters;
      constants = d.constants;
    }))))
