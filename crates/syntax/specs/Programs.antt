-- Reading a program: what each line means, refusals 1 to 9 in document 01's order, and the limits on every count.
--   Reading           a program as read, with its constants
--   Draft, RuleRead   what the lines so far have given; a rule with its R line
--   constraint_line    a J, H, B or G line: numbers 4, 6 and 7
--   read_line          one line: number 2, then 3 to 7
--   read_program       a program's text
-- Assumes nothing.
use Rattle.std.specs.Prelude.{ℕ, suc, ◌+◌, Bool, ◌||◌, List, [], ◌∷◌, ◌++◌, map, leb, ltb, eqb, length, drop}
use Rattle.text.specs.Lists.{onward, is_known}
use Rattle.text.specs.Lines.{Line, lines, line_is_faulty}
use Rattle.text.specs.Fields.{fields, value_of}
use Rattle.semantics.specs.Terms.{Term, Constraint, Equation, Symbol, Rule, Program, removed_heads, weight}
use Rattle.syntax.specs.Answers.{Answer, refused, accepted, refuse_if, and_then}
use Rattle.syntax.specs.Forms.{Form, symbol_form, rule_form, kept_form, head_form, body_form, equation_form, goal_form, no_form}
use Rattle.syntax.specs.Forms.{form_of, Section, in_symbols, section_after, field_at, constants_after, term_of, letter_number}
use Rattle.syntax.specs.Forms.{is_symbol_faulty, is_rule_faulty, is_equation_faulty, is_constraint_faulty}
use Rattle.syntax.specs.Forms.{is_undeclared, constraint_of}

-- the most that document 01 allows of each
abbrev pub max_text : ℕ
max_text = 16384

abbrev pub max_symbols : ℕ
max_symbols = 32

abbrev pub max_rules : ℕ
max_rules = 32

abbrev pub max_heads : ℕ
max_heads = 4

abbrev pub max_body : ℕ
max_body = 6

abbrev pub max_equations : ℕ
max_equations = 4

abbrev pub max_constants : ℕ
max_constants = 64

-- a program as read: the program, and the names of its constants in order of first appearance
pub record Reading : Type 0 where
  pub program : Program
  pub constants : List (List ℕ)

-- a rule as read, and its R line
pub record RuleRead : Type 0 where
  pub rule : Rule
  pub line : ℕ

-- what the lines so far have given: the section of the last one, the symbols, the rules and the constants. The last rule is the
-- one that J, H, B and E lines add to
pub record Draft : Type 0 where
  pub section : Section
  pub symbols : List Symbol
  pub rules : List RuleRead
  pub constants : List (List ℕ)

-- where reading starts
unfoldable pub blank : Draft
blank = record { section = in_symbols; symbols = []; rules = []; constants = [] }

-- a draft in another section
unfoldable pub in_section : Section → Draft → Draft
in_section section d = record { section = section; symbols = d.symbols; rules = d.rules; constants = d.constants }

-- the rules with the last one changed
unfoldable pub on_last : (Rule → Rule) → List RuleRead → List RuleRead
on_last f [] = []
on_last f (r ∷ []) = record { rule = f r.rule; line = r.line } ∷ []
on_last f (r ∷ q ∷ rs) = r ∷ on_last f (q ∷ rs)

-- the rule that J, H, B and E lines add to
unfoldable pub last_rule : List RuleRead → Rule
last_rule [] = record { name = []; kept = 0; heads = []; body = []; equations = [] }
last_rule (r ∷ []) = r.rule
last_rule (r ∷ q ∷ rs) = last_rule (q ∷ rs)

-- a rule with one more kept head (all heads before it are kept: J lines come before H lines), one more head that is removed, one
-- more constraint of the body, one more equation
unfoldable pub with_kept : Constraint → Rule → Rule
with_kept c r =
    record {
      name = r.name;
      kept = r.kept + 1;
      heads = r.heads ++ (c ∷ []);
      body = r.body;
      equations = r.equations;
    }

unfoldable pub with_head : Constraint → Rule → Rule
with_head c r =
    record { name = r.name; kept = r.kept; heads = r.heads ++ (c ∷ []); body = r.body; equations = r.equations }

unfoldable pub with_body : Constraint → Rule → Rule
with_body c r =
    record { name = r.name; kept = r.kept; heads = r.heads; body = r.body ++ (c ∷ []); equations = r.equations }

unfoldable pub with_equation : Equation → Rule → Rule
with_equation e r =
    record { name = r.name; kept = r.kept; heads = r.heads; body = r.body; equations = r.equations ++ (e ∷ []) }

-- a K line at line n
unfoldable pub read_symbol : ℕ → List (List ℕ) → Draft → Answer Draft
read_symbol n fs d =
    let name = field_at 1 fs in
    refuse_if (is_symbol_faulty fs) 4 n
    (refuse_if (is_known name (map (λ s. s.name) d.symbols)) 5 n
    (refuse_if (leb max_symbols (length d.symbols)) 7 n
    (accepted
    (record {
      section = d.section;
      symbols = d.symbols ++ (record { name = name; arity = value_of (field_at 2 fs); weight = value_of (field_at 3 fs) } ∷ []);
      rules = d.rules;
      constants = d.constants;
    }))))

-- an R line at line n
unfoldable pub read_rule : ℕ → List (List ℕ) → Draft → Answer Draft
read_rule n fs d =
    let name = field_at 1 fs in
    refuse_if (is_rule_faulty fs) 4 n
    (refuse_if (is_known name (map (λ r. r.rule.name) d.rules)) 5 n
    (refuse_if (leb max_rules (length d.rules)) 7 n
    (accepted
    (record {
      section = d.section;
      symbols = d.symbols;
      rules =
          d.rules ++ (record { rule = record { name = name; kept = 0; heads = []; body = []; equations = [] }; line = n } ∷ []);
      constants = d.constants;
    }))))

-- a constraint of a line, and all constants after it
pub record Found : Type 0 where
  pub constraint : Constraint
  pub constants : List (List ℕ)

-- a J, H, B or G line at line n, over the constants before it; `full` says that there are as many as there may be
unfoldable pub constraint_line : Bool → List Symbol → (List ℕ → ℕ) → List (List ℕ) → ℕ → List (List ℕ) → Answer Found
constraint_line full symbols variable constants n fs =
    let after = constants_after (drop 2 fs) constants in
    refuse_if (is_constraint_faulty fs) 4 n
    (refuse_if (is_undeclared symbols fs) 6 n
    (refuse_if (full || ltb max_constants (length after)) 7 n
    (accepted (record { constraint = constraint_of symbols variable after fs; constants = after }))))

-- the draft after a line that changes the last rule and may bring constants
unfoldable pub with_rule : (Rule → Rule) → List (List ℕ) → Draft → Draft
with_rule change constants d =
    record { section = d.section; symbols = d.symbols; rules = on_last change d.rules; constants = constants }

-- a J, H or B line at line n, of which the last rule has `count` and may have `most`
unfoldable pub read_constraint : ℕ → ℕ → (Constraint → Rule → Rule) → ℕ → List (List ℕ) → Draft → Answer Draft
read_constraint count most add n fs d =
    and_then (constraint_line (leb most count) d.symbols letter_number d.constants n fs)
    (λ found. accepted (with_rule (add found.constraint) found.constants d))

-- an E line at line n
unfoldable pub read_equation : ℕ → List (List ℕ) → Draft → Answer Draft
read_equation n fs d =
    let constants = constants_after (drop 1 fs) d.constants in
    let side : ℕ → Term = λ k. term_of letter_number constants (field_at k fs) in
    refuse_if (is_equation_faulty fs) 4 n
    (refuse_if (leb max_equations (length (last_rule d.rules).equations) || ltb max_constants (length constants)) 7 n
    (accepted (with_rule (with_equation (record { left = side 1; right = side 2 })) constants d)))

-- a line of a form that may stand where it does
unfoldable pub read_form : Form → ℕ → List (List ℕ) → Draft → Answer Draft
read_form symbol_form n fs d = read_symbol n fs d
read_form rule_form n fs d = read_rule n fs d
read_form kept_form n fs d = read_constraint (length (last_rule d.rules).heads) max_heads with_kept n fs d
read_form head_form n fs d = read_constraint (length (last_rule d.rules).heads) max_heads with_head n fs d
read_form body_form n fs d = read_constraint (length (last_rule d.rules).body) max_body with_body n fs d
read_form equation_form n fs d = read_equation n fs d
read_form goal_form n fs d = refused 3 n
read_form no_form n fs d = refused 3 n

-- the fields of line n: number 3, then what its form asks
unfoldable pub read_fields : ℕ → List (List ℕ) → Draft → Answer Draft
read_fields n fs d =
    let form = form_of (field_at 0 fs) in
    onward (section_after form d.section) (refused 3 n) (λ section. read_form form n fs (in_section section d))

-- line n: number 2, then 3 to 7
unfoldable pub read_line : ℕ → Line → Draft → Answer Draft
read_line n l d = refuse_if (line_is_faulty l) 2 n (read_fields n (fields l.bytes) d)

-- the lines from line n on
unfoldable pub read_lines : ℕ → Draft → List Line → Answer Draft
read_lines n d [] = accepted d
read_lines n d (l ∷ ls) = and_then (read_line n l d) (λ e. read_lines (suc n) e ls)

-- the rules in order, each at its R line: number 8, then 9; else what follows
unfoldable pub check_rules : {A : Type 0} → List Symbol → List RuleRead → Answer A → Answer A
check_rules symbols [] otherwise = otherwise
check_rules symbols (r ∷ rs) otherwise =
    let more = check_rules symbols rs otherwise in
    refuse_if (eqb (length (removed_heads r.rule)) 0) 8 r.line
    (refuse_if (leb (weight symbols (removed_heads r.rule)) (weight symbols r.rule.body)) 9 r.line more)

-- a program's text: number 1, its lines in order, then its rules in order
unfoldable pub read_program : List ℕ → Answer Reading
read_program s =
    refuse_if (ltb max_text (length s)) 1 0
    (and_then (read_lines 1 blank (lines s))
    (λ d. check_rules d.symbols d.rules
    (accepted
    (record { program = record { symbols = d.symbols; rules = map (λ r. r.rule) d.rules }; constants = d.constants }))))
