-- The kept heads of a rule are those of its J lines: `kept-first`. Wherever a J line may stand, all heads of the rule so far are
-- kept, so that a J line's head stands behind the other kept ones, and H lines add behind these.
-- Assumes nothing.
use Prim.Native.Nat.{ℕ, suc}
use native.Mathlib.Omega.{arith}
use mathlib.Core.Bool.{◌||◌}
use mathlib.Core.List.{List, [], ◌∷◌, ◌++◌, map}
use mathlib.Core.Option.{Option, none, some}
use mathlib.Core.Path.{◌≡◌, refl}
use lib.Dec.{leb, ltb}
use lib.ListN.{length, drop, length-append}
use Rattle.text.specs.Lists.{onward, is_known}
use Rattle.text.specs.Lines.{Line, line_is_faulty}
use Rattle.text.specs.Fields.{fields}
use Rattle.semantics.specs.Terms.{Constraint, Rule}
use Rattle.semantics.proofs.Options.{none-some}
use Rattle.syntax.specs.Answers.{Answer, refused, accepted, and_then}
use Rattle.syntax.specs.Forms.{Form, symbol_form, rule_form, kept_form, head_form, body_form, equation_form, goal_form, no_form}
use Rattle.syntax.specs.Forms.{form_of, Section, in_symbols, in_kept, in_heads, in_body, in_equations, section_after, field_at}
use Rattle.syntax.specs.Forms.{constants_after, letter_number, is_symbol_faulty, is_rule_faulty, is_equation_faulty}
use Rattle.syntax.specs.Programs.{Draft, RuleRead, Found, blank, in_section, on_last, last_rule, with_kept, with_head, with_body}
use Rattle.syntax.specs.Programs.{with_rule, read_symbol, read_rule, constraint_line, read_constraint, read_equation}
use Rattle.syntax.specs.Programs.{read_form, read_fields, read_line, read_lines, max_symbols, max_rules, max_equations}
use Rattle.syntax.specs.Programs.{max_constants}
use Rattle.syntax.proofs.WellFormed.{Holds, holds-refuse_if, holds-and_then, holds-accepted}

-- all heads of a rule are kept
abbrev AllKept : Rule → Type 0
AllKept r = r.kept ≡ length r.heads

-- where a J line may stand, all heads of the last rule are
abbrev KeptFirst : Draft → Type 0
KeptFirst d = d.section ≡ in_kept → AllKept (last_rule d.rules)

-- the last rule behind others, and the last one changed
last-rule : (rs : List RuleRead) (r : RuleRead) → last_rule (rs ++ (r ∷ [])) ≡ r.rule
unfolding last_rule
last-rule [] r = refl
last-rule (q ∷ []) r = refl
last-rule (p ∷ q ∷ rs) r = last-rule (q ∷ rs) r

last-changed : (c : Constraint) (rs : List RuleRead) → AllKept (last_rule rs) → AllKept (last_rule (on_last (with_kept c) rs))
unfolding last_rule on_last with_kept
last-changed c [] h = refl
last-changed c (r ∷ []) h = simp length-append (omega (arith, h))
last-changed c (r ∷ q ∷ []) h = simp length-append (omega (arith, h))
last-changed c (r ∷ q ∷ p ∷ rs) h = last-changed c (q ∷ p ∷ rs) h

-- J lines stand only where J lines may, and only R and J lines lead there
kept-before : (s : Section) {t : Section} → section_after kept_form s ≡ some t → s ≡ in_kept
unfolding section_after
kept-before in_symbols e = none-some refl e
kept-before in_kept e = refl
kept-before in_heads e = none-some refl e
kept-before in_body e = none-some refl e
kept-before in_equations e = none-some refl e

-- a form leads elsewhere
abbrev Elsewhere : Form → Type 0
Elsewhere form = (s t : Section) → section_after form s ≡ some t → t ≡ in_kept → ⊥

symbols-elsewhere : Elsewhere symbol_form
unfolding section_after
symbols-elsewhere in_symbols t e k = let z : ◌≡◌ {A = ℕ} 0 1 = cc in absurd (omega arith)
symbols-elsewhere in_kept t e k = none-some refl e
symbols-elsewhere in_heads t e k = none-some refl e
symbols-elsewhere in_body t e k = none-some refl e
symbols-elsewhere in_equations t e k = none-some refl e

heads-elsewhere : Elsewhere head_form
unfolding section_after
heads-elsewhere in_symbols t e k = none-some refl e
heads-elsewhere in_kept t e k = let z : ◌≡◌ {A = ℕ} 0 1 = cc in absurd (omega arith)
heads-elsewhere in_heads t e k = let z : ◌≡◌ {A = ℕ} 0 1 = cc in absurd (omega arith)
heads-elsewhere in_body t e k = none-some refl e
heads-elsewhere in_equations t e k = none-some refl e

body-elsewhere : Elsewhere body_form
unfolding section_after
body-elsewhere in_symbols t e k = none-some refl e
body-elsewhere in_kept t e k = let z : ◌≡◌ {A = ℕ} 0 1 = cc in absurd (omega arith)
body-elsewhere in_heads t e k = let z : ◌≡◌ {A = ℕ} 0 1 = cc in absurd (omega arith)
body-elsewhere in_body t e k = let z : ◌≡◌ {A = ℕ} 0 1 = cc in absurd (omega arith)
body-elsewhere in_equations t e k = none-some refl e

equations-elsewhere : Elsewhere equation_form
unfolding section_after
equations-elsewhere in_symbols t e k = none-some refl e
equations-elsewhere in_kept t e k = let z : ◌≡◌ {A = ℕ} 0 1 = cc in absurd (omega arith)
equations-elsewhere in_heads t e k = let z : ◌≡◌ {A = ℕ} 0 1 = cc in absurd (omega arith)
equations-elsewhere in_body t e k = let z : ◌≡◌ {A = ℕ} 0 1 = cc in absurd (omega arith)
equations-elsewhere in_equations t e k = let z : ◌≡◌ {A = ℕ} 0 1 = cc in absurd (omega arith)

-- a J, H or B line, whose constraint and constants may be any
constraint-kept :
    (P : Draft → Type 0) (count most : ℕ) (add : Constraint → Rule → Rule) (n : ℕ) (fs : List (List ℕ)) (d : Draft)
    → ((c : Constraint) (constants : List (List ℕ)) → P (with_rule (add c) constants d))
    → Holds P (read_constraint count most add n fs d)
unfolding read_constraint
constraint-kept P count most add n fs d h =
    go (constraint_line (leb most count) d.symbols letter_number d.constants n fs)
  where
    go : (a : Answer Found) → Holds P (and_then a (λ found. accepted (with_rule (add found.constraint) found.constants d)))
    go (refused x l) = tt
    go (accepted found) = h found.constraint found.constants

-- a line of each form, in the section that it leads to
form-kept :
    (form : Form) (n : ℕ) (fs : List (List ℕ)) (d : Draft) (t : Section) → section_after form d.section ≡ some t
    → KeptFirst d → Holds KeptFirst (read_form form n fs (in_section t d))
unfolding read_form read_symbol read_rule read_equation in_section with_rule
form-kept symbol_form n fs d t e h =
    holds-refuse_if KeptFirst (is_symbol_faulty fs) 4 n _
    λ _. holds-refuse_if KeptFirst (is_known (field_at 1 fs) (map (λ s. s.name) d.symbols)) 5 n _
    λ _. holds-refuse_if KeptFirst (leb max_symbols (length d.symbols)) 7 n _
    λ _ k. absurd (symbols-elsewhere d.section t e k)
form-kept rule_form n fs d t e h =
    holds-refuse_if KeptFirst (is_rule_faulty fs) 4 n _
    λ _. holds-refuse_if KeptFirst (is_known (field_at 1 fs) (map (λ r. r.rule.name) d.rules)) 5 n _
    λ _. holds-refuse_if KeptFirst (leb max_rules (length d.rules)) 7 n _ λ _ k. rw (last-rule d.rules) refl
form-kept kept_form n fs d t e h =
    constraint-kept KeptFirst _ _ with_kept n fs _ (λ c l k. last-changed c d.rules (h (kept-before d.section e)))
form-kept head_form n fs d t e h =
    constraint-kept KeptFirst _ _ with_head n fs _ (λ c l k. absurd (heads-elsewhere d.section t e k))
form-kept body_form n fs d t e h =
    constraint-kept KeptFirst _ _ with_body n fs _ (λ c l k. absurd (body-elsewhere d.section t e k))
form-kept equation_form n fs d t e h =
    let constants = constants_after (drop 1 fs) d.constants in
    holds-refuse_if KeptFirst (is_equation_faulty fs) 4 n _
    λ _. holds-refuse_if KeptFirst
    (leb max_equations (length (last_rule d.rules).equations) || ltb max_constants (length constants)) 7 n _
    λ _ k. absurd (equations-elsewhere d.section t e k)
form-kept goal_form n fs d t e h = tt
form-kept no_form n fs d t e h = tt

fields-kept : (n : ℕ) (fs : List (List ℕ)) (d : Draft) → KeptFirst d → Holds KeptFirst (read_fields n fs d)
unfolding read_fields
fields-kept n fs d h = go (section_after (form_of (field_at 0 fs)) d.section) refl
  where
    go : (o : Option Section) → section_after (form_of (field_at 0 fs)) d.section ≡ o
        → Holds KeptFirst (onward o (refused 3 n) (λ t. read_form (form_of (field_at 0 fs)) n fs (in_section t d)))
    go none e = tt
    go (some t) e = form-kept (form_of (field_at 0 fs)) n fs d t e h

lines-kept : (n : ℕ) (d : Draft) (ls : List Line) → KeptFirst d → Holds KeptFirst (read_lines n d ls)
unfolding read_lines read_line
lines-kept n d [] h = h
lines-kept n d (l ∷ ls) h =
    holds-and_then KeptFirst KeptFirst (read_line n l d) _
    (holds-refuse_if KeptFirst (line_is_faulty l) 2 n _ λ _. fields-kept n (fields l.bytes) d h)
    (λ e _ t. lines-kept (suc n) e ls t)

-- behind any lines of a program, where a J line may stand all heads of the rule are kept
pub kept-first :
    (ls : List Line) (d : Draft) → read_lines 1 blank ls ≡ accepted d → d.section ≡ in_kept
    → (last_rule d.rules).kept ≡ length (last_rule d.rules).heads
unfolding blank last_rule
kept-first ls d e = holds-accepted KeptFirst (read_lines 1 blank ls) (lines-kept 1 blank ls (λ k. refl)) e
