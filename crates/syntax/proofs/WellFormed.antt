-- What reads as a program is well formed: `read-well_formed`.
--   Holds      what holds of an answer, if it is accepted
-- Assumes nothing.
use Prim.Native.Nat.{ℕ, suc, ◌-◌, ◌≤◌, ◌<◌}
use native.Mathlib.Omega.{arith}
use mathlib.Core.Bool.{Bool, true, false, cond, not, ◌&&◌, ◌||◌}
use mathlib.Core.List.{List, [], ◌∷◌, map}
use mathlib.Core.Option.{Option, none, some}
use mathlib.Core.Path.{◌≡◌, refl, ap, subst}
use lib.Dec.{leb, ltb, eqb, le→leb, nleb→lt}
use lib.ListN.{length, length-map, drop}
use borrow.Author.Tests.{ltb-false}
use Rattle.text.specs.Bytes.{between}
use Rattle.text.specs.Lists.{onward, every, is_known}
use Rattle.text.specs.Lines.{Line, lines, line_is_faulty}
use Rattle.text.specs.Fields.{fields, is_name, is_variable, is_term}
use Rattle.text.proofs.Keys.{variable-range}
use Rattle.text.proofs.Bools.{and-true}
use Rattle.text.proofs.ListLaws.{every-both, every_map}
use Rattle.semantics.specs.Terms.{con, var, Constraint, Equation, Symbol, Rule, removed_heads, weight}
use Rattle.semantics.specs.Terms.{is_declared, is_below, alphabet, is_of_rule, is_rule_of, is_well_formed, symbol_at}
use Rattle.semantics.proofs.Options.{true-false, true-T, T_true, none-some}
use Rattle.syntax.specs.Answers.{Answer, refused, accepted, refuse_if, and_then}
use Rattle.syntax.specs.Forms.{Form, symbol_form, rule_form, kept_form, head_form, body_form, equation_form, goal_form, no_form}
use Rattle.syntax.specs.Forms.{form_of, Section, in_symbols, in_kept, in_heads, in_body, in_equations, section_after, field_at}
use Rattle.syntax.specs.Forms.{constants_after}
use Rattle.syntax.specs.Forms.{term_of, letter_number, is_symbol_faulty, is_rule_faulty, is_equation_faulty, is_constraint_faulty}
use Rattle.syntax.specs.Forms.{is_undeclared, symbol_number, constraint_of}
use Rattle.syntax.specs.Programs.{Draft, RuleRead, Reading, Found, blank, in_section, on_last, last_rule, with_kept, with_head}
use Rattle.syntax.specs.Programs.{with_body, with_equation, with_rule, read_symbol, read_rule}
use Rattle.syntax.specs.Programs.{constraint_line, read_constraint, read_equation}
use Rattle.syntax.specs.Programs.{read_form, read_fields, read_line, read_lines, check_rules, read_program}
use Rattle.syntax.specs.Programs.{max_symbols, max_rules, max_equations, max_constants, max_text}

-- what holds of an answer: of the value, if it is accepted
abbrev pub Holds : {A : Type 0} → (A → Type 0) → Answer A → Type 0
Holds P (refused number line) = Unit {0}
Holds P (accepted a) = P a

-- behind a test that was not met, and behind another answer
pub holds-refuse_if :
    {A : Type 0} (P : A → Type 0) (b : Bool) (number line : ℕ) (otherwise : Answer A) → (b ≡ false → Holds P otherwise)
    → Holds P (refuse_if b number line otherwise)
holds-refuse_if P true number line otherwise h = tt
holds-refuse_if P false number line otherwise h = h refl

pub holds-and_then :
    {A B : Type 0} (P : A → Type 0) (Q : B → Type 0) (r : Answer A) (next : A → Answer B) → Holds P r
    → ((a : A) → r ≡ accepted a → P a → Holds Q (next a)) → Holds Q (and_then r next)
holds-and_then P Q (refused number line) next h k = tt
holds-and_then P Q (accepted a) next h k = k a refl h

pub holds-accepted : {A : Type 0} (P : A → Type 0) (r : Answer A) {a : A} → Holds P r → r ≡ accepted a → P a
holds-accepted P r h e = subst (Holds P) e h

-- tests of both, of neither, and turned round
pub and_both : {a b : Bool} → a ≡ true → b ≡ true → (a && b) ≡ true
and_both p q = rw (p, q)

pub or-neither : (a b : Bool) → (a || b) ≡ false → (a ≡ false) × (b ≡ false)
or-neither true b e = true-false refl e
or-neither false b e = (refl, e)

pub not-false : (a : Bool) → not a ≡ false → a ≡ true
not-false true e = refl
not-false false e = true-false refl e

-- a letter is one of the alphabet
letter-below : (f : List ℕ) → is_variable f ≡ true → is_below alphabet (var (letter_number f)) ≡ true
unfolding is_variable is_below letter_number alphabet
letter-below [] p = true-false p refl
letter-below (b ∷ []) p =
    let k : b ≤ 90 = (variable-range (b ∷ []) p).2 in
    T_true (ltb (b - 65) 26) (le→leb (suc (b - 65)) 26 (omega arith))
letter-below (b ∷ c ∷ s) p = true-false p refl

-- a term field stands for a constant or a letter
term-below : (constants : List (List ℕ)) (f : List ℕ) → is_term f ≡ true
    → is_below alphabet (term_of letter_number constants f) ≡ true
unfolding is_term term_of is_below
term-below constants f p = go _ (is_name f) (is_variable f) p (letter-below f)
  where
    go :
        (c : ℕ) (a b : Bool) → (a || b) ≡ true → (b ≡ true → is_below alphabet (var (letter_number f)) ≡ true)
        → is_below alphabet (cond a (con c) (var (letter_number f))) ≡ true
    go c true b q k = refl
    go c false b q k = k q

-- the constraint of a line that met none of 4 and 6 is one of a rule
pub constraint-of_rule :
    (symbols : List Symbol) (constants fs : List (List ℕ)) → is_constraint_faulty fs ≡ false → is_undeclared symbols fs ≡ false
    → is_of_rule symbols (constraint_of symbols letter_number constants fs) ≡ true
unfolding is_constraint_faulty is_undeclared is_of_rule is_declared constraint_of
constraint-of_rule symbols constants fs p q =
    let n = symbol_number symbols (field_at 1 fs) in
    let terms = or-neither (not (between 2 6 (length fs)) || not (is_name (field_at 1 fs))) (not (every is_term (drop 2 fs))) p in
    let declared = or-neither (not (ltb n (length symbols))) (not (eqb (length (drop 2 fs)) (symbol_at symbols n).arity)) q in
    let known : ltb n (length symbols) ≡ true = not-false (ltb n (length symbols)) declared.0 in
    let arity : eqb (length (map (term_of letter_number constants) (drop 2 fs))) (symbol_at symbols n).arity ≡ true =
    rw length-map (not-false _ declared.1) in
    let over : every (is_below alphabet) (map (term_of letter_number constants) (drop 2 fs)) ≡ true =
    every_map is_term (is_below alphabet) (term_of letter_number constants) (drop 2 fs) (term-below constants)
    (not-false (every is_term (drop 2 fs)) terms.1) in
    rw (known, arity, over)

-- a rule over the symbols, whatever it weighs
abbrev is_over : List Symbol → Rule → Bool
is_over symbols r =
    every (is_of_rule symbols) r.heads && every (is_of_rule symbols) r.body
    && every (λ e. is_below alphabet e.left && is_below alphabet e.right) r.equations

-- the three parts of it
over-parts :
    (symbols : List Symbol) (r : Rule) → is_over symbols r ≡ true
    → (every (is_of_rule symbols) r.heads ≡ true) × (every (is_of_rule symbols) r.body ≡ true)
    × (every (λ e. is_below alphabet e.left && is_below alphabet e.right) r.equations ≡ true)
over-parts symbols r p =
    let a = and-true _ (every (λ e. is_below alphabet e.left && is_below alphabet e.right) r.equations) p in
    let b = and-true _ (every (is_of_rule symbols) r.body) a.0 in
    (b.0, b.1, a.1)

over-kept : (symbols : List Symbol) (c : Constraint) → is_of_rule symbols c ≡ true → (r : Rule)
    → is_over symbols r ≡ true → is_over symbols (with_kept c r) ≡ true
unfolding with_kept
over-kept symbols c q r p =
    let (h, b, e) = over-parts symbols r p in
    and_both (and_both (every-both (is_of_rule symbols) r.heads (c ∷ []) h (and_both q refl)) b) e

over-head : (symbols : List Symbol) (c : Constraint) → is_of_rule symbols c ≡ true → (r : Rule)
    → is_over symbols r ≡ true → is_over symbols (with_head c r) ≡ true
unfolding with_head
over-head symbols c q r p =
    let (h, b, e) = over-parts symbols r p in
    and_both (and_both (every-both (is_of_rule symbols) r.heads (c ∷ []) h (and_both q refl)) b) e

over-body : (symbols : List Symbol) (c : Constraint) → is_of_rule symbols c ≡ true → (r : Rule)
    → is_over symbols r ≡ true → is_over symbols (with_body c r) ≡ true
unfolding with_body
over-body symbols c q r p =
    let (h, b, e) = over-parts symbols r p in
    and_both (and_both h (every-both (is_of_rule symbols) r.body (c ∷ []) b (and_both q refl))) e

over-equation : (symbols : List Symbol) (k : Equation) → (is_below alphabet k.left && is_below alphabet k.right) ≡ true
    → (r : Rule) → is_over symbols r ≡ true → is_over symbols (with_equation k r) ≡ true
unfolding with_equation
over-equation symbols k q r p =
    let (h, b, e) = over-parts symbols r p in
    and_both (and_both h b) (every-both _ r.equations (k ∷ []) e (and_both q refl))

-- changing the last rule keeps a test that the change keeps
every-on_last :
    (t : Rule → Bool) (f : Rule → Rule) (rs : List RuleRead) → ((r : Rule) → t r ≡ true → t (f r) ≡ true)
    → every (λ r. t r.rule) rs ≡ true → every (λ r. t r.rule) (on_last f rs) ≡ true
unfolding on_last
every-on_last t f [] k p = p
every-on_last t f (r ∷ []) k p = and_both (k r.rule (and-true (t r.rule) true p).0) refl
every-on_last t f (r ∷ q ∷ rs) k p =
    let h = and-true (t r.rule) (every (λ r. t r.rule) (q ∷ rs)) p in
    and_both h.0 (every-on_last t f (q ∷ rs) k h.1)

pub length-on_last : (f : Rule → Rule) (rs : List RuleRead) → length (on_last f rs) ≡ length rs
unfolding on_last
length-on_last f [] = refl
length-on_last f (r ∷ []) = refl
length-on_last f (r ∷ q ∷ rs) = ap suc (length-on_last f (q ∷ rs))

-- a draft whose rules are over its symbols, and which has none while symbols are still declared
record Sound (d : Draft) : Type 0 where
  before : d.section ≡ in_symbols → d.rules ≡ []
  over : every (λ r. is_over d.symbols r.rule) d.rules ≡ true

blank-sound : Sound blank
unfolding blank
blank-sound = record { before = λ _. refl; over = refl }

-- a K line stands among the K lines
symbol-section : (section after : Section) → section_after symbol_form section ≡ some after → section ≡ in_symbols
unfolding section_after
symbol-section in_symbols after e = refl
symbol-section in_kept after e = none-some refl e
symbol-section in_heads after e = none-some refl e
symbol-section in_body after e = none-some refl e
symbol-section in_equations after e = none-some refl e

-- a rule's lines stand in a rule
rule-section : (form : Form) (section after : Section) → section_after form section ≡ some after → (form ≡ symbol_form → ⊥)
    → after ≡ in_symbols → ⊥
unfolding section_after
rule-section symbol_form section after e n k = n refl
rule-section rule_form section after e n k = let z : ◌≡◌ {A = ℕ} 0 1 = cc in omega arith
rule-section kept_form in_symbols after e n k = none-some refl e
rule-section kept_form in_kept after e n k = let z : ◌≡◌ {A = ℕ} 0 1 = cc in omega arith
rule-section kept_form in_heads after e n k = none-some refl e
rule-section kept_form in_body after e n k = none-some refl e
rule-section kept_form in_equations after e n k = none-some refl e
rule-section head_form in_symbols after e n k = none-some refl e
rule-section head_form in_kept after e n k = let z : ◌≡◌ {A = ℕ} 0 1 = cc in omega arith
rule-section head_form in_heads after e n k = let z : ◌≡◌ {A = ℕ} 0 1 = cc in omega arith
rule-section head_form in_body after e n k = none-some refl e
rule-section head_form in_equations after e n k = none-some refl e
rule-section body_form in_symbols after e n k = none-some refl e
rule-section body_form in_kept after e n k = let z : ◌≡◌ {A = ℕ} 0 1 = cc in omega arith
rule-section body_form in_heads after e n k = let z : ◌≡◌ {A = ℕ} 0 1 = cc in omega arith
rule-section body_form in_body after e n k = let z : ◌≡◌ {A = ℕ} 0 1 = cc in omega arith
rule-section body_form in_equations after e n k = none-some refl e
rule-section equation_form in_symbols after e n k = none-some refl e
rule-section equation_form in_kept after e n k = let z : ◌≡◌ {A = ℕ} 0 1 = cc in omega arith
rule-section equation_form in_heads after e n k = let z : ◌≡◌ {A = ℕ} 0 1 = cc in omega arith
rule-section equation_form in_body after e n k = let z : ◌≡◌ {A = ℕ} 0 1 = cc in omega arith
rule-section equation_form in_equations after e n k = let z : ◌≡◌ {A = ℕ} 0 1 = cc in omega arith
rule-section goal_form section after e n k = none-some refl e
rule-section no_form section after e n k = none-some refl e

-- each line keeps a draft sound
symbol-sound : (n : ℕ) (fs : List (List ℕ)) (d : Draft) → d.rules ≡ [] → Holds Sound (read_symbol n fs d)
unfolding read_symbol
symbol-sound n fs d e =
    holds-refuse_if Sound (is_symbol_faulty fs) 4 n _
    λ _. holds-refuse_if Sound (is_known (field_at 1 fs) (map (λ s. s.name) d.symbols)) 5 n _
    λ _. holds-refuse_if Sound (leb max_symbols (length d.symbols)) 7 n _ λ _. record { before = λ _. e; over = rw e refl }

rule-sound : (n : ℕ) (fs : List (List ℕ)) (d : Draft) → Sound d → (d.section ≡ in_symbols → ⊥) → Holds Sound (read_rule n fs d)
unfolding read_rule
rule-sound n fs d s o =
    holds-refuse_if Sound (is_rule_faulty fs) 4 n _
    λ _. holds-refuse_if Sound (is_known (field_at 1 fs) (map (λ r. r.rule.name) d.rules)) 5 n _
    λ _. holds-refuse_if Sound (leb max_rules (length d.rules)) 7 n _
    λ _. record {
      before = λ k. absurd (o k);
      over = every-both (λ (r : RuleRead). is_over d.symbols r.rule) d.rules _ s.over refl;
    }

-- what a J, H, B or G line finds
pub holds-constraint_line :
    (P : Found → Type 0) (full : Bool) (symbols : List Symbol) (variable : List ℕ → ℕ) (constants : List (List ℕ)) (n : ℕ)
    (fs : List (List ℕ))
    → (is_constraint_faulty fs ≡ false → is_undeclared symbols fs ≡ false → full ≡ false
    → length (constants_after (drop 2 fs) constants) ≤ 64
    → P (record {
      constraint = constraint_of symbols variable (constants_after (drop 2 fs) constants) fs;
      constants = constants_after (drop 2 fs) constants;
    }))
    → Holds P (constraint_line full symbols variable constants n fs)
unfolding constraint_line
holds-constraint_line P full symbols variable constants n fs k =
    let after = constants_after (drop 2 fs) constants in
    holds-refuse_if P (is_constraint_faulty fs) 4 n _ λ a. holds-refuse_if P (is_undeclared symbols fs) 6 n _
    λ b. holds-refuse_if P (full || ltb 64 (length after)) 7 n _
    λ c. (let (room, few) = or-neither full (ltb 64 (length after)) c in
    k a b room (ltb-false 64 (length after) few))

constraint-sound :
    (count most : ℕ) (add : Constraint → Rule → Rule) (n : ℕ) (fs : List (List ℕ)) (d : Draft) → Sound d
    → (d.section ≡ in_symbols → ⊥)
    → ((c : Constraint) → is_of_rule d.symbols c ≡ true → (r : Rule) → is_over d.symbols r ≡ true
    → is_over d.symbols (add c r) ≡ true)
    → Holds Sound (read_constraint count most add n fs d)
unfolding read_constraint with_rule
constraint-sound count most add n fs d s o k =
    holds-and_then (λ found. is_of_rule d.symbols found.constraint ≡ true) Sound
    (constraint_line (leb most count) d.symbols letter_number d.constants n fs) _
    (holds-constraint_line _ (leb most count) d.symbols letter_number d.constants n fs
    λ a b _ _. constraint-of_rule d.symbols (constants_after (drop 2 fs) d.constants) fs a b)
    λ found _ h. record {
      before = λ q. absurd (o q);
      over = every-on_last (is_over d.symbols) _ d.rules (k found.constraint h) s.over;
    }

-- the two sides of an equation, by their fields
sides-below :
    (constants fs : List (List ℕ)) → is_equation_faulty fs ≡ false
    → (is_below alphabet (term_of letter_number constants (field_at 1 fs))
    && is_below alphabet (term_of letter_number constants (field_at 2 fs))) ≡ true
unfolding field_at is_equation_faulty
sides-below constants [] e = true-false refl e
sides-below constants (a ∷ []) e = true-false refl e
sides-below constants (a ∷ b ∷ []) e = true-false refl e
sides-below constants (a ∷ b ∷ c ∷ fs) e =
    let p = not-false _ (or-neither (not (eqb (length (a ∷ b ∷ c ∷ fs)) 3)) (not (every is_term (b ∷ c ∷ fs))) e).1 in
    let h = and-true (is_term b) (every is_term (c ∷ fs)) p in
    let k = and-true (is_term c) (every is_term fs) h.1 in
    rw (term-below constants b h.0, term-below constants c k.0)

equation-sound : (n : ℕ) (fs : List (List ℕ)) (d : Draft) → Sound d → (d.section ≡ in_symbols → ⊥)
    → Holds Sound (read_equation n fs d)
unfolding read_equation with_rule
equation-sound n fs d s o =
    let constants = constants_after (drop 1 fs) d.constants in
    holds-refuse_if Sound (is_equation_faulty fs) 4 n _
    λ a. holds-refuse_if Sound (leb max_equations (length (last_rule d.rules).equations) || ltb max_constants (length constants))
    7 n _
    λ _. record {
      before = λ q. absurd (o q);
      over =
          every-on_last (is_over d.symbols) _ d.rules
          (over-equation d.symbols _ (sides-below (constants_after (drop 1 fs) d.constants) fs a)) s.over;
    }

-- a draft at another section, which is behind the K lines
moved-sound : (section : Section) (d : Draft) → Sound d → (section ≡ in_symbols → ⊥) → Sound (in_section section d)
unfolding in_section
moved-sound section d s o = record { before = λ k. absurd (o k); over = s.over }

form-sound :
    (form : Form) (n : ℕ) (section : Section) (fs : List (List ℕ)) (d : Draft) → Sound d → section_after form d.section ≡ some section
    → Holds Sound (read_form form n fs (in_section section d))
unfolding read_form in_section
form-sound symbol_form n section fs d s e = symbol-sound n fs (in_section section d) (s.before (symbol-section d.section section e))
form-sound rule_form n section fs d s e =
    let o = rule-section rule_form d.section section e (λ k. let z : ◌≡◌ {A = ℕ} 0 1 = cc in omega arith) in
    rule-sound n fs (in_section section d) (moved-sound section d s o) o
form-sound kept_form n section fs d s e =
    let o = rule-section kept_form d.section section e (λ k. let z : ◌≡◌ {A = ℕ} 0 1 = cc in omega arith) in
    constraint-sound _ _ with_kept n fs (in_section section d) (moved-sound section d s o) o (over-kept d.symbols)
form-sound head_form n section fs d s e =
    let o = rule-section head_form d.section section e (λ k. let z : ◌≡◌ {A = ℕ} 0 1 = cc in omega arith) in
    constraint-sound _ _ with_head n fs (in_section section d) (moved-sound section d s o) o (over-head d.symbols)
form-sound body_form n section fs d s e =
    let o = rule-section body_form d.section section e (λ k. let z : ◌≡◌ {A = ℕ} 0 1 = cc in omega arith) in
    constraint-sound _ _ with_body n fs (in_section section d) (moved-sound section d s o) o (over-body d.symbols)
form-sound equation_form n section fs d s e =
    let o = rule-section equation_form d.section section e (λ k. let z : ◌≡◌ {A = ℕ} 0 1 = cc in omega arith) in
    equation-sound n fs (in_section section d) (moved-sound section d s o) o
form-sound goal_form n section fs d s e = tt
form-sound no_form n section fs d s e = tt

fields-sound : (n : ℕ) (fs : List (List ℕ)) (d : Draft) → Sound d → Holds Sound (read_fields n fs d)
unfolding read_fields
fields-sound n fs d s = go (section_after (form_of (field_at 0 fs)) d.section) refl
  where
    go :
        (o : Option Section) → section_after (form_of (field_at 0 fs)) d.section ≡ o
        → Holds Sound (onward o (refused 3 n) (λ section. read_form (form_of (field_at 0 fs)) n fs (in_section section d)))
    go none e = tt
    go (some section) e = form-sound (form_of (field_at 0 fs)) n section fs d s e

line-sound : (n : ℕ) (l : Line) (d : Draft) → Sound d → Holds Sound (read_line n l d)
unfolding read_line
line-sound n l d s = holds-refuse_if Sound (line_is_faulty l) 2 n _ λ _. fields-sound n (fields l.bytes) d s

lines-sound : (n : ℕ) (d : Draft) (ls : List Line) → Sound d → Holds Sound (read_lines n d ls)
unfolding read_lines
lines-sound n d [] s = s
lines-sound n d (l ∷ ls) s =
    holds-and_then Sound Sound (read_line n l d) _ (line-sound n l d s) (λ e _ t. lines-sound (suc n) e ls t)

-- rules that met neither 8 nor 9 lower the weight
pub holds-check_rules :
    {A : Type 0} (P : A → Type 0) (symbols : List Symbol) (rs : List RuleRead) (otherwise : Answer A)
    → every (λ r. is_over symbols r.rule) rs ≡ true
    → (every (is_rule_of symbols) (map (λ r. r.rule) rs) ≡ true → Holds P otherwise) → Holds P (check_rules symbols rs otherwise)
unfolding check_rules is_rule_of
holds-check_rules P symbols [] otherwise p k = k refl
holds-check_rules P symbols (r ∷ rs) otherwise p k =
    let h = and-true (is_over symbols r.rule) (every (λ r. is_over symbols r.rule) rs) p in
    let removed = weight symbols (removed_heads r.rule) in
    holds-refuse_if P (eqb (length (removed_heads r.rule)) 0) 8 r.line _
    λ _. holds-refuse_if P (leb removed (weight symbols r.rule.body)) 9 r.line _
    λ b. (let lower : weight symbols r.rule.body < removed =
    nleb→lt removed (weight symbols r.rule.body) (true-T (ap not b)) in
    let test = T_true (ltb (weight symbols r.rule.body) removed) (le→leb _ _ lower) in
    holds-check_rules P symbols rs otherwise h.1 (λ q. k (and_both (and_both h.0 test) q)))

-- what reads as a program is well formed
pub read-well_formed : (s : List ℕ) {p : Reading} → read_program s ≡ accepted p → is_well_formed p.program ≡ true
unfolding read_program is_well_formed
read-well_formed s {p} e =
    holds-accepted (λ q. is_well_formed q.program ≡ true) (read_program s)
    (holds-refuse_if _ (ltb max_text (length s)) 1 0 _
    λ _. holds-and_then Sound _ (read_lines 1 blank (lines s)) _ (lines-sound 1 blank (lines s) blank-sound)
    λ d _ t. holds-check_rules _ d.symbols d.rules _ t.over λ q. q)
    e
