-- What reading a text answers: a refusal by a number from 1 to 9, and a goal's to 10, at a line of at most 16,384; or names of at
-- most 8 bytes.
--   Turned            a refusal that reading may answer
--   Reads             what holds of an answer: of a refusal that it is such, or something of the value
--   program-termed    the names of symbols, rules and constants are terms (the main law for programs)
--   goal-termed       so are the letters and constants (the main law for goals)
--   program-short, goal-short      and they are short
-- Assumes nothing.
use Prim.Native.Nat.{ℕ, suc, ◌+◌, ◌≤◌, ◌<◌}
use native.Mathlib.Omega.{arith}
use mathlib.Core.Bool.{Bool, true, false, cond, not, ◌&&◌, ◌||◌}
use mathlib.Core.List.{List, [], ◌∷◌, ◌++◌, map}
use mathlib.Core.Option.{Option, none, some}
use mathlib.Core.Path.{◌≡◌, refl, subst}
use lib.Dec.{leb, ltb, eqb}
use lib.ListN.{length, drop}
use borrow.Author.Tests.{leb-true, ltb-false}
use Rattle.text.specs.Bytes.{between}
use Rattle.text.specs.Lists.{onward, every, index_of, is_known, with_name}
use Rattle.text.specs.Lines.{Line, lines, in_first_line, line_is_faulty}
use Rattle.text.specs.Fields.{fields, is_name, is_variable, is_term, is_number_in}
use Rattle.text.specs.Constants.{constant_name}
use Rattle.semantics.specs.Terms.{Constraint, Symbol, Rule, removed_heads, weight}
use Rattle.semantics.proofs.Configurations.{All, also}
use Rattle.semantics.proofs.Configurations as C
use Rattle.semantics.proofs.Multisets.{all_append, all-mono, all_map}
use Rattle.syntax.specs.Answers.{Answer, refused, accepted, refuse_if, and_then}
use Rattle.syntax.specs.Forms.{Form, symbol_form, rule_form, kept_form, head_form, body_form, equation_form, goal_form, no_form, form_of}
use Rattle.syntax.specs.Forms.{Section, section_after, field_at, constants_after, letter_number}
use Rattle.syntax.specs.Forms.{is_symbol_faulty, is_rule_faulty, is_equation_faulty, is_constraint_faulty, is_undeclared, constraint_of}
use Rattle.syntax.specs.Programs.{RuleRead, Draft, Reading, Found, blank, in_section, on_last, last_rule, with_kept, with_head}
use Rattle.syntax.specs.Programs.{with_body, with_equation, with_rule, read_symbol, read_rule, constraint_line, read_constraint}
use Rattle.syntax.specs.Programs.{read_equation, read_form, read_fields, read_line, read_lines, check_rules, read_program}
use Rattle.syntax.specs.Programs.{max_text, max_symbols, max_rules, max_heads, max_body, max_equations, max_constants}
use Rattle.syntax.specs.Goals.{GoalDraft, GoalReading, max_goal, max_weight, letters_after, read_constraint_of_goal, is_goal_form}
use Rattle.syntax.specs.Goals.{read_goal_fields, read_goal_line, read_goal_lines, read_goal}
use Rattle.text.proofs.Bools.{and-true}
use Rattle.text.proofs.ConstantLaws.{constant-name}
use Rattle.syntax.proofs.WellFormed.{or-neither, not-false}
use Rattle.listing.proofs.SizeLaws.{Short}

-- a name has at most 8 bytes, and so has a term
name-short : (f : List ℕ) → is_name f ≡ true → Short f
unfolding is_name between
name-short f h =
    let range = (and-true (leb 1 (length f) && leb (length f) 8) _ h).0 in
    leb-true (length f) 8 (and-true (leb 1 (length f)) (leb (length f) 8) range).1

variable-short : (f : List ℕ) → is_variable f ≡ true → Short f
unfolding is_variable
variable-short [] h = omega arith
variable-short (b ∷ []) h = omega arith
variable-short (b ∷ c ∷ s) h = absurd (let z : ◌≡◌ {A = ℕ} 0 1 = cc in omega arith)

pub term-short : (f : List ℕ) → is_term f ≡ true → Short f
unfolding is_term
term-short f h = go (is_name f) refl h
  where
    go : (b : Bool) → is_name f ≡ b → (b || is_variable f) ≡ true → Short f
    go true e k = name-short f e
    go false e k = variable-short f k

-- a term has some bytes
pub term-some : (f : List ℕ) → is_term f ≡ true → 0 < length f
unfolding is_term is_name is_variable between
term-some [] h = absurd (let z : ◌≡◌ {A = ℕ} 0 1 = cc in omega arith)
term-some (b ∷ f) h = omega arith

-- a name or a letter
abbrev pub Termed : List ℕ → Type 0
Termed f = is_term f ≡ true

name-termed : (f : List ℕ) → is_name f ≡ true → Termed f
unfolding is_term
name-termed f h = rw h

-- names with one more
with-termed : (f : List ℕ) (names : List (List ℕ)) → Termed f → All Termed names → All Termed (with_name f names)
unfolding with_name
with-termed f names h all = go (is_known f names)
  where
    go : (b : Bool) → All Termed (cond b names (names ++ (f ∷ [])))
    go true = all
    go false = all_append all (also h C.none)

-- the constants and the letters after a line
constants-termed : (fs names : List (List ℕ)) → All Termed names → All Termed (constants_after fs names)
unfolding constants_after
constants-termed [] names all = all
constants-termed (f ∷ fs) names all =
    constants-termed fs (cond (is_name f) (with_name (constant_name f) names) names) (go (is_name f) refl)
  where
    go : (b : Bool) → is_name f ≡ b → All Termed (cond b (with_name (constant_name f) names) names)
    go true e = with-termed (constant_name f) names (name-termed (constant_name f) (constant-name f e)) all
    go false e = all

letters-termed : (fs names : List (List ℕ)) → every is_term fs ≡ true → All Termed names → All Termed (letters_after fs names)
unfolding letters_after
letters-termed [] names terms all = all
letters-termed (f ∷ fs) names terms all =
    let (term, more) = and-true (is_term f) (every is_term fs) terms in
    letters-termed fs (cond (is_name f) names (with_name f names)) more (go (is_name f) term)
  where
    go : (b : Bool) → is_term f ≡ true → All Termed (cond b names (with_name f names))
    go true e = all
    go false e = with-termed f names e all

-- the name of a K line and of an R line, and the terms of an H, B or G line, of the right form
symbol-named : (fs : List (List ℕ)) → is_symbol_faulty fs ≡ false → Termed (field_at 1 fs)
unfolding is_symbol_faulty
symbol-named fs fine =
    let a = not (eqb (length fs) 4) in
    let b = not (is_name (field_at 1 fs)) in
    let c = not (is_number_in 0 4 (field_at 2 fs)) in
    let e = not (is_number_in 1 31 (field_at 3 fs)) in
    let ab = (or-neither (a || b) c (or-neither (a || b || c) e fine).0).0 in
    name-termed (field_at 1 fs) (not-false (is_name (field_at 1 fs)) (or-neither a b ab).1)

rule-named : (fs : List (List ℕ)) → is_rule_faulty fs ≡ false → Termed (field_at 1 fs)
unfolding is_rule_faulty
rule-named fs fine =
    let a = not (eqb (length fs) 2) in
    let b = not (is_name (field_at 1 fs)) in
    name-termed (field_at 1 fs) (not-false (is_name (field_at 1 fs)) (or-neither a b fine).1)

line-terms : (fs : List (List ℕ)) → is_constraint_faulty fs ≡ false → every is_term (drop 2 fs) ≡ true
unfolding is_constraint_faulty
line-terms fs fine =
    let faulty = not (between 2 6 (length fs)) || not (is_name (field_at 1 fs)) in
    not-false (every is_term (drop 2 fs)) (or-neither faulty (not (every is_term (drop 2 fs))) fine).1

-- a refusal that reading may answer, by a number of at most m
pub record Turned (m number line : ℕ) : Type 0 where
  pub least : 1 ≤ number
  pub most : number ≤ m
  pub within : line ≤ 16384

-- what holds of an answer: of a refusal, that reading may answer it; or something of the value that is accepted
abbrev pub Reads : {A : Type 0} → ℕ → (A → Type 0) → Answer A → Type 0
Reads m P (refused number line) = Turned m number line
Reads m P (accepted a) = P a

turned : {m : ℕ} (number line : ℕ) → (leb 1 number && leb number m) ≡ true → line ≤ 16384 → Turned m number line
turned {m} number line h low =
    let (least, most) = and-true (leb 1 number) (leb number m) h in
    record { least = leb-true 1 number least; most = leb-true number m most; within = low }

reads-refuse_if :
    {A : Type 0} (m : ℕ) (P : A → Type 0) (b : Bool) (number line : ℕ) (otherwise : Answer A)
    → (leb 1 number && leb number m) ≡ true → line ≤ 16384 → (b ≡ false → Reads m P otherwise)
    → Reads m P (refuse_if b number line otherwise)
reads-refuse_if m P true number line otherwise q low h = turned number line q low
reads-refuse_if m P false number line otherwise q low h = h refl

reads-and_then :
    {A B : Type 0} (m : ℕ) (P : A → Type 0) (R : B → Type 0) (r : Answer A) (next : A → Answer B) → Reads m P r
    → ((a : A) → P a → Reads m R (next a)) → Reads m R (and_then r next)
reads-and_then m P R (refused number line) next h k = h
reads-and_then m P R (accepted a) next h k = k a h

-- a rule of a good name, whose R line is one that a refusal may have
record TermedRule (r : RuleRead) : Type 0 where
  named : Termed r.rule.name
  within : r.line ≤ 16384

-- a draft, and a program as read, whose names are short
record TermedDraft (d : Draft) : Type 0 where
  symbols : All (λ s. Termed s.name) d.symbols
  rules : All TermedRule d.rules
  constants : All Termed d.constants

pub record TermedProgram (p : Reading) : Type 0 where
  pub symbols : All (λ s. Termed s.name) p.program.symbols
  pub rules : All (λ r. Termed r.name) p.program.rules
  pub constants : All Termed p.constants

-- a change of the last rule that keeps its name
last-termed :
    (f : Rule → Rule) (rs : List RuleRead) → ((r : Rule) → (f r).name ≡ r.name) → All TermedRule rs → All TermedRule (on_last f rs)
unfolding on_last
last-termed f [] k C.none = C.none
last-termed f (r ∷ []) k (also h C.none) =
    let named : Termed (f r.rule).name = rw (k r.rule) h.named in
    also (record { named = named; within = h.within }) C.none
last-termed f (r ∷ q ∷ rs) k (also h all) = also h (last-termed f (q ∷ rs) k all)

change-termed :
    (f : Rule → Rule) (constants : List (List ℕ)) (d : Draft) → ((r : Rule) → (f r).name ≡ r.name) → TermedDraft d
    → All Termed constants → TermedDraft (with_rule f constants d)
unfolding with_rule
change-termed f constants d k s all =
    record { symbols = s.symbols; rules = last-termed f d.rules k s.rules; constants = all }

-- each line, of a number of at most 16,384, keeps a draft so
module _ (n : ℕ) (low : n ≤ 16384) where
  symbol-reads : (fs : List (List ℕ)) (d : Draft) → TermedDraft d → Reads 9 TermedDraft (read_symbol n fs d)
  unfolding read_symbol
  symbol-reads fs d s =
      reads-refuse_if 9 TermedDraft (is_symbol_faulty fs) 4 n _ refl low
      λ fine. reads-refuse_if 9 TermedDraft (is_known (field_at 1 fs) (map (λ s. s.name) d.symbols)) 5 n _ refl low
      λ _. reads-refuse_if 9 TermedDraft (leb max_symbols (length d.symbols)) 7 n _ refl low
      λ _. record {
        symbols = all_append s.symbols (also (symbol-named fs fine) C.none);
        rules = s.rules;
        constants = s.constants;
      }

  rule-reads : (fs : List (List ℕ)) (d : Draft) → TermedDraft d → Reads 9 TermedDraft (read_rule n fs d)
  unfolding read_rule
  rule-reads fs d s =
      reads-refuse_if 9 TermedDraft (is_rule_faulty fs) 4 n _ refl low
      λ fine. reads-refuse_if 9 TermedDraft (is_known (field_at 1 fs) (map (λ r. r.rule.name) d.rules)) 5 n _ refl low
      λ _. reads-refuse_if 9 TermedDraft (leb max_rules (length d.rules)) 7 n _ refl low
      λ _. record {
        symbols = s.symbols;
        rules = all_append s.rules (also (record { named = rule-named fs fine; within = low }) C.none);
        constants = s.constants;
      }

  -- what an H, B or G line finds
  found-reads :
      (P : Found → Type 0) (full : Bool) (symbols : List Symbol) (variable : List ℕ → ℕ) (constants fs : List (List ℕ))
      → (every is_term (drop 2 fs) ≡ true
      → P (record {
        constraint = constraint_of symbols variable (constants_after (drop 2 fs) constants) fs;
        constants = constants_after (drop 2 fs) constants;
      }))
      → Reads 9 P (constraint_line full symbols variable constants n fs)
  unfolding constraint_line
  found-reads P full symbols variable constants fs k =
      reads-refuse_if 9 P (is_constraint_faulty fs) 4 n _ refl low
      λ fine. reads-refuse_if 9 P (is_undeclared symbols fs) 6 n _ refl low
      λ _. reads-refuse_if 9 P (full || ltb max_constants (length (constants_after (drop 2 fs) constants))) 7 n _ refl low
      λ _. k (line-terms fs fine)

  constraint-reads :
      (count most : ℕ) (add : Constraint → Rule → Rule) (fs : List (List ℕ)) (d : Draft)
      → ((c : Constraint) (r : Rule) → (add c r).name ≡ r.name) → TermedDraft d
      → Reads 9 TermedDraft (read_constraint count most add n fs d)
  unfolding read_constraint
  constraint-reads count most add fs d k s =
      reads-and_then 9 (λ found. All Termed found.constants) TermedDraft
      (constraint_line (leb most count) d.symbols letter_number d.constants n fs) _
      (found-reads _ (leb most count) d.symbols letter_number d.constants fs
      λ _. constants-termed (drop 2 fs) d.constants s.constants)
      λ found h. change-termed (add found.constraint) found.constants d (k found.constraint) s h

  equation-reads : (fs : List (List ℕ)) (d : Draft) → TermedDraft d → Reads 9 TermedDraft (read_equation n fs d)
  unfolding read_equation with_equation
  equation-reads fs d s =
      let constants = constants_after (drop 1 fs) d.constants in
      let full = leb max_equations (length (last_rule d.rules).equations) in
      reads-refuse_if 9 TermedDraft (is_equation_faulty fs) 4 n _ refl low
      λ _. reads-refuse_if 9 TermedDraft (full || ltb max_constants (length constants)) 7 n _ refl low
      λ _. change-termed _ constants d (λ r. refl) s (constants-termed (drop 1 fs) d.constants s.constants)

  form-reads : (form : Form) (fs : List (List ℕ)) (d : Draft) → TermedDraft d → Reads 9 TermedDraft (read_form form n fs d)
  unfolding read_form with_kept with_head with_body
  form-reads symbol_form fs d s = symbol-reads fs d s
  form-reads rule_form fs d s = rule-reads fs d s
  form-reads kept_form fs d s =
      constraint-reads (length (last_rule d.rules).heads) max_heads with_kept fs d (λ c r. refl) s
  form-reads head_form fs d s =
      constraint-reads (length (last_rule d.rules).heads) max_heads with_head fs d (λ c r. refl) s
  form-reads body_form fs d s =
      constraint-reads (length (last_rule d.rules).body) max_body with_body fs d (λ c r. refl) s
  form-reads equation_form fs d s = equation-reads fs d s
  form-reads goal_form fs d s = turned 3 n refl low
  form-reads no_form fs d s = turned 3 n refl low

  moved-termed : (section : Section) (d : Draft) → TermedDraft d → TermedDraft (in_section section d)
  unfolding in_section
  moved-termed section d s = record { symbols = s.symbols; rules = s.rules; constants = s.constants }

  fields_read : (fs : List (List ℕ)) (d : Draft) → TermedDraft d → Reads 9 TermedDraft (read_fields n fs d)
  unfolding read_fields
  fields_read fs d s = go (section_after (form_of (field_at 0 fs)) d.section)
    where
      go :
          (o : Option Section)
          → Reads 9 TermedDraft (onward o (refused 3 n) (λ section. read_form (form_of (field_at 0 fs)) n fs (in_section section d)))
      go none = turned 3 n refl low
      go (some section) = form-reads (form_of (field_at 0 fs)) fs (in_section section d) (moved-termed section d s)

  line_reads : (l : Line) (d : Draft) → TermedDraft d → Reads 9 TermedDraft (read_line n l d)
  unfolding read_line
  line_reads l d s =
      reads-refuse_if 9 TermedDraft (line_is_faulty l) 2 n _ refl low λ _. fields_read (fields l.bytes) d s

lines-read : (n : ℕ) (d : Draft) (ls : List Line) → n + length ls ≤ 16385 → TermedDraft d → Reads 9 TermedDraft (read_lines n d ls)
unfolding read_lines
lines-read n d [] h s = s
lines-read n d (l ∷ ls) h s =
    reads-and_then 9 TermedDraft TermedDraft (read_line n l d) _ (line_reads n (omega arith) l d s)
    (λ e t. lines-read (suc n) e ls (omega arith) t)

-- the rules, each at its R line
rules-read :
    {A : Type 0} (P : A → Type 0) (symbols : List Symbol) (rs : List RuleRead) (otherwise : Answer A) → All TermedRule rs
    → Reads 9 P otherwise → Reads 9 P (check_rules symbols rs otherwise)
unfolding check_rules
rules-read P symbols [] otherwise all h = h
rules-read P symbols (r ∷ rs) otherwise (also s all) h =
    reads-refuse_if 9 P (eqb (length (removed_heads r.rule)) 0) 8 r.line _ refl s.within
    λ _. reads-refuse_if 9 P (leb (weight symbols (removed_heads r.rule)) (weight symbols r.rule.body)) 9 r.line _ refl
    s.within
    λ _. rules-read P symbols rs otherwise all h

-- a text has no more lines than bytes
lines-few : (s : List ℕ) → length (lines s) ≤ length s
unfolding lines in_first_line
lines-few [] = omega arith
lines-few (b ∷ s) = go (eqb b 10) (lines s) (lines-few s)
  where
    go :
        (c : Bool) (ls : List Line) → length ls ≤ length s
        → length (cond c (record { bytes = []; ended = true } ∷ ls) (in_first_line b ls)) ≤ suc (length s)
    go true ls h = omega arith
    go false [] h = omega arith
    go false (l ∷ ls) h = omega arith

-- a program's text
pub program-termed : (s : List ℕ) → Reads 9 TermedProgram (read_program s)
unfolding read_program blank
program-termed s =
    reads-refuse_if 9 TermedProgram (ltb max_text (length s)) 1 0 _ refl (omega arith)
    λ short. reads-and_then 9 TermedDraft TermedProgram (read_lines 1 blank (lines s)) _
    (lines-read 1 blank (lines s) (omega (arith, lines-few s, ltb-false 16384 (length s) short))
    (record { symbols = C.none; rules = C.none; constants = C.none }))
    λ d t. rules-read TermedProgram d.symbols d.rules _ t.rules
    (record { symbols = t.symbols; rules = all_map _ (all-mono (λ r h. h.named) t.rules); constants = t.constants })

-- a goal's draft, and a goal as read, whose names are terms where the constants before it are
record TermedGoalDraft (before : List (List ℕ)) (d : GoalDraft) : Type 0 where
  letters : All Termed d.letters
  constants : All Termed before → All Termed d.constants

pub record TermedGoal (before : List (List ℕ)) (g : GoalReading) : Type 0 where
  pub letters : All Termed g.letters
  pub constants : All Termed before → All Termed g.constants

-- what a G line finds
record TermedFound (before fs : List (List ℕ)) (found : Found) : Type 0 where
  terms : every is_term (drop 2 fs) ≡ true
  constants : All Termed before → All Termed found.constants

goal-line-reads :
    (before : List (List ℕ)) (symbols : List Symbol) (n : ℕ) (l : Line) (d : GoalDraft) → n ≤ 16384 → TermedGoalDraft before d
    → Reads 9 (TermedGoalDraft before) (read_goal_line symbols n l d)
unfolding read_goal_line read_goal_fields read_constraint_of_goal
goal-line-reads before symbols n l d low s =
    let fs = fields l.bytes in
    let letters = letters_after (drop 2 fs) d.letters in
    let variable : List ℕ → ℕ = λ f. index_of f letters in
    let full = leb max_goal (length d.constraints) in
    let P = TermedGoalDraft before in
    reads-refuse_if 9 P (line_is_faulty l) 2 n _ refl low
    λ _. reads-refuse_if 9 P (not (is_goal_form (form_of (field_at 0 fs)))) 3 n _ refl low
    λ _. reads-and_then 9 (TermedFound before fs) P (constraint_line full symbols variable d.constants n fs) _
    (found-reads n low _ full symbols variable d.constants fs
    λ terms. record { terms = terms; constants = λ h. constants-termed (drop 2 fs) d.constants (s.constants h) })
    λ found h. record {
      letters = letters-termed (drop 2 fs) d.letters h.terms s.letters;
      constants = h.constants;
    }

goal-lines-read :
    (before : List (List ℕ)) (symbols : List Symbol) (n : ℕ) (d : GoalDraft) (ls : List Line) → n + length ls ≤ 16385
    → TermedGoalDraft before d → Reads 9 (TermedGoalDraft before) (read_goal_lines symbols n d ls)
unfolding read_goal_lines
goal-lines-read before symbols n d [] h s = s
goal-lines-read before symbols n d (l ∷ ls) h s =
    reads-and_then 9 (TermedGoalDraft before) (TermedGoalDraft before) (read_goal_line symbols n l d) _
    (goal-line-reads before symbols n l d (omega arith) s)
    (λ e t. goal-lines-read before symbols (suc n) e ls (omega arith) t)

-- what holds by at most number 9 holds by at most number 10
reads-ten : {A : Type 0} (P : A → Type 0) (r : Answer A) → Reads 9 P r → Reads 10 P r
reads-ten P (refused number line) h = record { least = h.least; most = omega (arith, h.most); within = h.within }
reads-ten P (accepted a) h = h

-- a goal's text over symbols and constants
pub goal-termed :
    (symbols : List Symbol) (constants : List (List ℕ)) (s : List ℕ)
    → Reads 10 (TermedGoal constants) (read_goal symbols constants s)
unfolding read_goal
goal-termed symbols constants s =
    let start : GoalDraft = record { constraints = []; letters = []; constants = constants } in
    let P = TermedGoal constants in
    reads-refuse_if 10 P (ltb max_text (length s)) 1 0 _ refl (omega arith)
    λ short. reads-and_then 10 (TermedGoalDraft constants) P (read_goal_lines symbols 1 start (lines s)) _
    (reads-ten (TermedGoalDraft constants) (read_goal_lines symbols 1 start (lines s))
    (goal-lines-read constants symbols 1 start (lines s) (omega (arith, lines-few s, ltb-false 16384 (length s) short))
    (record { letters = C.none; constants = λ h. h })))
    λ d t. reads-refuse_if 10 P (ltb max_weight (weight symbols d.constraints)) 10 0 _ refl (omega arith)
    λ _. record { letters = t.letters; constants = t.constants }

-- what holds of the value, and of a refusal
pub reads-accepted : {A : Type 0} (m : ℕ) (P : A → Type 0) (r : Answer A) {a : A} → Reads m P r → r ≡ accepted a → P a
reads-accepted m P r h e = subst (Reads m P) e h

pub reads-refused :
    {A : Type 0} (m : ℕ) (P : A → Type 0) (r : Answer A) {number line : ℕ} → Reads m P r → r ≡ refused number line
    → Turned m number line
reads-refused m P r h e = subst (Reads m P) e h

-- names and letters are short
reads-mono :
    {A : Type 0} (m : ℕ) (P Q : A → Type 0) → ((a : A) → P a → Q a) → (r : Answer A) → Reads m P r → Reads m Q r
reads-mono m P Q f (refused number line) h = h
reads-mono m P Q f (accepted a) h = f a h

pub record ShortProgram (p : Reading) : Type 0 where
  pub symbols : All (λ s. Short s.name) p.program.symbols
  pub rules : All (λ r. Short r.name) p.program.rules
  pub constants : All Short p.constants

pub program-short : (s : List ℕ) → Reads 9 ShortProgram (read_program s)
program-short s =
    reads-mono 9 TermedProgram ShortProgram
    (λ p t. record {
      symbols = all-mono (λ y. term-short y.name) t.symbols;
      rules = all-mono (λ y. term-short y.name) t.rules;
      constants = all-mono term-short t.constants;
    }) (read_program s) (program-termed s)

-- a goal as read, whose names are short where the constants before it are terms
pub record ShortGoal (before : List (List ℕ)) (g : GoalReading) : Type 0 where
  pub letters : All Short g.letters
  pub constants : All Termed before → All Short g.constants

pub goal-short :
    (symbols : List Symbol) (constants : List (List ℕ)) (s : List ℕ)
    → Reads 10 (ShortGoal constants) (read_goal symbols constants s)
goal-short symbols constants s =
    reads-mono 10 (TermedGoal constants) (ShortGoal constants)
    (λ g t. record {
      letters = all-mono term-short t.letters;
      constants = λ h. all-mono term-short (t.constants h);
    }) (read_goal symbols constants s) (goal-termed symbols constants s)
