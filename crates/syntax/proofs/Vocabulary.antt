-- What a program's text that reads says of the program: counts within document 01's limits, and constants with their numbers.
--   ConstantOf                 the numbers of k constants
--   SymbolSmall, RuleSmall     a symbol and a rule within the limits
--   term-over, constraint-over the terms of a line, over the constants after it
--   Small, read_small          a program as read (the main law)
-- Assumes nothing.
use Prim.Native.Nat.{ℕ, suc, ◌+◌, ◌≤◌, ◌<◌}
use native.Mathlib.Omega.{arith}
use mathlib.Core.Bool.{Bool, true, false, cond, not, ◌&&◌, ◌||◌}
use mathlib.Core.List.{List, [], ◌∷◌, ◌++◌, map}
use mathlib.Core.Option.{Option, none, some}
use mathlib.Core.Path.{◌≡◌, refl, ap}
use lib.Dec.{leb, ltb, eqb}
use lib.ListN.{length, length-append, length-map, drop}
use borrow.Author.Tests.{ltb-true, ltb-false, leb-true, leb-false}
use Rattle.text.specs.Bytes.{between}
use Rattle.text.specs.Lists.{onward, is_known, index_of}
use Rattle.text.specs.Lines.{Line, lines, line_is_faulty}
use Rattle.text.specs.Fields.{fields, is_name, is_number, is_number_in, value_of}
use Rattle.text.specs.Constants.{constant_name}
use Rattle.text.proofs.Bools.{and-true}
use Rattle.semantics.specs.Terms.{Term, con, var, Constraint, Symbol, Rule, removed_heads, weight}
use Rattle.semantics.proofs.Configurations.{All, also}
use Rattle.semantics.proofs.Configurations as C
use Rattle.semantics.proofs.Multisets.{all-mono, all_append, all_map}
use Rattle.semantics.proofs.Vocabulary.{TermOver, ConstraintOver, RuleOver}
use Rattle.syntax.specs.Answers.{Answer, refused, accepted}
use Rattle.syntax.specs.Forms.{Form, symbol_form, rule_form, kept_form, head_form, body_form, equation_form, goal_form, no_form}
use Rattle.syntax.specs.Forms.{form_of, Section, section_after, field_at, constants_after, first_constant, term_of}
use Rattle.syntax.specs.Forms.{letter_number, is_symbol_faulty, is_rule_faulty, is_equation_faulty, constraint_of}
use Rattle.syntax.specs.Programs.{Draft, RuleRead, Reading, Found, blank, in_section, on_last, last_rule, with_kept, with_head}
use Rattle.syntax.specs.Programs.{with_body, with_equation, with_rule, read_symbol, read_rule}
use Rattle.syntax.specs.Programs.{constraint_line, read_constraint, read_equation}
use Rattle.syntax.specs.Programs.{read_form, read_fields, read_line, read_lines, check_rules, read_program, max_text}
use Rattle.syntax.proofs.WellFormed.{Holds, holds-refuse_if, holds-and_then, holds-accepted, holds-constraint_line}
use Rattle.syntax.proofs.WellFormed.{or-neither, not-false, length-on_last}
use Rattle.syntax.proofs.Known.{grown, grown-front, grown-known, constants-grown}

-- the numbers of k constants
abbrev pub ConstantOf : ℕ → ℕ → Type 0
ConstantOf k c = (first_constant ≤ c) × (c < first_constant + k)

-- a symbol within the limits
pub record SymbolSmall (s : Symbol) : Type 0 where
  pub few : s.arity ≤ 4
  pub heavy : 1 ≤ s.weight
  pub light : s.weight ≤ 31

-- a rule within the limits, over k constants
pub record RuleSmall (k : ℕ) (r : Rule) : Type 0 where
  pub heads-few : length r.heads ≤ 4
  pub body-few : length r.body ≤ 6
  pub equations-few : length r.equations ≤ 4
  pub heads : All (ConstraintOver (ConstantOf k)) r.heads
  pub over : RuleOver (ConstantOf k) r

-- over more constants
pub term-more : {k m : ℕ} → k ≤ m → (t : Term) → TermOver (ConstantOf k) t → TermOver (ConstantOf m) t
term-more h (con c) o = (o.0, omega (arith, o.1))
term-more h (var x) o = tt

pub constraints-more :
    {k m : ℕ} {cs : List Constraint} → k ≤ m → All (ConstraintOver (ConstantOf k)) cs → All (ConstraintOver (ConstantOf m)) cs
constraints-more h o = all-mono (λ c. all-mono (term-more h)) o

rule-more : {k m : ℕ} → k ≤ m → (r : Rule) → RuleSmall k r → RuleSmall m r
rule-more h r s =
    record {
      heads-few = s.heads-few;
      body-few = s.body-few;
      equations-few = s.equations-few;
      heads = constraints-more h s.heads;
      over = record {
        body = constraints-more h s.over.body;
        equations = all-mono (λ e o. (term-more h e.left o.0, term-more h e.right o.1)) s.over.equations;
      };
    }

-- a term field is over the constants, where its name is among them
pub term-over :
    (variable : List ℕ → ℕ) (constants : List (List ℕ)) (f : List ℕ)
    → (is_name f ≡ true → is_known (constant_name f) constants ≡ true)
    → TermOver (ConstantOf (length constants)) (term_of variable constants f)
unfolding term_of is_known
term-over variable constants f h = go (is_name f) refl
  where
    go :
        (b : Bool) → is_name f ≡ b
        → TermOver (ConstantOf (length constants))
        (cond b (con (first_constant + index_of (constant_name f) constants)) (var (variable f)))
    go true e = let k : index_of (constant_name f) constants < length constants = ltb-true _ _ (h e) in (omega arith, omega arith)
    go false e = tt

-- the constants after a line are those before it and more
pub constants-more : (fs before : List (List ℕ)) → (more : List (List ℕ)) × (constants_after fs before ≡ before ++ more)
constants-more fs before = rw (constants-grown fs before) (grown-front is_name constant_name fs before)

pub constants-least : (fs before : List (List ℕ)) → length before ≤ length (constants_after fs before)
constants-least fs before =
    let (more, e) = constants-more fs before in
    omega (arith, ap length e, length-append before more)

-- the terms of a line are over the constants after it
fields-over :
    (variable : List ℕ → ℕ) (fs before : List (List ℕ))
    → All (λ f. TermOver (ConstantOf (length (constants_after fs before))) (term_of variable (constants_after fs before) f)) fs
fields-over variable fs before =
    rw (constants-grown fs before)
    (all-mono (term-over variable (grown is_name constant_name fs before)) (grown-known is_name constant_name fs before))

pub constraint-over :
    (symbols : List Symbol) (variable : List ℕ → ℕ) (fs before : List (List ℕ))
    → ConstraintOver (ConstantOf (length (constants_after (drop 2 fs) before)))
    (constraint_of symbols variable (constants_after (drop 2 fs) before) fs)
unfolding constraint_of
constraint-over symbols variable fs before = all_map _ (fields-over variable (drop 2 fs) before)

-- the last rule is changed, and the others stay
all-on_last :
    (P : Rule → Type 0) (f : Rule → Rule) (rs : List RuleRead) → (P (last_rule rs) → P (f (last_rule rs)))
    → All (λ r. P r.rule) rs → All (λ r. P r.rule) (on_last f rs)
unfolding on_last last_rule
all-on_last P f [] k C.none = C.none
all-on_last P f (r ∷ []) k (also h C.none) = also (k h) C.none
all-on_last P f (r ∷ q ∷ rs) k (also h more) = also h (all-on_last P f (q ∷ rs) k more)

-- a draft within the limits
pub record Small (d : Draft) : Type 0 where
  pub few-symbols : length d.symbols ≤ 32
  pub few-rules : length d.rules ≤ 32
  pub few-constants : length d.constants ≤ 64
  pub symbols : All SymbolSmall d.symbols
  pub rules : All (λ r. RuleSmall (length d.constants) r.rule) d.rules

blank-small : Small blank
unfolding blank
blank-small =
    record { few-symbols = omega arith; few-rules = omega arith; few-constants = omega arith; symbols = C.none; rules = C.none }

-- a number in a range
number_in : (lo hi : ℕ) (f : List ℕ) → is_number_in lo hi f ≡ true → (lo ≤ value_of f) × (value_of f ≤ hi)
unfolding is_number_in between
number_in lo hi f h =
    let range = (and-true (is_number f) (leb lo (value_of f) && leb (value_of f) hi) h).1 in
    let (a, b) = and-true (leb lo (value_of f)) (leb (value_of f) hi) range in
    (leb-true lo (value_of f) a, leb-true (value_of f) hi b)

-- the symbol of a K line of the right form
symbol-fields :
    (fs : List (List ℕ)) → is_symbol_faulty fs ≡ false
    → SymbolSmall (record { name = field_at 1 fs; arity = value_of (field_at 2 fs); weight = value_of (field_at 3 fs) })
unfolding is_symbol_faulty
symbol-fields fs fine =
    let a = not (eqb (length fs) 4) in
    let b = not (is_name (field_at 1 fs)) in
    let c = not (is_number_in 0 4 (field_at 2 fs)) in
    let e = not (is_number_in 1 31 (field_at 3 fs)) in
    let (abc, weighs) = or-neither (a || b || c) e fine in
    let counts = (or-neither (a || b) c abc).1 in
    let arity = number_in 0 4 (field_at 2 fs) (not-false _ counts) in
    let weight = number_in 1 31 (field_at 3 fs) (not-false _ weighs) in
    record { few = arity.1; heavy = weight.0; light = weight.1 }

-- each line keeps a draft within the limits
symbol-small : (n : ℕ) (fs : List (List ℕ)) (d : Draft) → Small d → Holds Small (read_symbol n fs d)
unfolding read_symbol
symbol-small n fs d s =
    holds-refuse_if Small (is_symbol_faulty fs) 4 n _
    λ fine. holds-refuse_if Small (is_known (field_at 1 fs) (map (λ s. s.name) d.symbols)) 5 n _
    λ _. holds-refuse_if Small (leb 32 (length d.symbols)) 7 n _
    λ room. record {
      few-symbols = simp length-append (omega (arith, leb-false 32 (length d.symbols) room));
      few-rules = s.few-rules;
      few-constants = s.few-constants;
      symbols = all_append s.symbols (also (symbol-fields fs fine) C.none);
      rules = s.rules;
    }

rule-small : (n : ℕ) (fs : List (List ℕ)) (d : Draft) → Small d → Holds Small (read_rule n fs d)
unfolding read_rule
rule-small n fs d s =
    holds-refuse_if Small (is_rule_faulty fs) 4 n _
    λ _. holds-refuse_if Small (is_known (field_at 1 fs) (map (λ r. r.rule.name) d.rules)) 5 n _
    λ _. holds-refuse_if Small (leb 32 (length d.rules)) 7 n _
    λ room. record {
      few-symbols = s.few-symbols;
      few-rules = simp length-append (omega (arith, leb-false 32 (length d.rules) room));
      few-constants = s.few-constants;
      symbols = s.symbols;
      rules = all_append s.rules (also (record {
        heads-few = omega arith;
        body-few = omega arith;
        equations-few = omega arith;
        heads = C.none;
        over = record { body = C.none; equations = C.none };
      }) C.none);
    }

-- a line that changes the last rule
change-small :
    (f : Rule → Rule) (constants : List (List ℕ)) (d : Draft) → Small d → length d.constants ≤ length constants
    → length constants ≤ 64
    → (RuleSmall (length constants) (last_rule d.rules) → RuleSmall (length constants) (f (last_rule d.rules)))
    → Small (with_rule f constants d)
unfolding with_rule
change-small f constants d s least most k =
    record {
      few-symbols = s.few-symbols;
      few-rules = rw (length-on_last f d.rules) s.few-rules;
      few-constants = most;
      symbols = s.symbols;
      rules = all-on_last (RuleSmall (length constants)) f d.rules k (all-mono (λ r. rule-more least r.rule) s.rules);
    }

-- what a J, H or B line finds, over the constants after it
record FoundSmall (before : List (List ℕ)) (room : Type 0) (found : Found) : Type 0 where
  least : length before ≤ length found.constants
  most : length found.constants ≤ 64
  over : ConstraintOver (ConstantOf (length found.constants)) found.constraint
  fits : room

constraint-small :
    (count most : ℕ) (add : Constraint → Rule → Rule) (n : ℕ) (fs : List (List ℕ)) (d : Draft) → Small d
    → ((k : ℕ) (c : Constraint) → ConstraintOver (ConstantOf k) c → count < most → RuleSmall k (last_rule d.rules)
    → RuleSmall k (add c (last_rule d.rules)))
    → Holds Small (read_constraint count most add n fs d)
unfolding read_constraint
constraint-small count most add n fs d s k =
    holds-and_then (FoundSmall d.constants (count < most)) Small
    (constraint_line (leb most count) d.symbols letter_number d.constants n fs) _
    (holds-constraint_line _ (leb most count) d.symbols letter_number d.constants n fs
    λ _ _ room few. record {
      least = constants-least (drop 2 fs) d.constants;
      most = few;
      over = constraint-over d.symbols letter_number fs d.constants;
      fits = leb-false most count room;
    })
    λ found _ h. change-small _ found.constants d s h.least h.most
    (k (length found.constants) found.constraint h.over h.fits)

kept_small :
    (k : ℕ) (c : Constraint) (r : Rule) → ConstraintOver (ConstantOf k) c → length r.heads < 4 → RuleSmall k r
    → RuleSmall k (with_kept c r)
unfolding with_kept
kept_small k c r o few s =
    record {
      heads-few = simp length-append (omega arith);
      body-few = s.body-few;
      equations-few = s.equations-few;
      heads = all_append s.heads (also o C.none);
      over = record { body = s.over.body; equations = s.over.equations };
    }

head_small :
    (k : ℕ) (c : Constraint) (r : Rule) → ConstraintOver (ConstantOf k) c → length r.heads < 4 → RuleSmall k r
    → RuleSmall k (with_head c r)
unfolding with_head
head_small k c r o few s =
    record {
      heads-few = simp length-append (omega arith);
      body-few = s.body-few;
      equations-few = s.equations-few;
      heads = all_append s.heads (also o C.none);
      over = record { body = s.over.body; equations = s.over.equations };
    }

body-small :
    (k : ℕ) (c : Constraint) (r : Rule) → ConstraintOver (ConstantOf k) c → length r.body < 6 → RuleSmall k r
    → RuleSmall k (with_body c r)
unfolding with_body
body-small k c r o few s =
    record {
      heads-few = s.heads-few;
      body-few = simp length-append (omega arith);
      equations-few = s.equations-few;
      heads = s.heads;
      over = record { body = all_append s.over.body (also o C.none); equations = s.over.equations };
    }

-- the two sides of an equation, by their fields
sides-over :
    (P : Term → Type 0) (term : List ℕ → Term) (fs : List (List ℕ)) → is_equation_faulty fs ≡ false
    → All (λ f. P (term f)) (drop 1 fs) → P (term (field_at 1 fs)) × P (term (field_at 2 fs))
unfolding field_at is_equation_faulty
sides-over P term [] e h = let z : ◌≡◌ {A = ℕ} 0 1 = cc in absurd (omega arith)
sides-over P term (a ∷ []) e h = let z : ◌≡◌ {A = ℕ} 0 1 = cc in absurd (omega arith)
sides-over P term (a ∷ b ∷ []) e h = let z : ◌≡◌ {A = ℕ} 0 1 = cc in absurd (omega arith)
sides-over P term (a ∷ b ∷ c ∷ fs) e (also h (also k more)) = (h, k)

equation-small : (n : ℕ) (fs : List (List ℕ)) (d : Draft) → Small d → Holds Small (read_equation n fs d)
unfolding read_equation with_equation
equation-small n fs d s =
    let constants = constants_after (drop 1 fs) d.constants in
    let last = last_rule d.rules in
    holds-refuse_if Small (is_equation_faulty fs) 4 n _
    λ fine. holds-refuse_if Small (leb 4 (length last.equations) || ltb 64 (length constants)) 7 n _
    λ room. (let (counted, known) = or-neither (leb 4 (length last.equations)) (ltb 64 (length constants)) room in
    let sides = sides-over (TermOver (ConstantOf (length constants))) (term_of letter_number constants) fs fine
    (fields-over letter_number (drop 1 fs) d.constants) in
    change-small _ constants d s (constants-least (drop 1 fs) d.constants) (ltb-false 64 (length constants) known)
    λ small. record {
      heads-few = small.heads-few;
      body-few = small.body-few;
      equations-few = simp length-append (omega (arith, leb-false 4 (length last.equations) counted));
      heads = small.heads;
      over = record { body = small.over.body; equations = all_append small.over.equations (also sides C.none) };
    })

form_small : (form : Form) (n : ℕ) (fs : List (List ℕ)) (d : Draft) → Small d → Holds Small (read_form form n fs d)
unfolding read_form
form_small symbol_form n fs d s = symbol-small n fs d s
form_small rule_form n fs d s = rule-small n fs d s
form_small kept_form n fs d s =
    constraint-small (length (last_rule d.rules).heads) 4 with_kept n fs d s (λ k c. kept_small k c (last_rule d.rules))
form_small head_form n fs d s =
    constraint-small (length (last_rule d.rules).heads) 4 with_head n fs d s (λ k c. head_small k c (last_rule d.rules))
form_small body_form n fs d s =
    constraint-small (length (last_rule d.rules).body) 6 with_body n fs d s (λ k c. body-small k c (last_rule d.rules))
form_small equation_form n fs d s = equation-small n fs d s
form_small goal_form n fs d s = tt
form_small no_form n fs d s = tt

moved-small : (section : Section) (d : Draft) → Small d → Small (in_section section d)
unfolding in_section
moved-small section d s =
    record {
      few-symbols = s.few-symbols;
      few-rules = s.few-rules;
      few-constants = s.few-constants;
      symbols = s.symbols;
      rules = s.rules;
    }

fields-small : (n : ℕ) (fs : List (List ℕ)) (d : Draft) → Small d → Holds Small (read_fields n fs d)
unfolding read_fields
fields-small n fs d s = go (section_after (form_of (field_at 0 fs)) d.section)
  where
    go : (o : Option Section)
        → Holds Small (onward o (refused 3 n) (λ section. read_form (form_of (field_at 0 fs)) n fs (in_section section d)))
    go none = tt
    go (some section) = form_small (form_of (field_at 0 fs)) n fs (in_section section d) (moved-small section d s)

line_small : (n : ℕ) (l : Line) (d : Draft) → Small d → Holds Small (read_line n l d)
unfolding read_line
line_small n l d s = holds-refuse_if Small (line_is_faulty l) 2 n _ λ _. fields-small n (fields l.bytes) d s

lines-small : (n : ℕ) (d : Draft) (ls : List Line) → Small d → Holds Small (read_lines n d ls)
unfolding read_lines
lines-small n d [] s = s
lines-small n d (l ∷ ls) s = holds-and_then Small Small (read_line n l d) _ (line_small n l d s)
    (λ e _ t. lines-small (suc n) e ls t)

-- rules that met neither 8 nor 9, whatever they are
pub holds-checked :
    {A : Type 0} (P : A → Type 0) (symbols : List Symbol) (rs : List RuleRead) (otherwise : Answer A) → Holds P otherwise
    → Holds P (check_rules symbols rs otherwise)
unfolding check_rules
holds-checked P symbols [] otherwise h = h
holds-checked P symbols (r ∷ rs) otherwise h =
    holds-refuse_if P (eqb (length (removed_heads r.rule)) 0) 8 r.line _
    λ _. holds-refuse_if P (leb (weight symbols (removed_heads r.rule)) (weight symbols r.rule.body)) 9 r.line _
    λ _. holds-checked P symbols rs otherwise h

-- a program as read is within the limits
pub record ReadSmall (p : Reading) : Type 0 where
  pub few-symbols : length p.program.symbols ≤ 32
  pub few-rules : length p.program.rules ≤ 32
  pub few-constants : length p.constants ≤ 64
  pub symbols : All SymbolSmall p.program.symbols
  pub rules : All (RuleSmall (length p.constants)) p.program.rules

pub read_small : (s : List ℕ) {p : Reading} → read_program s ≡ accepted p → ReadSmall p
unfolding read_program
read_small s {p} e =
    holds-accepted ReadSmall (read_program s)
    (holds-refuse_if ReadSmall (ltb max_text (length s)) 1 0 _
    λ _. holds-and_then Small ReadSmall (read_lines 1 blank (lines s)) _ (lines-small 1 blank (lines s) blank-small)
    λ d _ t. holds-checked ReadSmall d.symbols d.rules _
    (record {
      few-symbols = t.few-symbols;
      few-rules = rw length-map t.few-rules;
      few-constants = t.few-constants;
      symbols = t.symbols;
      rules = all_map _ t.rules;
    }))
    e
