-- What a goal's text that reads says of the goal: it is over the program's symbols, within document 01's
-- limits, and its constants go on from the program's.
--   present, letters-few       there are no more letters than 26
--   ReadGoal, goal-small       a goal as read (the main law)
-- Assumes nothing.
use Prim.Native.Nat.{ℕ, zero, suc, ◌+◌, ◌-◌, ◌≤◌, ◌<◌}
use native.Mathlib.Nat.{zero-add}
use native.Mathlib.Omega.{arith}
use mathlib.Core.Bool.{Bool, true, false, cond, not, ◌&&◌, ◌||◌}
use mathlib.Core.List.{List, [], ◌∷◌, ◌++◌, append_assoc, append-nil}
use mathlib.Core.Path.{◌≡◌, refl, sym, ap, subst, ◌∙◌}
use lib.Dec.{leb, ltb, eqb}
use lib.ListN.{length, length-map, length-append, drop, get_or}
use borrow.Author.Tests.{lt-ltb, le-ltb, ltb-true, ltb-false, leb-false, eqb-true, eqb-false, ne_eqb, eq-eqb}
use Rattle.text.specs.Bytes.{between}
use Rattle.text.specs.Lists.{every, index_from, index_of, same_bytes, is_known, with_name}
use Rattle.text.specs.Lines.{Line, lines, line_is_faulty}
use Rattle.text.specs.Fields.{fields, is_name, is_variable, is_term}
use Rattle.text.proofs.Bools.{and-true}
use Rattle.semantics.specs.Terms.{con, var, Constraint, Symbol, weight, symbol_at, is_declared, is_below, is_goal_of}
use Rattle.semantics.proofs.Configurations.{TermBelow, All, also}
use Rattle.semantics.proofs.Configurations as C
use Rattle.semantics.proofs.Options.{below-is_below}
use Rattle.semantics.proofs.Multisets.{all-mono, all_append, all_map}
use Rattle.semantics.proofs.MatchedTerms.{ConstraintBelow, below-mono}
use Rattle.semantics.proofs.Listings.{all-every}
use Rattle.semantics.proofs.Vocabulary.{ConstraintOver}
use Rattle.syntax.specs.Answers.{accepted}
use Rattle.syntax.specs.Forms.{form_of, field_at, constants_after, term_of, is_constraint_faulty, is_undeclared, symbol_number}
use Rattle.syntax.specs.Forms.{constraint_of}
use Rattle.syntax.specs.Programs.{Reading, Found, constraint_line, max_text}
use Rattle.syntax.specs.Goals.{GoalDraft, GoalReading, letters_after, read_constraint_of_goal, is_goal_form, read_goal_fields}
use Rattle.syntax.specs.Goals.{read_goal_line, read_goal_lines, read_goal}
use Rattle.syntax.proofs.WellFormed.{Holds, holds-refuse_if, holds-and_then, holds-accepted, holds-constraint_line}
use Rattle.syntax.proofs.WellFormed.{and_both, or-neither, not-false}
use Rattle.syntax.proofs.Known.{grown, grown-front, grown-known, letters-grown}
use Rattle.syntax.proofs.Vocabulary.{ConstantOf, constraints-more, constants-more, constraint-over}
use Rattle.text.proofs.Keys.{variable-range}

-- whether a name is known behind others: among them, or as the last
index-split :
    (t : List ℕ → Bool) (i : ℕ) (xs : List (List ℕ)) (y : List ℕ)
    → ltb (index_from t i (xs ++ (y ∷ []))) (i + suc (length xs)) ≡ (ltb (index_from t i xs) (i + length xs) || t y)
index-split t i [] y = go (t y)
  where
    go : (b : Bool) → ltb (cond b i (suc i)) (i + 1) ≡ (ltb i (i + 0) || b)
    go true = rw (lt-ltb i (i + 1) (omega arith), le-ltb i (i + 0) (omega arith))
    go false = rw (le-ltb (suc i) (i + 1) (omega arith), le-ltb i (i + 0) (omega arith))
index-split t i (x ∷ xs) y = go (index-split t (suc i) xs y) (t x)
  where
    go :
        ltb (index_from t (suc i) (xs ++ (y ∷ []))) (suc i + suc (length xs)) ≡
        (ltb (index_from t (suc i) xs) (suc i + length xs) || t y)
        → (b : Bool)
        → ltb (cond b i (index_from t (suc i) (xs ++ (y ∷ [])))) (i + suc (suc (length xs)))
        ≡ (ltb (cond b i (index_from t (suc i) xs)) (i + suc (length xs)) || t y)
    go more true = rw (lt-ltb i (i + suc (suc (length xs))) (omega arith), lt-ltb i (i + suc (length xs)) (omega arith))
    go more false =
        let a : i + suc (suc (length xs)) ≡ suc i + suc (length xs) = omega arith in
        let b : i + suc (length xs) ≡ suc i + length xs = omega arith in
        rw (a, b) more

known-split : (f : List ℕ) (names : List (List ℕ)) (g : List ℕ)
    → is_known f (names ++ (g ∷ [])) ≡ (is_known f names || same_bytes f g)
unfolding is_known index_of
known-split f names g =
    let n : length (names ++ (g ∷ [])) ≡ suc (length names) = simp length-append (omega arith) in
    rw n (simp zero-add at (index-split (same_bytes f) 0 names g))

-- the field of a letter by its number
abbrev letter_field : ℕ → List ℕ
letter_field j = (65 + j) ∷ []

-- how many of the first n letters are known
abbrev present : ℕ → List (List ℕ) → ℕ
present zero names = 0
present (suc n) names = present n names + cond (is_known (letter_field n) names) 1 0

present-most : (n : ℕ) (names : List (List ℕ)) → present n names ≤ n
present-most zero names = omega arith
present-most (suc n) names = go (is_known (letter_field n) names) (present-most n names)
  where
    go : (b : Bool) → present n names ≤ n → present n names + cond b 1 0 ≤ suc n
    go true h = omega arith
    go false h = omega arith

-- a number other than n is below the next exactly where it is below n
next-test : (j n : ℕ) → (n ≡ j → ⊥) → ltb j (suc n) ≡ ltb j n
next-test j n apart = go (ltb j n) refl
  where
    go : (b : Bool) → ltb j n ≡ b → ltb j (suc n) ≡ b
    go true k = lt-ltb j (suc n) (omega (arith, ltb-true j n k))
    go false k = le-ltb j (suc n) (omega (arith, ltb-false j n k, apart))

-- a new letter makes one more
present-adds :
    (n j : ℕ) (names : List (List ℕ)) → is_known (letter_field j) names ≡ false
    → present n (names ++ (letter_field j ∷ [])) ≡ present n names + cond (ltb j n) 1 0
present-adds zero j names h = rw (le-ltb j 0 (omega arith))
present-adds (suc n) j names h =
    rw (known-split (letter_field n) names (letter_field j)) (go (eqb n j) refl (present-adds n j names h))
  where
    unchanged :
        (k : Bool) → present n names + cond (ltb j n) 1 0 + cond (k || false) 1 0 ≡ present n names + cond k 1 0 + cond (ltb j n)
        1 0
    unchanged true = omega arith
    unchanged false = omega arith

    go :
        (b : Bool) → eqb n j ≡ b → present n (names ++ (letter_field j ∷ [])) ≡ present n names + cond (ltb j n) 1 0
        → present n (names ++ (letter_field j ∷ [])) + cond (is_known (letter_field n) names || (eqb (65 + n) (65 + j) && true)) 1 0
        ≡ present n names + cond (is_known (letter_field n) names) 1 0 + cond (ltb j (suc n)) 1 0
    go true e more =
        let same : n ≡ j = eqb-true n j e in
        let unknown : is_known (letter_field n) names ≡ false = subst (λ k. is_known (letter_field k) names ≡ false) (sym same) h in
        let before : present n (names ++ (letter_field j ∷ [])) ≡ present n names + 0 =
        more ∙ ap (λ (b : Bool). present n names + cond b 1 0) (le-ltb j n (omega arith)) in
        rw (unknown, eq-eqb (65 + n) (65 + j) (omega arith), lt-ltb j (suc n) (omega arith)) (omega arith)
    go false e more =
        let apart = eqb-false n j e in
        rw (ne_eqb (65 + n) (65 + j) (λ k. apart (omega arith)), next-test j n apart, more)
        (unchanged (is_known (letter_field n) names))

-- a letter's field
variable-field : (f : List ℕ) → is_variable f ≡ true → (j : ℕ) × (j < 26) × (f ≡ letter_field j)
variable-field f h =
    let b : ℕ = get_or f 0 0 in
    let (one, least, most) = variable-range f h in
    let same : b ≡ 65 + (b - 65) = omega arith in
    (b - 65, omega arith, one ∙ ap (λ (x : ℕ). x ∷ []) same)

-- a term field that is no name is a letter's
term-variable : (f : List ℕ) → is_term f ≡ true → is_name f ≡ false → is_variable f ≡ true
unfolding is_term
term-variable f h e = rw e at h

-- letters stay counted by those that are known
letters-counted :
    (fs names : List (List ℕ)) → every is_term fs ≡ true → length names ≡ present 26 names
    → length (letters_after fs names) ≡ present 26 (letters_after fs names)
unfolding letters_after with_name
letters-counted [] names t h = h
letters-counted (f ∷ fs) names t h =
    let (term, terms) = and-true (is_term f) (every is_term fs) t in
    letters-counted fs (cond (is_name f) names (with_name f names)) terms (one (is_name f) refl term)
  where
    added : (k : Bool) → is_known f names ≡ k → is_variable f ≡ true
        → length (cond k names (names ++ (f ∷ []))) ≡ present 26 (cond k names (names ++ (f ∷ [])))
    added true e v = h
    added false e v =
        let (j, low, same) = variable-field f v in
        let new : is_known (letter_field j) names ≡ false = subst (λ g. is_known g names ≡ false) same e in
        let more : present 26 (names ++ (f ∷ [])) ≡ present 26 names + cond (ltb j 26) 1 0 =
        subst (λ g. present 26 (names ++ (g ∷ [])) ≡ present 26 names + cond (ltb j 26) 1 0) (sym same)
        (present-adds 26 j names new) in
        let one : cond {A = ℕ} (ltb j 26) 1 0 ≡ 1 = rw (lt-ltb j 26 low) in
        simp length-append (omega (arith, more, one, h))

    one : (b : Bool) → is_name f ≡ b → is_term f ≡ true
        → length (cond b names (with_name f names)) ≡ present 26 (cond b names (with_name f names))
    one true e v = h
    one false e v = added (is_known f names) refl (term-variable f v e)

pub letters-few : (names : List (List ℕ)) → length names ≡ present 26 names → length names ≤ 26
letters-few names h = omega (arith, present-most 26 names)

-- the letters after a line are those before it and more
letters-least : (fs before : List (List ℕ)) → length before ≤ length (letters_after fs before)
letters-least fs before =
    let (more, e) = grown-front (λ f. not (is_name f)) (λ f. f) fs before in
    omega (arith, ap length (letters-grown fs before ∙ e), length-append before more)

-- a term field is below the letters, where its letter is among them
term-lettered :
    (letters constants : List (List ℕ)) (f : List ℕ) → (not (is_name f) ≡ true → is_known f letters ≡ true)
    → TermBelow (length letters) (term_of (λ f. index_of f letters) constants f)
unfolding term_of is_known
term-lettered letters constants f h = go (is_name f) h _
  where
    go :
        (b : Bool) → (not b ≡ true → ltb (index_of f letters) (length letters) ≡ true) → (c : ℕ)
        → TermBelow (length letters) (cond b (con c) (var (index_of f letters)))
    go true k c = tt
    go false k c = ltb-true (index_of f letters) (length letters) (k refl)

constraint-lettered :
    (symbols : List Symbol) (constants fs before : List (List ℕ))
    → ConstraintBelow (length (letters_after (drop 2 fs) before))
    (constraint_of symbols (λ f. index_of f (letters_after (drop 2 fs) before)) constants fs)
unfolding constraint_of
constraint-lettered symbols constants fs before =
    rw (letters-grown (drop 2 fs) before)
    (all_map _
    (all-mono (term-lettered (grown (λ f. not (is_name f)) (λ f. f) (drop 2 fs) before) constants)
    (grown-known (λ f. not (is_name f)) (λ f. f) (drop 2 fs) before)))

-- the constraint of a line that did not meet 6 is declared
constraint-declared :
    (symbols : List Symbol) (variable : List ℕ → ℕ) (constants fs : List (List ℕ)) → is_undeclared symbols fs ≡ false
    → is_declared symbols (constraint_of symbols variable constants fs) ≡ true
unfolding is_undeclared is_declared constraint_of
constraint-declared symbols variable constants fs h =
    let n = symbol_number symbols (field_at 1 fs) in
    let (known, counted) = or-neither (not (ltb n (length symbols))) (not (eqb (length (drop 2 fs)) (symbol_at symbols n).arity))
    h in
    rw (length-map, not-false (ltb n (length symbols)) known)
    (not-false (eqb (length (drop 2 fs)) (symbol_at symbols n).arity) counted)

-- a draft of a goal over a program, within the limits
record GoalSmall (p : Reading) (d : GoalDraft) : Type 0 where
  few : length d.constraints ≤ 64
  few-constants : length d.constants ≤ 64
  front : (more : List (List ℕ)) × (d.constants ≡ p.constants ++ more)
  counted : length d.letters ≡ present 26 d.letters
  declared : All (λ c. is_declared p.program.symbols c ≡ true) d.constraints
  below : All (ConstraintBelow (length d.letters)) d.constraints
  over : All (ConstraintOver (ConstantOf (length d.constants))) d.constraints

blank-goal : (p : Reading) → length p.constants ≤ 64
    → GoalSmall p (record { constraints = []; letters = []; constants = p.constants })
unfolding is_known index_of
blank-goal p h =
    record {
      few = omega arith;
      few-constants = h;
      front = ([], sym (append-nil p.constants));
      counted = none-known 26;
      declared = C.none;
      below = C.none;
      over = C.none;
    }
  where
    none-known : (n : ℕ) → 0 ≡ present n []
    none-known zero = refl
    none-known (suc n) = omega (arith, none-known n)

-- what a G line finds
record FoundGoal (symbols : List Symbol) (letters before fs : List (List ℕ)) (room : Type 0) (found : Found) : Type 0 where
  terms : every is_term (drop 2 fs) ≡ true
  fits : room
  most : length found.constants ≤ 64
  front : (more : List (List ℕ)) × (found.constants ≡ before ++ more)
  declared : is_declared symbols found.constraint ≡ true
  below : ConstraintBelow (length letters) found.constraint
  over : ConstraintOver (ConstantOf (length found.constants)) found.constraint

-- each line keeps a draft so
constraint-goal :
    (p : Reading) (n : ℕ) (fs : List (List ℕ)) (d : GoalDraft) → GoalSmall p d
    → Holds (GoalSmall p) (read_constraint_of_goal p.program.symbols n fs d)
unfolding read_constraint_of_goal is_constraint_faulty
constraint-goal p n fs d s =
    let symbols = p.program.symbols in
    let letters = letters_after (drop 2 fs) d.letters in
    let variable : List ℕ → ℕ = λ f. index_of f letters in
    let full = leb 64 (length d.constraints) in
    holds-and_then (FoundGoal symbols letters d.constants fs (length d.constraints < 64)) (GoalSmall p)
    (constraint_line full symbols variable d.constants n fs) _
    (holds-constraint_line _ full symbols variable d.constants n fs
    λ fine known room few. (let formed = not (between 2 6 (length fs)) || not (is_name (field_at 1 fs)) in
    record {
      terms = not-false _ (or-neither formed (not (every is_term (drop 2 fs))) fine).1;
      fits = leb-false 64 (length d.constraints) room;
      most = few;
      front = constants-more (drop 2 fs) d.constants;
      declared = constraint-declared symbols variable (constants_after (drop 2 fs) d.constants) fs known;
      below = constraint-lettered symbols (constants_after (drop 2 fs) d.constants) fs d.letters;
      over = constraint-over symbols variable fs d.constants;
    }))
    λ found _ h. (let (more, e) = h.front in
    let (old, k) = s.front in
    let least : length d.constants ≤ length found.constants =
    omega (arith, ap length e, length-append d.constants more) in
    record {
      few = simp length-append (omega (arith, h.fits));
      few-constants = h.most;
      front = (old ++ more, e ∙ ap (λ cs. cs ++ more) k ∙ append_assoc p.constants old more);
      counted = letters-counted (drop 2 fs) d.letters h.terms s.counted;
      declared = all_append s.declared (also h.declared C.none);
      below =
          all_append (all-mono (λ c. all-mono (below-mono (letters-least (drop 2 fs) d.letters))) s.below)
          (also h.below C.none);
      over = all_append (constraints-more least s.over) (also h.over C.none);
    })

line-goal :
    (p : Reading) (n : ℕ) (l : Line) (d : GoalDraft) → GoalSmall p d
    → Holds (GoalSmall p) (read_goal_line p.program.symbols n l d)
unfolding read_goal_line read_goal_fields
line-goal p n l d s =
    holds-refuse_if (GoalSmall p) (line_is_faulty l) 2 n _
    λ _. holds-refuse_if (GoalSmall p) (not (is_goal_form (form_of (field_at 0 (fields l.bytes))))) 3 n _
    λ _. constraint-goal p n (fields l.bytes) d s

lines-goal :
    (p : Reading) (n : ℕ) (d : GoalDraft) (ls : List Line) → GoalSmall p d
    → Holds (GoalSmall p) (read_goal_lines p.program.symbols n d ls)
unfolding read_goal_lines
lines-goal p n d [] s = s
lines-goal p n d (l ∷ ls) s =
    holds-and_then (GoalSmall p) (GoalSmall p) (read_goal_line p.program.symbols n l d) _ (line-goal p n l d s)
    (λ e _ t. lines-goal p (suc n) e ls t)

-- a goal as read: over the program's symbols, within the limits, and over constants that go on from the program's
pub record ReadGoal (p : Reading) (g : GoalReading) : Type 0 where
  pub is-goal : is_goal_of p.program g.goal ≡ true
  pub few : length g.goal.constraints ≤ 64
  pub lettered : g.goal.variables ≡ length g.letters
  pub few-letters : length g.letters ≤ 26
  pub light : weight p.program.symbols g.goal.constraints ≤ 512
  pub few-constants : length g.constants ≤ 64
  pub front : (more : List (List ℕ)) × (g.constants ≡ p.constants ++ more)
  pub over : All (ConstraintOver (ConstantOf (length g.constants))) g.goal.constraints

-- tests of declared constraints over the letters, as one
goal-tests :
    (symbols : List Symbol) (n : ℕ) (cs : List Constraint) → All (λ c. is_declared symbols c ≡ true) cs
    → All (ConstraintBelow n) cs
    → every (λ c. is_declared symbols c && every (is_below n) c.terms) cs ≡ true
goal-tests symbols n [] C.none C.none = refl
goal-tests symbols n (c ∷ cs) (also d ds) (also b bs) =
    and_both (and_both d (all-every (is_below n) (all-mono (below-is_below n) b))) (goal-tests symbols n cs ds bs)

-- what reads as a goal over a program
pub goal-small :
    (p : Reading) (s : List ℕ) {g : GoalReading} → length p.constants ≤ 64
    → read_goal p.program.symbols p.constants s ≡ accepted g → ReadGoal p g
unfolding read_goal is_goal_of
goal-small p s {g} h e =
    let symbols = p.program.symbols in
    let start : GoalDraft = record { constraints = []; letters = []; constants = p.constants } in
    holds-accepted (ReadGoal p) (read_goal symbols p.constants s)
    (holds-refuse_if (ReadGoal p) (ltb max_text (length s)) 1 0 _
    λ _. holds-and_then (GoalSmall p) (ReadGoal p) (read_goal_lines symbols 1 start (lines s)) _
    (lines-goal p 1 start (lines s) (blank-goal p h))
    λ d _ t. holds-refuse_if (ReadGoal p) (ltb 512 (weight symbols d.constraints)) 10 0 _
    λ light. record {
      is-goal = goal-tests symbols (length d.letters) d.constraints t.declared t.below;
      few = t.few;
      lettered = refl;
      few-letters = letters-few d.letters t.counted;
      light = ltb-false 512 (weight symbols d.constraints) light;
      few-constants = t.few-constants;
      front = t.front;
      over = t.over;
    })
    e
