-- The numbering of constants gives two constants one number exactly if they are one.
--   read-by-value     in every program that is read
--   goal-by-value     in every goal that is read, where those of its program keep their numbers
-- Assumes nothing.
use Prim.Native.Nat.{ℕ, zero, suc, ◌+◌, ◌≤◌, ◌<◌}
use native.Mathlib.Omega.{arith}
use native.Mathlib.Decide.{dec_lt}
use mathlib.Core.Bool.{Bool, true, false, cond, not, ◌||◌}
use mathlib.Core.List.{List, [], ◌∷◌, ◌++◌, map, append_assoc, append-nil}
use mathlib.Core.Logic.{◌↔◌}
use mathlib.Core.Option.{Option, none, some}
use mathlib.Core.Path.{◌≡◌, refl, sym, ap, subst, ◌∙◌}
use lib.Dec.{leb, ltb}
use lib.ListN.{length, get_or, drop, length-append, get_or-append}
use lib.Seq.{get_or-append_seam, get_or-append-add}
use borrow.Author.Tests.{lt-ltb, ltb-true}
use Rattle.text.specs.Lists.{onward, index_from, index_of, same_bytes, is_known, with_name}
use Rattle.text.specs.Lines.{Line, lines, line_is_faulty}
use Rattle.text.specs.Fields.{fields, is_name}
use Rattle.text.specs.Constants.{SameConstant, constant_name}
use Rattle.text.proofs.Bools.{never}
use Rattle.text.proofs.Laws.{same-is}
use Rattle.text.proofs.ConstantLaws.{same_name, own_name}
use Rattle.semantics.specs.Terms.{Term, con, var, Constraint, Symbol, Rule, weight}
use Rattle.semantics.proofs.Configurations.{All, also}
use Rattle.semantics.proofs.Configurations as C
use Rattle.semantics.proofs.Multisets.{all_append, all-mono}
use Rattle.semantics.proofs.Indices.{index_from-hit, index_from-miss}
use Rattle.syntax.specs.Answers.{Answer, refused, accepted}
use Rattle.syntax.specs.Forms.{Form, symbol_form, rule_form, kept_form, head_form, body_form, equation_form, goal_form, no_form}
use Rattle.syntax.specs.Forms.{form_of, Section, section_after, field_at, constants_after, first_constant, term_of, letter_number}
use Rattle.syntax.specs.Forms.{is_symbol_faulty, is_rule_faulty, is_equation_faulty}
use Rattle.syntax.specs.Programs.{Draft, Reading, blank, in_section, last_rule, with_rule}
use Rattle.syntax.specs.Programs.{read_symbol, read_rule, constraint_line, read_constraint, read_equation, read_form, read_fields}
use Rattle.syntax.specs.Programs.{read_line, read_lines, read_program}
use Rattle.syntax.specs.Programs.{max_symbols, max_rules, max_equations, max_constants, max_text}
use Rattle.syntax.specs.Goals.{GoalDraft, GoalReading, max_goal, max_weight, letters_after, read_constraint_of_goal, is_goal_form}
use Rattle.syntax.specs.Goals.{read_goal_fields, read_goal_line, read_goal_lines, read_goal}
use Rattle.syntax.specs.Claims.{Among, ByValue, term_fields, terms_in, StandsIn, TextByValue, KeepsNumbers}
use Rattle.syntax.proofs.WellFormed.{Holds, holds-refuse_if, holds-and_then, holds-accepted, holds-constraint_line}
use Rattle.syntax.proofs.Known.{same_refl, known-front, grown-known, constants-grown}
use Rattle.syntax.proofs.Tabled.{name-first}
use Rattle.syntax.proofs.Vocabulary.{constants-more, holds-checked}

-- what passes a test is not found behind where it stands, and what is found passes it
index-reaches : (t : List ℕ → Bool) (xs : List (List ℕ)) (i : ℕ) → i < length xs → t (get_or xs i []) ≡ true → index_from t 0 xs ≤ i
index-reaches t [] i h e = absurd (omega arith)
index-reaches t (x ∷ xs) zero h e = rw (index_from-hit t 0 xs e) (omega arith)
index-reaches t (x ∷ xs) (suc i) h e = go (t x) refl (index-reaches t xs i (omega arith) e)
  where
    go : (b : Bool) → t x ≡ b → index_from t 0 xs ≤ i → index_from t 0 (x ∷ xs) ≤ suc i
    go true k more = rw (index_from-hit t 0 xs k) (omega arith)
    go false k more = rw (index_from-miss t 0 xs k) (omega arith)

index-passes : (t : List ℕ → Bool) (xs : List (List ℕ)) → index_from t 0 xs < length xs → t (get_or xs (index_from t 0 xs) []) ≡ true
index-passes t [] h = absurd (omega arith)
index-passes t (x ∷ xs) h = go (t x) refl h (index-passes t xs)
  where
    go : (b : Bool) → t x ≡ b → index_from t 0 (x ∷ xs) < suc (length xs)
        → (index_from t 0 xs < length xs → t (get_or xs (index_from t 0 xs) []) ≡ true)
        → t (get_or (x ∷ xs) (index_from t 0 (x ∷ xs)) []) ≡ true
    go true k low more = rw (index_from-hit t 0 xs k) k
    go false k low more = rw (index_from-miss t 0 xs k) (more (omega (arith, low, index_from-miss t 0 xs k)))

-- a name is known exactly where it stands in the list
module _ (f : List ℕ) (xs : List (List ℕ)) where
  stands-known : (i : ℕ) → i < length xs → get_or xs i [] ≡ f → is_known f xs ≡ true
  unfolding is_known index_of
  stands-known i h e =
      let found : same_bytes f (get_or xs i []) ≡ true = ap (same_bytes f) e ∙ same_refl f in
      lt-ltb (index_from (same_bytes f) 0 xs) (length xs) (omega (arith, h, index-reaches (same_bytes f) xs i h found))

  known-below : is_known f xs ≡ true → index_of f xs < length xs
  unfolding is_known
  known-below h = ltb-true (index_of f xs) (length xs) h

  known-stands : index_of f xs < length xs → get_or xs (index_of f xs) [] ≡ f
  unfolding index_of
  known-stands h = sym (same-is f (get_or xs (index_from (same_bytes f) 0 xs) []) (index-passes (same_bytes f) xs h))

-- constants under their names, no two the same
record Tidy (constants : List (List ℕ)) : Type 0 where
  named : (i : ℕ) → i < length constants → constant_name (get_or constants i []) ≡ get_or constants i []
  once : (i j : ℕ) → i < length constants → j < length constants → get_or constants i [] ≡ get_or constants j [] → i ≡ j

module _ (cs : List (List ℕ)) (t : Tidy cs) where
  -- a constant is among them exactly if its name is known
  among-known : (f : List ℕ) → Among f cs → is_known (constant_name f) cs ≡ true
  among-known f a =
      stands-known (constant_name f) cs a.i a.inside
      (sym ((same_name f (get_or cs a.i [])).0 a.same ∙ t.named a.i a.inside))

  known_among : (f : List ℕ) → is_known (constant_name f) cs ≡ true → Among f cs
  known_among f k =
      let low = known-below (constant_name f) cs k in
      let at : get_or cs (index_of (constant_name f) cs) [] ≡ constant_name f = known-stands (constant_name f) cs low in
      record {
        i = index_of (constant_name f) cs;
        inside = low;
        same = (same_name f (get_or cs (index_of (constant_name f) cs) [])).1
            (sym at ∙ sym (t.named (index_of (constant_name f) cs) low));
      }

-- the number of a constant
abbrev number_in : Term → ℕ
number_in (con c) = c
number_in (var x) = 0

constant-term : (variable : List ℕ → ℕ) (cs : List (List ℕ)) (f : List ℕ) → is_name f ≡ true
    → term_of variable cs f ≡ con (first_constant + index_of (constant_name f) cs)
unfolding term_of
constant-term variable cs f h = rw h

tidy-by-value : (cs : List (List ℕ)) → Tidy cs → ByValue cs
tidy-by-value cs t = record { one_number = numbers; once = counts; named = t.named }
  where
    numbers : (variable : List ℕ → ℕ) (f g : List ℕ) → is_name f ≡ true → is_name g ≡ true → Among f cs
        → (term_of variable cs f ≡ term_of variable cs g) ↔ SameConstant f g
    numbers variable f g m n a = (back, λ s. forth ((same_name f g).0 s))
      where
        forth : constant_name f ≡ constant_name g → term_of variable cs f ≡ term_of variable cs g
        forth e =
            constant-term variable cs f m ∙ ap (λ (c : List ℕ). con (first_constant + index_of c cs)) e
            ∙ sym (constant-term variable cs g n)

        back : term_of variable cs f ≡ term_of variable cs g → SameConstant f g
        back e =
            let one : first_constant + index_of (constant_name f) cs ≡ first_constant + index_of (constant_name g) cs =
            ap number_in (sym (constant-term variable cs f m) ∙ e ∙ constant-term variable cs g n) in
            let low = known-below (constant_name f) cs (among-known cs t f a) in
            let same : index_of (constant_name f) cs ≡ index_of (constant_name g) cs = omega (arith, one) in
            (same_name f g).1
            (sym (known-stands (constant_name f) cs low) ∙ ap (λ (i : ℕ). get_or cs i []) same
            ∙ known-stands (constant_name g) cs (omega (arith, low, same)))

    counts : (i j : ℕ) → i < length cs → j < length cs → SameConstant (get_or cs i []) (get_or cs j []) → i ≡ j
    counts i j h k s =
        t.once i j h k
        (sym (t.named i h) ∙ (same_name (get_or cs i []) (get_or cs j [])).0 s ∙ t.named j k)

-- one name more, which is new
module _ (cs : List (List ℕ)) (c : List ℕ) where
  last-at : (i : ℕ) → i < length (cs ++ (c ∷ [])) → (i < length cs → ⊥) → i ≡ length cs
  last-at i h out = omega (arith, h, out, length-append cs (c ∷ []))

  at_front : (i : ℕ) → i < length cs → get_or (cs ++ (c ∷ [])) i [] ≡ get_or cs i []
  at_front i h = get_or-append cs (c ∷ []) [] i h

  at_last : (i : ℕ) → i ≡ length cs → get_or (cs ++ (c ∷ [])) i [] ≡ c
  at_last i e = ap (λ (j : ℕ). get_or (cs ++ (c ∷ [])) j []) e ∙ get_or-append_seam cs c [] []

  tidy-last : constant_name c ≡ c → is_known c cs ≡ false → Tidy cs → Tidy (cs ++ (c ∷ []))
  tidy-last own new t = record { named = names; once = counts }
    where
      names : (i : ℕ) → i < length (cs ++ (c ∷ [])) → constant_name (get_or (cs ++ (c ∷ [])) i []) ≡ get_or (cs ++ (c ∷ [])) i []
      names i h = elim (dec_lt i (length cs)) [
        | yes k ↦ rw (at_front i k) (t.named i k)
        | no k ↦ rw (at_last i (last-at i h k)) own
      ]

      apart : (i : ℕ) → i < length cs → get_or cs i [] ≡ c → ⊥
      apart i k e = never (sym (stands-known c cs i k e) ∙ new)

      counts : (i j : ℕ) → i < length (cs ++ (c ∷ [])) → j < length (cs ++ (c ∷ []))
          → get_or (cs ++ (c ∷ [])) i [] ≡ get_or (cs ++ (c ∷ [])) j [] → i ≡ j
      counts i j h k e = elim (dec_lt i (length cs)) [
        | yes a ↦ elim (dec_lt j (length cs)) [
          | yes b ↦ t.once i j a b (sym (at_front i a) ∙ e ∙ at_front j b)
          | no b ↦ absurd (apart i a (sym (at_front i a) ∙ e ∙ at_last j (last-at j k b)))
        ]
        | no a ↦ elim (dec_lt j (length cs)) [
          | yes b ↦ absurd (apart j b (sym (at_front j b) ∙ sym e ∙ at_last i (last-at i h a)))
          | no b ↦ last-at i h a ∙ sym (last-at j k b)
        ]
      ]

with-tidy : (f : List ℕ) (cs : List (List ℕ)) → Tidy cs → Tidy (with_name (constant_name f) cs)
unfolding with_name
with-tidy f cs t = go (is_known (constant_name f) cs) refl
  where
    go : (b : Bool) → is_known (constant_name f) cs ≡ b → Tidy (cond b cs (cs ++ (constant_name f ∷ [])))
    go true e = t
    go false e = tidy-last cs (constant_name f) (own_name f) e t

constants-tidy : (fs cs : List (List ℕ)) → Tidy cs → Tidy (constants_after fs cs)
unfolding constants_after
constants-tidy [] cs t = t
constants-tidy (f ∷ fs) cs t = constants-tidy fs (cond (is_name f) (with_name (constant_name f) cs) cs) (go (is_name f))
  where
    go : (b : Bool) → Tidy (cond b (with_name (constant_name f) cs) cs)
    go true = with-tidy f cs t
    go false = t

-- more names behind do not change the number of a constant whose name is known
term-front :
    (variable : List ℕ → ℕ) (cs more : List (List ℕ)) (f : List ℕ) → is_name f ≡ true → is_known (constant_name f) cs ≡ true
    → term_of variable (cs ++ more) f ≡ term_of variable cs f
term-front variable cs more f h k =
    constant-term variable (cs ++ more) f h
    ∙ ap (λ (i : ℕ). con (first_constant + i)) (name-first (constant_name f) cs more (known-below (constant_name f) cs k))
    ∙ sym (constant-term variable cs f h)

-- the names of the constants among some fields are known
abbrev NamesKnown : List (List ℕ) → List (List ℕ) → Type 0
NamesKnown gs cs = All (λ f. is_name f ≡ true → is_known (constant_name f) cs ≡ true) gs

-- a constant among fields with others behind them, and in front
stands-left : (c : List ℕ) (gs hs : List (List ℕ)) → StandsIn c gs → StandsIn c (gs ++ hs)
stands-left c gs hs s =
    let at : get_or (gs ++ hs) s.i [] ≡ get_or gs s.i [] = get_or-append gs hs [] s.i s.inside in
    record {
      i = s.i;
      inside = omega (arith, s.inside, length-append gs hs);
      name = ap is_name at ∙ s.name;
      same = subst (λ f. SameConstant f c) (sym at) s.same;
    }

stands-right : (c : List ℕ) (gs hs : List (List ℕ)) → StandsIn c hs → StandsIn c (gs ++ hs)
stands-right c gs hs s =
    let at = get_or-append-add gs hs s.i [] in
    record {
      i = length gs + s.i;
      inside = omega (arith, s.inside, length-append gs hs);
      name = ap is_name at ∙ s.name;
      same = subst (λ f. SameConstant f c) (sym at) s.same;
    }

-- constants behind some term fields: tidy if they were, the names of the fields known, those before in front, and no others than
-- those of the fields behind them
record Grows (before gs after : List (List ℕ)) : Type 0 where
  tidy : Tidy before → Tidy after
  known : NamesKnown gs after
  front : (more : List (List ℕ)) × (after ≡ before ++ more)
  only : (i : ℕ) → length before ≤ i → i < length after → StandsIn (get_or after i []) gs

grows_none : (cs : List (List ℕ)) → Grows cs [] cs
grows_none cs =
    record { tidy = λ t. t; known = C.none; front = ([], sym (append-nil cs)); only = λ i h k. absurd (omega (arith, h, k)) }

-- a constant that is new behind some fields is one of them
fields-only : (fs cs : List (List ℕ)) (i : ℕ) → length cs ≤ i → i < length (constants_after fs cs)
    → StandsIn (get_or (constants_after fs cs) i []) fs
unfolding constants_after with_name
fields-only [] cs i h k = absurd (omega (arith, h, k))
fields-only (f ∷ fs) cs i h k = go (is_name f) (is_known (constant_name f) cs) refl k (λ next. fields-only fs next i)
  where
    later : {c : List ℕ} → StandsIn c fs → StandsIn c (f ∷ fs)
    later {c} s = stands-right c (f ∷ []) fs s

    go : (b t : Bool) → is_name f ≡ b
        → i < length (constants_after fs (cond b (cond t cs (cs ++ (constant_name f ∷ []))) cs))
        → ((next : List (List ℕ)) → length next ≤ i → i < length (constants_after fs next)
        → StandsIn (get_or (constants_after fs next) i []) fs)
        → StandsIn (get_or (constants_after fs (cond b (cond t cs (cs ++ (constant_name f ∷ []))) cs)) i []) (f ∷ fs)
    go false t e l again = later (again cs h l)
    go true true e l again = later (again cs h l)
    go true false e l again =
        let next : List (List ℕ) = cs ++ (constant_name f ∷ []) in
        let size : length next ≡ suc (length cs) = length-append cs (constant_name f ∷ []) ∙ omega arith in
        elim (dec_lt (length cs) i) [
          | yes more ↦ later (again next (omega (arith, size, more)) l)
          | no last ↦
              let (rest, q) = constants-more fs next in
              let here : i ≡ length cs = omega (arith, h, last) in
              let is : get_or (constants_after fs next) i [] ≡ constant_name f =
              ap (λ (l : List (List ℕ)). get_or l i []) q ∙ get_or-append next rest [] i (omega (arith, size, here))
              ∙ at_last cs (constant_name f) i here in
              record {
                i = 0;
                inside = omega arith;
                name = e;
                same = subst (λ c. SameConstant f c) (sym is) ((same_name f (constant_name f)).1 (sym (own_name f)));
              }
        ]

grows-fields : (fs cs : List (List ℕ)) → Grows cs fs (constants_after fs cs)
grows-fields fs cs =
    record {
      tidy = constants-tidy fs cs;
      known = rw (constants-grown fs cs) (grown-known is_name constant_name fs cs);
      front = constants-more fs cs;
      only = fields-only fs cs;
    }

grows_then : {a b c gs hs : List (List ℕ)} → Grows a gs b → Grows b hs c → Grows a (gs ++ hs) c
grows_then {a} {b} {c} {gs} {hs} p q =
    let (one, e) = p.front in
    let (more, k) = q.front in
    record {
      tidy = λ t. q.tidy (p.tidy t);
      known = all_append (all-mono (λ f h n. rw k (known-front (constant_name f) b more (h n))) p.known) q.known;
      front = (one ++ more, k ∙ ap (λ (l : List (List ℕ)). l ++ more) e ∙ append_assoc a one more);
      only = λ i h l. elim (dec_lt i (length b)) [
        | yes low ↦
            let same : get_or c i [] ≡ get_or b i [] =
            ap (λ (d : List (List ℕ)). get_or d i []) k ∙ get_or-append b more [] i low in
            subst (λ d. StandsIn d (gs ++ hs)) (sym same) (stands-left (get_or b i []) gs hs (p.only i h low))
        | no high ↦ stands-right (get_or c i []) gs hs (q.only i (omega (arith, high)) l)
      ];
    }

-- what holds of an answer, by what else does
holds-mono : {A : Type 0} {P Q : A → Type 0} (r : Answer A) → ((a : A) → P a → Q a) → Holds P r → Holds Q r
holds-mono (refused number line) f h = tt
holds-mono (accepted a) f h = f a h

-- each line of a program
abbrev GrowsTo : Draft → List (List ℕ) → Draft → Type 0
GrowsTo d gs e = Grows d.constants gs e.constants

constraint-grows :
    (count most : ℕ) (add : Constraint → Rule → Rule) (n : ℕ) (fs : List (List ℕ)) (d : Draft)
    → Holds (GrowsTo d (drop 2 fs)) (read_constraint count most add n fs d)
unfolding read_constraint with_rule
constraint-grows count most add n fs d =
    holds-and_then (λ found. Grows d.constants (drop 2 fs) found.constants) (GrowsTo d (drop 2 fs))
    (constraint_line (leb most count) d.symbols letter_number d.constants n fs) _
    (holds-constraint_line _ (leb most count) d.symbols letter_number d.constants n fs
    λ _ _ _ _. grows-fields (drop 2 fs) d.constants)
    λ found _ h. h

equation-grows : (n : ℕ) (fs : List (List ℕ)) (d : Draft) → Holds (GrowsTo d (drop 1 fs)) (read_equation n fs d)
unfolding read_equation with_rule
equation-grows n fs d =
    let constants = constants_after (drop 1 fs) d.constants in
    let full = leb max_equations (length (last_rule d.rules).equations) || ltb max_constants (length constants) in
    holds-refuse_if (GrowsTo d (drop 1 fs)) (is_equation_faulty fs) 4 n _
    λ _. holds-refuse_if (GrowsTo d (drop 1 fs)) full 7 n _ λ _. grows-fields (drop 1 fs) d.constants

form-grows :
    (form : Form) (n : ℕ) (fs : List (List ℕ)) (d : Draft) → Holds (GrowsTo d (term_fields form fs)) (read_form form n fs d)
unfolding read_form read_symbol read_rule term_fields
form-grows symbol_form n fs d =
    holds-refuse_if (GrowsTo d []) (is_symbol_faulty fs) 4 n _
    λ _. holds-refuse_if (GrowsTo d []) (is_known (field_at 1 fs) (map (λ s. s.name) d.symbols)) 5 n _
    λ _. holds-refuse_if (GrowsTo d []) (leb max_symbols (length d.symbols)) 7 n _ λ _. grows_none d.constants
form-grows rule_form n fs d =
    holds-refuse_if (GrowsTo d []) (is_rule_faulty fs) 4 n _
    λ _. holds-refuse_if (GrowsTo d []) (is_known (field_at 1 fs) (map (λ r. r.rule.name) d.rules)) 5 n _
    λ _. holds-refuse_if (GrowsTo d []) (leb max_rules (length d.rules)) 7 n _ λ _. grows_none d.constants
form-grows kept_form n fs d = constraint-grows _ _ _ n fs d
form-grows head_form n fs d = constraint-grows _ _ _ n fs d
form-grows body_form n fs d = constraint-grows _ _ _ n fs d
form-grows equation_form n fs d = equation-grows n fs d
form-grows goal_form n fs d = tt
form-grows no_form n fs d = tt

-- the term fields of a line
abbrev line_terms : Line → List (List ℕ)
line_terms l = term_fields (form_of (field_at 0 (fields l.bytes))) (fields l.bytes)

line-grows : (n : ℕ) (l : Line) (d : Draft) → Holds (GrowsTo d (line_terms l)) (read_line n l d)
unfolding read_line read_fields in_section
line-grows n l d =
    let fs = fields l.bytes in
    holds-refuse_if (GrowsTo d (line_terms l)) (line_is_faulty l) 2 n _
    λ _. go (form_of (field_at 0 fs)) fs (section_after (form_of (field_at 0 fs)) d.section)
  where
    go : (form : Form) (fs : List (List ℕ)) (o : Option Section)
        → Holds (GrowsTo d (term_fields form fs)) (onward o (refused 3 n) (λ section. read_form form n fs (in_section section d)))
    go form fs none = tt
    go form fs (some section) = form-grows form n fs (in_section section d)

lines-grow : (n : ℕ) (d : Draft) (ls : List Line) → Holds (GrowsTo d (terms_in ls)) (read_lines n d ls)
unfolding read_lines terms_in
lines-grow n d [] = grows_none d.constants
lines-grow n d (l ∷ ls) =
    holds-and_then (GrowsTo d (line_terms l)) (GrowsTo d (line_terms l ++ terms_in ls)) (read_line n l d) _ (line-grows n l d)
    λ e _ p. holds-mono (read_lines (suc n) e ls) (λ f q. grows_then p q) (lines-grow (suc n) e ls)

read-grows : (s : List ℕ) {r : Reading} → read_program s ≡ accepted r → Grows [] (terms_in (lines s)) r.constants
unfolding read_program blank
read-grows s e =
    let P : Reading → Type 0 = λ r. Grows [] (terms_in (lines s)) r.constants in
    holds-accepted P _
    (holds-refuse_if P (ltb max_text (length s)) 1 0 _
    λ _. holds-and_then (GrowsTo blank (terms_in (lines s))) P (read_lines 1 blank (lines s)) _ (lines-grow 1 blank (lines s))
    λ d _ p. holds-checked P d.symbols d.rules _ p) e

-- each line of a goal
goal-form : (form : Form) (fs : List (List ℕ)) → not (is_goal_form form) ≡ false → term_fields form fs ≡ drop 2 fs
unfolding is_goal_form term_fields
goal-form symbol_form fs h = absurd (never h)
goal-form rule_form fs h = absurd (never h)
goal-form kept_form fs h = refl
goal-form head_form fs h = refl
goal-form body_form fs h = refl
goal-form equation_form fs h = absurd (never h)
goal-form goal_form fs h = refl
goal-form no_form fs h = absurd (never h)

abbrev GoalGrowsTo : GoalDraft → List (List ℕ) → GoalDraft → Type 0
GoalGrowsTo d gs e = Grows d.constants gs e.constants

goal-line-grows :
    (symbols : List Symbol) (n : ℕ) (l : Line) (d : GoalDraft)
    → Holds (GoalGrowsTo d (line_terms l)) (read_goal_line symbols n l d)
unfolding read_goal_line read_goal_fields read_constraint_of_goal
goal-line-grows symbols n l d =
    let fs = fields l.bytes in
    let form = form_of (field_at 0 fs) in
    let P = GoalGrowsTo d (line_terms l) in
    let letters = letters_after (drop 2 fs) d.letters in
    let full = leb max_goal (length d.constraints) in
    let variable : List ℕ → ℕ = λ f. index_of f letters in
    holds-refuse_if P (line_is_faulty l) 2 n _
    λ _. holds-refuse_if P (not (is_goal_form form)) 3 n _
    λ g. holds-and_then (λ found. Grows d.constants (drop 2 fs) found.constants) P
    (constraint_line full symbols variable d.constants n fs) _
    (holds-constraint_line _ full symbols variable d.constants n fs λ _ _ _ _. grows-fields (drop 2 fs) d.constants)
    λ found _ h. subst (λ gs. Grows d.constants gs found.constants) (sym (goal-form form fs g)) h

goal-lines-grow :
    (symbols : List Symbol) (n : ℕ) (d : GoalDraft) (ls : List Line)
    → Holds (GoalGrowsTo d (terms_in ls)) (read_goal_lines symbols n d ls)
unfolding read_goal_lines terms_in
goal-lines-grow symbols n d [] = grows_none d.constants
goal-lines-grow symbols n d (l ∷ ls) =
    holds-and_then (GoalGrowsTo d (line_terms l)) (GoalGrowsTo d (line_terms l ++ terms_in ls)) (read_goal_line symbols n l d) _
    (goal-line-grows symbols n l d)
    λ e _ p. holds-mono (read_goal_lines symbols (suc n) e ls) (λ f q. grows_then p q) (goal-lines-grow symbols (suc n) e ls)

goal-grows :
    (symbols : List Symbol) (constants : List (List ℕ)) (s : List ℕ) {g : GoalReading}
    → read_goal symbols constants s ≡ accepted g → Grows constants (terms_in (lines s)) g.constants
unfolding read_goal
goal-grows symbols constants s e =
    let start : GoalDraft = record { constraints = []; letters = []; constants = constants } in
    let P : GoalReading → Type 0 = λ g. Grows constants (terms_in (lines s)) g.constants in
    holds-accepted P _
    (holds-refuse_if P (ltb max_text (length s)) 1 0 _
    λ _. holds-and_then (GoalGrowsTo start (terms_in (lines s))) P (read_goal_lines symbols 1 start (lines s)) _
    (goal-lines-grow symbols 1 start (lines s))
    λ d _ p. holds-refuse_if P (ltb max_weight (weight symbols d.constraints)) 10 0 _ λ _. p) e

-- constants that have grown so, by value
none-tidy : Tidy []
none-tidy = record { named = λ i h. absurd (omega arith); once = λ i j h k e. absurd (omega arith) }

known_at : (gs cs : List (List ℕ)) → NamesKnown gs cs → (i : ℕ) → i < length gs → is_name (get_or gs i []) ≡ true
    → is_known (constant_name (get_or gs i [])) cs ≡ true
known_at [] cs C.none i h = absurd (omega arith)
known_at (g ∷ gs) cs (also k all) zero h = k
known_at (g ∷ gs) cs (also k all) (suc i) h = known_at gs cs all i (omega arith)

grown-by-value : (text : List ℕ) (before after : List (List ℕ)) → Tidy before → Grows before (terms_in (lines text)) after
    → TextByValue text before after
grown-by-value text before after t p =
    let gs = terms_in (lines text) in
    record {
      all = λ i h n. known_among after (p.tidy t) (get_or gs i []) (known_at gs after p.known i h n);
      only = p.only;
      by_value = tidy-by-value after (p.tidy t);
    }

-- the constants of every program that is read
pub read-by-value : (s : List ℕ) {r : Reading} → read_program s ≡ accepted r → TextByValue s [] r.constants
read-by-value s {r} e = grown-by-value s [] r.constants none-tidy (read-grows s e)

-- the constants of every goal that is read; those of its program keep their numbers
pub goal-by-value :
    (s t : List ℕ) {r : Reading} {g : GoalReading} → read_program s ≡ accepted r
    → read_goal r.program.symbols r.constants t ≡ accepted g
    → TextByValue t r.constants g.constants × KeepsNumbers r.constants g.constants
goal-by-value s t {r} {g} e k =
    let tidy = (read-grows s e).tidy none-tidy in
    let p = goal-grows r.program.symbols r.constants t k in
    let (more, q) = p.front in (
      grown-by-value t r.constants g.constants tidy p,
      record {
        stays = λ variable f h a.
            ap (λ (cs : List (List ℕ)). term_of variable cs f) q
            ∙ term-front variable r.constants more f h (among-known r.constants tidy f a);
      },
    )
