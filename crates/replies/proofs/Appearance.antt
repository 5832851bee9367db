-- A goal that is read counts its variables by first appearance: `goal-by-appearance`.
--   letter-counts      the letter of a field, behind the letters so far, is the next variable or a known one
--   terms-count        the terms of a G line
--   goal-by-appearance every goal that is read (the main law)
-- Assumes nothing.
use Prim.Native.Nat.{ℕ, suc, ◌+◌, ◌<◌, ◌≤◌}
use native.Mathlib.Omega.{arith}
use mathlib.Core.Bool.{Bool, true, false, cond, not}
use mathlib.Core.List.{List, [], ◌∷◌, ◌++◌, map, append_assoc}
use mathlib.Core.Path.{◌≡◌, refl, ap, ◌∙◌}
use lib.Dec.{leb, ltb}
use lib.ListN.{length, length-append, drop}
use borrow.Author.Tests.{ltb-true, ltb-false}
use Rattle.text.specs.Lists.{has, index_of, same_bytes, is_known, with_name, up_to}
use Rattle.text.specs.Lines.{Line, lines, line_is_faulty}
use Rattle.text.specs.Fields.{fields, is_name}
use Rattle.text.specs.Constants.{constant_name}
use Rattle.semantics.specs.Terms.{Term, con, var, Constraint, Symbol, weight}
use Rattle.semantics.specs.Overlaps.{appearing_in, appearing}
use Rattle.semantics.specs.Claims.{ByAppearance}
use Rattle.semantics.proofs.Appearing.{up_to-has, up_to-lacks}
use Rattle.syntax.specs.Answers.{accepted}
use Rattle.syntax.specs.Forms.{form_of, field_at, first_constant, constants_after, term_of, constraint_of}
use Rattle.syntax.specs.Programs.{constraint_line, max_text}
use Rattle.syntax.specs.Goals.{GoalDraft, GoalReading, max_goal, max_weight, letters_after, read_constraint_of_goal, is_goal_form}
use Rattle.syntax.specs.Goals.{read_goal_fields, read_goal_line, read_goal_lines, read_goal}
use Rattle.syntax.proofs.WellFormed.{Holds, holds-refuse_if, holds-and_then, holds-accepted, holds-constraint_line}
use Rattle.syntax.proofs.Known.{same_refl, grown-front, letters-grown}
use Rattle.syntax.proofs.Tabled.{index-first, index-second}

-- the letter of a field, behind the letters so far, is the next variable or a known one
letter-counts :
    (f : List ℕ) (letters more : List (List ℕ)) (x : ℕ) → x ≡ index_of f (with_name f letters ++ more)
    → cond (has x (up_to (length letters))) (up_to (length letters)) (up_to (length letters) ++ (x ∷ []))
    ≡ up_to (length (with_name f letters))
unfolding with_name is_known index_of
letter-counts f letters more x e = go (is_known f letters) refl e
  where
    go :
        (b : Bool) → is_known f letters ≡ b → x ≡ index_of f (cond b letters (letters ++ (f ∷ [])) ++ more)
        → cond (has x (up_to (length letters))) (up_to (length letters)) (up_to (length letters) ++ (x ∷ []))
        ≡ up_to (length (cond b letters (letters ++ (f ∷ []))))
    go true h k =
        let low : index_of f letters < length letters = ltb-true (index_of f letters) (length letters) h in
        let found : x < length letters = omega (arith, low, k, index-first (same_bytes f) 0 letters more (omega (arith, low))) in
        rw (up_to-has (length letters) x found)
    go false h k =
        let high : length letters ≤ index_of f letters = ltb-false (index_of f letters) (length letters) h in
        let next : x ≡ length letters =
        k ∙ (ap (index_of f) (append_assoc letters (f ∷ []) more)
        ∙ (index-second (same_bytes f) 0 letters (f ∷ more) (omega (arith, high)) ∙ rw (same_refl f) (omega arith))) in
        let longer : length (letters ++ (f ∷ [])) ≡ suc (length letters) = length-append letters (f ∷ []) ∙ omega arith in
        rw (next, up_to-lacks (length letters) (length letters) (omega arith), longer)

-- the terms of a G line
terms-count :
    (fs letters constants : List (List ℕ))
    → appearing_in (up_to (length letters)) (map (term_of (λ f. index_of f (letters_after fs letters)) constants) fs)
    ≡ up_to (length (letters_after fs letters))
unfolding appearing_in term_of letters_after
terms-count [] letters constants = refl
terms-count (f ∷ fs) letters constants = go (is_name f) (λ names. terms-count fs names constants)
  where
    -- the letters after the line, from those after its first field, and its other terms
    after : Bool → List (List ℕ)
    after b = letters_after fs (cond b letters (with_name f letters))

    others : List (List ℕ) → List Term
    others all = map (term_of (λ g. index_of g all) constants) fs

    go :
        (b : Bool)
        → ((names : List (List ℕ))
        → appearing_in (up_to (length names)) (others (letters_after fs names)) ≡ up_to (length (letters_after fs names)))
        → appearing_in (up_to (length letters))
        (cond b (con (first_constant + index_of (constant_name f) constants)) (var (index_of f (after b))) ∷ others (after b))
        ≡ up_to (length (after b))
    go true more = more letters
    go false more =
        let (behind, e) = grown-front (λ g. not (is_name g)) (λ g. g) fs (with_name f letters) in
        ap (λ (seen : List ℕ). appearing_in seen (others (after false)))
        (letter-counts f letters behind (index_of f (after false)) (ap (index_of f) (letters-grown fs (with_name f letters) ∙ e)))
        ∙ more (with_name f letters)

-- the variables of one more constraint
appearing-last :
    (seen : List ℕ) (cs : List Constraint) (c : Constraint)
    → appearing seen (cs ++ (c ∷ [])) ≡ appearing_in (appearing seen cs) c.terms
unfolding appearing
appearing-last seen [] c = refl
appearing-last seen (d ∷ cs) c = appearing-last (appearing_in seen d.terms) cs c

-- a draft whose variables count so
abbrev Counted : GoalDraft → Type 0
Counted d = appearing [] d.constraints ≡ up_to (length d.letters)

-- each line keeps a draft so
line-counted :
    (symbols : List Symbol) (n : ℕ) (l : Line) (d : GoalDraft) → Counted d → Holds Counted (read_goal_line symbols n l d)
unfolding read_goal_line read_goal_fields read_constraint_of_goal constraint_of
line-counted symbols n l d s =
    let fs = fields l.bytes in
    let letters = letters_after (drop 2 fs) d.letters in
    let constants = constants_after (drop 2 fs) d.constants in
    let variable : List ℕ → ℕ = λ f. index_of f letters in
    let full = leb max_goal (length d.constraints) in
    holds-refuse_if Counted (line_is_faulty l) 2 n _
    λ _. holds-refuse_if Counted (not (is_goal_form (form_of (field_at 0 fs)))) 3 n _
    λ _. holds-and_then (λ found. found.constraint ≡ constraint_of symbols variable constants fs) Counted
    (constraint_line full symbols variable d.constants n fs) _
    (holds-constraint_line _ full symbols variable d.constants n fs λ _ _ _ _. refl)
    λ found _ h.
    appearing-last [] d.constraints found.constraint
    ∙ (ap (λ (seen : List ℕ). appearing_in seen found.constraint.terms) s
    ∙ (ap (λ (c : Constraint). appearing_in (up_to (length d.letters)) c.terms) h
    ∙ terms-count (drop 2 fs) d.letters constants))

lines-counted :
    (symbols : List Symbol) (n : ℕ) (d : GoalDraft) (ls : List Line) → Counted d → Holds Counted (read_goal_lines symbols n d ls)
unfolding read_goal_lines
lines-counted symbols n d [] s = s
lines-counted symbols n d (l ∷ ls) s =
    holds-and_then Counted Counted (read_goal_line symbols n l d) _ (line-counted symbols n l d s)
    λ e _ t. lines-counted symbols (suc n) e ls t

-- every goal that is read
pub goal-by-appearance :
    (symbols : List Symbol) (constants : List (List ℕ)) (s : List ℕ) {g : GoalReading}
    → read_goal symbols constants s ≡ accepted g → ByAppearance g.goal
unfolding read_goal appearing
goal-by-appearance symbols constants s e =
    let start : GoalDraft = record { constraints = []; letters = []; constants = constants } in
    let P : GoalReading → Type 0 = λ g. ByAppearance g.goal in
    holds-accepted P _
    (holds-refuse_if P (ltb max_text (length s)) 1 0 _
    λ _. holds-and_then Counted P (read_goal_lines symbols 1 start (lines s)) _ (lines-counted symbols 1 start (lines s) refl)
    λ d _ t. holds-refuse_if P (ltb max_weight (weight symbols d.constraints)) 10 0 _ λ _. t) e
