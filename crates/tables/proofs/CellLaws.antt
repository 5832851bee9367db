-- Laws of cells as terms and constraints.
--   either, le-or-lt, every_first, every_rest      tests taken apart
--   cell-low, cell-high       a cell below 256 is a constant, any other a variable
--   low-symbol                what a low symbol lies below
--   same-cell                 two cells are the same term where they are the same cell
--   terms-none, terms-more                         the terms of cells from one on
--   constraints-length                             how many constraints whole rows are
--   constraints-take, constraints-drop             the first constraints of cells, and the others
--   constraints-at, constraints-short              the constraints of cells from one on
--   constraints-drop                               the constraints behind the first k
--   element-row, element-none                      the constraint of a number
-- Assumes nothing.
use Prim.Native.Nat.{ℕ, zero, suc, ◌+◌, ◌-◌, ◌*◌, ◌≤◌, ◌<◌}
use native.Mathlib.Omega.{arith}
use mathlib.Core.Bool.{Bool, true, false}
use mathlib.Core.List.{List, [], ◌∷◌}
use mathlib.Core.Logic.{◌⊎◌, inl, inr, ⊎_elim}
use mathlib.Core.Option.{none, some}
use mathlib.Core.Path.{◌≡◌, refl, sym, ap, ◌∙◌}
use lib.Dec.{eqb, leb}
use lib.ListN.{length, get_or, get_elem?, take, drop, length-drop}
use lib.Seq.{drop-cons, drop-drop}
use borrow.Author.Tests.{lt-ltb, le-ltb, eq-eqb, ne_eqb, eqb-true, eqb-false, leb-true, leb-false, ltb-true}
use Rattle.text.specs.Lists.{every}
use Rattle.semantics.specs.Terms.{con, var, Constraint, same_term, is_below, alphabet}
use Rattle.text.proofs.Bools.{and-true}
use Rattle.tables.specs.Cells.{cell_term, cell_terms, row_constraint, cell_constraints, is_low}

-- a test's two answers
pub either : (b : Bool) → (b ≡ true) ⊎ (b ≡ false)
either true = inl refl
either false = inr refl

-- of two numbers one is at most the other
pub le-or-lt : (a b : ℕ) → (a ≤ b) ⊎ (b < a)
le-or-lt a b = ⊎_elim (λ t. inl (leb-true a b t)) (λ u. inr (leb-false a b u)) (either (leb a b))

-- a cell below 256 is a constant
pub cell-low : (x : ℕ) → x < 256 → cell_term x ≡ con x
unfolding cell_term
cell-low x h = rw (lt-ltb x 256 h)

-- a cell from 256 on is a variable
pub cell-high : (x : ℕ) → 256 ≤ x → cell_term x ≡ var (x - 256)
unfolding cell_term
cell-high x h = rw (le-ltb x 256 h)

-- a low symbol lies below 64, and so below every variable's cell
pub low-symbol : (c : Constraint) → is_low c ≡ true → c.symbol < 64
unfolding is_low
low-symbol c h = ltb-true c.symbol 64 h

-- two tests that hold together are the same
pub eqb-iff : (a b c d : ℕ) → (a ≡ b → c ≡ d) → (c ≡ d → a ≡ b) → eqb a b ≡ eqb c d
eqb-iff a b c d f g =
    ⊎_elim (λ t. t ∙ sym (eq-eqb c d (f (eqb-true a b t)))) (λ u. u ∙ sym (ne_eqb c d (λ e. eqb-false a b u (g e))))
    (either (eqb a b))

-- two cells are the same term where they are the same cell
pub same-cell : (a b : ℕ) → same_term (cell_term a) (cell_term b) ≡ eqb a b
unfolding same_term
same-cell a b =
    ⊎_elim
    (λ ha. ⊎_elim
    (λ hb. rw (cell-high a ha, cell-high b hb) (eqb-iff (a - 256) (b - 256) a b (λ e. omega arith) (λ e. omega arith)))
    (λ hb. rw (cell-high a ha, cell-low b hb, ne_eqb a b (λ e. omega arith)))
    (le-or-lt 256 b))
    (λ ha. ⊎_elim
    (λ hb. rw (cell-low a ha, cell-high b hb, ne_eqb a b (λ e. omega arith)))
    (λ hb. rw (cell-low a ha, cell-low b hb))
    (le-or-lt 256 b))
    (le-or-lt 256 a)

-- a test that all elements pass, the first and the rest do
pub every_first : {A : Type 0} (t : A → Bool) (x : A) (xs : List A) → every t (x ∷ xs) ≡ true → t x ≡ true
every_first t x xs e = (and-true (t x) (every t xs) e).0

pub every_rest : {A : Type 0} (t : A → Bool) (x : A) (xs : List A) → every t (x ∷ xs) ≡ true → every t xs ≡ true
every_rest t x xs e = (and-true (t x) (every t xs) e).1

-- a cell of a rule is a constant or a letter
pub below-letter : (x : ℕ) → is_below alphabet (cell_term x) ≡ true → x < 282
unfolding is_below alphabet
below-letter x e =
    ⊎_elim (λ h. let k : x - 256 < 26 = ltb-true (x - 256) 26 (rw (cell-high x h) at e) in omega arith) (λ h. omega arith)
    (le-or-lt 256 x)

-- at a 0 the terms end
pub terms-none : (l : List ℕ) (i : ℕ) → i < length l → get_or l i 0 ≡ 0 → cell_terms (drop i l) ≡ []
unfolding cell_terms
terms-none l i h e = rw (drop-cons l i 0 h, e)

-- at another cell there is one more
pub terms-more :
    (l : List ℕ) (i : ℕ) → i < length l → (get_or l i 0 ≡ 0 → ⊥)
    → cell_terms (drop i l) ≡ cell_term (get_or l i 0) ∷ cell_terms (drop (suc i) l)
unfolding cell_terms
terms-more l i h e = rw (drop-cons l i 0 h, ne_eqb (get_or l i 0) 0 e)

-- five cells and more are a constraint and more
constraints-five : (l : List ℕ) → 5 ≤ length l → cell_constraints l ≡ row_constraint (take 5 l) ∷ cell_constraints (drop 5 l)
unfolding cell_constraints row_constraint
constraints-five [] h = absurd (omega arith)
constraints-five (k ∷ []) h = absurd (omega arith)
constraints-five (k ∷ a ∷ []) h = absurd (omega arith)
constraints-five (k ∷ a ∷ b ∷ []) h = absurd (omega arith)
constraints-five (k ∷ a ∷ b ∷ c ∷ []) h = absurd (omega arith)
constraints-five (k ∷ a ∷ b ∷ c ∷ d ∷ l) h = refl

-- how many constraints there are: one for each five cells
pub constraints-length : (n : ℕ) (l : List ℕ) → length l ≡ 5 * n → length (cell_constraints l) ≡ n
unfolding cell_constraints
constraints-length n [] e = omega arith
constraints-length n (k ∷ []) e = absurd (omega arith)
constraints-length n (k ∷ a ∷ []) e = absurd (omega arith)
constraints-length n (k ∷ a ∷ b ∷ []) e = absurd (omega arith)
constraints-length n (k ∷ a ∷ b ∷ c ∷ []) e = absurd (omega arith)
constraints-length zero (k ∷ a ∷ b ∷ c ∷ d ∷ l) e = absurd (omega arith)
constraints-length (suc n) (k ∷ a ∷ b ∷ c ∷ d ∷ l) e = ap suc (constraints-length n l (omega arith))

-- the constraints from number i on
pub constraints-at :
    (l : List ℕ) (i : ℕ) → 5 * i + 5 ≤ length l
    → cell_constraints (drop (5 * i) l) ≡ row_constraint (take 5 (drop (5 * i) l)) ∷ cell_constraints (drop (5 * suc i) l)
constraints-at l i h =
    let e : 5 * i + 5 ≡ 5 * suc i = omega arith in
    constraints-five (drop (5 * i) l) (omega (arith, length-drop (5 * i) l)) ∙ rw (drop-drop 5 (5 * i) l, e)

-- fewer than five cells are none
pub constraints-short : (l : List ℕ) (i : ℕ) → length l < 5 * i + 5 → cell_constraints (drop (5 * i) l) ≡ []
unfolding cell_constraints
constraints-short l i h = few (drop (5 * i) l) (omega (arith, length-drop (5 * i) l))
  where
    few : (m : List ℕ) → length m < 5 → cell_constraints m ≡ []
    few [] k = refl
    few (k₀ ∷ []) k = refl
    few (k₀ ∷ a ∷ []) k = refl
    few (k₀ ∷ a ∷ b ∷ []) k = refl
    few (k₀ ∷ a ∷ b ∷ c ∷ []) k = refl
    few (k₀ ∷ a ∷ b ∷ c ∷ d ∷ m) k = absurd (omega arith)

-- five cells more
five-more : (k : ℕ) → 5 * suc k ≡ suc (suc (suc (suc (suc (5 * k)))))
five-more k = omega arith

-- the constraints behind the first k
pub constraints-drop : (k : ℕ) (l : List ℕ) → drop k (cell_constraints l) ≡ cell_constraints (drop (5 * k) l)
unfolding cell_constraints
constraints-drop zero l = refl
constraints-drop (suc k) [] = sym (constraints-short [] (suc k) (omega arith))
constraints-drop (suc k) (a ∷ []) = sym (constraints-short (a ∷ []) (suc k) (omega arith))
constraints-drop (suc k) (a ∷ b ∷ []) = sym (constraints-short (a ∷ b ∷ []) (suc k) (omega arith))
constraints-drop (suc k) (a ∷ b ∷ c ∷ []) = sym (constraints-short (a ∷ b ∷ c ∷ []) (suc k) (omega arith))
constraints-drop (suc k) (a ∷ b ∷ c ∷ d ∷ []) = sym (constraints-short (a ∷ b ∷ c ∷ d ∷ []) (suc k) (omega arith))
constraints-drop (suc k) (a ∷ b ∷ c ∷ d ∷ e ∷ l) =
    let five : suc (suc (suc (suc (suc (5 * k))))) ≡ 5 * suc k = omega arith in
    constraints-drop k l ∙ ap (λ (n : ℕ). cell_constraints (drop n (a ∷ b ∷ c ∷ d ∷ e ∷ l))) five

-- the first k constraints
pub constraints-take : (k : ℕ) (l : List ℕ) → cell_constraints (take (5 * k) l) ≡ take k (cell_constraints l)
unfolding cell_constraints
constraints-take zero l = refl
constraints-take (suc k) [] = rw five-more
constraints-take (suc k) (a ∷ []) = rw five-more
constraints-take (suc k) (a ∷ b ∷ []) = rw five-more
constraints-take (suc k) (a ∷ b ∷ c ∷ []) = rw five-more
constraints-take (suc k) (a ∷ b ∷ c ∷ d ∷ []) = rw five-more
constraints-take (suc k) (a ∷ b ∷ c ∷ d ∷ e ∷ l) = rw (five-more, constraints-take k l)

-- the constraint of number k
pub element-row :
    (cells : List ℕ) (k : ℕ) → 5 * k + 5 ≤ length cells
    → get_elem? (cell_constraints cells) k ≡ some (row_constraint (take 5 (drop (5 * k) cells)))
element-row cells zero h = ap (λ l. get_elem? l 0) (constraints-at cells 0 (omega arith))
element-row cells (suc k) h =
    let e : 5 + 5 * k ≡ 5 * suc k = omega arith in
    ap (λ l. get_elem? l (suc k)) (constraints-at cells 0 (omega arith))
    ∙ element-row (drop 5 cells) k (omega (arith, length-drop 5 cells))
    ∙ ap (λ l. some (row_constraint (take 5 l))) (drop-drop (5 * k) 5 cells ∙ ap (λ n. drop n cells) e)

-- there is none behind the last
pub element-none : (cells : List ℕ) (k : ℕ) → length cells < 5 * k + 5 → get_elem? (cell_constraints cells) k ≡ none
unfolding cell_constraints
element-none [] k h = refl
element-none (a ∷ []) k h = refl
element-none (a ∷ b ∷ []) k h = refl
element-none (a ∷ b ∷ c ∷ []) k h = refl
element-none (a ∷ b ∷ c ∷ d ∷ []) k h = refl
element-none (a ∷ b ∷ c ∷ d ∷ e ∷ l) zero h = absurd (omega arith)
element-none (a ∷ b ∷ c ∷ d ∷ e ∷ l) (suc k) h = element-none l k (omega arith)
