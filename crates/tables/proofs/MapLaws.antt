-- A loop that stores f of each cell, one store a turn; and maps of cells that are maps of terms.
--   Mapped       the cells after i turns
--   Acts         what a map of cells does to terms
--   acts-…       it does the same to terms, constraints and equations
-- Assumes nothing.
use Prim.Native.Nat.{ℕ, zero, suc, ◌+◌, ◌≤◌, ◌<◌}
use native.Mathlib.Omega.{arith}
use native.Mathlib.Numerals.{add-one}
use mathlib.Core.Bool.{Bool, true, false, ◌&&◌}
use mathlib.Core.List.{List, [], ◌∷◌, ◌++◌, map, map-append, append_assoc, append-nil}
use mathlib.Core.Logic.{◌⊎◌, inl, inr}
use mathlib.Core.Path.{◌≡◌, refl, ap, ◌∙◌}
use lib.Dec.{eqb, leb}
use lib.ListN.{length, get_or, set, take, drop, length-set, length-map, drop_of_length-le}
use lib.Seq.{drop-cons, take-suc, length-take-le, set_at, get_or_at, take_all}
use borrow.Author.Tests.{eq-eqb, ne_eqb, eqb-true, eqb-false, le-leb, leb-true}
use Rattle.text.specs.Lists.{every}
use Rattle.semantics.specs.Terms.{Term, Constraint, Equation, map_terms, map_sides}
use Rattle.text.proofs.Bools.{and-true}
use Rattle.text.proofs.ListLaws.{every-always, every-weaker, every_map}
use Rattle.tables.specs.Cells.{cell_term, cell_terms, cell_constraints, cell_equations, is_low}
use Rattle.tables.proofs.CellLaws.{either, low-symbol}

-- after i turns the first i cells hold f of the source's, and the others what they held
pub record Mapped (f : ℕ → ℕ) (source start cells : List ℕ) (i : ℕ) : Type 0 where
  pub within : i ≤ length source
  pub sizes : length source ≡ length start
  pub size : length cells ≡ length start
  pub same : cells ≡ map f (take i source) ++ drop i start

pub mapped-start : (f : ℕ → ℕ) (source start : List ℕ) → length source ≡ length start → Mapped f source start start 0
mapped-start f source start e = record { within = omega arith; sizes = e; size = refl; same = refl }

module _ (f : ℕ → ℕ) (source start cells : List ℕ) (i : ℕ) (w : Mapped f source start cells i) where
  front : i ≤ length source → length (map f (take i source)) ≡ i
  front l = length-map (take i source) f ∙ length-take-le i source l

  -- what a turn reads in place
  pub mapped-read : i < length source → get_or cells i 0 ≡ get_or start i 0
  mapped-read l =
      rw (w.same, drop-cons start i 0 (omega (arith, w.sizes)))
      (get_or_at (map f (take i source)) (get_or start i 0) (drop (suc i) start) 0 i (front (omega arith)))

  pub mapped_next : (x : ℕ) → i < length source → x ≡ f (get_or source i 0) → Mapped f source start (set cells i x) (i + 1)
  mapped_next x l e =
      rw (add-one i) (record {
        within = l;
        sizes = w.sizes;
        size = length-set cells i x ∙ w.size;
        same =
            rw (w.same, drop-cons start i 0 (omega (arith, w.sizes)))
            (set_at (map f (take i source)) (get_or start i 0) (drop (suc i) start) x i (front (omega arith))
            ∙ rw (take-suc source i 0 l, map-append f (take i source) (get_or source i 0 ∷ []), append_assoc, e));
      })

  pub mapped_end : length source ≤ i → cells ≡ map f source
  mapped_end l =
      w.same ∙ rw (take_all i source l, drop_of_length-le start {i = i} (omega (arith, w.sizes)), append-nil)

-- what is not 0 is more
pos_of : (n : ℕ) → (n ≡ 0 → ⊥) → 1 ≤ n
pos_of zero h = absurd (h refl)
pos_of (suc n) h = omega arith

-- a map of cells that keeps what is below the variables and never makes a used cell unused, and is σ on the terms that pass a
-- test
pub record Acts (good : Term → Bool) (f : ℕ → ℕ) (σ : Term → Term) : Type 0 where
  pub low : (x : ℕ) → x < 256 → f x ≡ x
  pub used : (x : ℕ) → (x ≡ 0 → ⊥) → f x ≡ 0 → ⊥
  pub term : (x : ℕ) → good (cell_term x) ≡ true → cell_term (f x) ≡ σ (cell_term x)

module _ (good : Term → Bool) (f : ℕ → ℕ) (σ : Term → Term) (a : Acts good f σ) where
  pub acts-terms : (l : List ℕ) → every good (cell_terms l) ≡ true → cell_terms (map f l) ≡ map σ (cell_terms l)
  unfolding cell_terms
  acts-terms [] h = refl
  acts-terms (x ∷ l) h = go (acts-terms l) (either (eqb x 0))
    where
      go : (every good (cell_terms l) ≡ true → cell_terms (map f l) ≡ map σ (cell_terms l)) → (eqb x 0 ≡ true) ⊎ (eqb x 0 ≡ false)
          → cell_terms (map f (x ∷ l)) ≡ map σ (cell_terms (x ∷ l))
      go more (inl e) =
          let z : f x ≡ 0 = a.low x (omega (arith, eqb-true x 0 e)) ∙ eqb-true x 0 e in
          rw (e, eq-eqb (f x) 0 z)
      go more (inr e) =
          let both : (good (cell_term x) && every good (cell_terms l)) ≡ true = rw e at h in
          let z : eqb (f x) 0 ≡ false = ne_eqb (f x) 0 (a.used x (eqb-false x 0 e)) in
          rw (
            e,
            z,
            a.term x (and-true (good (cell_term x)) (every good (cell_terms l)) both).0,
            more (and-true (good (cell_term x)) (every good (cell_terms l)) both).1,
          )

  -- whether a constraint's symbol is low and its terms pass the test
  abbrev pub passes : Constraint → Bool
  passes c = is_low c && every good c.terms

  pub acts-constraints :
      (l : List ℕ) → every passes (cell_constraints l) ≡ true → cell_constraints (map f l) ≡ map (map_terms σ) (cell_constraints l)
  unfolding cell_constraints map_terms
  acts-constraints [] h = refl
  acts-constraints (k ∷ []) h = refl
  acts-constraints (k ∷ x ∷ []) h = refl
  acts-constraints (k ∷ x ∷ y ∷ []) h = refl
  acts-constraints (k ∷ x ∷ y ∷ z ∷ []) h = refl
  acts-constraints (k ∷ x ∷ y ∷ z ∷ u ∷ l) h =
      let terms : List ℕ = x ∷ y ∷ z ∷ u ∷ [] in
      let this : Constraint = record { symbol = k; terms = cell_terms terms } in
      let first : passes this ≡ true = (and-true (passes this) (every passes (cell_constraints l)) h).0 in
      let both : (is_low this ≡ true) × (every good (cell_terms terms) ≡ true) =
      and-true (is_low this) (every good (cell_terms terms)) first in
      let below : k < 64 = low-symbol this both.0 in
      rw (
        a.low k (omega arith),
        acts-terms terms both.1,
        acts-constraints l (and-true (passes this) (every passes (cell_constraints l)) h).1,
      )

  -- whether both sides of an equation pass the test
  abbrev pub passes_both : Equation → Bool
  passes_both e = good e.left && good e.right

  pub acts-equations :
      (l : List ℕ) → every passes_both (cell_equations l) ≡ true → cell_equations (map f l) ≡ map (map_sides σ) (cell_equations l)
  unfolding cell_equations map_sides
  acts-equations [] h = refl
  acts-equations (x ∷ []) h = refl
  acts-equations (x ∷ y ∷ l) h =
      let two : (good (cell_term x) && good (cell_term y)) ≡ true =
      (and-true (good (cell_term x) && good (cell_term y)) (every passes_both (cell_equations l)) h).0 in
      let both : (good (cell_term x) ≡ true) × (good (cell_term y) ≡ true) = and-true (good (cell_term x)) (good
      (cell_term y)) two in
      rw (
        a.term x both.0,
        a.term y both.1,
        acts-equations l (and-true (good (cell_term x) && good (cell_term y)) (every passes_both (cell_equations l)) h).1,
      )

  pub acts-bound : (l : List ℕ) → every good (map cell_term l) ≡ true → map cell_term (map f l) ≡ map σ (map cell_term l)
  acts-bound [] h = refl
  acts-bound (x ∷ l) h =
      rw (
        a.term x (and-true (good (cell_term x)) (every good (map cell_term l)) h).0,
        acts-bound l (and-true (good (cell_term x)) (every good (map cell_term l)) h).1,
      )

  -- used cells stay used
  pub acts-used : (l : List ℕ) → every (leb 1) l ≡ true → every (leb 1) (map f l) ≡ true
  acts-used l h = every_map (leb 1) (leb 1) f l stays h
    where
      stays : (x : ℕ) → leb 1 x ≡ true → leb 1 (f x) ≡ true
      stays x one = le-leb 1 (f x) (pos_of (f x) (a.used x (λ z. omega (arith, leb-true 1 x one))))

-- symbols stay low
pub low-kept : (σ : Term → Term) (cs : List Constraint) → every is_low (map (map_terms σ) cs) ≡ every is_low cs
unfolding map_terms is_low
low-kept σ [] = refl
low-kept σ (c ∷ cs) = ap (is_low c &&◌) (low-kept σ cs)

-- the test that every term passes
unfoldable pub anything : Term → Bool
anything t = true

pub all-terms : (l : List Term) → every anything l ≡ true
unfolding anything
all-terms l = every-always anything l (λ t. refl)

pub all-equations : (l : List Equation) → every (λ e. anything e.left && anything e.right) l ≡ true
unfolding anything
all-equations l = every-always (λ e. anything e.left && anything e.right) l (λ e. refl)

pub all-low : (l : List Constraint) → every is_low l ≡ true → every (λ c. is_low c && every anything c.terms) l ≡ true
all-low l h =
    every-weaker is_low (λ c. is_low c && every anything c.terms) l (λ c low. rw (low, all-terms c.terms)) h
