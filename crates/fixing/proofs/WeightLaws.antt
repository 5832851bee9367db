-- Weights in tables: one law for each way that the code goes.
--   weigh-…         the terms of a constraint
--   all-…           constraints
--   lighten-…       chosen cells
--   free-done       the weights of the cells that are not paired yet
-- Assumes nothing.
use Rattle.std.proofs.Common.{◌≡◌, ℕ, suc, ◌+◌, ◌*◌, ◌<◌, ◌≤◌, Bool, true, false, cond, ◌||◌, eqb, ◌⊎◌, List, ◌∷◌, length, get_or, take, drop, set, refl, ap, ◌∙◌, inl, inr, add-one, arith, length-set, drop_of_length-le, drop-cons, get_or-set_other, get_or-set_same, eqb-true}
use borrow.Author.Tests.{eqb-false}
use Rattle.text.specs.Lists.{has}
use Rattle.semantics.specs.Terms.{Term, same_term}
use Rattle.tables.specs.Cells.{cell_term, cell_terms, cell_constraints, row_constraint}
use Rattle.tables.proofs.CellLaws.{either, same-cell, terms-none, terms-more, constraints-at}
use Rattle.colours.specs.Bounds.{Below}
use Rattle.colours.specs.Colours.{with_terms, Empty}
use Rattle.colours.proofs.ColourLaws.{terms-end, lent_terms, lent-constraint}
use Rattle.fixing.specs.Weights.{plus, tripled, weighed, weight_in, free_weight, RowWeighed, Weighed, Lightened, Free}

-- the terms from i on, from the weights by now, give the weights for all
pub record Weighing (terms weights₀ weights : List ℕ) (f i : ℕ) : Type 0 where
  pub within : i ≤ length terms
  pub size : length weights ≡ length weights₀
  pub same :
      (x : ℕ)
      → weighed (cell_term x) f (cell_terms (drop i terms)) (get_or weights x 0)
      ≡ weighed (cell_term x) 1 (cell_terms terms) (get_or weights₀ x 0)

pub weigh-start : (terms weights : List ℕ) → Weighing terms weights weights 1 0
weigh-start terms weights = record { within = omega arith; size = refl; same = λ x. refl }

-- what a term weighs more where it stands first, and where another does
weighed-here :
    (t u : Term) (f : ℕ) (us : List Term) (w : ℕ) → same_term t u ≡ true → weighed t f (u ∷ us) w ≡ weighed t (tripled f) us (plus w f)
unfolding weighed
weighed-here t u f us w h = rw h

weighed-other :
    (t u : Term) (f : ℕ) (us : List Term) (w : ℕ) → same_term t u ≡ false → weighed t f (u ∷ us) w ≡ weighed t (tripled f) us w
unfolding weighed
weighed-other t u f us w h = rw h

module _ (terms weights₀ weights : List ℕ) (f i : ℕ) (w : Weighing terms weights₀ weights f i) where
  pub weigh-done : length terms ≤ i → RowWeighed terms weights₀ weights
  unfolding weighed
  weigh-done h = record { at = λ x. rw (terms-end terms i h) at (w.same x) }

  module _ (h : i < length terms) where
    pub weigh-end : get_or terms i 0 ≡ 0 → RowWeighed terms weights₀ weights
    unfolding weighed
    weigh-end z = record { at = λ x. rw (terms-none terms i h z) at (w.same x) }

    pub weigh-room : Below (length weights₀) terms → (p : ℕ) → p ≡ get_or terms i 0 → p < length weights
    weigh-room b p e = rw (e, w.size) (b.below i)

    module _ (z : get_or terms i 0 ≡ 0 → ⊥) (b : Below (length weights₀) terms) (p : ℕ) (e : p ≡ get_or terms i 0)
        (v f' : ℕ) (g : v ≡ plus (get_or weights p 0) f) (t : f' ≡ tripled f) where
      -- what each term weighs then
      one_more :
          (x : ℕ) (us : List Term) → (eqb x p ≡ true) ⊎ (eqb x p ≡ false)
          → weighed (cell_term x) f' us (get_or (set weights p v) x 0) ≡ weighed (cell_term x) f (cell_term p ∷ us) (get_or weights x 0)
      one_more x us (inl y) =
          let q : x ≡ p = eqb-true x p y in
          rw (
            weighed-here (cell_term x) (cell_term p) f us (get_or weights x 0) (same-cell x p ∙ y),
            q,
            get_or-set_same weights p v 0 (weigh-room b p e),
            g,
            t,
          )
      one_more x us (inr y) =
          rw (
            weighed-other (cell_term x) (cell_term p) f us (get_or weights x 0) (same-cell x p ∙ y),
            get_or-set_other weights p x v 0 (λ q. eqb-false x p y q),
            t,
          )

      pub weigh-next : Weighing terms weights₀ (set weights p v) f' (i + 1)
      weigh-next =
          rw (add-one i)
          (record {
            within = h;
            size = length-set weights p v ∙ w.size;
            same = λ x.
                one_more x (cell_terms (drop (suc i) terms)) (either (eqb x p))
                ∙ rw e (rw (terms-more terms i h z) at (w.same x));
          })

-- the constraints from i on, from the weights by now, give the weights for all
pub record AllWeighing (cells : List ℕ) (n : ℕ) (weights₀ weights : List ℕ) (i : ℕ) : Type 0 where
  pub within : i ≤ n
  pub size : length weights ≡ length weights₀
  pub same :
      (x : ℕ)
      → weight_in (cell_term x) (cell_constraints (drop (5 * i) cells)) (get_or weights x 0)
      ≡ weight_in (cell_term x) (cell_constraints cells) (get_or weights₀ x 0)

pub all_start : (cells : List ℕ) (n : ℕ) (weights : List ℕ) → AllWeighing cells n weights weights 0
all_start cells n weights = record { within = omega arith; size = refl; same = λ x. refl }

module _ (cells : List ℕ) (n : ℕ) (weights₀ weights : List ℕ) (i : ℕ) (s : length cells ≡ 5 * n)
    (w : AllWeighing cells n weights₀ weights i) where
  pub all_done : n ≤ i → Weighed cells weights₀ weights
  unfolding weight_in cell_constraints
  all_done h = record { at = λ x. rw (drop_of_length-le cells {i = 5 * i} (omega arith)) at (w.same x) }

  -- the terms of the row
  row-terms : cell_terms (lent_terms cells i) ≡ (row_constraint (take 5 (drop (5 * i) cells))).terms
  unfolding with_terms
  row-terms = ap (λ c. c.terms) (lent-constraint cells i)

  pub all-next :
      i < n → (weights' : List ℕ) → length weights' ≡ length weights → RowWeighed (lent_terms cells i) weights weights'
      → AllWeighing cells n weights₀ weights' (i + 1)
  unfolding weight_in
  all-next h weights' l g =
      rw (add-one i)
      (record {
        within = h;
        size = l ∙ w.size;
        same = λ x.
            let one = rw row-terms at (g.at x) in
            rw one (rw (constraints-at cells i (omega arith)) at (w.same x));
      })

-- the cells from i on are still to be set to zero
pub record Lightening (chosen weights₀ weights : List ℕ) (i : ℕ) : Type 0 where
  pub within : i ≤ length chosen
  pub size : length weights ≡ length weights₀
  pub same : (x : ℕ) → cond (has x (drop i chosen)) 0 (get_or weights x 0) ≡ cond (has x chosen) 0 (get_or weights₀ x 0)

pub lighten-start : (chosen weights : List ℕ) → Lightening chosen weights weights 0
lighten-start chosen weights = record { within = omega arith; size = refl; same = λ x. refl }

module _ (chosen weights₀ weights : List ℕ) (i : ℕ) (w : Lightening chosen weights₀ weights i) where
  pub lighten-done : length chosen ≤ i → Lightened chosen weights₀ weights
  lighten-done h = record { at = λ x. rw (drop_of_length-le chosen {i = i} h) at (w.same x) }

  module _ (h : i < length chosen) (b : Below (length weights₀) chosen) (p : ℕ) (e : p ≡ get_or chosen i 0) where
    pub lighten-room : p < length weights
    lighten-room = rw (e, w.size) (b.below i)

    -- what each cell weighs then
    one_less :
        (x : ℕ) (ys : List ℕ) → (eqb x p ≡ true) ⊎ (eqb x p ≡ false)
        → cond (has x ys) 0 (get_or (set weights p 0) x 0) ≡ cond (eqb x p || has x ys) 0 (get_or weights x 0)
    one_less x ys (inl y) =
        let q : x ≡ p = eqb-true x p y in
        let z : get_or (set weights p 0) x 0 ≡ 0 = rw q (get_or-set_same weights p 0 0 lighten-room) in
        rw (z, y) (nothing (has x ys))
      where
        nothing : (t : Bool) → ◌≡◌ {A = ℕ} (cond t 0 0) 0
        nothing true = refl
        nothing false = refl
    one_less x ys (inr y) = rw (y, get_or-set_other weights p x 0 0 (λ q. eqb-false x p y q))

    pub lighten-next : Lightening chosen weights₀ (set weights p 0) (i + 1)
    lighten-next =
        rw (add-one i)
        (record {
          within = h;
          size = length-set weights p 0 ∙ w.size;
          same = λ x.
              one_less x (drop (suc i) chosen) (either (eqb x p)) ∙ rw e (rw (drop-cons chosen i 0 h) at (w.same x));
        })

-- weights in a table of zeros, those of paired cells set to zero
pub free-done :
    (cells paired weights weights' weights'' : List ℕ) → Empty weights → Weighed cells weights weights'
    → Lightened paired weights' weights'' → Free paired cells weights''
unfolding free_weight
free-done cells paired weights weights' weights'' z w l =
    record { at = λ x. l.at x ∙ ap (λ v. cond (has x paired) 0 v) (w.at x ∙ rw (z.none x)) }
