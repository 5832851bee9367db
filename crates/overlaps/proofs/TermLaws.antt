-- The terms of two rows, made equal throughout column by column.
--   joined-cons                      one more pair of terms
--   Joining                          the columns from c on give the answer for all of them
--   joining-start … joining-end      the loop over the columns
-- Assumes nothing.
use Prim.Native.Nat.{ℕ, zero, suc, ◌+◌, ◌-◌, ◌≤◌, ◌<◌}
use native.Mathlib.Omega.{arith}
use mathlib.Core.Bool.{Bool, true, false}
use mathlib.Core.List.{List, [], ◌∷◌, map, map-id}
use mathlib.Core.Option
use mathlib.Core.Option.{Option, none, some}
use mathlib.Core.Path.{◌≡◌, refl, sym, ap, ◌∙◌}
use lib.Dec.{eqb}
use lib.ListN.{length, take, drop, get_or, length-map}
use lib.Seq.{drop-cons}
use borrow.Author.Tests.{ne_eqb, eqb-true, eqb-false, not-true, not-false}
use Rattle.text.specs.Lists.{bind, every}
use Rattle.semantics.specs.Terms.{Term, Constraint, Equation, map_terms, map_sides}
use Rattle.semantics.specs.Solving.{unify, solve}
use Rattle.semantics.specs.Overlaps.{equate_terms}
use Rattle.semantics.proofs.Configurations.{Or, inl, inr}
use Rattle.semantics.proofs.Options.{decide}
use Rattle.tables.specs.Cells.{cell_term, cell_terms, cell_constraints, is_low}
use Rattle.engine.specs.Cells.{clashes, merge}
use Rattle.engine.specs.States.{Merged}
use Rattle.tables.proofs.MapLaws.{Acts, anything, all-low, all-terms, low-kept, acts-terms, acts-constraints}
use Rattle.engine.proofs.SolveLaws.{solve-through, Unifier, clash-none, merge-acts}
use Rattle.overlaps.specs.Joins.{joined_terms}
use Rattle.overlaps.specs.Cells.{joined_of, terms_from, Heads}
use Rattle.overlaps.proofs.JoinLaws.{equate-terms-map, replaced-twice}

-- nothing is replaced
pub replaced-none : (cs : List Constraint) → map (map_terms (λ t. t)) cs ≡ cs
unfolding map_terms
replaced-none [] = refl
replaced-none (c ∷ cs) = rw (map-id c.terms, replaced-none cs)

-- one more pair of terms
joined-cons :
    (s t : Term) (ss ts : List Term) (cs : List Constraint)
    → joined_terms (s ∷ ss) (t ∷ ts) cs
    ≡ bind (unify s t) (λ τ. joined_terms (map τ ss) (map τ ts) (map (map_terms τ) cs))
unfolding joined_terms equate_terms solve
joined-cons s t ss ts cs =
    front (equate_terms ss ts) ∙ go (equate_terms ss ts) (unify s t) (λ τ. equate-terms-map τ ss ts)
  where
    front : (o : Option (List Equation))
        → bind (bind o (λ es. some (record { left = s; right = t } ∷ es)))
        (λ es. bind (solve es (λ x. x)) (λ σ. some (map (map_terms σ) cs)))
        ≡ bind o (λ es. bind (bind (unify s t) (λ τ. solve es τ)) (λ σ. some (map (map_terms σ) cs)))
    front none = refl
    front (some es) = refl

    last : (τ : Term → Term) (u : Option (Term → Term))
        → bind (Option.map (λ ρ x. ρ (τ x)) u) (λ σ. some (map (map_terms σ) cs))
        ≡ bind u (λ ρ. some (map (map_terms ρ) (map (map_terms τ) cs)))
    last τ none = refl
    last τ (some ρ) = ap some (sym (replaced-twice ρ τ cs))

    go : (o : Option (List Equation)) (u : Option (Term → Term))
        → ((τ : Term → Term) → equate_terms (map τ ss) (map τ ts) ≡ bind o (λ es. some (map (map_sides τ) es)))
        → bind o (λ es. bind (bind u (λ τ. solve es τ)) (λ σ. some (map (map_terms σ) cs)))
        ≡ bind u (λ τ. joined_terms (map τ ss) (map τ ts) (map (map_terms τ) cs))
    go none none h = refl
    go none (some τ) h = rw (h τ)
    go (some es) none h = refl
    go (some es) (some τ) h = rw (h τ, solve-through es τ (λ x. x)) (last τ (solve (map (map_sides τ) es) (λ x. x)))

-- cells from a place on, replaced throughout
take-map : (f : ℕ → ℕ) (k : ℕ) (l : List ℕ) → take k (map f l) ≡ map f (take k l)
take-map f zero l = refl
take-map f (suc k) [] = refl
take-map f (suc k) (x ∷ l) = ap (f x ∷◌) (take-map f k l)

drop-map : (f : ℕ → ℕ) (k : ℕ) (l : List ℕ) → drop k (map f l) ≡ map f (drop k l)
drop-map f zero l = refl
drop-map f (suc k) [] = refl
drop-map f (suc k) (x ∷ l) = drop-map f k l

terms-from-map :
    (f : ℕ → ℕ) (σ : Term → Term) → Acts anything f σ → (l : List ℕ) (at k : ℕ)
    → terms_from (map f l) at k ≡ map σ (terms_from l at k)
unfolding terms_from
terms-from-map f σ a l at k =
    rw (drop-map f at l, take-map f k (drop at l))
    (acts-terms anything f σ a (take k (drop at l)) (all-terms (cell_terms (take k (drop at l)))))

-- the terms from a place on: one more, or none
terms-from-more :
    (l : List ℕ) (at k : ℕ) → at < length l → (get_or l at 0 ≡ 0 → ⊥)
    → terms_from l at (suc k) ≡ cell_term (get_or l at 0) ∷ terms_from l (suc at) k
unfolding terms_from cell_terms
terms-from-more l at k h z = rw (drop-cons l at 0 h, ne_eqb (get_or l at 0) 0 z)

terms-from-none : (l : List ℕ) (at k : ℕ) → at < length l → get_or l at 0 ≡ 0 → terms_from l at (suc k) ≡ []
unfolding terms_from cell_terms
terms-from-none l at k h z = rw (drop-cons l at 0 h, z)

-- the columns from c on, in the cells so far, give the answer for all of them
pub record Joining (start : List ℕ) (a b : ℕ) (cells : List ℕ) (c : ℕ) : Type 0 where
  pub heads : Heads cells a b
  pub within : c ≤ 5
  pub size : length cells ≡ length start
  pub same :
      joined_terms (terms_from cells (a + c) (5 - c)) (terms_from cells (b + c) (5 - c)) (cell_constraints cells)
      ≡ joined_terms (terms_from start (a + 1) 4) (terms_from start (b + 1) 4) (cell_constraints start)

-- no terms are left: all are equal
nothing_left : (cs : List Constraint) → joined_terms [] [] cs ≡ some cs
unfolding joined_terms equate_terms solve
nothing_left cs = ap some (replaced-none cs)

-- terms are left of one row only
short_none : (t : Term) (ts : List Term) (cs : List Constraint) → joined_terms [] (t ∷ ts) cs ≡ none
unfolding joined_terms equate_terms
short_none t ts cs = refl

long-none : (s : Term) (ss : List Term) (cs : List Constraint) → joined_terms (s ∷ ss) [] cs ≡ none
unfolding joined_terms equate_terms
long-none s ss cs = refl

module _ (start : List ℕ) (a b : ℕ) (cells : List ℕ) (c : ℕ) (w : Joining start a b cells c) where
  -- all columns are equal
  pub joining-end :
      5 ≤ c
      → joined_of true cells
      ≡ joined_terms (terms_from start (a + 1) 4) (terms_from start (b + 1) 4) (cell_constraints start)
  unfolding joined_of terms_from cell_terms
  joining-end l =
      let e : 5 - c ≡ 0 = omega arith in
      sym (nothing_left (cell_constraints cells)) ∙ rw e at w.same

  module _ (l : c < 5) where
    abbrev x : ℕ
    x = get_or cells (a + c) 0

    abbrev y : ℕ
    y = get_or cells (b + c) 0

    abbrev cs : List Constraint
    cs = cell_constraints cells

    left : 5 - c ≡ suc (4 - c)
    left = omega arith

    in-first : a + c < length cells
    in-first = omega (arith, w.heads.first)

    in-second : b + c < length cells
    in-second = omega (arith, w.heads.second)

    all :
        joined_terms (terms_from cells (a + c) (suc (4 - c))) (terms_from cells (b + c) (suc (4 - c))) cs
        ≡ joined_terms (terms_from start (a + 1) 4) (terms_from start (b + 1) 4) (cell_constraints start)
    all = rw left at w.same

    -- the first row's terms end
    pub joining-short :
        x ≡ 0
        → joined_of (eqb y 0) cells
        ≡ joined_terms (terms_from start (a + 1) 4) (terms_from start (b + 1) 4) (cell_constraints start)
    unfolding joined_of
    joining-short e = go (decide (eqb y 0)) ∙ all
      where
        go : Or (eqb y 0 ≡ true) (eqb y 0 ≡ false)
            → joined_of (eqb y 0) cells
            ≡ joined_terms (terms_from cells (a + c) (suc (4 - c))) (terms_from cells (b + c) (suc (4 - c))) cs
        go (inl t) =
            rw (
              t,
              terms-from-none cells (a + c) (4 - c) in-first e,
              terms-from-none cells (b + c) (4 - c) in-second (eqb-true y 0 t),
            )
            (sym (nothing_left cs))
        go (inr t) =
            rw (
              t,
              terms-from-none cells (a + c) (4 - c) in-first e,
              terms-from-more cells (b + c) (4 - c) in-second (eqb-false y 0 t),
            )
            (sym (short_none (cell_term y) (terms_from cells (suc (b + c)) (4 - c)) cs))

    -- the second row's do
    pub joining-long :
        (x ≡ 0 → ⊥) → y ≡ 0
        → joined_of false cells
        ≡ joined_terms (terms_from start (a + 1) 4) (terms_from start (b + 1) 4) (cell_constraints start)
    unfolding joined_of
    joining-long e f =
        sym (long-none (cell_term x) (terms_from cells (suc (a + c)) (4 - c)) cs)
        ∙ rw (
          terms-from-more cells (a + c) (4 - c) in-first e,
          terms-from-none cells (b + c) (4 - c) in-second f,
        ) at all

    module _ (nx : x ≡ 0 → ⊥) (ny : y ≡ 0 → ⊥) (r : Bool) (es bs cells' : List ℕ) (fs gs : List ℕ)
        (m : Merged r x y es bs cells fs gs cells') where
      both :
          bind (unify (cell_term x) (cell_term y))
          (λ τ. joined_terms (map τ (terms_from cells (suc (a + c)) (4 - c))) (map τ (terms_from cells (suc (b + c)) (4 - c)))
          (map (map_terms τ) cs))
          ≡ joined_terms (terms_from start (a + 1) 4) (terms_from start (b + 1) 4) (cell_constraints start)
      both =
          sym (joined-cons (cell_term x) (cell_term y) (terms_from cells (suc (a + c)) (4 - c))
          (terms_from cells (suc (b + c)) (4 - c)) cs)
          ∙ rw (
            terms-from-more cells (a + c) (4 - c) in-first nx,
            terms-from-more cells (b + c) (4 - c) in-second ny,
          ) at all

      -- two constants clash
      pub joining-clash :
          r ≡ false
          → joined_of false cells'
          ≡ joined_terms (terms_from start (a + 1) 4) (terms_from start (b + 1) 4) (cell_constraints start)
      unfolding joined_of
      joining-clash z = rw (clash-none x y (not-false (clashes x y) (sym m.answer ∙ z))) at both

      -- the column is equal now
      pub joining-next : r ≡ true → Joining start a b cells' (c + 1)
      joining-next z =
          let u : Unifier x y =
          merge-acts x y (omega arith) (omega arith) (not-true (clashes x y) (sym m.answer ∙ z)) in
          let τ = u.solution in
          let e : cells' ≡ map (merge x y) cells = m.in_cells z in
          let f : cell_constraints cells' ≡ map (map_terms τ) cs =
          rw e (acts-constraints anything (merge x y) τ u.acts cells (all-low cs w.heads.low)) in
          let size : length cells' ≡ length cells = ap length e ∙ length-map cells (merge x y) in
          let k : 5 - (c + 1) ≡ 4 - c = omega arith in
          let p : a + (c + 1) ≡ suc (a + c) = omega arith in
          let q : b + (c + 1) ≡ suc (b + c) = omega arith in
          record {
            heads = record {
              low = ap (every is_low) f ∙ low-kept τ cs ∙ w.heads.low;
              first = omega (arith, w.heads.first);
              second = omega (arith, w.heads.second);
            };
            within = omega arith;
            size = size ∙ w.size;
            same =
                rw (
                  k,
                  p,
                  q,
                  f,
                  e,
                  terms-from-map (merge x y) τ u.acts cells (suc (a + c)) (4 - c),
                  terms-from-map (merge x y) τ u.acts cells (suc (b + c)) (4 - c),
                )
                (rw u.is at both);
          }
