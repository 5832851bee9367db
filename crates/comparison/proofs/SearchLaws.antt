-- The search for a renaming, from empty tables, answers whether two states are equal.
--   count-apart, bound-apart     states of other sizes are not equal
--   search-…              what the search finds
-- Assumes nothing.
use Prim.Native.Nat.{ℕ, ◌*◌, ◌≤◌}
use native.Mathlib.Omega.{arith}
use mathlib.Core.Bool.{Bool, true, false, ◌&&◌}
use mathlib.Core.List.{List, [], map}
use mathlib.Core.Option.{none}
use mathlib.Core.Path.{◌≡◌, refl, sym, ◌∙◌}
use lib.Dec.{eqb}
use lib.ListN.{length, take, replicate, length-map, length-replicate}
use lib.Seq.{length-take-le}
use borrow.Author.Tests.{eq-eqb, ne_eqb}
use Rattle.text.specs.Lists.{onward}
use Rattle.semantics.specs.Variants.{pair_terms, place, same_state}
use Rattle.semantics.proofs.Bools.{none-unless}
use Rattle.semantics.proofs.Multisets.{pointwise-length}
use Rattle.semantics.proofs.Pairs.{pair_terms-sound}
use Rattle.tables.specs.Cells.{cell_term, cell_constraints}
use Rattle.tables.proofs.CellLaws.{constraints-length}
use Rattle.pairing.specs.Renamings.{Joined}
use Rattle.colours.specs.Bounds.{TermsBelow}
use Rattle.comparison.specs.Placements.{placed, Placing, Tried}
use Rattle.colours.specs.Ends.{end_of}
use Rattle.pairing.proofs.PairLaws.{graph-empty}
use Rattle.comparison.proofs.PlaceLaws.{marks-none}

-- both tests, where the second fails
and-fails : (t u : Bool) → u ≡ false → false ≡ (t && u)
and-fails true u e = sym e
and-fails false u e = refl

-- m positions of which none is used
pub unused-length : (m : ℕ) → m ≤ 512 → length (take m (replicate 512 false)) ≡ m
unused-length m h = length-take-le m (replicate 512 false) (omega (arith, length-replicate 512 false))

module _ (a : List ℕ) (n : ℕ) (f : List ℕ) (b : List ℕ) (m : ℕ) (g : List ℕ) (s : length a ≡ 5 * n) (t : length b ≡ 5 * m) where
  -- states with other numbers of constraints are not equal
  pub count-apart : (n ≡ m → ⊥) → false ≡ same_state (end_of f a) (end_of g b)
  unfolding same_state
  count-apart d =
      rw (constraints-length n a s, constraints-length m b t, ne_eqb n m d)

  -- the answer where what the goal variables became cannot be made equal
  no_bound : pair_terms (map cell_term f) (map cell_term g) [] ≡ none → false ≡ same_state (end_of f a) (end_of g b)
  unfolding same_state
  no_bound e =
      and-fails (eqb (length (cell_constraints a)) (length (cell_constraints b)))
      (onward (pair_terms (map cell_term f) (map cell_term g) []) false (place (cell_constraints a) (cell_constraints b) []))
      (rw e)

  -- nor those with other numbers of goal variables
  pub bound-count-apart : (length f ≡ length g → ⊥) → false ≡ same_state (end_of f a) (end_of g b)
  bound-count-apart d =
      no_bound (none-unless (pair_terms (map cell_term f) (map cell_term g) [])
      (λ qs e. d (sym (length-map f cell_term)
      ∙ (pointwise-length (pair_terms-sound (map cell_term f) (map cell_term g) [] qs e).1 ∙ length-map g cell_term))))

  module _ (h : ℕ) (r : Bool) (f' g' : List ℕ)
      (j : Joined r (pair_terms (map cell_term f) (map cell_term g)) (replicate h 0) (replicate h 0) f' g') where
    -- what the goal variables became cannot be made equal
    pub search-apart : r ≡ false → false ≡ same_state (end_of f a) (end_of g b)
    search-apart e = no_bound (j.apart [] (graph-empty h h) e)

    module _ (y : r ≡ true) (e : n ≡ m) where
      -- what placing asks
      pub search-places :
          length f' ≡ length {A = ℕ} (replicate h 0) → length g' ≡ length {A = ℕ} (replicate h 0) → m ≤ 512
          → TermsBelow h a → TermsBelow h b → Placing a b (take m (replicate 512 false)) f' g'
      search-places lf lg l ba bb =
          record {
            partners = rw (unused-length m l) t;
            left = rw (lf ∙ length-replicate h 0) ba;
            right = rw (lg ∙ length-replicate h 0) bb;
          }

      -- the constraints are placed or not
      pub search-answer :
          (q : Bool) (used' : List Bool) (f'' g'' : List ℕ)
          → Tried q (placed a b) (take m (replicate 512 false)) f' g' used' f'' g'' → q ≡ same_state (end_of f a) (end_of g b)
      unfolding same_state placed
      search-answer q used' f'' g'' w =
          let (qs, z, i) = j.joined [] (graph-empty h h) y in
          rw (constraints-length n a s, constraints-length m b t, eq-eqb n m e, z)
          (w.same [] qs (marks-none m 512) i)
