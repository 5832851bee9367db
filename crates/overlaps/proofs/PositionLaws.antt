-- Where the second rule's heads stand in the goal.
--   place_of                     the search for a head's partner
--   Standing, standing-…         the positions of the first heads
-- Assumes nothing.
use Prim.Native.Nat.{ℕ, zero, suc, ◌+◌, ◌-◌, ◌≤◌, ◌<◌}
use native.Mathlib.Omega.{arith}
use native.Mathlib.Numerals.{add-one}
use mathlib.Core.Bool.{Bool, true, false, cond, ◌||◌}
use mathlib.Core.List.{List, [], ◌∷◌, ◌++◌, append_assoc, append-nil}
use mathlib.Core.Path.{◌≡◌, refl, sym, ◌∙◌}
use lib.Dec.{eqb}
use lib.ListN.{length, take, get_or, set, length-set}
use lib.Seq.{take-suc-set}
use borrow.Author.Tests.{eq-eqb, ne_eqb}
use Rattle.std.specs.Prelude.{Option, None, Some, MatchOption}
use Rattle.text.specs.Lists.{has, index_from}
use Rattle.semantics.specs.Overlaps.{second_positions}
use Rattle.semantics.proofs.Configurations.{Or, inl, inr}
use Rattle.semantics.proofs.Options.{decide, true-false}
use Rattle.semantics.proofs.Indices.{index_below}

-- the index of a number that does not stand in a list
index-behind : (x i : ℕ) (ds : List ℕ) → has x ds ≡ false → index_from (eqb x) i ds ≡ i + length ds
index-behind x i [] h = omega arith
index-behind x i (d ∷ ds) h = go (eqb x d) h (index-behind x (suc i) ds)
  where
    go : (b : Bool) → (b || has x ds) ≡ false → (has x ds ≡ false → index_from (eqb x) (suc i) ds ≡ suc i + length ds)
        → cond b i (index_from (eqb x) (suc i) ds) ≡ i + suc (length ds)
    go true e more = true-false refl e
    go false e more = omega (arith, more e)

-- the index of a number, by the place where it stands first
index-first :
    (x s i : ℕ) (ds : List ℕ) → i < length ds → get_or ds i 0 ≡ x → ((k : ℕ) → k < i → get_or ds k 0 ≡ x → ⊥)
    → index_from (eqb x) s ds ≡ s + i
index-first x s i [] l e f = absurd (omega arith)
index-first x s zero (d ∷ ds) l e f = rw (eq-eqb x d (sym e)) (omega arith)
index-first x s (suc i) (d ∷ ds) l e f =
    rw (ne_eqb x d (λ q. f 0 (omega arith) (sym q)))
    (index-first x (suc s) i ds (omega arith) e (λ k h. f (suc k) (omega arith)) ∙ omega arith)

-- and where it stands nowhere
index-nowhere :
    (x s : ℕ) (ds : List ℕ) → ((k : ℕ) → k < length ds → get_or ds k 0 ≡ x → ⊥) → index_from (eqb x) s ds ≡ s + length ds
index-nowhere x s [] f = omega arith
index-nowhere x s (d ∷ ds) f =
    rw (ne_eqb x d (λ q. f 0 (omega arith) (sym q)))
    (index-nowhere x (suc s) ds (λ k h. f (suc k) (omega arith)) ∙ omega arith)

-- what looking for a number's first place answers
pub place_of :
    (x : ℕ) (ds : List ℕ) (r : Option ℕ)
    → MatchOption r ((k : ℕ) → k < length ds → get_or ds k 0 ≡ x → ⊥)
    (λ i. (i < length ds) × (get_or ds i 0 ≡ x) × ((k : ℕ) → k < i → get_or ds k 0 ≡ x → ⊥))
    → MatchOption r (index_from (eqb x) 0 ds ≡ length ds) (λ i. (i ≡ index_from (eqb x) 0 ds) × (i < length ds))
place_of x ds None f = omega (arith, index-nowhere x 0 ds f)
place_of x ds (Some i) f = (omega (arith, index-first x 0 i ds f.0 f.1 f.2), f.0)

-- the positions of the first g heads of the second rule, and those of the others, are all positions
pub record Standing (m n : ℕ) (ds positions : List ℕ) (free g : ℕ) : Type 0 where
  pub within : g ≤ n
  pub room : n ≤ 4
  pub free-few : free ≤ m + g
  pub size : length positions ≡ 4
  pub partners : length ds ≡ m
  pub same : take g positions ++ second_positions (suc g) free (n - g) ds ≡ second_positions 1 m n ds

module _ (m n : ℕ) (ds positions : List ℕ) (free g : ℕ) (w : Standing m n ds positions free g) where
  -- all stand
  pub standing-end : n ≤ g → take n positions ≡ second_positions 1 m n ds
  unfolding second_positions
  standing-end l =
      let e : g ≡ n = omega (arith, w.within) in
      let z : n - g ≡ 0 = omega arith in
      let s : take g positions ++ [] ≡ second_positions 1 m n ds = rw z at w.same in
      rw (← e) (sym (append-nil (take g positions))) ∙ s

  module _ (l : g < n) where
    left : n - g ≡ suc (n - suc g)
    left = omega arith

    set-take : (v : ℕ) (rest : List ℕ) → take (suc g) (set positions g v) ++ rest ≡ take g positions ++ (v ∷ rest)
    set-take v rest =
        rw (take-suc-set positions g v (omega (arith, w.size, w.room))) (append_assoc (take g positions) (v ∷ []) rest)

    -- a joined head stands at its partner's position
    pub standing-joined :
        (h : ℕ) → h ≡ index_from (eqb (g + 1)) 0 ds → h < m → Standing m n ds (set positions g h) free (g + 1)
    unfolding second_positions
    standing-joined h e k = rw (add-one g) (record {
      within = l;
      room = w.room;
      free-few = omega (arith, w.free-few);
      size = length-set positions g h ∙ w.size;
      partners = w.partners;
      same = set-take h (second_positions (suc (suc g)) free (n - suc g) ds) ∙ rw (left, there, ← place) at w.same;
    })
      where
        place : h ≡ index_from (eqb (suc g)) 0 ds
        place = rw (add-one g) at e

        there : has (suc g) ds ≡ true
        there = go (decide (has (suc g) ds))
          where
            go : Or (has (suc g) ds ≡ true) (has (suc g) ds ≡ false) → has (suc g) ds ≡ true
            go (inl t) = t
            go (inr t) = absurd (omega (arith, index-behind (suc g) 0 ds t, w.partners, place))

    -- another behind the first rule's heads
    pub standing-free : index_from (eqb (g + 1)) 0 ds ≡ m → Standing m n ds (set positions g free) (free + 1) (g + 1)
    unfolding second_positions
    standing-free e = rw (add-one g, add-one free) (record {
      within = l;
      room = w.room;
      free-few = omega (arith, w.free-few);
      size = length-set positions g free ∙ w.size;
      partners = w.partners;
      same = set-take free (second_positions (suc (suc g)) (suc free) (n - suc g) ds) ∙ rw (left, away) at w.same;
    })
      where
        place : index_from (eqb (suc g)) 0 ds ≡ m
        place = rw (add-one g) at e

        away : has (suc g) ds ≡ false
        away = go (decide (has (suc g) ds))
          where
            go : Or (has (suc g) ds ≡ true) (has (suc g) ds ≡ false) → has (suc g) ds ≡ false
            go (inl t) = absurd (omega (arith, index_below (suc g) ds t, w.partners, place))
            go (inr t) = t
