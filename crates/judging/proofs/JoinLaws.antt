-- Whether the two ends of an overlap are equal: one law for each way that the code goes.
--   states-same                      a state is equal to itself
--   ends-alike, ends-side, ends-answer   two ends that live, tidied and compared
--   live-room, lent_length           cells that are lent
--   joins-…                          the answer
-- Assumes nothing.
use Prim.Native.Nat.{ℕ, zero, suc, ◌+◌, ◌*◌, ◌≤◌, ◌<◌}
use native.Mathlib.Omega.{arith}
use mathlib.Core.Bool.{Bool, true, false, not}
use mathlib.Core.List.{List, [], ◌∷◌, map}
use mathlib.Core.Path.{◌≡◌, refl, sym, ◌∙◌}
use lib.ListN.{length, get_or, take, replicate, length-take, length-replicate}
use lib.Seq.{length-take-le}
use borrow.Author.Tests.{ne_eqb}
use Rattle.text.specs.Lists.{every}
use Rattle.semantics.specs.Terms.{State, is_below}
use Rattle.semantics.specs.Overlaps.{first_end, second_end}
use Rattle.semantics.specs.Variants.{same_state}
use Rattle.semantics.specs.Verdict.{is_joinable}
use Rattle.text.proofs.Bools.{and-true}
use Rattle.semantics.proofs.Comparison.{same_state-complete}
use Rattle.semantics.proofs.Letters.{every-all}
use Rattle.semantics.proofs.Listings.{all-every}
use Rattle.semantics.proofs.Multisets.{all-mono}
use Rattle.semantics.proofs.VariantLaws.{variant-refl}
use Rattle.tables.specs.Cells.{cell_term, cell_constraints, is_low, state_of}
use Rattle.tables.specs.Numbers.{is_within}
use Rattle.tables.proofs.CellLaws.{constraints-length}
use Rattle.tables.proofs.CellLaws.{every_first, every_rest}
use Rattle.colours.specs.Ends.{end_of}
use Rattle.comparison.specs.Comparing.{Side}
use Rattle.judging.specs.Tidying.{Tidied}
use Rattle.judging.specs.Judging.{end_in, LiveEnd, EndOf, Joins}
use Rattle.judging.proofs.TidyLaws.{cell_below, tidied-below}

-- cells lie as their terms do
bound-below : (m : ℕ) (l : List ℕ) → every (is_below m) (map cell_term l) ≡ true → (i : ℕ) → get_or l i 0 < 256 + m
bound-below m [] h i = omega arith
bound-below m (x ∷ l) h zero = cell_below m x (every_first (is_below m) (cell_term x) (map cell_term l) h)
bound-below m (x ∷ l) h (suc i) = bound-below m l (every_rest (is_below m) (cell_term x) (map cell_term l) h) i

-- a tidied end is what the comparison asks
pub ends-side :
    (cells : List ℕ) (n : ℕ) (bound cells' : List ℕ) → LiveEnd cells n bound → Tidied n cells cells'
    → length cells' ≡ length cells → Side cells' n bound
unfolding is_within
ends-side cells n bound cells' c t e =
    record {
      size = e ∙ c.size;
      few = c.few;
      bound-few = c.bound-few;
      low = all-every is_low (all-mono (λ d h. (and-true (is_low d) (every (is_below 13340) d.terms) h).0)
          (every-all (is_within 13340) (cell_constraints cells') (rw t.same c.within)));
      below = record { below = tidied-below n 13340 cells' (e ∙ c.size) t.ended (rw t.same c.within) };
      bound-below = record { below = bound-below 13340 bound c.bound-within };
    }

-- a state is equal to itself
pub states-same : (s t : State) → s ≡ t → true ≡ same_state s t
states-same s t e = rw e (sym (same_state-complete t t (variant-refl t)))

-- ends in the same cells are equal
pub ends-alike :
    (f a g b : List ℕ) → f ≡ g → a ≡ b → true ≡ same_state (end_of f a) (end_of g b)
ends-alike f a g b s t = states-same (end_of f a) (end_of g b) (λ i. end_of (s i) (t i))

-- the answer is that of the ends as they were
pub ends-answer :
    (n : ℕ) (f a a' g b b' : List ℕ) (r : Bool) → LiveEnd a n f → LiveEnd b n g → Tidied n a a' → Tidied n b b'
    → r ≡ same_state (end_of f a') (end_of g b') → r ≡ same_state (end_of f a) (end_of g b)
ends-answer n f a a' g b b' r c d s t e = rw (s.same, t.same) at e

-- it is within its cells
pub live-room : (k : ℕ) (bound cells : List ℕ) → LiveEnd (take (5 * k) cells) k bound → 5 * k ≤ length cells
live-room k bound cells c = omega (arith, c.size, length-take (5 * k) cells)

-- so many cells are lent for what the goal variables become
pub lent_length : (v : ℕ) → v ≤ 28 → length {A = ℕ} (take v (replicate 28 0)) ≡ v
lent_length v h = length-take-le v (replicate 28 0) (omega (arith, length-replicate {A = ℕ} 28 0))

module _ {rules : List ℕ} {n i j : ℕ} {positions : List ℕ} {v : ℕ} {goal : List ℕ} {alive₁ : Bool} {count₁ next₁ firings₁ : ℕ}
    {bound₁ cells₁ : List ℕ} {alive₂ : Bool} {count₂ next₂ firings₂ : ℕ} {bound₂ cells₂ : List ℕ}
    (s : EndOf first_end rules n i j positions v goal alive₁ count₁ next₁ firings₁ bound₁ cells₁)
    (t : EndOf second_end rules n i j positions v goal alive₂ count₂ next₂ firings₂ bound₂ cells₂) where
  -- the answer, from that of the states in cells
  from-states :
      (r : Bool)
      → r ≡ same_state (state_of alive₁ next₁ bound₁ (take (5 * count₁) cells₁))
      (state_of alive₂ next₂ bound₂ (take (5 * count₂) cells₂))
      → Joins rules n i j positions v goal r
  unfolding is_joinable end_in
  from-states r e =
      record {
        same = λ p names o h.
            e ∙ λ k. same_state (s.same p names o h k).state (t.same p names o h k).state;
      }

  -- the first end has failed
  pub joins-failed : alive₁ ≡ false → (r : Bool) → alive₂ ≡ not r → Joins rules n i j positions v goal r
  unfolding same_state state_of
  joins-failed e r d = from-states r (rw (e, d) (go r))
    where
      go : (b : Bool) → b ≡ same_state (state_of false next₁ bound₁ (take (5 * count₁) cells₁))
          (state_of (not b) next₂ bound₂ (take (5 * count₂) cells₂))
      go true = refl
      go false = refl

  module _ (y : alive₁ ≡ true) where
    -- only the second has
    pub joins-apart : alive₂ ≡ false → Joins rules n i j positions v goal false
    unfolding same_state state_of
    joins-apart e = from-states false (rw (y, e))

    module _ (z : alive₂ ≡ true) where
      -- they have different numbers of constraints
      pub joins-counts : (count₂ ≡ count₁ → ⊥) → Joins rules n i j positions v goal false
      unfolding same_state state_of
      joins-counts d =
          from-states false
          (rw (
            y,
            z,
            constraints-length count₁ (take (5 * count₁) cells₁) (s.live y).size,
            constraints-length count₂ (take (5 * count₂) cells₂) (t.live z).size,
            ne_eqb count₁ count₂ (λ e. d (sym e)),
          ))

      -- they are compared
      pub joins-compared :
          (r : Bool) → count₂ ≡ count₁
          → r ≡ same_state (end_of bound₁ (take (5 * count₁) cells₁)) (end_of bound₂ (take (5 * count₁) cells₂))
          → Joins rules n i j positions v goal r
      unfolding same_state state_of
      joins-compared r d e = from-states r (rw (y, z, d) e)
