-- Placing constraints without going back.
--   Settled        one constraint is placed: the answer for all is true where that for the others is
--   SettledAll     all constraints are placed
--   Found          two states that are found to be equal are
-- Assumes nothing.
use Rattle.std.specs.Prelude.{ℕ, Bool, true, List, ◌≡◌, drop}
use Rattle.semantics.specs.Variants.{Pair, same_state}
use Rattle.pairing.specs.Renamings.{Graph, Marks}
use Rattle.comparison.specs.Placements.{placed}
use Rattle.colours.specs.Ends.{end_of}

-- one constraint is placed: marks and tables stand for positions and a renaming under which the others answer for all
pub record Settled (r : Bool) (a b : List ℕ) (used : List Bool) (forth back : List ℕ) (used' : List Bool) (forth' back' : List ℕ)
    : Type 0 where
  pub on :
      r ≡ true → (us : List ℕ) (ps : List Pair) → Marks used us → Graph forth back ps
      → (vs : List ℕ) × (qs : List Pair) × Marks used' vs × Graph forth' back' qs
      × (placed (drop 5 a) b vs qs ≡ true → placed a b us ps ≡ true)

-- all constraints are placed
pub record SettledAll (r : Bool) (a b : List ℕ) (used : List Bool) (forth back : List ℕ) : Type 0 where
  pub all : r ≡ true → (us : List ℕ) (ps : List Pair) → Marks used us → Graph forth back ps → placed a b us ps ≡ true

-- two states that are found to be equal are
pub record Found (r : Bool) (f a g b : List ℕ) : Type 0 where
  pub same : r ≡ true → same_state (end_of f a) (end_of g b) ≡ true
