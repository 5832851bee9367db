-- The first constraints of a state, and whether they share variables with the others.
--   Marked        cells from one on are marked, or their marks are taken away
--   Unset         what is promised of a cell that is found not to be marked
--   Unmarked      what is promised of first cells of which no variable is found to be marked
--   Parted        what is promised of first constraints that are found to share no free variable with the others
-- Assumes nothing.
use Rattle.std.specs.Prelude.{ℕ, ◌*◌, ◌≤◌, ◌<◌, Bool, true, false, List, ◌⊎◌, ◌≡◌, length, get_or}

-- the marks of cells from one on are a value, if they have places; others are as they were
pub record Marked (cells : List ℕ) (from : ℕ) (value : Bool) (marks marks' : List Bool) : Type 0 where
  pub size : length marks' ≡ length marks
  pub made :
      (i : ℕ) → from ≤ i → i < length cells → get_or cells i 0 < length marks → get_or marks' (get_or cells i 0) false ≡ value
  pub kept :
      (x : ℕ) → (get_or marks' x false ≡ get_or marks x false) ⊎ ((i : ℕ) × (i < length cells) × (get_or cells i 0 ≡ x))

-- a cell that is found not to be marked has a place and no mark
pub record Unset (r : Bool) (marks : List Bool) (x : ℕ) : Type 0 where
  pub unset : r ≡ false → (x < length marks) × (get_or marks x false ≡ false)

-- the variables among the first cells, if none is found to be marked, have places and no marks
pub record Unmarked (r : Bool) (cells : List ℕ) (end : ℕ) (marks : List Bool) : Type 0 where
  pub none :
      r ≡ true → (i : ℕ) → i < end → 256 ≤ get_or cells i 0
      → (get_or cells i 0 < length marks) × (get_or marks (get_or cells i 0) false ≡ false)

-- a variable that stands in the first k constraints and behind them, if these are found to be a part, is one that a goal variable
-- became
pub record Parted (r : Bool) (cells : List ℕ) (k : ℕ) (bound : List ℕ) : Type 0 where
  pub shared :
      r ≡ true → (i j : ℕ) → i < 5 * k → 5 * k ≤ j → 256 ≤ get_or cells i 0 → get_or cells j 0 ≡ get_or cells i 0
      → (p : ℕ) × (p < length bound) × (get_or bound p 0 ≡ get_or cells i 0)
