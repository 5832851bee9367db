-- Cells below a number.
--   Below         all cells
--   TermsBelow    the terms of constraints
-- Assumes nothing.
use Rattle.std.specs.Prelude.{ℕ, ◌+◌, ◌*◌, ◌<◌, List, slice_index}

-- every cell lies below n
pub record Below (n : ℕ) (cells : List ℕ) : Type 0 where
  pub below : (i : ℕ) → slice_index cells i < n

-- every term of a list of constraints, five cells to each, lies below n
pub record TermsBelow (n : ℕ) (cells : List ℕ) : Type 0 where
  pub below : (i j : ℕ) → j < 4 → slice_index cells (5 * i + (1 + j)) < n
