-- Constraints of cells with nothing behind their last terms.
--   Ended        a constraint that has only 0 behind a 0
--   RowEnded     one constraint is made so
--   Tidied       all of them are
-- Assumes nothing.
use Rattle.std.specs.Prelude.{ℕ, ◌+◌, ◌*◌, ◌<◌, List, ◌≡◌, get_or}
use Rattle.tables.specs.Cells.{cell_constraints}

-- constraint i, five cells to each, has only 0 behind a 0 among its terms
pub record Ended (cells : List ℕ) (i : ℕ) : Type 0 where
  pub zero : (j : ℕ) → j < 3 → get_or cells (5 * i + (1 + j)) 0 ≡ 0 → get_or cells (5 * i + (2 + j)) 0 ≡ 0

-- constraint i is made so: the constraints are the same, and those before it remain so
pub record RowEnded (i : ℕ) (cells cells' : List ℕ) : Type 0 where
  pub same : cell_constraints cells' ≡ cell_constraints cells
  pub ended : Ended cells' i
  pub others : (k : ℕ) → k < i → Ended cells k → Ended cells' k

-- all n are made so
pub record Tidied (n : ℕ) (cells cells' : List ℕ) : Type 0 where
  pub same : cell_constraints cells' ≡ cell_constraints cells
  pub ended : (i : ℕ) → i < n → Ended cells' i
