-- Constraints in another order.
--   Ordering      what choosing the next constraint asks
--   swapped       the number of the constraint that comes to stand at a position when two change positions
--   Swapped       two constraints change positions
--   Reordered     the same constraints, in any order
-- Assumes nothing.
use Rattle.std.specs.Prelude.{◌≡◌, ℕ, ◌+◌, ◌*◌, ◌<◌, ◌≤◌, cond, List, length, ◌==◌, slice_index}
use Rattle.semantics.specs.Variants.{SameMultiset}
use Rattle.tables.specs.Cells.{cell_constraints}
use Rattle.colours.specs.Bounds.{TermsBelow}

-- n constraints, of which those before k are placed, and m marks for their terms
pub record Ordering (cells : List ℕ) (k n m : ℕ) : Type 0 where
  pub size : length cells ≡ 5 * n
  pub within : k ≤ n
  pub terms : TermsBelow m cells

-- which constraint stands at position k where i and j changed places
unfoldable pub swapped : ℕ → ℕ → ℕ → ℕ
swapped i j k = cond (k == i) j (cond (k == j) i k)

-- two constraints change positions
pub record Swapped (i j : ℕ) (cells cells' : List ℕ) : Type 0 where
  pub at : (k c : ℕ) → c < 5 → slice_index cells' (5 * k + c) ≡ slice_index cells (5 * swapped i j k + c)

-- the same constraints, with the same terms
pub record Reordered (cells cells' : List ℕ) : Type 0 where
  pub same : SameMultiset ◌≡◌ (cell_constraints cells') (cell_constraints cells)
  pub below : (m : ℕ) → TermsBelow m cells → TermsBelow m cells'
