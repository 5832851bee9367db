-- A constraint of a list of cells, by its number. Assumes nothing.
use Rattle.std.specs.Prelude.{ℕ, ◌+◌, ◌*◌, List, [], ◌∷◌, slice_index, slice_index_or}
use Rattle.semantics.specs.Terms.{Constraint}
use Rattle.tables.specs.Cells.{cell_terms}

-- constraint i of cells, five to each
unfoldable pub row_of : List ℕ → ℕ → Constraint
row_of cells i =
    record {
      symbol = slice_index cells (5 * i);
      terms = cell_terms (slice_index cells (5 * i + 1) ∷ slice_index cells (5 * i + 2) ∷ slice_index cells (5 * i + 3) ∷ slice_index_or cells
          (5 * i + 4) 0 ∷ []);
    }
