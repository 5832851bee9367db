-- The weight of a term in constraints: a number that goes by the columns where it stands, which a renaming cannot change.
--   plus, tripled            in 16 bits
--   weighed, weight_in        a term's weight in terms, and in constraints
--   free_weight               the weight of a cell that is none of those already paired
--   RowWeighed, Weighed      what weighing a constraint, and all constraints, promises
--   Lightened                weights of chosen cells set to zero
--   Free                     a table of the weights of cells that are not paired yet
-- Assumes nothing.
use Rattle.std.specs.Prelude.{◌≡◌, ℕ, ◌+◌, ◌%◌, ◌^◌, cond, List, [], ◌∷◌, slice_index}
use Rattle.text.specs.Lists.{has}
use Rattle.semantics.specs.Terms.{Term, Constraint, same_term}
use Rattle.tables.specs.Cells.{cell_term, cell_terms, cell_constraints}

-- a sum in 16 bits
unfoldable pub plus : ℕ → ℕ → ℕ
plus a b = (a + b) % 2 ^ 16

-- three times a number, in 16 bits
unfoldable pub tripled : ℕ → ℕ
unfolding plus
tripled f = plus (plus f f) f

-- the weight of a term in terms, added to a number: f for the first column, and three times as much for each next one
unfoldable pub weighed : Term → ℕ → List Term → ℕ → ℕ
weighed t f [] w = w
weighed t f (u ∷ us) w = weighed t (tripled f) us (cond (same_term t u) (plus w f) w)

-- its weight in constraints, added to a number
unfoldable pub weight_in : Term → List Constraint → ℕ → ℕ
weight_in t [] w = w
weight_in t (c ∷ cs) w = weight_in t cs (weighed t 1 c.terms w)

-- the weight of a cell in constraints, and 0 for a cell among those already paired
unfoldable pub free_weight : List ℕ → List Constraint → ℕ → ℕ
free_weight paired cs x = cond (has x paired) 0 (weight_in (cell_term x) cs 0)

-- a table of weights, by cells, after terms were weighed
pub record RowWeighed (terms weights weights' : List ℕ) : Type 0 where
  pub at : (x : ℕ) → slice_index weights' x ≡ weighed (cell_term x) 1 (cell_terms terms) (slice_index weights x)

-- and after constraints were weighed
pub record Weighed (cells weights weights' : List ℕ) : Type 0 where
  pub at : (x : ℕ) → slice_index weights' x ≡ weight_in (cell_term x) (cell_constraints cells) (slice_index weights x)

-- weights of chosen cells are set to zero
pub record Lightened (chosen weights weights' : List ℕ) : Type 0 where
  pub at : (x : ℕ) → slice_index weights' x ≡ cond (has x chosen) 0 (slice_index weights x)

-- a table of the weights of all cells in constraints, but for those already paired
pub record Free (paired cells weights : List ℕ) : Type 0 where
  pub at : (x : ℕ) → slice_index weights x ≡ free_weight paired (cell_constraints cells) x
