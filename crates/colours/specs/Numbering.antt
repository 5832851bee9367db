-- Variables numbered anew by first appearance.
--   Renames            the renaming of a table of numbers
--   Numbering          a table that gives different variables different numbers
--   Ascending          numbers by first appearance: each is known, or it is the next one
--   WithinSize         what comparing cells with a size promises
--   Numbered, CellsNumbered, Renumbered      what numbering promises
-- Assumes nothing.
use Rattle.std.specs.Prelude.{◌≡◌, ℕ, suc, ◌+◌, ◌<◌, ◌≤◌, Bool, true, List, [], ◌∷◌, length, ◌≢◌, slice_index}
use Rattle.semantics.specs.Variants.{TermVariant}
use Rattle.tables.specs.Cells.{cell_term}
use Rattle.colours.specs.Bounds.{Below}

-- the renaming of a table: the cell of a variable has that of its new number, and 0 where it has none
abbrev pub Renames : List ℕ → ℕ → ℕ → Type 0
Renames numbers x y = slice_index numbers (x + 256) ≡ y + 256

-- different variables have different numbers, all of them below the next
pub record Numbering (numbers : List ℕ) (next : ℕ) : Type 0 where
  pub low : 256 ≤ next
  pub below : (x : ℕ) → slice_index numbers x < next
  pub high : (x : ℕ) → (slice_index numbers x ≢ 0) → 256 ≤ slice_index numbers x
  pub one : (x y : ℕ) → slice_index numbers x ≡ slice_index numbers y → (slice_index numbers x ≢ 0) → x ≡ y

-- cells numbered by first appearance: each lies below the next number, or is the next number, which then grows
pub data Ascending : ℕ → List ℕ → ℕ → Type 0 where
  none : {next : ℕ} → Ascending next [] next
  known : {next end x : ℕ} {l : List ℕ} → x < next → Ascending next l end → Ascending next (x ∷ l) end
  new : {next end x : ℕ} {l : List ℕ} → x ≡ next → Ascending (suc next) l end → Ascending next (x ∷ l) end

-- cells that are found to lie below a size do
pub record WithinSize (r : Bool) (size : ℕ) (cells : List ℕ) : Type 0 where
  pub below : r ≡ true → Below size cells

-- one cell has its number
pub record Numbered (x y : ℕ) (numbers : List ℕ) (next : ℕ) (numbers' : List ℕ) (next' : ℕ) : Type 0 where
  pub numbering : Numbering numbers' next'
  pub kept : (z : ℕ) → (slice_index numbers z ≢ 0) → slice_index numbers' z ≡ slice_index numbers z
  pub same : TermVariant (Renames numbers') (cell_term x) (cell_term y)
  pub constant : x < 256 → y ≡ x
  pub ascending : Ascending next (y ∷ []) next'
  pub below : y < next'
  pub least : next ≤ next'
  pub most : next' ≤ next + 1

-- all cells have theirs
pub record CellsNumbered (cells out numbers : List ℕ) (next : ℕ) (numbers' : List ℕ) (next' : ℕ) : Type 0 where
  pub numbering : Numbering numbers' next'
  pub kept : (z : ℕ) → (slice_index numbers z ≢ 0) → slice_index numbers' z ≡ slice_index numbers z
  pub same : (i : ℕ) → i < length cells → TermVariant (Renames numbers') (cell_term (slice_index cells i)) (cell_term (slice_index out i))
  pub constant : (i : ℕ) → slice_index cells i < 256 → slice_index out i ≡ slice_index cells i
  pub ascending : Ascending next out next'
  pub below : (i : ℕ) → slice_index out i < next'
  pub least : next ≤ next'
  pub most : next' ≤ next + length cells

-- a state has its variables numbered anew, by one table: what the goal variables became first
pub record Renumbered (cells bound out bound' : List ℕ) (limit next : ℕ) : Type 0 where
  pub numbers : List ℕ
  pub numbering : Numbering numbers next
  pub same : (i : ℕ) → i < length cells → TermVariant (Renames numbers) (cell_term (slice_index cells i)) (cell_term (slice_index out i))
  pub same-bound :
      (i : ℕ) → i < length bound → TermVariant (Renames numbers) (cell_term (slice_index bound i)) (cell_term (slice_index bound' i))
  pub constant : (i : ℕ) → slice_index cells i < 256 → slice_index out i ≡ slice_index cells i
  pub ascending : Ascending 256 bound' limit
  pub below : (i : ℕ) → slice_index out i < next
  pub bound-below : (i : ℕ) → slice_index bound' i < next
  pub most : next ≤ 256 + length bound + length cells
