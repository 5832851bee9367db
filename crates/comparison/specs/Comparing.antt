-- Two final states in cells, and what their comparison asks.
--   Side          one of the two states: its sizes, and room for its variables
--   Alike         what comparing cells promises
--   BothNumbered  two states with their variables numbered by first appearance
-- Assumes nothing.
use Rattle.std.specs.Prelude.{ℕ, ◌*◌, ◌≤◌, Bool, true, false, List, ◌≡◌, length}
use Rattle.text.specs.Lists.{every}
use Rattle.tables.specs.Cells.{cell_constraints}
use Rattle.tables.specs.Cells.{is_low}
use Rattle.colours.specs.Bounds.{Below}
use Rattle.colours.specs.Classes.{Colourable}
use Rattle.colours.specs.Numbering.{Ascending}

-- a state of n constraints, at most 512, whose symbols are ones that there can be. Goal variables are at most 28, and each
-- firing makes
-- at most 26 new ones
pub record Side (cells : List ℕ) (n : ℕ) (bound : List ℕ) : Type 0 where
  pub size : length cells ≡ 5 * n
  pub few : n ≤ 512
  pub low : every is_low (cell_constraints cells) ≡ true
  pub below : Below 13596 cells
  pub bound-few : length bound ≤ 28
  pub bound-below : Below 13596 bound

-- two lists that are found to be the same are, and others are not
pub record Alike (r : Bool) (a b : List ℕ) : Type 0 where
  pub same : r ≡ true → a ≡ b
  pub apart : r ≡ false → a ≡ b → ⊥

-- two states of n constraints whose cells lie below a size, what the goal variables became being numbered by first appearance,
-- in the first state up to a limit
pub record BothNumbered (a f b g : List ℕ) (n limit size : ℕ) : Type 0 where
  pub first : Colourable a f size n
  pub second : Colourable b g size n
  pub bounds : length f ≡ length g
  pub few : n ≤ 512
  pub ascending : Ascending 256 f limit
  pub limit-second : ℕ
  pub ascending-second : Ascending 256 g limit-second
