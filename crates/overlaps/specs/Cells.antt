-- How joined heads stand in cells, five to a head.
--   joined_of          what joining answers
--   terms_from         the terms of cells from an index on
--   Heads, Partner    what joining asks
--   Unjoined          the goal's heads
--   heads_of           the heads of two rules, before they are joined
-- Assumes nothing.
use Rattle.std.specs.Prelude.{ℕ, ◌+◌, ◌*◌, ◌≤◌, ◌<◌, Bool, true, cond, List, [], ◌++◌, map, ◌≡◌, length, take, drop, get_or}
use Rattle.std.proofs.Math.Option.{Option, none, some}
use Rattle.text.specs.Lists.{every}
use Rattle.semantics.specs.Terms.{Term, Constraint, map_terms}
use Rattle.semantics.specs.Overlaps.{unjoined_heads, apart}
use Rattle.tables.specs.Layout.{constraint_size, heads_cell}
use Rattle.tables.specs.Cells.{cell_terms, cell_constraints, is_low}
use Rattle.tables.specs.Rows.{rule_of_row}
use Rattle.fitting.specs.Positions.{Row}

-- what joining answers: whether the heads unify, and if so all heads then
unfoldable pub joined_of : Bool → List ℕ → Option (List Constraint)
joined_of unify cells = cond unify (some (cell_constraints cells)) none

-- the terms of k cells from an index on
unfoldable pub terms_from : List ℕ → ℕ → ℕ → List Term
terms_from cells at k = cell_terms (take k (drop at cells))

-- what joining the heads at two indices asks: all symbols are ones that there can be
pub record Heads (cells : List ℕ) (a b : ℕ) : Type 0 where
  pub low : every is_low (cell_constraints cells) ≡ true
  pub first : a + constraint_size ≤ length cells
  pub second : b + constraint_size ≤ length cells

-- what joining head h to partner d asks: there are such heads, and partners for the heads before
pub record Partner (cells : List ℕ) (m : ℕ) (partners : List ℕ) (h d : ℕ) : Type 0 where
  pub low : every is_low (cell_constraints cells) ≡ true
  pub first : h < m
  pub few : m ≤ 4
  pub second : constraint_size * (m + d) ≤ length cells
  pub partners-size : length partners ≡ 4

-- k heads are left: the m of the first rule, and those of the second's n that the partners leave alone
pub record Unjoined (m n : ℕ) (ds cells cells' : List ℕ) (k : ℕ) : Type 0 where
  pub few : k ≤ m + n
  pub same :
      cell_constraints (take (constraint_size * k) cells')
      ≡ take m (cell_constraints cells) ++ unjoined_heads 1 (drop m (cell_constraints cells)) ds

-- a rule's row whose heads can be joined: their symbols are ones that there can be
pub record RuleRow (row : List ℕ) : Type 0 where
  pub given : Row row
  pub low : every is_low (rule_of_row [] row).heads ≡ true

-- two such rows, and cells for all their heads
pub record RulePair (first second cells : List ℕ) : Type 0 where
  pub first-row : RuleRow first
  pub second-row : RuleRow second
  pub size : length cells ≡ constraint_size * (get_or first heads_cell 0 + get_or second heads_cell 0)

-- the heads of two rules, the second renamed apart
unfoldable pub heads_of : List ℕ → List ℕ → List Constraint
heads_of first second = (rule_of_row [] first).heads ++ map (map_terms apart) (rule_of_row [] second).heads
