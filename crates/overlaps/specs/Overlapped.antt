-- Heads on the way to an overlap, and the overlap's goal.
--   Node             all heads of two rules, joined by the partners chosen so far
--   Finished         the goal made of them
--   AllJoined        all heads joined
--   OverlapMade, NoOverlap, OverlapOf      an overlap by its partners, or none
-- Assumes nothing.
use Rattle.std.specs.Prelude.{ℕ, ◌+◌, ◌*◌, ◌≤◌, ◌<◌, Bool, true, false, List, [], ◌≡◌, eqb, length, take, drop, get_or}
use Rattle.std.specs.Prelude.{Option, Some, None}
use Rattle.std.proofs.Math.Option.{none, some}
use Rattle.text.specs.Lists.{every}
use Rattle.semantics.specs.Terms.{Constraint}
use Rattle.semantics.specs.Overlaps.{is_one_to_one, unjoined_heads, Numbered, overlap_of}
use Rattle.tables.specs.Layout.{constraint_size, heads_cell}
use Rattle.tables.specs.Cells.{cell_constraints, is_low}
use Rattle.tables.specs.Rows.{rule_of_row}
use Rattle.tables.specs.Numbers.{is_within}
use Rattle.overlaps.specs.declared.finishing.Goal.{Goal}
use Rattle.overlaps.specs.Joins.{paired, goal_from}

-- how many variables two rules have: 26 letters each
abbrev pub letters : ℕ
letters = 52

-- all heads of two rules in cells, the first ones joined to the partners ds
pub record Node (hs gs : List Constraint) (ds cells : List ℕ) : Type 0 where
  pub same : paired hs ds gs ≡ some (cell_constraints cells)
  pub size : length cells ≡ constraint_size * (length hs + length gs)
  pub within : every (is_within letters) (cell_constraints cells) ≡ true
  pub first-few : length hs ≤ 4
  pub second-few : length gs ≤ 4

-- what making the goal asks: all heads of rules of m and n heads, and the partners
pub record Whole (cells : List ℕ) (m n : ℕ) (partners : List ℕ) : Type 0 where
  pub size : length cells ≡ constraint_size * (m + n)
  pub within : every (is_within letters) (cell_constraints cells) ≡ true
  pub first-few : m ≤ 4
  pub second-few : n ≤ 4
  pub partners-size : length partners ≡ 4

-- the goal of an overlap, in front of the cells
pub record Finished (cells : List ℕ) (m n : ℕ) (partners cells' : List ℕ) (count variables : ℕ) : Type 0 where
  pub goal :
      goal_from m (take m partners) (cell_constraints cells)
      ≡ record { variables = variables; constraints = cell_constraints (take (constraint_size * count) cells') }
  pub few : count ≤ m + n
  pub left : count ≡ m + length (unjoined_heads 1 (drop m (cell_constraints cells)) (take m partners))
  pub variables-few : variables ≤ 4 * count
  pub low : every is_low (cell_constraints (take (constraint_size * count) cells')) ≡ true

-- partners for the heads of a rule, each of them one of n
pub record Partners (partners : List ℕ) (m n : ℕ) : Type 0 where
  pub each : (h : ℕ) → h < m → get_or partners h 0 ≤ n

-- what joining all heads answers, whichever of the heads are the first rule's
pub record AllJoined (cells : List ℕ) (m n : ℕ) (partners : List ℕ) (unify : Bool) (cells' : List ℕ) : Type 0 where
  pub joins :
      unify ≡ true → (hs gs : List Constraint) → length hs ≡ m → length gs ≡ n → Node hs gs [] cells
      → Node hs gs (take m partners) cells'
  pub clashes :
      unify ≡ false → (hs gs : List Constraint) → length hs ≡ m → length gs ≡ n → Node hs gs [] cells
      → paired hs (take m partners) gs ≡ none
  pub size : length cells' ≡ length cells

-- the overlap of two rules by partners that join heads one to one, whatever the rules' names and numbers are; where a head has a
-- partner, its goal has fewer constraints than the rules have heads
pub record OverlapMade (first second partners cells : List ℕ) (count variables : ℕ) : Type 0 where
  pub same :
      (i j : Numbered) → i.rule.heads ≡ (rule_of_row [] first).heads → j.rule.heads ≡ (rule_of_row [] second).heads
      → is_one_to_one (take (get_or first heads_cell 0) partners) ≡ true
      → overlap_of i j (take (get_or first heads_cell 0) partners)
      ≡ some (record {
        first = i;
        second = j;
        partners = take (get_or first heads_cell 0) partners;
        goal = record { variables = variables; constraints = cell_constraints (take (constraint_size * count) cells) };
      })
  pub few : count ≤ 8
  pub within : count ≤ get_or first heads_cell 0 + get_or second heads_cell 0
  pub fewer :
      every (eqb 0) (take (get_or first heads_cell 0) partners) ≡ false
      → count < get_or first heads_cell 0 + get_or second heads_cell 0
  pub variables-few : variables ≤ 4 * count
  pub low : every is_low (cell_constraints (take (constraint_size * count) cells)) ≡ true

-- there is none by these partners
pub record NoOverlap (first second partners : List ℕ) : Type 0 where
  pub same :
      (i j : Numbered) → i.rule.heads ≡ (rule_of_row [] first).heads → j.rule.heads ≡ (rule_of_row [] second).heads
      → is_one_to_one (take (get_or first heads_cell 0) partners) ≡ true
      → overlap_of i j (take (get_or first heads_cell 0) partners) ≡ none

-- what making an overlap by its partners answers
abbrev pub OverlapOf : (first second partners cells : List ℕ) → Option Goal → Type 0
OverlapOf first second partners cells (Some g) = OverlapMade first second partners cells g.count g.variables
OverlapOf first second partners cells None = NoOverlap first second partners
