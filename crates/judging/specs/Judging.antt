-- Judging an overlap: its two sides are run to their ends, and these are compared.
--   Stands                    the overlap that numbers of rules, positions and a goal's cells stand for
--   Overlapping               what judging asks
--   Lent                      the same, with cells for both ends
--   BothBegun, BothEnded      both sides after their own firings, and at their ends
--   Stepped, SameStep         whether they are in the same state then
--   end_in, LiveEnd, EndOf     an end in cells
--   Joins, PeakJoins          what judging promises
-- Assumes nothing.
use Rattle.std.specs.Prelude.{ℕ, ◌*◌, ◌≤◌, ◌<◌, Bool, true, is_some, unwrap_or, List, [], ◌∷◌, map, ◌≡◌, length, take}
use Rattle.text.specs.Lists.{every}
use Rattle.semantics.specs.Terms.{Program, is_below, is_goal_of, is_well_formed}
use Rattle.semantics.specs.Strategy.{Final}
use Rattle.semantics.specs.Overlaps.{Overlap, second_positions, first_end, second_end}
use Rattle.semantics.specs.Verdict.{is_joinable}
use Rattle.tables.specs.Layout.{constraint_size}
use Rattle.tables.specs.Cells.{cell_term, cell_constraints, state_of}
use Rattle.tables.specs.Numbers.{is_within, Renumberable}
use Rattle.tables.specs.Rows.{rule_of, rules_of, row_of}
use Rattle.engine.specs.Runs.{Runnable}
use Rattle.engine.specs.Stated.{stated_at, has_fired, lives, count_in}
use Rattle.sides.specs.Sides.{cell_goal, Begun}
use Rattle.judging.specs.declared.Peak.{Peak}
use Rattle.judging.specs.declared.Steps.{Steps}
use Rattle.judging.specs.declared.Ends.{Ends}

-- an overlap of rules i and j of a program whose rules are the n of a table: its goal has v variables, and the positions are the
-- second rule's
pub record Stands (p : Program) (names rules : List ℕ) (n i j : ℕ) (positions : List ℕ) (v : ℕ) (goal : List ℕ) (o : Overlap)
    : Type 0 where
  pub whole : p.rules ≡ rules_of names rules n
  pub well-formed : is_well_formed p ≡ true
  pub same-goal : o.goal ≡ cell_goal v goal
  pub first : o.first.rule ≡ rule_of names rules i
  pub second : o.second.rule ≡ rule_of names rules j
  pub places :
      stated_at (row_of rules j) positions
      ≡ second_positions 1 (length o.first.rule.heads) (length o.second.rule.heads) o.partners

-- what judging asks: two rules of a table, four positions, a goal of m constraints and at most 28 variables over the symbols of a
-- program with these rules, and that the strategy comes to an end from it
pub record Overlapping (rules : List ℕ) (n i j : ℕ) (positions : List ℕ) (m v : ℕ) (goal : List ℕ) : Type 0 where
  pub program : Program
  pub names : List ℕ
  pub whole : program.rules ≡ rules_of names rules n
  pub well-formed : is_well_formed program ≡ true
  pub few-symbols : length program.symbols ≤ 64
  pub is-goal : is_goal_of program (cell_goal v goal) ≡ true
  pub runs : Runnable rules n (cell_constraints goal)
  pub first : i < n
  pub second : j < n
  pub positions-size : length positions ≡ 4
  pub goal-size : length goal ≡ constraint_size * m
  pub variables : v ≤ 28

-- the same, with cells for what the goal variables become and for the constraints of each side
pub record Lent (rules : List ℕ) (peak : Peak) (goal bound₁ cells₁ bound₂ cells₂ : List ℕ) : Type 0 where
  pub overlapping :
      Overlapping rules peak.rules peak.first peak.second peak.positions peak.count peak.variables goal
  pub first-bound : length bound₁ ≡ peak.variables
  pub first-room : 2590 ≤ length cells₁
  pub second-bound : length bound₂ ≡ peak.variables
  pub second-room : 2590 ≤ length cells₂

-- both sides after their own firings
pub record BothBegun (rules : List ℕ) (peak : Peak) (goal : List ℕ) (steps : Steps) (bound₁ cells₁ bound₂ cells₂ : List ℕ)
    : Type 0 where
  pub first :
      Begun rules peak.first (0 ∷ 1 ∷ 2 ∷ 3 ∷ []) goal peak.count peak.variables bound₁ cells₁ (has_fired steps.first)
      (lives steps.first) (count_in steps.first)
  pub second :
      Begun rules peak.second peak.positions goal peak.count peak.variables bound₂ cells₂ (has_fired steps.second)
      (lives steps.second) (count_in steps.second)

-- two states of cells, with as many goal variables
pub record Stepped (steps : Steps) (bound₁ cells₁ bound₂ cells₂ : List ℕ) : Type 0 where
  pub bounds : length bound₁ ≡ length bound₂
  pub first : constraint_size * count_in steps.first ≤ length cells₁
  pub second : constraint_size * count_in steps.second ≤ length cells₂
  pub few : count_in steps.first ≤ 518

-- both sides fired, and what is found to be the same state is
pub record SameStep (r : Bool) (steps : Steps) (bound₁ cells₁ bound₂ cells₂ : List ℕ) : Type 0 where
  pub first : r ≡ true → has_fired steps.first ≡ true
  pub second : r ≡ true → has_fired steps.second ≡ true
  pub same :
      r ≡ true
      → (next : ℕ)
      → state_of (lives steps.first) next bound₁ (take (constraint_size * count_in steps.first) cells₁)
      ≡ state_of (lives steps.second) next bound₂ (take (constraint_size * count_in steps.second) cells₂)

-- an end and its firings, in cells
unfoldable pub end_in : Bool → ℕ → ℕ → ℕ → List ℕ → List ℕ → Final
end_in alive count next firings bound cells =
    record { state = state_of alive next bound (take (constraint_size * count) cells); firings = firings }

-- how many variables an end has at most: the goal's, and 26 for each of 512 firings
abbrev pub most_variables : ℕ
most_variables = 13340

-- an end that lives, of n constraints
pub record LiveEnd (cells : List ℕ) (n : ℕ) (bound : List ℕ) : Type 0 where
  pub size : length cells ≡ constraint_size * n
  pub few : n ≤ 512
  pub bound-few : length bound ≤ 28
  pub within : every (is_within most_variables) (cell_constraints cells) ≡ true
  pub bound-within : every (is_below most_variables) (map cell_term bound) ≡ true

-- one of the two ends of an overlap, in cells; where it lives, its variables can be numbered anew
pub record EndOf (end : Program → Overlap → Final) (rules : List ℕ) (n i j : ℕ) (positions : List ℕ) (v : ℕ) (goal : List ℕ)
    (alive : Bool) (count next firings : ℕ) (bound cells : List ℕ) : Type 0 where
  pub same :
      (p : Program) (names : List ℕ) (o : Overlap) → Stands p names rules n i j positions v goal o
      → end_in alive count next firings bound cells ≡ end p o
  pub live : alive ≡ true → LiveEnd (take (constraint_size * count) cells) count bound
  pub next-few : alive ≡ true → next ≤ most_variables
  pub numbered : alive ≡ true → Renumberable next bound (take (constraint_size * count) cells)
  pub counted : firings ≤ 512

-- both sides at their ends
pub record BothEnded (rules : List ℕ) (peak : Peak) (goal : List ℕ) (ends : Ends) (bound₁ cells₁ bound₂ cells₂ : List ℕ)
    : Type 0 where
  pub first :
      EndOf first_end rules peak.rules peak.first peak.second peak.positions peak.variables goal
      (is_some ends.first.count) (unwrap_or ends.first.count 0) ends.first.next ends.first.firings bound₁ cells₁
  pub second :
      EndOf second_end rules peak.rules peak.first peak.second peak.positions peak.variables goal
      (is_some ends.second.count) (unwrap_or ends.second.count 0) ends.second.next ends.second.firings bound₂ cells₂

-- whether the overlap joins
pub record Joins (rules : List ℕ) (n i j : ℕ) (positions : List ℕ) (v : ℕ) (goal : List ℕ) (joins : Bool) : Type 0 where
  pub same :
      (p : Program) (names : List ℕ) (o : Overlap) → Stands p names rules n i j positions v goal o → joins ≡ is_joinable p o

-- the same of a peak
abbrev pub PeakJoins : List ℕ → Peak → List ℕ → Bool → Type 0
PeakJoins rules peak goal joins =
    Joins rules peak.rules peak.first peak.second peak.positions peak.variables goal joins
