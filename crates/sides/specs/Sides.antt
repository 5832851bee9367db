-- A side of an overlap: its goal enters, a rule fires at its positions, and the strategy follows to the end.
--   cell_goal                     a goal from its cells
--   Sidable                      what a side asks
--   Beginnable, Begun            its own firing
--   SideTallying, SideTallied    the tally by symbol after that
--   Followable, Followed         from there to its end
--   Sided                        what it promises: the end that `side_end` defines
-- Assumes nothing.
use Rattle.std.specs.Prelude.{ℕ, ◌+◌, ◌*◌, ◌≤◌, ◌<◌, Bool, true, false, cond, List, [], map, ◌≡◌, eqb, length, take}
use Rattle.std.proofs.Math.Option.{none, some}
use Rattle.text.specs.Lists.{every, tabled}
use Rattle.semantics.specs.Terms.{var, Program, Goal, is_well_formed, removed_heads, weight_by}
use Rattle.semantics.specs.Firing.{fire_at}
use Rattle.semantics.specs.Strategy.{goal_state}
use Rattle.semantics.specs.Overlaps.{side_end}
use Rattle.semantics.specs.Tally.{tally_of, exchanged}
use Rattle.tables.specs.Layout.{max_symbols, constraint_size}
use Rattle.tables.specs.Cells.{cell_term, cell_constraints, is_low, state_of}
use Rattle.tables.specs.Rows.{rule_of_row, rule_of, rules_of, row_of}
use Rattle.tallies.specs.Symbols.{tallied}
use Rattle.fitting.specs.Positions.{Row}
use Rattle.engine.specs.Runs.{Lowers, store_of, Runnable, Startable}
use Rattle.engine.specs.Stated.{stated_at}

-- a goal of v variables, from the cells of its constraints
unfoldable pub cell_goal : ℕ → List ℕ → Goal
cell_goal v cells = record { variables = v; constraints = cell_constraints cells }

-- what a side asks: rule i of the table, four positions, the cells of m constraints from which the strategy comes to an end, a
-- number of variables, and room for 518 constraints
pub record Sidable (rules : List ℕ) (n i : ℕ) (positions goal : List ℕ) (m v : ℕ) (cells : List ℕ) : Type 0 where
  pub rule : i < n
  pub positions-size : length positions ≡ 4
  pub goal-size : length goal ≡ constraint_size * m
  pub runs : Runnable rules n (cell_constraints goal)
  pub variables : v ≤ 50000
  pub space : 2590 ≤ length cells

-- what a side's own firing asks: the table has some number of rules
pub record Beginnable (rules : List ℕ) (i : ℕ) (positions goal : List ℕ) (m v : ℕ) (cells : List ℕ) : Type 0 where
  pub count : ℕ
  pub side : Sidable rules count i positions goal m v cells

-- the state after it, whatever the rule's name is, or the goal's where the rule does not fit there
pub record Begun (rules : List ℕ) (i : ℕ) (positions goal : List ℕ) (m v : ℕ) (bound cells : List ℕ)
    (fired alive : Bool) (count : ℕ) : Type 0 where
  pub rests :
      fired ≡ false
      → (map cell_term bound ≡ tabled var v) × (store_of cells m ≡ cell_constraints goal)
      × ((names : List ℕ)
      → fire_at (rule_of names rules i) (stated_at (row_of rules i) positions) (goal_state (cell_goal v goal)) ≡ none)
  pub moves :
      fired ≡ true
      → (names : List ℕ)
      → fire_at (rule_of names rules i) (stated_at (row_of rules i) positions) (goal_state (cell_goal v goal))
      ≡ some (state_of alive (v + 26) bound (take (constraint_size * count) cells))
  pub lighter :
      fired ≡ true
      → (w : ℕ → ℕ)
      → weight_by w (rule_of_row [] (row_of rules i)).body < weight_by w (removed_heads (rule_of_row [] (row_of rules i)))
      → cond alive (weight_by w (store_of cells count)) 0 < weight_by w (cell_constraints goal)
  pub low : fired ≡ true → alive ≡ true → every is_low (store_of cells count) ≡ true
  pub few : count ≤ m + 6

-- what the tally of a side asks: a rule, a goal of m constraints, and a table of all symbols that has none
pub record SideTallying (row goal : List ℕ) (m : ℕ) (table : List ℕ) : Type 0 where
  pub given : Row row
  pub goal-size : length goal ≡ constraint_size * m
  pub low : every is_low (cell_constraints goal) ≡ true
  pub few : m ≤ 600
  pub size : length table ≡ max_symbols
  pub zeros : every (eqb 0) table ≡ true

-- the goal's constraints entered, and the rule fired
pub record SideTallied (row goal table' : List ℕ) : Type 0 where
  pub same : (s : ℕ) → tallied table' s ≡ exchanged (rule_of_row [] row) (tally_of (cell_constraints goal)) s

-- what following asks: the side of rule i began so, at some positions of a goal of m constraints; where the state lives, the
-- strategy comes to an end from it
pub record Followable (rules : List ℕ) (n i : ℕ) (goal : List ℕ) (m v : ℕ) (bound cells : List ℕ) (fired alive : Bool) (count : ℕ)
    : Type 0 where
  pub rule : i < n
  pub positions : List ℕ
  pub begun : Begun rules i positions goal m v bound cells fired alive count
  pub goal-size : length goal ≡ constraint_size * m
  pub low : every is_low (cell_constraints goal) ≡ true
  pub starts : fired ≡ true → alive ≡ true → Startable rules n cells count (v + 26)
  pub few : m ≤ 512
  pub variables : v ≤ 50000

-- the end of a side and its firings, in every well-formed program with these rules
pub record Sided (rules : List ℕ) (n i : ℕ) (positions goal : List ℕ) (v : ℕ) (bound' cells' : List ℕ)
    (alive : Bool) (count number firings : ℕ) : Type 0 where
  pub same :
      (p : Program) (names : List ℕ) → p.rules ≡ rules_of names rules n → is_well_formed p ≡ true
      → record { state = state_of alive number bound' (take (constraint_size * count) cells'); firings = firings }
      ≡ side_end p (cell_goal v goal) (rule_of names rules i) (stated_at (row_of rules i) positions)
  pub bounded : (w : ℕ → ℕ) → Lowers w rules n → firings ≤ weight_by w (cell_constraints goal)
  pub few : alive ≡ true → count ≤ 512

-- the end of every side that began so
pub record Followed (rules : List ℕ) (n m v : ℕ) (bound cells : List ℕ) (fired alive : Bool) (count : ℕ) (bound' cells' : List ℕ)
    (lives : Bool) (k number firings : ℕ) : Type 0 where
  pub ended :
      (i : ℕ) (positions goal : List ℕ) → i < n → Begun rules i positions goal m v bound cells fired alive count
      → Sided rules n i positions goal v bound' cells' lives k number firings
