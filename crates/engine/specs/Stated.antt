-- Matching and firing at stated positions.
--   match_row, fire_row      the definitions, for a rule's row and the cells of a goal
--   Stated                 what firing asks
--   has_fired, lives, count_in    what firing came to
--   FiredFrom              what it promises
-- Assumes nothing.
use Rattle.std.specs.Prelude.{ℕ, ◌+◌, ◌*◌, ◌≤◌, ◌<◌, Bool, true, false, cond, List, [], map, ◌≡◌, length, take, get_or}
use Rattle.std.proofs.Math.Option.{Option, none, some}
use Rattle.text.specs.Lists.{every}
use Rattle.semantics.specs.Terms.{State, live, removed_heads, weight_by}
use Rattle.semantics.specs.Matching.{Assignment, match_at}
use Rattle.semantics.specs.Firing.{fire_at}
use Rattle.tables.specs.Layout.{constraint_size, heads_cell}
use Rattle.tables.specs.Cells.{cell_term, cell_constraints, is_low, state_of}
use Rattle.tables.specs.Rows.{rule_of_row}
use Rattle.fitting.specs.Cells.{assigned}
use Rattle.fitting.specs.Positions.{Row}
use Rattle.engine.specs.declared.stated.Step.{Step}
use Rattle.engine.specs.declared.stated.Step.TheVariants.{Rests, Failed, Lives}
use Rattle.engine.specs.Runs.{store_of}

-- as many of the positions as a rule has heads
abbrev pub stated_at : List ℕ → List ℕ → List ℕ
stated_at row positions = take (get_or row heads_cell 0) positions

-- the heads of a rule against the constraints at its positions, under bindings
unfoldable pub match_row : List ℕ → List ℕ → List ℕ → List ℕ → Option Assignment
match_row row positions cells bindings =
    match_at (rule_of_row [] row).heads (stated_at row positions) (cell_constraints cells) [] (assigned bindings)

-- a rule of some name fired at its positions in the live state of a goal's constraints
unfoldable pub fire_row : List ℕ → List ℕ → List ℕ → ℕ → List ℕ → List ℕ → Option State
fire_row name row positions next bound goal =
    fire_at (rule_of_row name row) (stated_at row positions) (live next (map cell_term bound) (cell_constraints goal))

-- what firing at stated positions asks: a rule, room for four positions, a goal of m constraints, and room for six more
pub record Stated (row positions : List ℕ) (next : ℕ) (goal : List ℕ) (m : ℕ) (cells : List ℕ) : Type 0 where
  pub given : Row row
  pub positions-size : length positions ≡ 4
  pub room : next ≤ 65000
  pub size : length goal ≡ constraint_size * m
  pub space : constraint_size * m + 30 ≤ length cells
  pub low : every is_low (cell_constraints goal) ≡ true

-- what firing came to: whether the rule fired, whether the state lives then, and with how many constraints
abbrev pub has_fired : Step → Bool
has_fired Rests = false
has_fired Failed = true
has_fired (Lives count) = true

abbrev pub lives : Step → Bool
lives Rests = true
lives Failed = false
lives (Lives count) = true

abbrev pub count_in : Step → ℕ
count_in Rests = 0
count_in Failed = 0
count_in (Lives count) = count

-- the state after firing, whatever the rule's name is, or the goal's where the rule does not fit there
pub record FiredFrom (row positions : List ℕ) (next : ℕ) (bound goal : List ℕ) (m : ℕ) (bound' cells' : List ℕ)
    (fired alive : Bool) (count : ℕ) : Type 0 where
  pub rests :
      fired ≡ false
      → (bound' ≡ bound) × (store_of cells' m ≡ cell_constraints goal)
      × ((name : List ℕ) → fire_row name row positions next bound goal ≡ none)
  pub moves :
      fired ≡ true
      → (name : List ℕ) → fire_row name row positions next bound goal
      ≡ some (state_of alive (next + 26) bound' (take (constraint_size * count) cells'))
  pub lighter :
      fired ≡ true
      → (w : ℕ → ℕ) → weight_by w (rule_of_row [] row).body < weight_by w (removed_heads (rule_of_row [] row))
      → cond alive (weight_by w (store_of cells' count)) 0 < weight_by w (cell_constraints goal)
  pub low : fired ≡ true → alive ≡ true → every is_low (store_of cells' count) ≡ true
  pub few : count ≤ m + 6
