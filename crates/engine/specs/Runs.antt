-- What the derivation asks and promises.
--   Lowers               a weighing that every rule lowers
--   Live, Stepped        one firing of the strategy
--   Runnable             constraints from which the strategy comes to an end
--   Startable, Ended     the derivation to its end
--   Continued            the same, from a number of firings
--   Keeps                a firing keeps what is known of rules that fit nowhere, and the tally
-- Assumes nothing.
use Rattle.std.specs.Prelude.{ℕ, ◌+◌, ◌*◌, ◌≤◌, ◌<◌, Bool, true, false, cond, List, [], map, ◌≡◌, length, take}
use Rattle.std.proofs.Math.Option.{none, some}
use Rattle.text.specs.Lists.{every}
use Rattle.semantics.specs.Terms.{Constraint, live, removed_heads, weight_by}
use Rattle.semantics.specs.Strategy.{advance, normalise}
use Rattle.tables.specs.Layout.{constraint_size}
use Rattle.tables.specs.Cells.{cell_term, cell_constraints, is_low, state_of}
use Rattle.tables.specs.Rows.{rule_of_row, rules_of, row_of}
use Rattle.tallies.specs.Symbols.{Tallied}
use Rattle.fitting.specs.Known.{Knows}
use Rattle.fitting.specs.Positions.{Table}

-- a weighing under which what every rule removes weighs more than its body
pub record Lowers (w : ℕ → ℕ) (rules : List ℕ) (n : ℕ) : Type 0 where
  pub falls :
      (i : ℕ) → i < n
      → weight_by w (rule_of_row [] (row_of rules i)).body < weight_by w (removed_heads (rule_of_row [] (row_of rules i)))

-- the constraints of a live state of m constraints
unfoldable pub store_of : List ℕ → ℕ → List Constraint
store_of cells m = cell_constraints (take (constraint_size * m) cells)

-- a live state that a rule of the table can fire in
pub record Live (rules : List ℕ) (n : ℕ) (cells : List ℕ) (m next : ℕ) : Type 0 where
  pub table : Table rules n
  pub space : constraint_size * m + 30 ≤ length cells
  pub room : next ≤ 65000
  pub low : every is_low (store_of cells m) ≡ true

-- the state after the strategy's firing, or the same state where no rule fits
pub record Stepped (rules : List ℕ) (n : ℕ) (bound cells : List ℕ) (m next : ℕ) (bound' cells' : List ℕ)
    (fired alive : Bool) (count : ℕ) : Type 0 where
  pub rests :
      fired ≡ false
      → (bound' ≡ bound) × (cells' ≡ cells)
      × ((names : List ℕ) → advance (rules_of names rules n) (live next (map cell_term bound) (store_of cells m)) ≡ none)
  pub moves :
      fired ≡ true
      → (names : List ℕ)
      → advance (rules_of names rules n) (live next (map cell_term bound) (store_of cells m))
      ≡ some (state_of alive (next + 26) bound' (take (constraint_size * count) cells'))
  pub lighter :
      fired ≡ true → (w : ℕ → ℕ) → Lowers w rules n → cond alive (weight_by w (store_of cells' count)) 0 < weight_by w
      (store_of cells m)
  pub low : fired ≡ true → alive ≡ true → every is_low (store_of cells' count) ≡ true
  pub few : count ≤ m + 6

-- constraints from which the strategy comes to an end within the arrays: rules that the engine runs, symbols that there can be,
-- and a weighing of at most 512 that every rule lowers
pub record Runnable (rules : List ℕ) (n : ℕ) (cs : List Constraint) : Type 0 where
  pub table : Table rules n
  pub low : every is_low cs ≡ true
  pub weigh : ℕ → ℕ
  pub positive : (k : ℕ) → 1 ≤ weigh k
  pub lowers : Lowers weigh rules n
  pub light : weight_by weigh cs ≤ 512

-- what the derivation asks: room for 518 constraints and for 512 times 26 variables
pub record Startable (rules : List ℕ) (n : ℕ) (cells : List ℕ) (m next : ℕ) : Type 0 where
  pub runs : Runnable rules n (store_of cells m)
  pub space : 2590 ≤ length cells
  pub there : m ≤ 518
  pub room : next ≤ 51000

-- the end of the derivation and its firings, which are no more than the weight
pub record Ended (rules : List ℕ) (n : ℕ) (bound cells : List ℕ) (m next : ℕ) (bound' cells' : List ℕ)
    (alive : Bool) (count number firings : ℕ) : Type 0 where
  pub same :
      (names : List ℕ) (fuel : ℕ) → firings ≤ fuel
      → record { state = state_of alive number bound' (take (constraint_size * count) cells'); firings = firings }
      ≡ normalise fuel (rules_of names rules n) (live next (map cell_term bound) (store_of cells m)) 0
  pub bounded : (w : ℕ → ℕ) → Lowers w rules n → firings ≤ weight_by w (store_of cells m)
  pub few : alive ≡ true → count ≤ 512

-- the same end for a state that took `before` firings already, which count
pub record Continued (rules : List ℕ) (n : ℕ) (bound cells : List ℕ) (m next before : ℕ) (bound' cells' : List ℕ)
    (alive : Bool) (count number firings : ℕ) : Type 0 where
  pub same :
      (names : List ℕ) (fuel : ℕ) → firings ≤ before + fuel
      → record { state = state_of alive number bound' (take (constraint_size * count) cells'); firings = firings }
      ≡ normalise fuel (rules_of names rules n) (live next (map cell_term bound) (store_of cells m)) before
  pub bounded : (w : ℕ → ℕ) → Lowers w rules n → firings ≤ before + weight_by w (store_of cells m)
  pub few : alive ≡ true → count ≤ 512

-- where a rule has fired and the state lives, the tables are those of the new state, and its tally equals a fresh count
pub record Keeps (rules : List ℕ) (n : ℕ) (known' last' table' : List ℕ) (gone' : ℕ) (cells' : List ℕ) (fired alive : Bool)
    (count : ℕ) : Type 0 where
  pub knows : fired ≡ true → alive ≡ true → Knows rules n known' last' gone' (store_of cells' count)
  pub tallies : fired ≡ true → alive ≡ true → Tallied table' (store_of cells' count)
