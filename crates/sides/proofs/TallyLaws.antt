-- The tally of a side after its own firing equals a fresh count.
--   goal-raises, goal-raised              the goal enters an empty store
--   row-exchanges, row-exchanged          and the rule fires
--   side-tallying                         what the tally asks of a side that has fired
--   side-tallied                          it equals a fresh count of the state's constraints (the main law)
-- Assumes nothing.
use Prim.Native.Nat.{ℕ, ◌+◌, ◌*◌}
use native.Mathlib.Omega.{arith}
use mathlib.Core.Bool.{Bool, true}
use mathlib.Core.List.{List, []}
use mathlib.Core.Path.{◌≡◌, refl, ◌∙◌}
use lib.Dec.{eqb}
use lib.ListN.{length, take}
use Rattle.text.specs.Lists.{every}
use Rattle.semantics.specs.Terms.{removed_heads}
use Rattle.semantics.specs.Strategy.{goal_state}
use Rattle.semantics.specs.Tally.{tally_of, exchanged}
use Rattle.semantics.proofs.Tallies.{fire-tally}
use Rattle.tables.specs.Cells.{cell_constraints, state_of}
use Rattle.tables.specs.Rows.{rule_of_row, rule_of, row_of}
use Rattle.tables.proofs.CellLaws.{constraints-length}
use Rattle.tallies.specs.Symbols.{Tallied, Raisable, Raised, Exchangeable, Exchanged}
use Rattle.tallies.proofs.FreshLaws.{fresh-raisable, raised-fresh}
use Rattle.engine.specs.Runs.{store_of}
use Rattle.engine.proofs.KeepsLaws.{row-exchangeable}
use Rattle.engine.specs.Stated.{stated_at}
use Rattle.sides.specs.Sides.{cell_goal, SideTallying, SideTallied, Followable}

module _ (row goal : List ℕ) (m : ℕ) (table : List ℕ) (t : SideTallying row goal m table) where
  -- the goal enters an empty store
  pub goal-raises : Raisable goal m table
  goal-raises = fresh-raisable table t.size t.zeros goal m t.goal-size t.low (omega (arith, t.few))

  module _ (table₁ : List ℕ) (kept : length table₁ ≡ length table) (raised : Raised (cell_constraints goal) table table₁) where
    -- the tally equals a fresh count of the goal then
    goal-raised : Tallied table₁ (cell_constraints goal)
    goal-raised = raised-fresh table t.size t.zeros (cell_constraints goal) table₁ kept raised

    -- and the rule may fire
    pub row-exchanges : Exchangeable row table₁
    row-exchanges =
        row-exchangeable row table₁ (cell_constraints goal) t.given goal-raised
        (omega (arith, constraints-length m goal t.goal-size, t.few))

    -- it has fired
    pub row-exchanged : (table₂ : List ℕ) → Exchanged row table₁ table₂ → SideTallied row goal table₂
    unfolding exchanged
    row-exchanged table₂ e = record { same = λ s. omega (arith, e.same s, goal-raised.counts s) }

module _ (rules : List ℕ) (n i : ℕ) (goal : List ℕ) (m v : ℕ) (bound cells : List ℕ) (fired alive : Bool) (count : ℕ)
    (s : Followable rules n i goal m v bound cells fired alive count) (z : fired ≡ true) (y : alive ≡ true) where
  -- what the tally asks
  pub side-tallying :
      (row : List ℕ) → row ≡ row_of rules i → (table : List ℕ) → length table ≡ 64 → every (eqb 0) table ≡ true
      → SideTallying row goal m table
  side-tallying row is table size zeros =
      record {
        given = rw is ((s.starts z y).runs.table.rows i s.rule);
        goal-size = s.goal-size;
        low = s.low;
        few = omega (arith, s.few);
        size = size;
        zeros = zeros;
      }

  -- the state after the side's own firing has as many constraints of each symbol as the rule leaves of the goal's
  moved : (k : ℕ) → exchanged (rule_of_row [] (row_of rules i)) (tally_of (cell_constraints goal)) k ≡ tally_of (store_of cells count) k
  unfolding exchanged removed_heads rule_of rule_of_row goal_state cell_goal state_of store_of
  moved =
      let fires = rw y at (s.begun.moves z []) in
      fire-tally (tally_of (cell_constraints goal)) (rule_of [] rules i) (stated_at (row_of rules i) s.positions)
      (goal_state (cell_goal v goal)) (state_of true (v + 26) bound (take (5 * count) cells)) fires (λ k. refl)

  -- the tally of the side equals a fresh count of that state
  pub side-tallied :
      (row : List ℕ) → row ≡ row_of rules i → (table' : List ℕ) → length table' ≡ 64 → SideTallied row goal table'
      → Tallied table' (store_of cells count)
  side-tallied row is table' size t =
      let own : SideTallied (row_of rules i) goal table' = rw is at t in
      record { size = size; counts = λ k. own.same k ∙ moved k }
