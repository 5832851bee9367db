-- A goal as read enters an empty store: its tally is made, and the derivation can start.
--   goal-there, goal-lent          its cells are there
--   goal-raises, goal-tallied      the tally of its constraints
--   goal-next                      the number of its variables, as the code has it
-- Assumes nothing.
use Prim.Native.Nat.{ℕ, ◌*◌, ◌≤◌}
use native.Mathlib.Omega.{arith}
use mathlib.Core.List.{List}
use mathlib.Core.Path.{◌≡◌, refl, sym, subst}
use lib.ListN.{length, take, replicate}
use lib.Seq.{length-take-le}
use Rattle.tables.specs.Cells.{cell_constraints}
use Rattle.tallies.specs.Symbols.{Tallied, Raisable, Raised}
use Rattle.tallies.proofs.FreshLaws.{fresh-raisable, raised-fresh}
use Rattle.engine.specs.Runs.{store_of, Startable}

module _ (rules : List ℕ) (n : ℕ) (cells : List ℕ) (m next : ℕ) (s : Startable rules n cells m next) where
  -- the goal's cells are there
  pub goal-there : 5 * m ≤ length cells
  goal-there = omega (arith, s.there, s.space)

  -- as the code lends them
  pub goal-lent : 5 * m ≡ length (take (5 * m) cells)
  goal-lent = sym (length-take-le (5 * m) cells goal-there)

  -- what the tally of its constraints asks
  pub goal-raises : Raisable (take (5 * m) cells) m (replicate 64 0)
  unfolding store_of
  goal-raises =
      fresh-raisable (replicate 64 0) refl refl (take (5 * m) cells) m (sym goal-lent) s.runs.low (omega (arith, s.there))

  -- it equals a fresh count
  pub goal-tallied :
      (table' : List ℕ) → length table' ≡ 64 → Raised (cell_constraints (take (5 * m) cells)) (replicate 64 0) table'
      → Tallied table' (store_of cells m)
  unfolding store_of
  goal-tallied table' size raised =
      raised-fresh (replicate 64 0) refl refl (cell_constraints (take (5 * m) cells)) table' size raised

  -- the number of its variables, as the code has it
  pub goal-next : (v : ℕ) → v ≡ next → Startable rules n cells m v
  goal-next v e = subst (Startable rules n cells m) (sym e) s
