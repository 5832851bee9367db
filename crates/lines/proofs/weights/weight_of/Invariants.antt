-- `lines::weights::weight_of` meets its contract: the sum so far and the weight of the cells left make the whole.
-- Assumes nothing.
use mathlib.Core.Path.{◌≡◌}
use mathlib.Core.List.{List}
use Prim.Native.Nat.{ℕ, ◌≤◌, ◌+◌, ◌-◌, ◌*◌}
use lib.ListN.{length, drop}
use Rattle.semantics.specs.Terms.{weight}
use Rattle.tables.specs.Cells.{cell_constraints}
use Rattle.tables.specs.Rows.{symbols_of}
use Rattle.lines.proofs.weights.weight_of.Given as goal

abbrev pub invariant-loop-at : goal.invariant-loop-at
invariant-loop-at l =
    (l.at ≤ length l.cells) × (l.sum ≤ 65536 * l.at)
    × ((names : List ℕ) (k : ℕ) → length l.symbols ≡ 2 * k
    → l.sum + weight (symbols_of names l.symbols k) (cell_constraints (drop l.at l.cells))
    ≡ weight (symbols_of names l.symbols k) (cell_constraints l.cells))

abbrev pub decreases-loop-at : goal.decreases-loop-at
decreases-loop-at l = length l.cells - l.at
