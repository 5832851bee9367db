-- `is_concerned` meets its contract: the heads from i on, where the cursor stands, are concerned where all are.
-- Assumes nothing.
use Rattle.std.proofs.Common.{ℕ, ◌≡◌, ◌*◌, ◌-◌, length}
use Rattle.tallies.proofs.ComeLaws.{Meeting}
use Rattle.tallies.proofs.coming.is_concerned.Given as goal

abbrev pub invariant-loop-at : goal.invariant-loop-at
invariant-loop-at l = (i : ℕ) × (l.at ≡ 5 * i) × Meeting l.heads l.last l.v l.whole i

abbrev pub decreases-loop-at : goal.decreases-loop-at
decreases-loop-at l = length l.heads - l.at
