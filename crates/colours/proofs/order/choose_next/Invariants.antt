-- `choose_next` meets its contract: it looks from k on.
-- Assumes nothing.
use Rattle.std.proofs.Common.{◌<◌, ◌≤◌}
use Rattle.colours.proofs.order.choose_next.Given as goal

abbrev pub invariant-loop-i : goal.invariant-loop-i
invariant-loop-i l = (l.k ≤ l.best) × (l.best < l.n) × (l.k ≤ l.i) × (l.i ≤ l.n)
