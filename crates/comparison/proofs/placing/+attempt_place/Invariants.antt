-- `comparison::placing::attempt` and `place`, which call one another: each call of `place` has a shorter list, and `attempt` comes
-- before `place` for the same one.
use Rattle.std.proofs.Common.{length, ◌+◌, ◌*◌}
use Rattle.comparison.proofs.PlaceLaws.{Seeking}
use Rattle.comparison.proofs.placing.+attempt_place.Given as goal

abbrev pub decreases-attempt : goal.decreases-attempt
decreases-attempt l = 2 * length l.a.now

abbrev pub decreases-place : goal.decreases-place
decreases-place l = 2 * length l.a.now + 1

abbrev pub invariant-place-loop-j : goal.invariant-place-loop-j
invariant-place-loop-j l =
    Seeking l.a l.b l.initial.used l.initial.forth l.initial.back l.used l.forth l.back l.j
