-- `normalise` meets its contract: the state so far has the end of the state at the start. A weighing bounds the firings.
-- Assumes nothing.
use Rattle.std.proofs.Common.{◌-◌}
use Rattle.engine.proofs.HoldLaws.{Holding}
use Rattle.engine.proofs.derivation.normalise.Given as goal

abbrev pub invariant-loop-step : goal.invariant-loop-step
invariant-loop-step l =
    Holding l.rules l.n l.initial.bound l.initial.cells l.m l.next l.bound l.cells l.count l.number l.firings l.known l.last
    l.gone l.at l.tally

abbrev pub decreases-loop-step : goal.decreases-loop-step
decreases-loop-step l = 512 - l.firings
