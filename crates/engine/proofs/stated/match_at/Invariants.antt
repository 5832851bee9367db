-- `match_at` meets its contract: the heads from number h on, under the bindings so far, give the answer for all of them.
-- Assumes nothing.
use Rattle.engine.specs.Stated.{match_row}
use Rattle.engine.proofs.StatedLaws.{Matching}
use Rattle.engine.proofs.stated.match_at.Given as goal

abbrev pub invariant-loop-h : goal.invariant-loop-h
invariant-loop-h l =
    Matching l.heads l.n l.cells l.m l.positions l.bindings l.h (match_row l.row l.positions l.cells l.initial.bindings)
