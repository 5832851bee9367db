-- `join_all` meets its contract: the first h heads are joined, whichever heads these are.
-- Assumes nothing.
use Rattle.overlaps.proofs.OverlapLaws.{AllJoining}
use Rattle.overlaps.proofs.overlapping.join_all.Given as goal

abbrev pub invariant-loop-h : goal.invariant-loop-h
invariant-loop-h l = AllJoining l.initial.cells l.m l.n l.partners l.cells l.h
