-- `lines::terms::read_terms` meets its contract: the fields passed are read, and the constants after those left are all.
-- Assumes nothing.
use Rattle.lines.proofs.TermLaws.{Walk}
use Rattle.lines.proofs.terms.read_terms.Given as goal

abbrev pub invariant-loop-i : goal.invariant-loop-i
invariant-loop-i l =
    Walk l.fn.f l.from l.base l.count l.initial.names l.initial.places l.names l.places l.cells l.n l.i
