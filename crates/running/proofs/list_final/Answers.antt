-- `running::list_final` meets its contract: the used part of the cells, or nothing of a failed end. Assumes nothing.
use Rattle.std.proofs.Common.{refl, sym, arith}
use lib.Seq.{length-take-le}
use Rattle.running.proofs.ReadyLaws.{lives-listable, failed-listable, lives-listed, failed-listed, replied-is}
use Rattle.running.proofs.list_final.Goals as goal

pub overflow_mul-e : goal.overflow_mul-e
overflow_mul-e c = omega (arith, (rw c.in-Some.is at c.requires.count-few) refl)

pub slice_bounds-list-end : goal.slice_bounds-list-end
slice_bounds-list-end c = (rw c.in-Some.is at c.requires.count-few) refl

pub slice_bounds-list-end-in-Some : goal.slice_bounds-list-end-in-Some
slice_bounds-list-end-in-Some c = sym (length-take-le _ _ ((rw c.in-Some.is at c.requires.count-few) refl))

pub list-requires : goal.list-requires
list-requires c = search lives-listable

pub returns-in-Some : goal.returns-in-Some
returns-in-Some c = search (replied-is, lives-listed)

pub list-requires-in-None : goal.list-requires-in-None
list-requires-in-None c = failed-listable

pub returns-in-None : goal.returns-in-None
returns-in-None c = search (replied-is, failed-listed)
