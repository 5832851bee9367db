-- `text::fields::split` meets its contract: the fields so far, one field on. Assumes nothing.
use Prim.Native.Nat.{suc, ◌-◌}
use Rattle.text.proofs.Splitting.{Walk}
use Rattle.text.proofs.fields.split.Given as goal

abbrev pub invariant-loop-found : goal.invariant-loop-found
invariant-loop-found l = Walk l.s l.at l.limit l.keys l.starts l.count l.start

abbrev pub decreases-loop-found : goal.decreases-loop-found
decreases-loop-found l = suc l.limit - l.start
