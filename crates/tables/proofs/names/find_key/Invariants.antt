-- `tables::names::find_key` meets its contract: no key passed is the one sought. Assumes nothing.
use Rattle.std.proofs.Common.{◌≡◌, eqb, drop}
use Rattle.text.specs.Lists.{index_from}
use Rattle.tables.proofs.names.find_key.Given as goal

abbrev pub invariant-loop-i : goal.invariant-loop-i
invariant-loop-i l = index_from (eqb l.key) l.i (drop l.i l.keys) ≡ index_from (eqb l.key) 0 l.keys
