-- `plain_keys` meets its contract: the keys below i are made.
-- Assumes nothing.
use Rattle.std.proofs.Common.{false}
use Rattle.colours.proofs.KeyLaws.{Keying}
use Rattle.colours.proofs.keys.plain_keys.Given as goal

abbrev pub invariant-loop-i : goal.invariant-loop-i
invariant-loop-i l = Keying 0 false l.cells l.n l.colours l.initial.keys l.keys l.i
