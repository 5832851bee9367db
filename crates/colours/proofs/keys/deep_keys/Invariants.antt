-- `deep_keys` meets its contract: the keys below i are made.
-- Assumes nothing.
use Rattle.std.proofs.Common.{◌≡◌, true, length}
use Rattle.colours.specs.Colours.{Ready}
use Rattle.colours.proofs.KeyLaws.{Keying}
use Rattle.colours.proofs.keys.deep_keys.Given as goal

abbrev pub invariant-loop-i : goal.invariant-loop-i
invariant-loop-i l =
    Keying l.t true l.cells l.n l.colours l.initial.keys l.keys l.i
    × Ready l.cells l.n l.colours l.received × (length l.scratch ≡ length l.initial.scratch)
    × (length l.received ≡ length l.initial.received)
