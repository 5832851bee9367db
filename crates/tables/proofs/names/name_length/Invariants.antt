-- `tables::names::name_length` meets its contract: no byte passed is a comma or a line feed. Assumes nothing.
use Rattle.std.proofs.Common.{◌≡◌, ◌≤◌, ◌+◌, drop}
use Rattle.text.specs.Keys.{word_length}
use Rattle.tables.proofs.names.name_length.Given as goal

abbrev pub invariant-loop-i : goal.invariant-loop-i
invariant-loop-i l = (l.i ≤ 8) × (l.i + word_length (drop l.i l.s) ≡ word_length l.s)
