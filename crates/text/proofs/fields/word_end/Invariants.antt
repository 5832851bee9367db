-- `text::fields::word_end` meets its contract: no byte passed ends the word, so it ends at the same place from each.
-- Assumes nothing.
use Rattle.std.proofs.Common.{◌≡◌, ◌+◌, drop}
use Rattle.text.specs.Keys.{word_length}
use Rattle.text.proofs.fields.word_end.Given as goal

abbrev pub invariant-loop-i : goal.invariant-loop-i
invariant-loop-i l = l.i + word_length (drop l.i l.s) ≡ l.at + word_length (drop l.at l.s)
