-- `text::fields::word_at` meets its contract: the word as a part of the text. Assumes nothing.
use Rattle.text.proofs.Words.{word-part, word_none}
use Rattle.text.proofs.fields.word_at.Goals as goal

pub returns-then-size-at : goal.returns-then-size-at
returns-then-size-at c = search word_none

pub returns : goal.returns
returns c = search word-part
