-- The types of the public functions' answers: a refusal is an error.
--   RunReply       the length of the listing of a run, or a refusal
--   CheckReply     the verdict that was listed, with the length of its listing, or a refusal
-- Assumes nothing.
use Rattle.std.specs.Prelude.{ℕ, Result}
use Rattle.answers.specs.declared.Refusal.{Refusal}
use Rattle.answers.specs.declared.Verdict.{Verdict}

abbrev pub RunReply : Type 0
RunReply = Result ℕ Refusal

abbrev pub CheckReply : Type 0
CheckReply = Result Verdict Refusal
