-- What `read` and its C export promise: whether a program's text and a goal's can be read.
--   Judgement            two texts can be read, or a refusal (number, text, line)
--   goal_reply            a goal's text over the symbols and constants of a program
--   read_reply            a program's text, then a goal's over it
--   read_meant            an answer as a judgement
--   judgement_number      a judgement as one number
--   read_read             the answer of a number of `roketuma_read`
-- `read-exact` of proofs/ReadLaws.antt says that the refusals are those of a run by numbers 1 to 10, for every room.
-- Assumes nothing.
use Rattle.std.specs.Prelude.{ℕ, cond, List, Result, Ok, Err, eqb}
use Rattle.semantics.specs.Terms.{Symbol}
use Rattle.syntax.specs.Answers.{Answer, refused, accepted}
use Rattle.syntax.specs.Programs.{read_program}
use Rattle.syntax.specs.Goals.{read_goal}
use Rattle.replies.specs.Replies.{Text, program_text, goal_text, refusal}
use Rattle.answers.specs.declared.Refusal.{Refusal}
use Rattle.answers.specs.Answers.{text_meant, reply_number}
use Rattle.answers.specs.Numbers.{refusal_read}

-- what is said of texts: they can be read, or are refused by document 01's number, with the text and the line, from 1, or 0
pub data Judgement : Type 0 where
  readable : Judgement
  unreadable : ℕ → Text → ℕ → Judgement

-- an answer about a text, as a judgement: what is accepted goes on
unfoldable pub judged : {A : Type 0} → Text → Answer A → (A → Judgement) → Judgement
judged text (refused number line) next = unreadable number text line
judged text (accepted a) next = next a

-- the judgement of a goal's text over the symbols and constants of a program
unfoldable pub goal_reply : List Symbol → List (List ℕ) → List ℕ → Judgement
goal_reply symbols constants goal = judged goal_text (read_goal symbols constants goal) (λ g. readable)

-- the judgement of a program's text and a goal's: the program's refusals, then the goal's
unfoldable pub read_reply : List ℕ → List ℕ → Judgement
read_reply program goal =
    judged program_text (read_program program) (λ p. goal_reply p.program.symbols p.constants goal)

-- the answer of reading: that both texts can be read, or a refusal
abbrev pub ReadReply : Type 0
ReadReply = Result (Unit {0}) Refusal

-- an answer as a judgement
unfoldable pub read_meant : ReadReply → Judgement
read_meant (Err f) = unreadable f.number (text_meant f.text) f.line
read_meant (Ok done) = readable

-- a judgement as one number: 0 where the texts can be read; a refusal as a run has it
unfoldable pub judgement_number : Judgement → ℕ
judgement_number readable = 0
judgement_number (unreadable number text line) = reply_number (refusal number text line)

-- the answer of a number: 0 where the texts can be read, and a refusal from 2^32 on
unfoldable pub read_read : ℕ → ReadReply
read_read n = cond (eqb n 0) (Ok tt) (Err (refusal_read n))
