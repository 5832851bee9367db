-- What the public functions' answers mean: document 01's numbers and values for each of their cases.
--   text_meant, reply_meant     an answer, with the output afterwards, as a reply
--   answer_of                  the answer of a reply
--   Replied                   what `run` promises: the reply, and every byte of the output afterwards
--   answer_number              an answer as one number
--   reply_number, Returned     what its C export promises: a reply as one number, and every byte of the output afterwards
--   Printed                   what the functions that print promise: every byte of the output afterwards
-- Assumes nothing.
use Rattle.std.specs.Prelude.{ℕ, ◌+◌, ◌*◌, List, [], ◌∷◌, ◌++◌, ◌≡◌, length, take, drop}
use Rattle.text.specs.Bytes.{ascii}
use Rattle.text.specs.Fields.{decimal}
use Rattle.replies.specs.Replies.{Text, program_text, goal_text, Reply, refusal, listing, output_after}
use Rattle.answers.specs.declared.TextName.{TextName}
use Rattle.answers.specs.declared.TextName.TheVariants.{S, G}
use Rattle.answers.specs.Results.{RunReply}
use Rattle.std.specs.Prelude.{Ok, Err}

-- the text that a letter names
unfoldable pub text_meant : TextName → Text
text_meant S = program_text
text_meant G = goal_text

-- an answer as a reply: a refusal's number, text and line; or the listing that the output holds
unfoldable pub reply_meant : RunReply → List ℕ → Reply
reply_meant (Err r) output = refusal r.number (text_meant r.text) r.line
reply_meant (Ok n) output = listing (take n output)

-- the letter of a text
unfoldable pub letter_of : Text → TextName
letter_of program_text = S
letter_of goal_text = G

-- the answer of a reply: a listing's is its length
unfoldable pub answer_of : Reply → RunReply
answer_of (refusal number text line) = Err (record { number = number; text = letter_of text; line = line })
answer_of (listing bytes) = Ok (length bytes)

-- an answer that is a reply's, and an output that is left as the reply says
pub record Replied (reply : Reply) (before after : List ℕ) (r : RunReply) : Type 0 where
  pub meant : reply_meant r after ≡ reply
  pub answer : r ≡ answer_of reply
  pub output : after ≡ output_after reply before

-- the byte of a letter
unfoldable pub name_byte : TextName → ℕ
name_byte S = 83
name_byte G = 71

-- an answer as one number: a listing's length; or 2^32 times a refusal's number, 2^16 times the byte of its letter, and its line
unfoldable pub answer_number : RunReply → ℕ
answer_number (Err r) = 4294967296 * r.number + 65536 * name_byte r.text + r.line
answer_number (Ok n) = n

-- the byte of a text's letter
unfoldable pub text_byte : Text → ℕ
text_byte program_text = 83
text_byte goal_text = 71

-- a reply as one number: a listing's length; or 2^32 times a refusal's number, 2^16 times the byte of its text, and its line
unfoldable pub reply_number : Reply → ℕ
reply_number (refusal number text line) = 4294967296 * number + 65536 * text_byte text + line
reply_number (listing bytes) = length bytes

-- a number that is a reply's, and an output that is left as the reply says
pub record Returned (reply : Reply) (before after : List ℕ) (r : ℕ) : Type 0 where
  pub answer : r ≡ reply_number reply
  pub output : after ≡ output_after reply before

-- the line of a refusal, from the bytes that name its text
unfoldable pub refusal_bytes : ℕ → List ℕ → ℕ → List ℕ
refusal_bytes number named line = (ascii "REFUSED," ++ decimal number) ++ (named ++ (decimal line ++ (10 ∷ [])))

-- bytes that are printed into the front of an output, with their count: every byte behind them is as before
pub record Printed (bytes before after : List ℕ) (count : ℕ) : Type 0 where
  pub output : after ≡ bytes ++ drop (length bytes) before
  pub counted : count ≡ length bytes
