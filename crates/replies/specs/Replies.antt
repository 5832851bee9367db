-- The replies, from bytes to bytes, and what the lent output holds afterwards.
--   Reply              a refusal (number, text, line) or a listing
--   run_reply           the run of a goal over a program, for an output of some room
--   check_reply         the check of a program
--   Layout, laid_reply  how an output holds a listing: as it is, or in pages; the check in a layout
--   output_after        every byte of the lent output
--   printed            what the two programs print
-- Assumes nothing.
use Rattle.std.specs.Prelude.{ℕ, cond, List, [], ◌∷◌, ltb, length, get_or}
use Rattle.text.specs.Bytes.{ascii}
use Rattle.text.specs.Lines.{parted}
use Rattle.text.specs.Lists.{overlaid}
use Rattle.text.specs.Fields.{decimal}
use Rattle.semantics.specs.Strategy.{run}
use Rattle.semantics.specs.Verdict.{verdict}
use Rattle.syntax.specs.Answers.{Answer, refused, accepted}
use Rattle.syntax.specs.Programs.{Reading, read_program}
use Rattle.syntax.specs.Goals.{GoalReading, read_goal}
use Rattle.listing.specs.Listing.{line_of, naming_of, end_listing}
use Rattle.verdicts.specs.Verdicts.{verdict_listing}
use Rattle.pages.specs.Pages.{pages_of, read_back}
unfoldable pub use Rattle.listing.specs.Writing.{ample}

-- the text that a refusal names: S for a program's (document 01: the sheet's), G for a goal's
pub data Text : Type 0 where
  program_text goal_text : Text

-- a reply: a refusal by document 01's number, with its text and the line, from 1, or 0; or a listing, or its pages
pub data Reply : Type 0 where
  refusal : ℕ → Text → ℕ → Reply
  listing : List ℕ → Reply

-- an answer about a text, as a reply: what is accepted goes on
unfoldable pub reply_of : {A : Type 0} → Text → Answer A → (A → Reply) → Reply
reply_of text (refused number line) next = refusal number text line
reply_of text (accepted a) next = next a

-- a listing that fits the room, or number 11
unfoldable pub fitted : Text → ℕ → List ℕ → Reply
fitted text room bytes = cond (ltb room (length bytes)) (refusal 11 text 0) (listing bytes)

-- the listing of the run of a goal over a program: the goal's variables are named by their letters
unfoldable pub run_listing : Reading → GoalReading → List ℕ
run_listing p g =
    end_listing (naming_of p.program.symbols g.constants) (λ x. get_or g.letters x []) (run p.program g.goal)

-- the listing of the check of a program
unfoldable pub check_listing : Reading → List ℕ
check_listing p = verdict_listing (naming_of p.program.symbols p.constants) (verdict p.program)

-- the reply of the run: the program's refusals, then the goal's, then number 11
unfoldable pub run_reply : List ℕ → List ℕ → ℕ → Reply
run_reply program goal room =
    reply_of program_text (read_program program)
    (λ p. reply_of goal_text (read_goal p.program.symbols p.constants goal) (λ g. fitted goal_text room (run_listing p g)))

-- the reply of the check
unfoldable pub check_reply : List ℕ → ℕ → Reply
check_reply program room = reply_of program_text (read_program program) (λ p. fitted program_text room (check_listing p))

-- how an output holds a listing: the bytes laid down for it, and the listing that bytes hold
pub record Layout : Type 0 where
  pub laid : List ℕ → List ℕ
  pub held : List ℕ → List ℕ

-- a listing as it is
unfoldable pub plain : Layout
plain = record { laid = λ bytes. bytes; held = λ bytes. bytes }

-- a listing in pages (document 02, W6)
unfoldable pub paged : Layout
paged = record { laid = pages_of; held = read_back }

-- the reply of the check with its listing in a layout; number 11 measures what is laid down. It is `check_reply` for `plain`
unfoldable pub laid_reply : Layout → List ℕ → ℕ → Reply
laid_reply layout program room =
    reply_of program_text (read_program program) (λ p. fitted program_text room (layout.laid (check_listing p)))

-- the lent output afterwards: untouched under a refusal; the listing, and then the old bytes, otherwise
unfoldable pub output_after : Reply → List ℕ → List ℕ
output_after (refusal number text line) old = old
output_after (listing bytes) old = overlaid bytes old

-- the letter of a text
unfoldable pub text_letter : Text → List ℕ
text_letter program_text = ascii "S"
text_letter goal_text = ascii "G"

-- what a program prints of a reply
unfoldable pub printed : Reply → List ℕ
printed (refusal number text line) = line_of (ascii "REFUSED") (decimal number ∷ text_letter text ∷ decimal line ∷ [])
printed (listing bytes) = bytes

-- all that `sheetrun` prints on an input: a program, then optionally the line `GOAL` and a goal
unfoldable pub sheetrun : List ℕ → List ℕ
sheetrun input =
    let parts = parted input in
    printed (run_reply parts.program parts.goal ample)

-- all that `sheetcheck` prints on an input: a program
unfoldable pub sheetcheck : List ℕ → List ℕ
sheetcheck input = printed (check_reply input ample)
