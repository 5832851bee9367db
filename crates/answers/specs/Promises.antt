-- What `check` and `pages` and their C exports promise: the reply with every byte of the output, and demand 3 of this answer and
-- these bytes, in the layout of each: a listing as it is, or in pages.
--   check_meant, listed_bytes     an answer, with the output afterwards, as a reply; how many bytes it lists
--   CheckReplied                the reply, and every byte of the output afterwards
--   Told                        an answer's kind is that of the program's verdict
--   CheckedAs                   demand 3 of the answer to a text that can be read
--   Demand3Of                   demand 3 of the answer to any text, and of the bytes that it leaves
--   check_number, CheckReturned  an answer as one number, and what the C exports promise
-- Assumes nothing.
use Rattle.std.specs.Prelude.{ℕ, ◌+◌, ◌*◌, ◌≤◌, ◌<◌, true, List, [], ◌⊎◌, ◌↔◌, ◌≡◌, length, take}
use Rattle.text.specs.Fields.{is_number, value_of, decimal}
use Rattle.semantics.specs.Remaining.{GoalVariablesRemain}
use Rattle.semantics.specs.Strategy.{Final}
use Rattle.semantics.specs.Overlaps.{Overlap, overlaps}
use Rattle.semantics.specs.Order.{IsOverlapOf, Earlier, StrictTotalOrder}
use Rattle.semantics.specs.Verdict.{verdict, confluent, unjoined}
use Rattle.semantics.specs.Claims.{Bounded}
use Rattle.syntax.specs.Answers.{refused, accepted}
use Rattle.syntax.specs.Programs.{Reading, read_program}
use Rattle.syntax.specs.Claims.{TextByValue}
use Rattle.replies.specs.Replies.{Reply, refusal, listing, check_listing, Layout, laid_reply, output_after}
use Rattle.replies.specs.Claims.{verdict_reply}
use Rattle.answers.specs.declared.TextName.TheVariants.{S}
use Rattle.answers.specs.declared.Refusal.{Refusal}
use Rattle.answers.specs.Results.{CheckReply}
use Rattle.answers.specs.declared.Verdict.TheVariants.{Confluent, Unjoined}
use Rattle.std.specs.Prelude.{Ok, Err}
use Rattle.answers.specs.Answers.{text_meant, name_byte}
use Rattle.answers.specs.Numbers.{check_read}
use Rattle.answers.specs.Outcomes.{OneOutcome, OneOutcomeByAppearance, Counterexample}

-- an answer as a reply: a refusal's number, text and line; or what the output holds: a listing, or its pages
unfoldable pub check_meant : CheckReply → List ℕ → Reply
check_meant (Err f) output = refusal f.number (text_meant f.text) f.line
check_meant (Ok (Confluent n)) output = listing (take n output)
check_meant (Ok (Unjoined n)) output = listing (take n output)

-- how many bytes an answer lists
unfoldable pub listed_bytes : CheckReply → ℕ
listed_bytes (Err f) = 0
listed_bytes (Ok (Confluent n)) = n
listed_bytes (Ok (Unjoined n)) = n

-- an answer that is a reply's, and an output that is left as the reply says
pub record CheckReplied (reply : Reply) (before after : List ℕ) (r : CheckReply) : Type 0 where
  pub meant : check_meant r after ≡ reply
  pub counted : listed_bytes r ≤ length after
  pub output : after ≡ output_after reply before

-- an answer that says of a text that reads what the program's verdict says: a pass, or an unjoined overlap
pub record Told (s : List ℕ) (r : CheckReply) : Type 0 where
  pub pass :
      (p : Reading) → read_program s ≡ accepted p → (n : ℕ) → r ≡ Ok (Confluent n) → (k : ℕ) × (verdict p.program ≡ confluent k)
  pub fail :
      (p : Reading) → read_program s ≡ accepted p → (n : ℕ) → r ≡ Ok (Unjoined n)
      → (o : Overlap) × (one : Final) × (two : Final) × (verdict p.program ≡ unjoined o one two)

-- demand 3 of the answer to a text that reads as p, with the listing in a layout. Where what is laid down fits, the program is
-- passed or failed, and it is passed exactly when each goal over its symbols, of any length, has one outcome over all lists of
-- events. What is left holds the listing. That of a pass is the line with the number of its overlaps. That of a fail has the
-- earliest overlap of the program that does not join, its goal and two ends of finished derivations of this goal, which are not
-- equal; so not each goal has one outcome. Where it fits, it is left wherever there is one, and there is at most one, since the
-- order of overlaps is strict and total. For one outcome of all goals it is enough that those as document 01 has them have one.
-- No derivation fires more often than its goal's weight. In every derivation each goal variable has become a constant or the
-- earliest of the goal variables that have become the same. A number is shown in digits without a leading zero, whose value it is
pub record CheckedAs (layout : Layout) (p : Reading) (before after : List ℕ) (r : CheckReply) : Type 0 where
  pub decided :
      length (layout.laid (check_listing p)) ≤ length before → ((n : ℕ) × (r ≡ Ok (Confluent n))) ⊎ ((n : ℕ) × (r ≡ Ok (Unjoined n)))
  pub exact : length (layout.laid (check_listing p)) ≤ length before → ((n : ℕ) × (r ≡ Ok (Confluent n))) ↔ OneOutcome p.program
  pub passed :
      (n : ℕ) → r ≡ Ok (Confluent n)
      → (listing (layout.held (take n after)) ≡ verdict_reply p (confluent (length (overlaps p.program))))
      × OneOutcome p.program
  pub failed :
      (n : ℕ) → r ≡ Ok (Unjoined n)
      → (o : Overlap) × (one : Final) × (two : Final)
      × (listing (layout.held (take n after)) ≡ verdict_reply p (unjoined o one two))
      × Counterexample p.program o one two × (OneOutcome p.program → ⊥)
  pub earliest :
      (o : Overlap) (one two : Final) → length (layout.laid (check_listing p)) ≤ length before
      → Counterexample p.program o one two
      → (n : ℕ) × (r ≡ Ok (Unjoined n)) × (listing (layout.held (take n after)) ≡ verdict_reply p (unjoined o one two))
  pub ordered : StrictTotalOrder (IsOverlapOf p.program) Earlier
  pub enough : OneOutcomeByAppearance p.program → OneOutcome p.program
  pub bounded : Bounded p.program
  pub kept : GoalVariablesRemain p.program
  pub decimals : (n : ℕ) → (is_number (decimal n) ≡ true) × (value_of (decimal n) ≡ n)

-- a refusal of the program's text
unfoldable pub of_program : ℕ → ℕ → CheckReply
of_program number line = Err (record { number = number; text = S; line = line })

-- demand 3 of the answer to any text s, and of the bytes that it leaves: a text that meets one of document 01's numbers 1 to 9 is
-- refused under it, with its line, and no other is; number 11 is the answer exactly where the text reads and what is laid down
-- for its listing does not fit; a refusal names the program's text and leaves the output untouched; and every text that reads is
-- checked, as a program in which two constants have one number exactly if they are one
pub record Demand3Of (layout : Layout) (s before after : List ℕ) (r : CheckReply) : Type 0 where
  pub numbers : (number line : ℕ) → read_program s ≡ refused number line → (1 ≤ number) × (number ≤ 9)
  pub turned : (number line : ℕ) → number < 11 → (read_program s ≡ refused number line) ↔ (r ≡ of_program number line)
  pub eleven :
      ((p : Reading) × (read_program s ≡ accepted p) × (length before < length (layout.laid (check_listing p))))
      ↔ (r ≡ of_program 11 0)
  pub untouched : (f : Refusal) → r ≡ Err f → (f.text ≡ S) × (after ≡ before)
  pub read : (p : Reading) → read_program s ≡ accepted p → CheckedAs layout p before after r
  pub constants : (p : Reading) → read_program s ≡ accepted p → TextByValue s [] p.constants

-- an answer as one number: the length of a pass's listing, or of its pages; 2^31 more than that of an unjoined overlap's; or
-- 2^32 times a refusal's number, 2^16 times the byte of its letter, and its line
unfoldable pub check_number : CheckReply → ℕ
check_number (Err f) = 4294967296 * f.number + 65536 * name_byte f.text + f.line
check_number (Ok (Confluent n)) = n
check_number (Ok (Unjoined n)) = 2147483648 + n

-- a number of which all this holds: it is the number of the answer that is read off it (Numbers.antt), and of this answer holds
-- what `check`, or `pages`, promises of its own
pub record CheckReturned (layout : Layout) (s before after : List ℕ) (r : ℕ) : Type 0 where
  pub number : r ≡ check_number (check_read r)
  pub replied : CheckReplied (laid_reply layout s (length before)) before after (check_read r)
  pub demand : Demand3Of layout s before after (check_read r)
