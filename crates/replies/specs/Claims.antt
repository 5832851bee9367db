-- Demands 2 and 3, on the bytes of the texts and of the replies.
--   verdict_reply      the reply that lists a verdict
--   Decided           a program is passed or failed
--   Demand3On         demand 3 for a text that can be read
--   PassTogether      two texts that can be read are passed together
--   Demand2On         demand 2 for a text that can be read
--   Sheetchecked      what `sheetcheck` prints of such a text
--   PagedOn           the pages of the check of such a text (document 02, W6)
-- `check-exact` of proofs/Demand3.antt, `run-published` of proofs/Demand2.antt, `sheetcheck-exact` of proofs/Sheetcheck.antt,
-- `check-rewritten` of proofs/Rewritten.antt and `pages-shaped` of proofs/PagedChecks.antt say that these hold of every such
-- text.
-- Assumes nothing.
use Rattle.std.specs.Prelude.{ℕ, ◌*◌, ◌≤◌, true, ◌&&◌, List, [], ◌↔◌, ◌≡◌, eqb, length, get_or}
use Rattle.text.specs.Lists.{every}
use Rattle.text.specs.Lines.{Line, lines}
use Rattle.text.specs.Fields.{is_number, value_of, decimal}
use Rattle.semantics.specs.Terms.{is_goal_of}
use Rattle.semantics.specs.Remaining.{KeepsGoalVariables, GoalVariablesRemain}
use Rattle.semantics.specs.Strategy.{Final}
use Rattle.semantics.specs.Runs.{RunsTo}
use Rattle.semantics.specs.Overlaps.{Overlap, overlaps}
use Rattle.semantics.specs.Order.{IsOverlapOf, Earlier, StrictTotalOrder}
use Rattle.semantics.specs.Verdict.{Verdict, confluent, unjoined}
use Rattle.semantics.specs.Claims.{OneOutcome, ByAppearance, OneOutcomeByAppearance, Bounded, Counterexample}
use Rattle.semantics.specs.Correspondence.{Demand2}
use Rattle.syntax.specs.Answers.{accepted}
use Rattle.syntax.specs.Programs.{Reading}
use Rattle.syntax.specs.Goals.{GoalReading, read_goal}
use Rattle.syntax.specs.Claims.{TextByValue, KeepsNumbers}
use Rattle.listing.specs.Listing.{naming_of, end_listing}
use Rattle.verdicts.specs.Verdicts.{verdict_listing}
use Rattle.pages.specs.Pages.{pages_of, page_count, page_size, max_pages, read_back}
use Rattle.replies.specs.Replies.{Reply, listing, run_listing, check_listing, run_reply, check_reply, printed}
use Rattle.replies.specs.Replies.{sheetcheck}

-- the reply that lists a verdict
unfoldable pub verdict_reply : Reading → Verdict → Reply
verdict_reply r v = listing (verdict_listing (naming_of r.program.symbols r.constants) v)

-- a program is passed, with a number; or failed, with an overlap that is shown with two ends and is a counterexample
pub data Decided (s : List ℕ) (room : ℕ) (r : Reading) : Type 1 where
  passes : (n : ℕ) → check_reply s room ≡ verdict_reply r (confluent n) → Decided s room r
  fails :
      (o : Overlap) (one two : Final) → check_reply s room ≡ verdict_reply r (unjoined o one two)
      → Counterexample r.program o one two → Decided s room r

-- the check of a text that reads as r, in a room that the listing fits: the program is passed or failed, and failed only with a
-- counterexample shown; it is passed exactly when each goal over its symbols, of any length, has one outcome over all lists of
-- events; a pass says the number of its overlaps; and what is shown is the counterexample, where there is one
pub record Checked (s : List ℕ) (room : ℕ) (r : Reading) : Type 1 where
  pub decided : Decided s room r
  pub exact : ((n : ℕ) × (check_reply s room ≡ verdict_reply r (confluent n))) ↔ OneOutcome r.program
  pub counted : OneOutcome r.program → check_reply s room ≡ verdict_reply r (confluent (length (overlaps r.program)))
  pub shown :
      (o : Overlap) (one two : Final) → Counterexample r.program o one two
      → check_reply s room ≡ verdict_reply r (unjoined o one two)

-- demand 3 for a text that reads as r: its check, wherever the listing fits; for one outcome of all goals it is enough that
-- those whose variables count by first appearance have one; the order of overlaps is strict and total; no derivation fires more
-- often than its goal's weight; in every derivation each goal variable has become a constant or the earliest of the goal
-- variables that have become the same; two constants of the text have one number exactly if they are one; and a number is shown
-- in digits without a leading zero, whose value it is
pub record Demand3On (s : List ℕ) (r : Reading) : Type 1 where
  pub checked : (room : ℕ) → length (check_listing r) ≤ room → Checked s room r
  pub enough : OneOutcomeByAppearance r.program → OneOutcome r.program
  pub ordered : StrictTotalOrder (IsOverlapOf r.program) Earlier
  pub bounded : Bounded r.program
  pub kept : GoalVariablesRemain r.program
  pub constants : TextByValue s [] r.constants
  pub decimals : (n : ℕ) → (is_number (decimal n) ≡ true) × (value_of (decimal n) ≡ n)

-- the checks of two texts that read as r and q, in a room that both listings fit: one passes with a number exactly when the other
-- does
abbrev pub PassTogether : List ℕ → List ℕ → Reading → Reading → Type 0
PassTogether s t r q =
    (room n : ℕ) → length (check_listing r) ≤ room → length (check_listing q) ≤ room
    → (check_reply s room ≡ verdict_reply r (confluent n)) ↔ (check_reply t room ≡ verdict_reply q (confluent n))

-- the reply to a goal's text that reads as g, in a room that the listing fits: the listing of an end, and the run of the goal,
-- which is over the program's symbols and counts its variables by first appearance, ends so. There each goal variable has become
-- a constant or the earliest of the goal variables that have become the same. The goal's constants have one number exactly if
-- they are one, the program's among them, which keep theirs
pub record Ran (s t : List ℕ) (room : ℕ) (r : Reading) (g : GoalReading) : Type 0 where
  pub goal : is_goal_of r.program g.goal ≡ true
  pub constants : TextByValue t r.constants g.constants
  pub numbers : KeepsNumbers r.constants g.constants
  pub appearance : ByAppearance g.goal
  pub end : Final
  pub reply :
      run_reply s t room
      ≡ listing (end_listing (naming_of r.program.symbols g.constants) (λ x. get_or g.letters x []) end)
  pub runs : RunsTo r.program g.goal [] end
  pub kept : KeepsGoalVariables end.state

-- demand 2 for a text that reads as r: that of the program, in which constants have one number exactly if they are one; in every
-- derivation each goal variable has become a constant or the earliest of the goal variables that have become the same; and every
-- run on bytes is one
pub record Demand2On (s : List ℕ) (r : Reading) : Type 1 where
  pub program : Demand2 r.program
  pub constants : TextByValue s [] r.constants
  pub kept : GoalVariablesRemain r.program
  pub ran :
      (t : List ℕ) (room : ℕ) (g : GoalReading) → read_goal r.program.symbols r.constants t ≡ accepted g
      → length (run_listing r g) ≤ room → Ran s t room r g

-- what `sheetcheck` prints of an input that reads as r: a pass with the number of its overlaps, and each goal over its symbols,
-- of any length, has one outcome; or an overlap with two ends that is a counterexample, and not each goal has one
pub data Sheetchecked (input : List ℕ) (r : Reading) : Type 1 where
  passed :
      sheetcheck input ≡ printed (verdict_reply r (confluent (length (overlaps r.program)))) → OneOutcome r.program
      → Sheetchecked input r
  failed :
      (o : Overlap) (one two : Final) → sheetcheck input ≡ printed (verdict_reply r (unjoined o one two))
      → Counterexample r.program o one two → (OneOutcome r.program → ⊥) → Sheetchecked input r

-- the pages of the check of a text that reads as r: its listing can be read back from them; they are at most 17, of 2,460 bytes
-- each, in 60 lines of 40 bytes and a line feed
pub record PagedOn (r : Reading) : Type 0 where
  pub back : read_back (pages_of (check_listing r)) ≡ check_listing r
  pub few : page_count (check_listing r) ≤ max_pages
  pub sized : length (pages_of (check_listing r)) ≡ page_size * page_count (check_listing r)
  pub sixty : length (lines (pages_of (check_listing r))) ≡ 60 * page_count (check_listing r)
  pub forty : every (λ (l : Line). eqb (length l.bytes) 40 && l.ended) (lines (pages_of (check_listing r))) ≡ true
