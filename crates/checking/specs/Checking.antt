-- What the stages of a check ask and promise: a program as read, in its tables, and the overlap that is shown.
--   NoPass, NoFail        an answer that is no pass, and one that shows no overlap
--   listed_cells, end_shown   how many cells of an end are listed, and the end as the listing has it
--   CheckReady            a program as read, in its tables
--   ShowReady             the same, with an unjoined overlap of it
--   PassReplied           a pass is listed, or number 11
--   OverlapReplied        an overlap is listed, or number 11
--   Checked               the reply to a text, and an answer of the verdict's kind
-- Assumes nothing.
use Rattle.std.specs.Prelude.{ℕ, ◌*◌, cond, is_some, unwrap_or, List, [], ◌∷◌, ◌≡◌, length, take, drop}
use Rattle.text.specs.Bytes.{ascii}
use Rattle.text.specs.Fields.{decimal}
use Rattle.semantics.specs.Overlaps.{Overlap}
use Rattle.semantics.specs.Verdict.{unjoined}
use Rattle.syntax.specs.Programs.{Reading}
use Rattle.tables.specs.Layout.{constraint_size}
use Rattle.tables.specs.Rows.{constants_of}
use Rattle.tables.specs.Names.{name_in, Placed}
use Rattle.engine.specs.declared.derivation.Final.{Final}
use Rattle.critical.specs.declared.deciding.Shown.{Shown}
use Rattle.critical.specs.Verdicts.{UnjoinedIn}
use Rattle.listing.specs.Listing.{line_of}
use Rattle.verdicts.specs.Verdicts.{verdict_listing}
use Rattle.verdicts.specs.Checks.{final_of, ShownBy}
use Rattle.listing.specs.declared.End.{End}
use Rattle.verdicts.specs.declared.Shown.{Shown as Listed}
use Rattle.replies.specs.Replies.{program_text, fitted, check_reply}
use Rattle.answers.specs.Results.{CheckReply}
use Rattle.answers.specs.declared.Verdict.TheVariants.{Confluent, Unjoined}
use Rattle.std.specs.Prelude.{Ok, Err, Some, None}
use Rattle.inputs.specs.Inputs.{ProgramReady}
use Rattle.answers.specs.Promises.{CheckReplied, Told}

-- an answer that is no pass, and one that shows no overlap
abbrev pub NoPass : CheckReply → Type 0
NoPass r = (n : ℕ) → r ≡ Ok (Confluent n) → ⊥

abbrev pub NoFail : CheckReply → Type 0
NoFail r = (n : ℕ) → r ≡ Ok (Unjoined n) → ⊥

-- how many cells of an end are listed: none of a failed one
unfoldable pub listed_cells : Final → ℕ
listed_cells e = constraint_size * unwrap_or e.count 0

-- an end as the listing has it: a failed one has no variables
unfoldable pub end_shown : Final → End
end_shown e = record { next = cond (is_some e.count) (Some e.next) None; firings = e.firings }

-- a program as read, in its tables; each name stands where its place says
pub record CheckReady (program places rules : List ℕ) (n : ℕ) : Type 0 where
  pub names : List ℕ
  pub symbols : List ℕ
  pub k : ℕ
  pub c : ℕ
  pub p : Reading
  pub first : ProgramReady program names symbols rules k n p
  pub spelled : p.constants ≡ constants_of names c
  pub placed : Placed program [] names places

-- the same, with an overlap of the program that does not join
pub record ShowReady (program places goal bounds one two : List ℕ) (s : Shown) : Type 0 where
  pub rules : List ℕ
  pub n : ℕ
  pub ready : CheckReady program places rules n
  pub unjoined-in : UnjoinedIn rules n goal bounds one two s
  pub goal-size : length goal ≡ 40
  pub bounds-size : length bounds ≡ 56

-- a pass over a number of overlaps is listed, or number 11
pub record PassReplied (overlaps : ℕ) (before after : List ℕ) (r : CheckReply) : Type 0 where
  pub replied :
      CheckReplied (fitted program_text (length before) (line_of (ascii "CONFLUENT") (decimal overlaps ∷ []))) before after r
  pub no-fail : NoFail r

-- the overlap that the tables hold is listed, with the ends that they hold, or number 11
pub record OverlapReplied (program places goal bounds one two : List ℕ) (s : Listed) (before after : List ℕ) (r : CheckReply)
    : Type 0 where
  pub replied : (o : Overlap) → ShownBy (name_in program [] places) goal s o
      → CheckReplied
      (fitted program_text (length before)
      (verdict_listing (name_in program [] places)
      (unjoined o (final_of (take s.variables bounds) one s.one) (final_of (drop s.variables bounds) two s.two))))
      before after r
  pub no-pass : NoPass r

-- the reply to a text, with every byte of the output afterwards, and an answer that says what the program's verdict says
pub record Checked (text before after : List ℕ) (r : CheckReply) : Type 0 where
  pub replied : CheckReplied (check_reply text (length before)) before after r
  pub told : Told text r
