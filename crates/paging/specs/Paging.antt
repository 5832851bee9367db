-- What the stages of paging promise.
--   PagesReplied      the pages of a listing are laid down, or number 11, under the kind of its verdict
-- Assumes nothing.
use Rattle.std.specs.Prelude.{ℕ, Bool, true, false, List, ◌≡◌, length}
use Rattle.pages.specs.Pages.{pages_of}
use Rattle.replies.specs.Replies.{program_text, fitted}
use Rattle.answers.specs.Results.{CheckReply}
use Rattle.answers.specs.Promises.{CheckReplied}
use Rattle.checking.specs.Checking.{NoPass, NoFail}

-- the pages of a listing are laid down, or number 11; of a pass's listing they are answered as a pass, of another as a fail
pub record PagesReplied (passes : Bool) (listing before after : List ℕ) (r : CheckReply) : Type 0 where
  pub replied : CheckReplied (fitted program_text (length before) (pages_of listing)) before after r
  pub no-fail : passes ≡ true → NoFail r
  pub no-pass : passes ≡ false → NoPass r
