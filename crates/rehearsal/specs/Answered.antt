-- What is printed on an input of a rehearsal.
--   answer_bytes      what `sheetrun` prints on it, or `sheetcheck`
-- Assumes nothing.
use Rattle.std.specs.Prelude.{ℕ, Bool, true, false, List}
use Rattle.replies.specs.Replies.{sheetrun, sheetcheck}

-- what `sheetrun` prints on an input that may have a goal, and `sheetcheck` on any other
unfoldable pub answer_bytes : Bool → List ℕ → List ℕ
answer_bytes true input = sheetrun input
answer_bytes false input = sheetcheck input
