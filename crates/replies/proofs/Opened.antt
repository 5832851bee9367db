-- Opens every definition of this crate at once: a proof that says `unfolding opened` computes with all of them.
-- Assumes nothing.
use Prim.Native.Nat.{ℕ}
use Rattle.replies.specs.Replies.{reply_of, fitted, run_listing, check_listing, run_reply, check_reply}
use Rattle.replies.specs.Replies.{output_after, text_letter, printed, ample, sheetrun, sheetcheck}
use Rattle.replies.specs.Starred.{overlap_shown, self_overlap_of, shown, two_ways, reflexive, leq, pq, holding}
use Rattle.replies.specs.Starred.{pq_end, on_q, on_p, row, starred}

-- a name to say on an `unfolding` line
unfoldable pub opened : ℕ
unfolding reply_of fitted run_listing check_listing run_reply check_reply output_after text_letter printed ample sheetrun sheetcheck
    overlap_shown self_overlap_of shown two_ways reflexive leq pq holding pq_end on_q on_p row starred
opened = 0
