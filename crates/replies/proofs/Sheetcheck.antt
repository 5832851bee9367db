-- Demand 3 of what `sheetcheck` prints, without a condition on the room: `sheetcheck-exact`.
-- Assumes nothing.
use Prim.Native.Nat.{ℕ}
use mathlib.Core.List.{List}
use mathlib.Core.Path.{◌≡◌, sym, ap, ◌∙◌}
use lib.ListN.{length}
use Rattle.semantics.specs.Overlaps.{overlaps}
use Rattle.semantics.specs.Verdict.{confluent}
use Rattle.syntax.specs.Answers.{accepted}
use Rattle.syntax.specs.Programs.{Reading, read_program}
use Rattle.replies.specs.Replies.{printed, ample, sheetcheck}
use Rattle.replies.specs.Claims.{verdict_reply, Decided, passes, fails, Checked, Sheetchecked, passed, failed}
use Rattle.replies.proofs.Demand3.{fail-no-pass, check-exact}
use Rattle.replies.proofs.CheckRoom.{check-fits}

-- from the check at the room that the program lends
of-check : (input : List ℕ) (r : Reading) → Checked input ample r → Decided input ample r → Sheetchecked input r
unfolding sheetcheck
of-check input r checked (passes n k) =
    let one = checked.exact.0 (n, k) in
    let shown : sheetcheck input ≡ printed (verdict_reply r (confluent (length (overlaps r.program)))) =
    ap printed (checked.counted one) in
    passed shown one
of-check input r checked (fails o one two k c) =
    failed o one two (ap printed k) c
    (λ h. let (n, e) = checked.exact.1 h in fail-no-pass r o one two n (sym k ∙ e))

-- every text that can be read: `sheetcheck` prints a pass exactly where each goal has one outcome, and else a counterexample
pub sheetcheck-exact : (input : List ℕ) (r : Reading) → read_program input ≡ accepted r → Sheetchecked input r
sheetcheck-exact input r e =
    let checked = (check-exact input r e).checked ample (check-fits input r e) in
    of-check input r checked checked.decided
