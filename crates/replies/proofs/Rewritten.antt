-- A text whose program is that of another with its kept heads on both sides: `check-rewritten`. Wherever both listings fit, one is
-- passed exactly when the other is, with the same number.
-- Assumes nothing.
use Prim.Native.Nat.{ℕ}
use mathlib.Core.List.{List}
use mathlib.Core.Path.{◌≡◌, refl, sym, ap, subst, ◌∙◌}
use lib.ListN.{length, length-map}
use Rattle.semantics.specs.Terms.{Program}
use Rattle.semantics.specs.Rewriting.{rewritten_all}
use Rattle.semantics.specs.Overlaps.{overlaps}
use Rattle.semantics.specs.Verdict.{confluent}
use Rattle.semantics.specs.Claims.{OneOutcome}
use Rattle.semantics.proofs.Rewritten.{rewritten_overlap, one-outcome-rewritten, overlaps-rewritten}
use Rattle.syntax.specs.Answers.{accepted}
use Rattle.syntax.specs.Programs.{Reading, read_program}
use Rattle.verdicts.specs.Verdicts.{verdict_listing}
use Rattle.replies.specs.Replies.{check_reply}
use Rattle.replies.specs.Claims.{verdict_reply, Checked, PassTogether}
use Rattle.replies.proofs.Demand3.{check-exact}

-- a pass names nothing of its program
pass_same : (r q : Reading) (n : ℕ) → verdict_reply r (confluent n) ≡ verdict_reply q (confluent n)
unfolding verdict_reply verdict_listing
pass_same r q n = refl

-- what is passed with a number passes another program with it, where each goal has one outcome by both, and as many overlaps are
passed-too :
    (s t : List ℕ) (room n : ℕ) (r q : Reading) → Checked s room r → Checked t room q
    → (OneOutcome r.program → OneOutcome q.program) → length (overlaps q.program) ≡ length (overlaps r.program)
    → check_reply s room ≡ verdict_reply r (confluent n) → check_reply t room ≡ verdict_reply q (confluent n)
passed-too s t room n r q a b one count e =
    let outcome = a.exact.0 (n, e) in
    b.counted (one outcome) ∙ ap (λ m. verdict_reply q (confluent m)) count
    ∙ pass_same q r (length (overlaps r.program)) ∙ sym (a.counted outcome) ∙ e ∙ pass_same r q n

-- one is passed exactly when the other is
pub check-rewritten :
    (s t : List ℕ) (r q : Reading) → read_program s ≡ accepted r → read_program t ≡ accepted q
    → q.program ≡ rewritten_all r.program → PassTogether s t r q
check-rewritten s t r q e f same room n fits too =
    let a = (check-exact s r e).checked room fits in
    let b = (check-exact t q f).checked room too in
    let (forth, back) = one-outcome-rewritten r.program in
    let count : length (overlaps q.program) ≡ length (overlaps r.program) =
    ap (λ (p : Program). length (overlaps p)) same ∙ ap length (overlaps-rewritten r.program)
    ∙ length-map (overlaps r.program) rewritten_overlap in (
      passed-too s t room n r q a b (λ h. subst OneOutcome (sym same) (forth h)) count,
      passed-too t s room n q r b a (λ h. back (subst OneOutcome same h)) (sym count),
    )
