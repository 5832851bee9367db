-- Demand 3 on bytes: `check-exact`, for every text that can be read, wherever the listing fits the room.
-- Assumes nothing.
use Prim.Native.Nat.{ℕ, suc, ◌≤◌, ◌<◌}
use native.Mathlib.Omega.{arith}
use mathlib.Core.Bool.{true, false, cond}
use mathlib.Core.List.{List}
use mathlib.Core.Path.{◌≡◌, refl, sym, ap, subst, ◌∙◌}
use lib.Dec.{ltb, leb→le}
use lib.ListN.{length, get_or}
use Rattle.text.proofs.Opened.{opened as textOpened}
use Rattle.semantics.specs.Strategy.{Final}
use Rattle.semantics.specs.Overlaps.{Overlap}
use Rattle.semantics.specs.Verdict.{Verdict, verdict, confluent, unjoined}
use Rattle.semantics.specs.Claims.{Counterexample, Demand3}
use Rattle.semantics.proofs.Configurations.{Or, inl, inr}
use Rattle.semantics.proofs.Options.{decide, true-T}
use Rattle.semantics.proofs.Remaining.{goal-variables-remain}
use Rattle.semantics.proofs.Demand3.{verdict-exact}
use Rattle.syntax.specs.Answers.{accepted}
use Rattle.syntax.specs.Programs.{Reading, read_program}
use Rattle.syntax.proofs.WellFormed.{read-well_formed}
use Rattle.syntax.proofs.ByValue.{read-by-value}
use Rattle.listing.specs.Listing.{line_of}
use Rattle.verdicts.specs.Verdicts.{verdict_listing}
use Rattle.text.proofs.Decimals.{decimal-exact}
use Rattle.replies.specs.Replies.{Reply, refusal, listing, Text, program_text, reply_of, fitted, check_listing, check_reply}
use Rattle.replies.specs.Claims.{verdict_reply, passes, fails, Checked, Demand3On}

-- a listing that fits the room
pub fitted-listed : (text : Text) (room : ℕ) (bytes : List ℕ) → length bytes ≤ room → fitted text room bytes ≡ listing bytes
unfolding fitted
fitted-listed text room bytes l = go (decide (ltb room (length bytes)))
  where
    go :
        Or (ltb room (length bytes) ≡ true) (ltb room (length bytes) ≡ false)
        → cond (ltb room (length bytes)) (refusal 11 text 0) (listing bytes) ≡ listing bytes
    go (inl t) = absurd (let z : room < length bytes = leb→le (suc room) (length bytes) (true-T t) in omega arith)
    go (inr t) = rw t

-- is the reply
pub check-listed :
    (s : List ℕ) (room : ℕ) (r : Reading) → read_program s ≡ accepted r → length (check_listing r) ≤ room
    → check_reply s room ≡ listing (check_listing r)
unfolding check_reply reply_of
check-listed s room r e l = rw e (fitted-listed program_text room (check_listing r) l)

-- the first byte of a listing
first_byte : Reply → ℕ
first_byte (refusal number text line) = 0
first_byte (listing bytes) = get_or bytes 0 0

-- a reply that shows an overlap is no pass
pub fail-no-pass :
    (r : Reading) (o : Overlap) (one two : Final) (n : ℕ) → verdict_reply r (unjoined o one two) ≡ verdict_reply r (confluent n) → ⊥
unfolding verdict_reply verdict_listing line_of textOpened first_byte
fail-no-pass r o one two n e = let z : ◌≡◌ {A = ℕ} 85 67 = ap first_byte e in omega arith

-- one verdict is not two
pub verdict-one {ℓ} : {A : Type ℓ} {v : Verdict} {n : ℕ} {o : Overlap} {one two : Final} → v ≡ confluent n → v ≡ unjoined o one two
    → A
verdict-one e f = absurd (let z : ◌≡◌ {A = ℕ} 0 1 = cc in omega arith)

-- the check on bytes, from demand 3 on the verdict
checked-of-verdict :
    (s : List ℕ) (room : ℕ) (r : Reading) → check_reply s room ≡ listing (check_listing r) → Demand3 r.program
    → Checked s room r
unfolding check_listing verdict_reply
checked-of-verdict s room r e d = go (verdict r.program) refl
  where
    shown :
        (o : Overlap) (one two : Final) → Counterexample r.program o one two
        → check_reply s room ≡ verdict_reply r (unjoined o one two)
    shown o one two c = e ∙ ap (verdict_reply r) ((d.shown o one two).1 c)

    go : (v : Verdict) → verdict r.program ≡ v → Checked s room r
    go (confluent n) k =
        let reply : check_reply s room ≡ verdict_reply r (confluent n) = e ∙ ap (verdict_reply r) k in
        record {
          decided = passes n reply;
          exact = (λ _. d.exact.0 (n, k), λ _. (n, reply));
          counted = λ _. subst (λ m. check_reply s room ≡ verdict_reply r (confluent m)) (d.counted n k) reply;
          shown = shown;
        }
    go (unjoined o one two) k =
        let reply : check_reply s room ≡ verdict_reply r (unjoined o one two) = e ∙ ap (verdict_reply r) k in
        record {
          decided = fails o one two reply ((d.shown o one two).0 k);
          exact = (λ p. absurd (fail-no-pass r o one two p.0 (sym reply ∙ p.1)), λ h. verdict-one (d.exact.1 h).1 k);
          counted = λ h. verdict-one (d.exact.1 h).1 k;
          shown = shown;
        }

-- demand 3: for every text that can be read
pub check-exact : (s : List ℕ) (r : Reading) → read_program s ≡ accepted r → Demand3On s r
check-exact s r e =
    let d = verdict-exact r.program (read-well_formed s e) in
    record {
      checked = λ room l. checked-of-verdict s room r (check-listed s room r e l) d;
      enough = d.enough;
      ordered = d.ordered;
      bounded = d.bounded;
      kept = goal-variables-remain r.program;
      constants = read-by-value s e;
      decimals = decimal-exact;
    }
