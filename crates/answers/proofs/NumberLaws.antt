-- The number that a C export returns decodes to its answer, of which holds all that `run` and `check` promise.
--   refusal-read                 the refusal read off its number
--   run-read, check-read         so is every answer of a run, and of a check
--   run-number-decodes           the number of `roketuma_run` (the main law for runs)
--   check-answer-decodes         the number of an answer of a check decodes to it (the main law for checks)
--   check-returned, laid-returned     the number that an export returns: of a check, and of one in any layout
--   returned-…                   the numbers that `roketuma_run` returns, answer by answer
--   run-number-one, check-number-one   one number, one answer
--   check-few, answer-few        an answer of a check lists less than 2^31 bytes, in any layout whose replies do
-- Assumes nothing.
use Prim.Native.Nat.{ℕ, ◌+◌, ◌-◌, ◌*◌, ◌/◌, ◌%◌, ◌≤◌, ◌<◌}
use native.Mathlib.Omega.{arith}
use mathlib.Core.List.{List}
use mathlib.Core.Path.{◌≡◌, refl, sym, ap, subst, ◌∙◌}
use lib.ListN.{length, drop}
use lib.Seq.{length-take-le, take_at}
use borrow.Author.Tests.{lt-ltb, le-ltb}
use Rattle.replies.specs.Replies.{Text, program_text, goal_text, Reply, refusal, listing, run_reply, check_reply, output_after}
use Rattle.replies.specs.Replies.{Layout, plain, laid_reply}
use Rattle.replies.proofs.LineNumbers.{Within, run-within, check-within}
use Rattle.answers.specs.Answers.{text_meant, letter_of, reply_meant, answer_of, name_byte, answer_number}
use Rattle.answers.specs.Answers.{Replied, Returned}
use Rattle.answers.specs.Promises.{check_meant, listed_bytes, CheckReplied, Demand3Of, check_number, CheckReturned}
use Rattle.answers.specs.Numbers.{letter_read, refusal_read, run_read, check_read}
use Rattle.answers.specs.declared.TextName.{TextName}
use Rattle.answers.specs.declared.TextName.TheVariants.{S, G}
use Rattle.answers.specs.declared.Refusal.{Refusal}
use Rattle.answers.specs.Results.{RunReply}
use Rattle.std.specs.Prelude.{Ok, Err}
use Rattle.answers.specs.Results.{CheckReply}
use Rattle.answers.specs.declared.Verdict.TheVariants.{Confluent, Unjoined}
use Rattle.answers.proofs.ReplyLaws.{reply-number}

-- the refusal read off its number
pub refusal-read :
    (number line : ℕ) (t : TextName) → line < 65536
    → refusal_read (4294967296 * number + 65536 * name_byte t + line) ≡ record { number = number; text = t; line = line }
unfolding refusal_read letter_read name_byte
refusal-read number line S few =
    let n = 4294967296 * number + 65536 * 83 + line in
    let a : n / 4294967296 ≡ number = omega (arith, few) in
    let b : n / 65536 % 65536 ≡ 83 = omega (arith, few) in
    let c : n % 65536 ≡ line = omega (arith, few) in
    rw (a, b, c)
refusal-read number line G few =
    let n = 4294967296 * number + 65536 * 71 + line in
    let a : n / 4294967296 ≡ number = omega (arith, few) in
    let b : n / 65536 % 65536 ≡ 71 = omega (arith, few) in
    let c : n % 65536 ≡ line = omega (arith, few) in
    rw (a, b, c)

-- an answer within the bounds, of a run
run-read : (reply : Reply) → Within reply → run_read (answer_number (answer_of reply)) ≡ answer_of reply
unfolding run_read answer_number answer_of
run-read (refusal number text line) (least, most, few) =
    rw (le-ltb (4294967296 * number + 65536 * name_byte (letter_of text) + line) 4294967296 (omega (arith, least)))
    (ap Err (refusal-read number line (letter_of text) few))
run-read (listing bytes) few = rw (lt-ltb (length bytes) 4294967296 (omega (arith, few)))

-- the letter of a text names it
letter-meant : (t : Text) → text_meant (letter_of t) ≡ t
unfolding text_meant letter_of
letter-meant program_text = refl
letter-meant goal_text = refl

-- the answer of a reply, with an output that is left as the reply says
replied-of :
    (reply : Reply) (before after : List ℕ) → after ≡ output_after reply before → Replied reply before after (answer_of reply)
unfolding reply_meant answer_of output_after
replied-of (refusal number text line) before after h =
    record { meant = ap (λ (t : Text). refusal number t line) (letter-meant text); answer = refl; output = h }
replied-of (listing bytes) before after h =
    record {
      meant = rw h (ap listing (take_at bytes (drop (length bytes) before) (length bytes) refl));
      answer = refl;
      output = h;
    }

-- the number of `roketuma_run` decodes to an answer of which holds what `run` promises
pub run-number-decodes :
    (program goal before after : List ℕ) (n : ℕ) → Returned (run_reply program goal (length before)) before after n
    → Replied (run_reply program goal (length before)) before after (run_read n)
run-number-decodes program goal before after n r =
    let reply = run_reply program goal (length before) in
    let same : run_read n ≡ answer_of reply =
    ap run_read (r.answer ∙ sym (reply-number reply)) ∙ run-read reply (run-within program goal (length before)) in
    subst (Replied reply before after) (sym same) (replied-of reply before after r.output)

-- an answer within the bounds, of a check: it lists no more bytes than there are
check-read :
    (r : CheckReply) (after : List ℕ) → Within (check_meant r after) → listed_bytes r ≤ length after → check_read (check_number r) ≡ r
unfolding check_read check_number check_meant listed_bytes
check-read (Err f) after (least, most, few) h =
    let n = 4294967296 * f.number + 65536 * name_byte f.text + f.line in
    rw (le-ltb n 2147483648 (omega (arith, least)), le-ltb n 4294967296 (omega (arith, least)))
    (ap Err (refusal-read f.number f.line f.text few))
check-read (Ok (Confluent n)) after few h = rw (lt-ltb n 2147483648 (omega (arith, few, length-take-le n after h)))
check-read (Ok (Unjoined n)) after few h =
    let low : n < 2147483648 = omega (arith, few, length-take-le n after h) in
    let back : 2147483648 + n - 2147483648 ≡ n = omega arith in
    rw (le-ltb (2147483648 + n) 2147483648 (omega arith), lt-ltb (2147483648 + n) 4294967296 (omega (arith, low)), back)

-- the number of an answer, by its form
pub number-refused :
    {r : CheckReply} {f : Refusal} {n : ℕ} → r ≡ Err f
    → n ≡ 4294967296 * f.number + 65536 * name_byte f.text + f.line → n ≡ check_number r
unfolding check_number
number-refused e h = h ∙ ap check_number (sym e)

pub number_passed : {r : CheckReply} {n : ℕ} → r ≡ Ok (Confluent n) → n ≡ check_number r
unfolding check_number
number_passed e = ap check_number (sym e)

pub number-failed : {r : CheckReply} {n : ℕ} → r ≡ Ok (Unjoined n) → 2147483648 + n ≡ check_number r
unfolding check_number
number-failed e = ap check_number (sym e)

-- the bytes of an unjoined overlap's listing, where those of the answer are few
pub failed-few : {r : CheckReply} {n : ℕ} → r ≡ Ok (Unjoined n) → listed_bytes r < 2147483648 → n < 2147483648
unfolding listed_bytes
failed-few e h = omega (arith, h, ap listed_bytes e)

-- the number of an answer whose reply is within the bounds decodes to it
pub answer-decodes :
    {reply : Reply} {before after : List ℕ} {r : CheckReply} → Within reply → CheckReplied reply before after r
    → check_read (check_number r) ≡ r
answer-decodes {after = after} {r} within c = check-read r after (subst Within (sym c.meant) within) c.counted

-- the number of an answer of a check decodes to it
pub check-answer-decodes :
    (s before after : List ℕ) (r : CheckReply) → CheckReplied (check_reply s (length before)) before after r
    → check_read (check_number r) ≡ r
check-answer-decodes s before after r c = answer-decodes (check-within s (length before)) c

-- an answer whose reply is within the bounds lists less than 2^31 bytes
pub answer-few :
    {reply : Reply} {before after : List ℕ} {r : CheckReply} → Within reply → CheckReplied reply before after r
    → listed_bytes r < 2147483648
unfolding check_meant listed_bytes
answer-few {after = after} {r} within c = go r (subst Within (sym c.meant) within) c.counted
  where
    go : (q : CheckReply) → Within (check_meant q after) → listed_bytes q ≤ length after → listed_bytes q < 2147483648
    go (Err f) w h = omega arith
    go (Ok (Confluent n)) w h = omega (arith, length-take-le n after h)
    go (Ok (Unjoined n)) w h = omega (arith, length-take-le n after h)

pub check-few :
    (s : List ℕ) {before after : List ℕ} {r : CheckReply} → CheckReplied (check_reply s (length before)) before after r
    → listed_bytes r < 2147483648
check-few s {before} c = answer-few (check-within s (length before)) c

-- the number of an answer, of which holds what is promised of the answer
pub laid-returned :
    (layout : Layout) (s : List ℕ) {before after : List ℕ} {a : CheckReply} {n : ℕ}
    → Within (laid_reply layout s (length before)) → CheckReplied (laid_reply layout s (length before)) before after a
    → Demand3Of layout s before after a → n ≡ check_number a → CheckReturned layout s before after n
laid-returned layout s {before} {after} {a} {n} within c d e =
    let same : check_read n ≡ a = ap check_read e ∙ answer-decodes within c in
    record {
      number = e ∙ ap check_number (sym same);
      replied = subst (CheckReplied (laid_reply layout s (length before)) before after) (sym same) c;
      demand = subst (Demand3Of layout s before after) (sym same) d;
    }

-- so the number of an answer of `check` is returned
pub check-returned :
    (s : List ℕ) {before after : List ℕ} {a : CheckReply} {n : ℕ}
    → CheckReplied (check_reply s (length before)) before after a × Demand3Of plain s before after a → n ≡ check_number a
    → CheckReturned plain s before after n
unfolding check_reply laid_reply plain
check-returned s {before} (c, d) e = laid-returned plain s (check-within s (length before)) c d e

-- the number of an answer of a run: a refusal's, and that of a listing
module _ {reply : Reply} {before after : List ℕ} {a : RunReply} (r : Replied reply before after a) where
  pub returned-refused : {f : Refusal} {n : ℕ} → a ≡ Err f
      → n ≡ 4294967296 * f.number + 65536 * name_byte f.text + f.line → Returned reply before after n
  unfolding answer_number
  returned-refused e h =
      record { answer = h ∙ ap answer_number (sym e ∙ r.answer) ∙ reply-number reply; output = r.output }

  pub returned-listed : {n : ℕ} → a ≡ Ok n → Returned reply before after n
  unfolding answer_number
  returned-listed e = record { answer = ap answer_number (sym e ∙ r.answer) ∙ reply-number reply; output = r.output }

-- runs that return one number have one answer, and so have checks
pub run-number-one :
    (program goal before after program' goal' before' after' : List ℕ) (n : ℕ)
    → Returned (run_reply program goal (length before)) before after n
    → Returned (run_reply program' goal' (length before')) before' after' n
    → answer_of (run_reply program goal (length before)) ≡ answer_of (run_reply program' goal' (length before'))
run-number-one program goal before after program' goal' before' after' n r q =
    sym (run-number-decodes program goal before after n r).answer ∙ (run-number-decodes program' goal' before' after' n q).answer

pub check-number-one :
    (s before after s' before' after' : List ℕ) (a b : CheckReply) → CheckReplied (check_reply s (length before)) before after a
    → CheckReplied (check_reply s' (length before')) before' after' b → check_number a ≡ check_number b → a ≡ b
check-number-one s before after s' before' after' a b c d e =
    sym (check-answer-decodes s before after a c) ∙ (ap check_read e ∙ check-answer-decodes s' before' after' b d)
