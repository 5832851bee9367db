-- The digits of the sweep, case by case.
--   digit_low, digit-high           the digit of a number
--   refused-digit, listed-digit     the digit of a reply, by its answer
--   program-swept, goal-swept, nothing-swept      the digit of a place and a byte, by the place
-- Assumes nothing.
use Prim.Native.Nat.{ℕ, ◌+◌, ◌-◌, ◌≤◌, ◌<◌}
use native.Mathlib.Omega.{arith}
use mathlib.Core.List.{List, []}
use mathlib.Core.Path.{◌≡◌, refl, sym, ap, ◌∙◌}
use lib.ListN.{set}
use borrow.Author.Tests.{lt-ltb, le-ltb}
use Rattle.replies.specs.Replies.{Reply, refusal, listing, run_reply, ample}
use Rattle.answers.specs.Answers.{answer_of, Replied}
use Rattle.answers.specs.declared.Refusal.{Refusal}
use Rattle.answers.specs.Results.{RunReply}
use Rattle.std.specs.Prelude.{Ok, Err}
use Rattle.rehearsal.specs.Sweep.{number_digit, digit_of, swept_program, swept_goal, goal_program, swept_digit}

-- the digit of a number
pub digit_low : (n : ℕ) → n < 10 → 48 + n ≡ number_digit n
unfolding number_digit
digit_low n h = rw (lt-ltb n 10 h)

pub digit-high : (n : ℕ) → 10 ≤ n → 63 ≡ number_digit n
unfolding number_digit
digit-high n h = rw (le-ltb n 10 h)

-- the digit of a reply, by its answer
answer-digit : (x : Refusal) (reply : Reply) → Err x ≡ answer_of reply → number_digit x.number ≡ digit_of reply
unfolding answer_of digit_of
answer-digit x (refusal number text line) e =
    let same : x.number ≡ number = cc in
    ap number_digit same
answer-digit x (listing bytes) e = absurd (let z : ◌≡◌ {A = ℕ} 0 1 = cc in omega arith)

count-digit : (n : ℕ) (reply : Reply) → Ok n ≡ answer_of reply → 48 ≡ digit_of reply
unfolding answer_of digit_of
count-digit n (refusal number text line) e = absurd (let z : ◌≡◌ {A = ℕ} 0 1 = cc in omega arith)
count-digit n (listing bytes) e = refl

-- the digit of a run's reply
module _ (program goal : List ℕ) {o a : List ℕ} {r : RunReply} (replied : Replied (run_reply program goal ample) o a r) where
  pub refused-digit : (x : Refusal) (d : ℕ) → r ≡ Err x → d ≡ number_digit x.number
      → d ≡ digit_of (run_reply program goal ample)
  refused-digit x d e h = h ∙ answer-digit x (run_reply program goal ample) (sym e ∙ replied.answer)

  pub listed-digit : (n : ℕ) → r ≡ Ok n → 48 ≡ digit_of (run_reply program goal ample)
  listed-digit n e = count-digit n (run_reply program goal ample) (sym e ∙ replied.answer)

-- the digit of a place and a byte, by the place
pub program-swept : (i b r : ℕ) → i < 26 → r ≡ digit_of (run_reply (set swept_program i b) [] ample) → r ≡ swept_digit i b
unfolding swept_digit
program-swept i b r h e = rw (lt-ltb i 26 h) e

pub goal-swept : (i b r : ℕ) → 26 ≤ i → i < 42 → r ≡ digit_of (run_reply goal_program (set swept_goal (i - 26) b) ample)
    → r ≡ swept_digit i b
unfolding swept_digit
goal-swept i b r h k e = rw (le-ltb i 26 h, lt-ltb i 42 k) e

pub nothing-swept : (i b : ℕ) → 42 ≤ i → 63 ≡ swept_digit i b
unfolding swept_digit
nothing-swept i b h = rw (le-ltb i 26 (omega arith), le-ltb i 42 h)
