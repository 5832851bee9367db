-- The first 40,000 bytes of an input decide what the two programs print: `prefix-decides` for `sheetrun`, and
-- `check-prefix-decides` for `sheetcheck`.
--   long-program, long-goal     a text of more than 16,384 bytes meets number 1
--   agree-replies               inputs whose parts agree over enough bytes have the same reply
--   prefix-replies              so do an input and its first n bytes, for any n from 32,774 on
--   check-prefix-replies        for a check, any n from 16,385 on
-- Assumes nothing.
use Prim.Native.Nat.{ℕ, ◌≤◌, ◌<◌}
use native.Mathlib.Decide.{dec_lt}
use native.Mathlib.Omega.{arith}
use mathlib.Core.List.{List}
use mathlib.Core.Path.{◌≡◌, refl, sym, ap, ◌∙◌}
use lib.ListN.{length, take}
use lib.Seq.{length-take-le, take_all}
use borrow.Author.Tests.{lt-ltb}
use Rattle.text.specs.Lines.{Parts, parted}
use Rattle.semantics.specs.Terms.{Symbol}
use Rattle.syntax.specs.Answers.{Answer, refused, accepted}
use Rattle.syntax.specs.Programs.{Reading, read_program}
use Rattle.syntax.specs.Goals.{read_goal}
use Rattle.replies.specs.Replies.{refusal, program_text, goal_text, reply_of, fitted, run_listing, run_reply}
use Rattle.replies.specs.Replies.{check_reply, printed, ample, sheetrun, sheetcheck}
use Rattle.replies.proofs.Parting.{Agree, same_program, long_programs, parted-agrees}

-- a text of more than 16,384 bytes meets number 1
pub long-program : (s : List ℕ) → 16384 < length s → read_program s ≡ refused 1 0
unfolding read_program
long-program s h = rw (lt-ltb 16384 (length s) h)

pub long-goal :
    (symbols : List Symbol) (constants : List (List ℕ)) (s : List ℕ) → 16384 < length s
    → read_goal symbols constants s ≡ refused 1 0
unfolding read_goal
long-goal symbols constants s h = rw (lt-ltb 16384 (length s) h)

-- the reply where the program is too long, and where the goal is
program-replies :
    (program goal : List ℕ) (room : ℕ) → 16384 < length program → run_reply program goal room ≡ refusal 1 program_text 0
unfolding run_reply reply_of
program-replies program goal room h = rw (long-program program h)

goal-replies :
    (program goal : List ℕ) (room : ℕ) → 16384 < length goal
    → run_reply program goal room ≡ reply_of program_text (read_program program) (λ _. refusal 1 goal_text 0)
unfolding run_reply reply_of
goal-replies program goal room h = go (read_program program)
  where
    go :
        (a : Answer Reading)
        → reply_of program_text a
        (λ p. reply_of goal_text (read_goal p.program.symbols p.constants goal) (λ g. fitted goal_text room (run_listing p g)))
        ≡ reply_of program_text a (λ _. refusal 1 goal_text 0)
    go (refused number line) = refl
    go (accepted p) = rw (long-goal p.program.symbols p.constants goal h)

-- inputs whose parts agree over enough bytes have the same reply
pub agree-replies :
    (n : ℕ) (x y : Parts) (room : ℕ) → 32774 ≤ n → Agree n x y
    → run_reply x.program x.goal room ≡ run_reply y.program y.goal room
agree-replies n x y room h (long_programs a b) =
    program-replies x.program x.goal room (omega arith) ∙ sym (program-replies y.program y.goal room (omega arith))
agree-replies n x y room h (same_program e a b) = elim (dec_lt 16384 (length x.program)) [
  | yes k ↦
      program-replies x.program x.goal room k
      ∙ sym (program-replies y.program y.goal room (omega (arith, k, ap length e)))
  | no k ↦
      goal-replies x.program x.goal room (omega (arith, k))
      ∙ ap (λ (s : List ℕ). reply_of program_text (read_program s) (λ _. refusal 1 goal_text 0)) e
      ∙ sym (goal-replies y.program y.goal room (omega (arith, k, ap length e)))
]

-- the first n bytes of an input decide its reply, for any n from 16,384 + 5 + 16,385 on
pub prefix-replies :
    (n : ℕ) (input : List ℕ) (room : ℕ) → 32774 ≤ n
    → run_reply (parted (take n input)).program (parted (take n input)).goal room
    ≡ run_reply (parted input).program (parted input).goal room
prefix-replies n input room h = elim (dec_lt n (length input)) [
  | yes k ↦ sym (agree-replies n (parted input) (parted (take n input)) room h (parted-agrees n input (omega (arith, k))))
  | no k ↦ rw (take_all n input (omega (arith, k)))
]

-- the first 40,000 bytes of an input decide what `sheetrun` prints
pub prefix-decides : (input : List ℕ) → sheetrun (take 40000 input) ≡ sheetrun input
unfolding sheetrun
prefix-decides input = ap printed (prefix-replies 40000 input ample (omega arith))

-- the reply of a check where the program is too long
check-replies : (program : List ℕ) (room : ℕ) → 16384 < length program → check_reply program room ≡ refusal 1 program_text 0
unfolding check_reply reply_of
check-replies program room h = rw (long-program program h)

-- the first n bytes of a program decide the reply of its check, for any n from 16,385 on
pub check-prefix-replies :
    (n : ℕ) (input : List ℕ) (room : ℕ) → 16385 ≤ n → check_reply (take n input) room ≡ check_reply input room
check-prefix-replies n input room h = elim (dec_lt n (length input)) [
  | yes k ↦
      check-replies (take n input) room (omega (arith, length-take-le n input (omega (arith, k))))
      ∙ sym (check-replies input room (omega (arith, k)))
  | no k ↦ rw (take_all n input (omega (arith, k)))
]

-- the first 40,000 bytes of an input decide what `sheetcheck` prints
pub check-prefix-decides : (input : List ℕ) → sheetcheck (take 40000 input) ≡ sheetcheck input
unfolding sheetcheck
check-prefix-decides input = ap printed (check-prefix-replies 40000 input ample (omega arith))
