-- The reply of a run, case by case.
--   refused-program, refused-goal      a text that is refused
--   listed-short, listed-written       a listing that does not fit, and one that does
--   listed-within                      a listing lies inside the output
--   byte-few, reply-number             the byte of a letter; the number of a reply's answer is the reply's
-- Assumes nothing.
use Rattle.std.specs.Prelude.{Option, None, Some}
use Prim.Native.Nat.{ℕ, ◌+◌, ◌*◌, ◌≤◌}
use native.Mathlib.Omega.{arith}
use mathlib.Core.Bool.{Bool, true, false, cond}
use mathlib.Core.List.{List, ◌++◌}
use mathlib.Core.Path.{◌≡◌, refl, sym, ap, ◌∙◌}
use lib.Dec.{ltb}
use lib.ListN.{length, length-append, drop}
use lib.Seq.{take_at}
use Rattle.syntax.specs.Answers.{refused, accepted}
use Rattle.syntax.specs.Programs.{Reading, read_program}
use Rattle.syntax.specs.Goals.{read_goal}
use Rattle.listing.specs.Writing.{listed_in, listed_over, ListedAs}
use Rattle.replies.specs.Replies.{Text, program_text, goal_text, Reply, refusal, listing, reply_of, fitted, run_reply}
use Rattle.replies.specs.Replies.{output_after}
use Rattle.answers.specs.Answers.{text_meant, reply_meant, letter_of, answer_of, Replied, name_byte}
use Rattle.answers.specs.Answers.{answer_number, text_byte, reply_number}
use Rattle.answers.specs.declared.TextName.{TextName}
use Rattle.answers.specs.declared.TextName.TheVariants.{S, G}
use Rattle.answers.specs.Results.{RunReply}
use Rattle.std.specs.Prelude.{Ok, Err}

-- a program's text that is refused
pub refused-program :
    (program goal output : List ℕ) (number line : ℕ) → read_program program ≡ refused number line
    → Replied (run_reply program goal (length output)) output output (Err (record { number = number; text = S; line = line }))
unfolding run_reply reply_of reply_meant text_meant answer_of letter_of output_after
refused-program program goal output number line e = rw e (record { meant = refl; answer = refl; output = refl })

-- a goal's text that is refused
pub refused-goal :
    (program goal output : List ℕ) (p : Reading) (number line : ℕ) → read_program program ≡ accepted p
    → read_goal p.program.symbols p.constants goal ≡ refused number line
    → Replied (run_reply program goal (length output)) output output (Err (record { number = number; text = G; line = line }))
unfolding run_reply reply_of reply_meant text_meant answer_of letter_of output_after
refused-goal program goal output p number line r e = rw (r, e) (record { meant = refl; answer = refl; output = refl })

-- a listing that does not fit
pub listed-short :
    {bytes before after : List ℕ} {reply : Option ℕ} → ListedAs bytes before after reply → reply ≡ None
    → Replied (fitted goal_text (length before) bytes) before after (Err (record { number = 11; text = G; line = 0 }))
unfolding fitted listed_in listed_over output_after reply_meant text_meant answer_of letter_of
listed-short {bytes} {before} {after} {reply} l e = go (ltb (length before) (length bytes)) (sym e ∙ l.answer) l.output
  where
    go :
        (b : Bool) → None ≡ cond b None (Some (length bytes)) → after ≡ cond b before (bytes ++ drop (length bytes) before)
        → Replied (cond b (refusal 11 goal_text 0) (listing bytes)) before after
        (Err (record { number = 11; text = G; line = 0 }))
    go true a o = record { meant = refl; answer = refl; output = o }
    go false a o = absurd (let z : ◌≡◌ {A = ℕ} 0 1 = cc in omega arith)

-- a listing that fits
pub listed-written :
    {bytes before after : List ℕ} {reply : Option ℕ} (n : ℕ) → ListedAs bytes before after reply → reply ≡ Some n
    → Replied (fitted goal_text (length before) bytes) before after (Ok n)
unfolding fitted listed_in listed_over output_after reply_meant answer_of
listed-written {bytes} {before} {after} {reply} n l e = go (ltb (length before) (length bytes)) (sym e ∙ l.answer) l.output
  where
    go :
        (b : Bool) → Some n ≡ cond b None (Some (length bytes)) → after ≡ cond b before (bytes ++ drop (length bytes) before)
        → Replied (cond b (refusal 11 goal_text 0) (listing bytes)) before after (Ok n)
    go true a o = absurd (let z : ◌≡◌ {A = ℕ} 0 1 = cc in omega arith)
    go false a o =
        let size : n ≡ length bytes = cc in
        record {
          meant = rw (o, size) (ap listing (take_at bytes (drop (length bytes) before) (length bytes) refl));
          answer = rw
              size;
          output = o;
        }

-- a listing lies inside the output
pub listed-within :
    {reply : Reply} {before after : List ℕ} {r : RunReply} (n : ℕ) → Replied reply before after r → r ≡ Ok n
    → n ≤ length after
unfolding answer_of output_after
listed-within {reply} {before} {after} {r} n p e = go reply (sym e ∙ p.answer) p.output
  where
    go : (reply : Reply) → Ok n ≡ answer_of reply → after ≡ output_after reply before → n ≤ length after
    go (refusal number text line) a o = absurd (let z : ◌≡◌ {A = ℕ} 0 1 = cc in omega arith)
    go (listing bytes) a o =
        let size : n ≡ length bytes = cc in
        omega (arith, ap length o, length-append bytes (drop (length bytes) before))

-- a letter's byte
pub byte-few : (t : TextName) → name_byte t ≤ 83
unfolding name_byte
byte-few S = omega arith
byte-few G = omega arith

letter-byte : (t : Text) → name_byte (letter_of t) ≡ text_byte t
unfolding name_byte letter_of text_byte
letter-byte program_text = refl
letter-byte goal_text = refl

-- the number of a reply's answer is the reply's
pub reply-number : (reply : Reply) → answer_number (answer_of reply) ≡ reply_number reply
unfolding answer_number answer_of reply_number
reply-number (refusal number text line) = ap (λ (b : ℕ). 4294967296 * number + 65536 * b + line) (letter-byte text)
reply-number (listing bytes) = refl
