-- What of a reply has to fit into the number that a C export returns: a refusal's line is one of the text's, at most 16,384,
-- and a listing has less than 2^31 bytes.
--   program-number                a refusal of a program's text is by a number from 1 to 9
--   program-line, goal-line       a refusal's line
--   Within                        a refusal by a number from 1 to 11 at a line below 2^16, or a listing of less than 2^31 bytes
--   run-within, check-within      so is every reply, for an output of any room
--   laid-within                   and every reply of a check in a layout that lays down so few bytes
-- Assumes nothing.
use Prim.Native.Nat.{ℕ, ◌≤◌, ◌<◌}
use native.Mathlib.Omega.{arith}
use mathlib.Core.Bool.{Bool, true, false, cond}
use mathlib.Core.List.{List}
use mathlib.Core.Path.{◌≡◌, refl}
use lib.Dec.{ltb}
use lib.ListN.{length}
use Rattle.semantics.specs.Terms.{Symbol}
use Rattle.syntax.specs.Answers.{Answer, refused, accepted}
use Rattle.syntax.specs.Programs.{Reading, read_program}
use Rattle.syntax.specs.Goals.{GoalReading, read_goal}
use Rattle.replies.specs.Replies.{Text, program_text, goal_text, Reply, refusal, listing, reply_of, fitted, run_listing}
use Rattle.replies.specs.Replies.{check_listing, run_reply, check_reply, Layout, plain, laid_reply}
use Rattle.replies.proofs.ShortNames.{Turned, ShortProgram, ShortGoal, program-short, goal-short, reads-refused}
use Rattle.replies.proofs.Room.{run-few}
use Rattle.replies.proofs.CheckRoom.{check-few}

-- a refusal of a program's text, and of a goal's
program-turned : (s : List ℕ) {number line : ℕ} → read_program s ≡ refused number line → Turned 9 number line
program-turned s e = reads-refused 9 ShortProgram (read_program s) (program-short s) e

goal-turned :
    (symbols : List Symbol) (constants : List (List ℕ)) (s : List ℕ) {number line : ℕ}
    → read_goal symbols constants s ≡ refused number line → Turned 10 number line
goal-turned symbols constants s e =
    reads-refused 10 (ShortGoal constants) (read_goal symbols constants s) (goal-short symbols constants s) e

-- a program's is by a number from 1 to 9
pub program-number : (s : List ℕ) {number line : ℕ} → read_program s ≡ refused number line → (1 ≤ number) × (number ≤ 9)
program-number s e = let t = program-turned s e in (t.least, t.most)

-- its line is at most 16,384
pub program-line : (s : List ℕ) {number line : ℕ} → read_program s ≡ refused number line → line ≤ 16384
program-line s e = (program-turned s e).within

pub goal-line :
    (symbols : List Symbol) (constants : List (List ℕ)) (s : List ℕ) {number line : ℕ}
    → read_goal symbols constants s ≡ refused number line → line ≤ 16384
goal-line symbols constants s e = (goal-turned symbols constants s e).within

-- a refusal by a number from 1 to 11 at a line below 2^16, or a listing of less than 2^31 bytes
abbrev pub Within : Reply → Type 0
Within (refusal number text line) = (1 ≤ number) × (number ≤ 11) × (line < 65536)
Within (listing bytes) = length bytes < 2147483648

-- a refusal that reading may answer, and a listing or number 11
turned-within :
    (m number : ℕ) (text : Text) (line : ℕ) → m ≤ 10 → Turned m number line → Within (refusal number text line)
turned-within m number text line few h = (h.least, omega (arith, h.most), omega (arith, h.within))

fitted-within : (text : Text) (room : ℕ) (bytes : List ℕ) → length bytes < 2147483648 → Within (fitted text room bytes)
unfolding fitted
fitted-within text room bytes h = go (ltb room (length bytes))
  where
    go : (b : Bool) → Within (cond b (refusal 11 text 0) (listing bytes))
    go true = (omega arith, omega arith, omega arith)
    go false = omega arith

-- every reply of a run
pub run-within : (program goal : List ℕ) (room : ℕ) → Within (run_reply program goal room)
unfolding run_reply reply_of
run-within program goal room = go (read_program program) refl
  where
    goals :
        (p : Reading) → read_program program ≡ accepted p → (a : Answer GoalReading)
        → read_goal p.program.symbols p.constants goal ≡ a
        → Within (reply_of goal_text a (λ g. fitted goal_text room (run_listing p g)))
    goals p k (refused n l) h =
        turned-within 10 n goal_text l (omega arith) (goal-turned p.program.symbols p.constants goal h)
    goals p k (accepted g) h = fitted-within goal_text room (run_listing p g) (omega (arith, run-few program goal p g k h))

    go :
        (a : Answer Reading) → read_program program ≡ a
        → Within (reply_of program_text a (λ p. reply_of goal_text (read_goal p.program.symbols p.constants goal)
        (λ g. fitted goal_text room (run_listing p g))))
    go (refused n l) k = turned-within 9 n program_text l (omega arith) (program-turned program k)
    go (accepted p) k = goals p k (read_goal p.program.symbols p.constants goal) refl

-- every reply of a check in a layout that lays down less than 2^31 bytes
pub laid-within :
    (layout : Layout) (program : List ℕ) (room : ℕ)
    → ((p : Reading) → read_program program ≡ accepted p → length (layout.laid (check_listing p)) < 2147483648)
    → Within (laid_reply layout program room)
unfolding laid_reply reply_of
laid-within layout program room few = go (read_program program) refl
  where
    go :
        (a : Answer Reading) → read_program program ≡ a
        → Within (reply_of program_text a (λ p. fitted program_text room (layout.laid (check_listing p))))
    go (refused n l) k = turned-within 9 n program_text l (omega arith) (program-turned program k)
    go (accepted p) k = fitted-within program_text room (layout.laid (check_listing p)) (few p k)

-- every reply of a check
pub check-within : (program : List ℕ) (room : ℕ) → Within (check_reply program room)
unfolding check_reply laid_reply plain
check-within program room = laid-within plain program room (λ p k. omega (arith, check-few program p k))
