-- Reading two texts, and how it is tied to a run of them.
--   program-unreadable, goal-unreadable    the judgement of a text that is refused
--   goal-readable                          the judgement of a goal that is read
--   program-goes-on                        where a program is read, the goal's judgement is that of both
--   returned-unreadable, returned-readable   the number that is returned
--   read-refused, read-readable            a run's reply where the texts are refused, and where they are read
--   read-exact                             reading refuses exactly where a run does by a number below 11 (the main law)
--   read-numbers                           a refusal is by a number from 1 to 10, its line at most 16,384
--   read-number-decodes                    the number of `roketuma_read` decodes to its answer
-- Assumes nothing.
use Prim.Native.Nat.{ℕ, ◌+◌, ◌*◌, ◌≤◌, ◌<◌}
use native.Mathlib.Omega.{arith}
use mathlib.Core.Bool.{Bool, true, false, cond}
use mathlib.Core.List.{List}
use mathlib.Core.Logic.{◌⊎◌, inl, inr, ◌↔◌}
use mathlib.Core.Path.{◌≡◌, refl, sym, ap, ◌∙◌}
use lib.Dec.{ltb}
use lib.ListN.{length, take}
use borrow.Author.Tests.{ne_eqb}
use Rattle.syntax.specs.Answers.{Answer, refused, accepted}
use Rattle.syntax.specs.Programs.{Reading, read_program}
use Rattle.syntax.specs.Goals.{GoalReading, read_goal}
use Rattle.tables.specs.Layout.{symbol_size}
use Rattle.tables.specs.Rows.{symbols_of, constants_of}
use Rattle.programs.specs.Read.{program_answer, reading_of, ProgramIn}
use Rattle.programs.specs.declared.Counts.{Counts}
use Rattle.std.specs.Prelude.{Result, Ok, Err}
use Rattle.faults.specs.Faults.{number_of}
use Rattle.faults.specs.declared.FaultAt.{FaultAt}
use Rattle.goals.specs.ReadGoal.{goal_answer, GoalIn}
use Rattle.goals.specs.declared.GoalCounts.{GoalCounts}
use Rattle.replies.specs.Replies.{Text, program_text, goal_text, refusal, listing, reply_of, fitted, run_listing, run_reply}
use Rattle.replies.proofs.ShortNames.{Turned, Reads, ShortProgram, ShortGoal, program-short, goal-short}
use Rattle.answers.specs.Answers.{text_meant, text_byte, name_byte, reply_number}
use Rattle.roketuma.specs.Readings.{Judgement, readable, unreadable, judged, goal_reply, read_reply, read_meant}
use Rattle.roketuma.specs.Readings.{judgement_number, read_read}
use Rattle.inputs.specs.Inputs.{Tabled}
use Rattle.answers.specs.declared.TextName.{TextName}
use Rattle.answers.specs.declared.TextName.TheVariants.{S, G}
use Rattle.answers.specs.declared.Refusal.{Refusal}
use Rattle.std.specs.Prelude.{Ok, Err}
use Rattle.roketuma.specs.Readings.{ReadReply}
use Rattle.answers.proofs.NumberLaws.{refusal-read}
use Rattle.inputs.proofs.TabledLaws.{goal-answers}

module _ {program names places names' places' symbols' rules' : List ℕ} {reply : Result Counts FaultAt}
    (r : ProgramIn program names places names' places' symbols' rules' reply) where
  -- a program that is refused
  pub program-unreadable :
      (goal : List ℕ) (at : FaultAt) (number : ℕ) → reply ≡ Err at → number ≡ number_of at.fault
      → unreadable number (text_meant S) at.line ≡ read_reply program goal
  unfolding program_answer text_meant read_reply judged
  program-unreadable goal at number h e =
      rw e
      (ap (λ (a : Answer Reading). judged program_text a (λ p. goal_reply p.program.symbols p.constants goal))
      (sym (ap (program_answer names' symbols' rules') h) ∙ r.answers))

  module _ (counts : Counts) (h : reply ≡ Ok counts) where
    -- the goal's judgement is that of both
    pub program-goes-on :
        (goal : List ℕ) (a : ReadReply)
        → read_meant a ≡ goal_reply (symbols_of names' symbols' counts.symbols) (constants_of names' counts.constants) goal
        → read_meant a ≡ read_reply program goal
    unfolding program_answer reading_of read_reply judged
    program-goes-on goal a e =
        e ∙ ap (λ (a : Answer Reading). judged program_text a (λ p. goal_reply p.program.symbols p.constants goal))
        (sym (ap (program_answer names' symbols' rules') h) ∙ r.answers)

module _ {symbols names places : List ℕ} {c : Counts} (t : Tabled symbols names places c) where
  module _ (goal : List ℕ) {names' places' cells letters : List ℕ} {reply : Result GoalCounts FaultAt}
      (g : GoalIn goal (take (symbol_size * c.symbols) symbols) names places c.constants names' places' cells letters
      reply) where
    -- a goal that is refused
    pub goal-unreadable :
        (at : FaultAt) (number : ℕ) → reply ≡ Err at → number ≡ number_of at.fault
        → unreadable number (text_meant G) at.line
        ≡ goal_reply (symbols_of names symbols c.symbols) (constants_of names c.constants) goal
    unfolding goal_answer text_meant goal_reply judged
    goal-unreadable at number h e =
        rw e
        (ap (λ (a : Answer GoalReading). judged goal_text a (λ g. readable))
        (sym (ap (goal_answer names' cells letters) h) ∙ goal-answers t goal g))

    -- a goal that is read
    pub goal-readable :
        (found : GoalCounts) → reply ≡ Ok found
        → read_meant (Ok tt) ≡ goal_reply (symbols_of names symbols c.symbols) (constants_of names c.constants) goal
    unfolding goal_answer read_meant goal_reply judged
    goal-readable found h =
        ap (λ (a : Answer GoalReading). judged goal_text a (λ g. readable))
        (sym (ap (goal_answer names' cells letters) h) ∙ goal-answers t goal g)

-- a letter has the byte of the text that it names
meant-byte : (t : TextName) → name_byte t ≡ text_byte (text_meant t)
unfolding name_byte text_byte text_meant
meant-byte S = refl
meant-byte G = refl

-- the number that is returned: a refusal's as of a run, and 0 where the texts can be read
module _ {j : Judgement} {a : ReadReply} (meant : read_meant a ≡ j) where
  pub returned-unreadable : {f : Refusal} {n : ℕ} → a ≡ Err f
      → n ≡ 4294967296 * f.number + 65536 * name_byte f.text + f.line → n ≡ judgement_number j
  unfolding judgement_number read_meant reply_number
  returned-unreadable {f} e h =
      h ∙ ap (λ (b : ℕ). 4294967296 * f.number + 65536 * b + f.line) (meant-byte f.text)
      ∙ ap judgement_number (ap read_meant (sym e) ∙ meant)

  pub returned-readable : a ≡ (Ok tt) → 0 ≡ judgement_number j
  unfolding judgement_number read_meant
  returned-readable e = ap judgement_number (ap read_meant (sym e) ∙ meant)

-- where the texts are refused, a run of them is, for an output of any room
pub read-refused :
    (program goal : List ℕ) (room number : ℕ) (text : Text) (line : ℕ) → read_reply program goal ≡ unreadable number text line
    → run_reply program goal room ≡ refusal number text line
unfolding read_reply goal_reply judged run_reply reply_of
read-refused program goal room number text line e = go (read_program program) e
  where
    goals :
        (p : Reading) (a : Answer GoalReading) → judged goal_text a (λ g. readable) ≡ unreadable number text line
        → reply_of goal_text a (λ g. fitted goal_text room (run_listing p g)) ≡ refusal number text line
    goals p (refused n l) h = cc
    goals p (accepted g) h = absurd (let z : ◌≡◌ {A = ℕ} 0 1 = cc in omega arith)

    go :
        (a : Answer Reading)
        → judged program_text a (λ p. goal_reply p.program.symbols p.constants goal) ≡ unreadable number text line
        → reply_of program_text a (λ p. reply_of goal_text (read_goal p.program.symbols p.constants goal)
        (λ g. fitted goal_text room (run_listing p g))) ≡ refusal number text line
    go (refused n l) h = cc
    go (accepted p) h = goals p (read_goal p.program.symbols p.constants goal) h

-- where they are read, a run of them is listed, or meets number 11
pub read-readable :
    (program goal : List ℕ) (room : ℕ) → read_reply program goal ≡ readable
    → (run_reply program goal room ≡ refusal 11 goal_text 0) ⊎ ((bytes : List ℕ) × (run_reply program goal room ≡ listing bytes))
unfolding read_reply goal_reply judged run_reply reply_of fitted
read-readable program goal room e = go (read_program program) e
  where
    fits :
        (b : Bool) (bytes : List ℕ)
        → (cond b (refusal 11 goal_text 0) (listing bytes) ≡ refusal 11 goal_text 0)
        ⊎ ((more : List ℕ) × (cond b (refusal 11 goal_text 0) (listing bytes) ≡ listing more))
    fits true bytes = inl refl
    fits false bytes = inr (bytes, refl)

    goals :
        (p : Reading) (a : Answer GoalReading) → judged goal_text a (λ g. readable) ≡ readable
        → (reply_of goal_text a (λ g. fitted goal_text room (run_listing p g)) ≡ refusal 11 goal_text 0)
        ⊎ ((bytes : List ℕ) × (reply_of goal_text a (λ g. fitted goal_text room (run_listing p g)) ≡ listing bytes))
    goals p (refused n l) h = absurd (let z : ◌≡◌ {A = ℕ} 0 1 = cc in omega arith)
    goals p (accepted g) h = fits (ltb room (length (run_listing p g))) (run_listing p g)

    go :
        (a : Answer Reading) → judged program_text a (λ p. goal_reply p.program.symbols p.constants goal) ≡ readable
        → (reply_of program_text a (λ p. reply_of goal_text (read_goal p.program.symbols p.constants goal)
        (λ g. fitted goal_text room (run_listing p g))) ≡ refusal 11 goal_text 0)
        ⊎ ((bytes : List ℕ) × (reply_of program_text a (λ p. reply_of goal_text (read_goal p.program.symbols p.constants goal)
        (λ g. fitted goal_text room (run_listing p g))) ≡ listing bytes))
    go (refused n l) h = absurd (let z : ◌≡◌ {A = ℕ} 0 1 = cc in omega arith)
    go (accepted p) h = goals p (read_goal p.program.symbols p.constants goal) h

-- a judgement is that the texts can be read, or a refusal
judgement-cases :
    (j : Judgement)
    → (j ≡ readable) ⊎ ((number : ℕ) × (text : Text) × (line : ℕ) × (j ≡ unreadable number text line))
judgement-cases readable = inl refl
judgement-cases (unreadable number text line) = inr (number, text, line, refl)

-- reading refuses exactly where a run does by a number below 11, for an output of any room, and with the same number, text, line
pub read-exact :
    (program goal : List ℕ) (room number : ℕ) (text : Text) (line : ℕ) → number < 11
    → (run_reply program goal room ≡ refusal number text line) ↔ (read_reply program goal ≡ unreadable number text line)
read-exact program goal room number text line few =
    (λ e. go e (judgement-cases (read_reply program goal)), read-refused program goal room number text line)
  where
    other :
        run_reply program goal room ≡ refusal number text line
        → (run_reply program goal room ≡ refusal 11 goal_text 0) ⊎ ((bytes : List ℕ) × (run_reply program goal room ≡ listing bytes))
        → read_reply program goal ≡ unreadable number text line
    other e (inl h) = absurd (let z : number ≡ 11 = cc in omega (arith, few))
    other e (inr (bytes, h)) = absurd (let z : ◌≡◌ {A = ℕ} 0 1 = cc in omega arith)

    go :
        run_reply program goal room ≡ refusal number text line
        → (read_reply program goal ≡ readable)
        ⊎ ((n : ℕ) × (t : Text) × (l : ℕ) × (read_reply program goal ≡ unreadable n t l))
        → read_reply program goal ≡ unreadable number text line
    go e (inl h) = other e (read-readable program goal room h)
    go e (inr (n, t, l, h)) =
        let f : run_reply program goal room ≡ refusal n t l = read-refused program goal room n t l h in
        let a : n ≡ number = cc in
        let b : t ≡ text = cc in
        let d : l ≡ line = cc in
        cc

-- a refusal is by a number from 1 to 10, and its line is at most 16,384
pub read-numbers :
    (program goal : List ℕ) (number : ℕ) (text : Text) (line : ℕ) → read_reply program goal ≡ unreadable number text line
    → Turned 10 number line
unfolding read_reply goal_reply judged
read-numbers program goal number text line e = go (read_program program) (program-short program) e
  where
    more : (n l : ℕ) → Turned 9 n l → Turned 10 n l
    more n l t = record { least = t.least; most = omega (arith, t.most); within = t.within }

    goals :
        (p : Reading) (a : Answer GoalReading) → Reads 10 (ShortGoal p.constants) a
        → judged goal_text a (λ g. readable) ≡ unreadable number text line → Turned 10 number line
    goals p (refused n l) t h =
        let a : n ≡ number = cc in
        let b : l ≡ line = cc in
        rw (a, b) at t
    goals p (accepted g) t h = absurd (let z : ◌≡◌ {A = ℕ} 0 1 = cc in omega arith)

    go :
        (a : Answer Reading) → Reads 9 ShortProgram a
        → judged program_text a (λ p. goal_reply p.program.symbols p.constants goal) ≡ unreadable number text line
        → Turned 10 number line
    go (refused n l) t h =
        let a : n ≡ number = cc in
        let b : l ≡ line = cc in
        rw (a, b) at (more n l t)
    go (accepted p) t h =
        goals p (read_goal p.program.symbols p.constants goal) (goal-short p.program.symbols p.constants goal) h

-- the answer of a refusal's number
number_read :
    (number line : ℕ) (t : TextName) → 1 ≤ number → line < 65536
    → read_read (4294967296 * number + 65536 * name_byte t + line) ≡ Err (record { number = number; text = t; line = line })
unfolding read_read
number_read number line t least few =
    rw (ne_eqb (4294967296 * number + 65536 * name_byte t + line) 0 (λ e. omega (arith, e)))
    (ap Err (refusal-read number line t few))

-- the answer that a judgement's number decodes to
decoded :
    (j : Judgement) → ((number : ℕ) (text : Text) (line : ℕ) → j ≡ unreadable number text line → Turned 10 number line)
    → read_meant (read_read (judgement_number j)) ≡ j
unfolding read_read judgement_number read_meant text_meant reply_number text_byte name_byte
decoded readable t = refl
decoded (unreadable number program_text line) t =
    let turned = t number program_text line refl in
    ap read_meant (number_read number line S turned.least (omega (arith, turned.within)))
decoded (unreadable number goal_text line) t =
    let turned = t number goal_text line refl in
    ap read_meant (number_read number line G turned.least (omega (arith, turned.within)))

-- the number of `roketuma_read` decodes to an answer of which holds what `read` promises
pub read-number-decodes :
    (program goal : List ℕ) (n : ℕ) → n ≡ judgement_number (read_reply program goal)
    → read_meant (read_read n) ≡ read_reply program goal
read-number-decodes program goal n e =
    ap (λ (m : ℕ). read_meant (read_read m)) e ∙ decoded (read_reply program goal) (read-numbers program goal)
