-- From the readers' answers to what the stages of a run ask, and to the reply where a text is refused.
--   program-refused                    the reply to a program that is refused
--   goal-refused, goal-ready           the same for a goal over a program as read; a goal as read
-- Assumes nothing.
use Prim.Native.Nat.{ℕ, ◌*◌, ◌≤◌, ◌<◌}
use native.Mathlib.Omega.{arith}
use mathlib.Core.Bool.{true}
use mathlib.Core.List.{List}
use mathlib.Core.Path.{◌≡◌, refl, sym, ap, subst, ◌∙◌}
use lib.ListN.{length, get_or, take}
use Rattle.semantics.specs.Terms.{Symbol, Program}
use Rattle.semantics.proofs.Configurations.{All}
use Rattle.syntax.specs.Answers.{accepted}
use Rattle.syntax.specs.Programs.{read_program}
use Rattle.syntax.specs.Goals.{read_goal}
use Rattle.tables.specs.Layout.{symbol_size}
use Rattle.tables.specs.Rows.{symbols_of, constants_of}
use Rattle.programs.specs.Read.{program_answer, ProgramIn}
use Rattle.programs.specs.declared.Counts.{Counts}
use Rattle.std.specs.Prelude.{Result, Ok, Err}
use Rattle.faults.specs.Faults.{number_of}
use Rattle.faults.specs.declared.FaultAt.{FaultAt}
use Rattle.goals.specs.ReadGoal.{GoalFits, goal_answer, goal_reading_of, GoalIn}
use Rattle.goals.specs.declared.GoalCounts.{GoalCounts}
use Rattle.replies.specs.Replies.{run_reply}
use Rattle.replies.proofs.ShortNames.{Termed, TermedProgram, TermedGoal, program-termed, goal-termed, reads-accepted}
use Rattle.answers.specs.Answers.{Replied}
use Rattle.inputs.proofs.TabledLaws.{goal-answers}
use Rattle.inputs.specs.Inputs.{program_table, is_known, GoalReady}
use Rattle.running.specs.Stages.{Ready}
use Rattle.answers.specs.declared.TextName.TheVariants.{S, G}
use Rattle.std.specs.Prelude.{Ok, Err}
use Rattle.inputs.proofs.KnownLaws.{known_some}
use Rattle.inputs.proofs.ProgramLaws.{few-symbols}
use Rattle.answers.proofs.ReplyLaws.{refused-program, refused-goal}
use Rattle.inputs.proofs.TabledLaws.{goal-tabled, outside-symbols, outside-rules, letters-front}

module _ {program names places names' places' symbols' rules' : List ℕ} {reply : Result Counts FaultAt}
    (r : ProgramIn program names places names' places' symbols' rules' reply) where
  -- a program that is refused
  pub program-refused :
      (goal : List ℕ) {output : List ℕ} (at : FaultAt) (number : ℕ) → reply ≡ Err at → number ≡ number_of at.fault
      → Replied (run_reply program goal (length output)) output output
      (Err (record { number = number; text = S; line = at.line }))
  unfolding program_answer
  program-refused goal {output} at number h e =
      refused-program program goal output number at.line (rw e (sym (rw h at r.answers)))

module _ {program names places symbols rules : List ℕ} {c : Counts} (r : GoalReady program names places symbols rules c) where
  module _ (goal : List ℕ) {names' places' cells letters : List ℕ} {reply : Result GoalCounts FaultAt}
      (g : GoalIn goal (take (symbol_size * c.symbols) symbols) names places c.constants names' places' cells letters reply) where
    declared : symbols_of names symbols c.symbols ≡ r.p.program.symbols
    unfolding program_table
    declared = sym (ap (λ (q : Program). q.symbols) r.first.holds)

    answers : goal_answer names' cells letters reply ≡ read_goal r.p.program.symbols r.p.constants goal
    answers =
        goal-answers (goal-tabled r) goal g
        ∙ ap (λ (ss : List Symbol). read_goal ss (constants_of names c.constants) goal) declared
        ∙ ap (λ (cs : List (List ℕ)). read_goal r.p.program.symbols cs goal) (sym r.spelled)

    -- a goal that is refused
    pub goal-refused :
        {output : List ℕ} (at : FaultAt) (number : ℕ) → reply ≡ Err at → number ≡ number_of at.fault
        → Replied (run_reply program goal (length output)) output output
        (Err (record { number = number; text = G; line = at.line }))
    unfolding goal_answer
    goal-refused {output} at number h e =
        refused-goal program goal output r.p number at.line r.first.read (rw e (sym (rw h at answers)))

    module _ {found : GoalCounts} (h : reply ≡ Ok found) where
      fits : GoalFits letters found
      fits = rw h at g.fits

      pub few-letters : found.letters ≤ length letters
      few-letters = omega (arith, fits.lettered.few, g.room.letters-size)

      read : read_goal r.p.program.symbols r.p.constants goal ≡ accepted (goal_reading_of names' cells letters found)
      unfolding goal_answer
      read = sym (rw h at answers)

      -- the same program, by the names after the goal
      same-program : r.p.program ≡ program_table names' symbols rules c.symbols c.rules
      unfolding program_table
      same-program =
          r.first.holds
          ∙ sym (λ i. record {
            symbols = outside-symbols names names' symbols c.symbols g.outside (few-symbols r.first) i;
            rules = outside-rules names names' rules c.rules g.outside i;
          })

      -- what is named has a key
      named : (i : ℕ) → is_known c.symbols found.constants i ≡ true → 0 < get_or names' i 0
      unfolding program_table goal_reading_of
      named =
          let of-program : TermedProgram r.p =
          reads-accepted 9 TermedProgram (read_program program) (program-termed program) r.first.read in
          let of-goal : TermedGoal r.p.constants (goal_reading_of names' cells letters found) =
          reads-accepted 10 (TermedGoal r.p.constants) (read_goal r.p.program.symbols r.p.constants goal)
          (goal-termed r.p.program.symbols r.p.constants goal) read in
          known_some names' symbols c.symbols found.constants
          (subst (λ (q : Program). All (λ (s : Symbol). Termed s.name) q.symbols) same-program of-program.symbols)
          (of-goal.constants of-program.constants)

      -- a goal as read
      pub goal-ready :
          length cells ≡ 2590
          → Ready program goal places' rules (take found.letters letters) cells
          (record { rules = c.rules; constraints = found.constraints })
      unfolding goal_reading_of
      goal-ready s =
          record {
            names = names';
            symbols = symbols;
            k = c.symbols;
            c = found.constants;
            p = r.p;
            g = goal_reading_of names' cells letters found;
            first = record {
              read = r.first.read;
              holds = same-program;
              rules-size = r.first.rules-size;
              heads-few = r.first.heads-few;
              kept-few = r.first.kept-few;
              body-few = r.first.body-few;
            };
            read = read;
            held = refl;
            lettered = letters-front letters found.letters few-letters;
            spelled = refl;
            placed = g.placed program (r.placed goal);
            named = named;
            cells-size = s;
            few = fits.few;
          }
