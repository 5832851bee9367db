-- Demand 2 on bytes: `run-published`, for every text that can be read.
-- Assumes nothing.
use Prim.Native.Nat.{ℕ, ◌≤◌}
use mathlib.Core.List.{List, []}
use mathlib.Core.Path.{◌≡◌}
use lib.ListN.{length}
use Rattle.semantics.specs.Strategy.{run}
use Rattle.semantics.proofs.Remaining.{goal-variables-remain, run-keeps}
use Rattle.semantics.proofs.Demand2.{derivation-published}
use Rattle.syntax.specs.Answers.{accepted}
use Rattle.syntax.specs.Programs.{Reading, read_program}
use Rattle.syntax.specs.Goals.{GoalReading, read_goal}
use Rattle.syntax.proofs.WellFormed.{read-well_formed}
use Rattle.syntax.proofs.GoalVocabulary.{goal-small}
use Rattle.syntax.proofs.Vocabulary.{read_small}
use Rattle.syntax.proofs.ByValue.{read-by-value, goal-by-value}
use Rattle.replies.specs.Replies.{listing, reply_of, goal_text, run_listing, run_reply}
use Rattle.replies.specs.Claims.{Demand2On}
use Rattle.replies.proofs.Appearance.{goal-by-appearance}
use Rattle.replies.proofs.Demand3.{fitted-listed}

-- a listing of a run that fits is the reply
run-listed-in :
    (s t : List ℕ) (room : ℕ) (r : Reading) (g : GoalReading) → read_program s ≡ accepted r
    → read_goal r.program.symbols r.constants t ≡ accepted g → length (run_listing r g) ≤ room
    → run_reply s t room ≡ listing (run_listing r g)
unfolding run_reply reply_of
run-listed-in s t room r g e f l = rw (e, f) (fitted-listed goal_text room (run_listing r g) l)

-- demand 2: firing is the published Simplify step, the overlaps are the published critical pairs, and the reply to a goal is the
-- listing of its run
pub run-published : (s : List ℕ) (r : Reading) → read_program s ≡ accepted r → Demand2On s r
unfolding run_listing
run-published s r e =
    let published = derivation-published r.program (read-well_formed s e) in
    record {
      program = published;
      constants = read-by-value s e;
      kept = goal-variables-remain r.program;
      ran =
          λ t room g f l.
          record {
            goal = (goal-small r t (read_small s e).few-constants f).is-goal;
            constants = (goal-by-value s t e f).0;
            numbers = (goal-by-value s t e f).1;
            appearance = goal-by-appearance r.program.symbols r.constants t f;
            end = run r.program g.goal;
            reply = run-listed-in s t room r g e f l;
            runs = published.runs.goals g.goal;
            kept = run-keeps r.program g.goal [] (run r.program g.goal) (published.runs.goals g.goal);
          };
    }
