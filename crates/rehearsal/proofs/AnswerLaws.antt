-- What is printed on an input of a rehearsal, by whether it may have a goal.
--   run-answered, check-answered      what `sheetrun` prints; what `sheetcheck` prints
-- Assumes nothing.
use Prim.Native.Nat.{ℕ}
use mathlib.Core.Bool.{Bool, true, false}
use mathlib.Core.List.{List}
use mathlib.Core.Path.{◌≡◌}
use Rattle.replies.specs.Replies.{sheetrun, sheetcheck}
use Rattle.answers.specs.Answers.{Printed}
use Rattle.rehearsal.specs.Answered.{answer_bytes}

module _ (withGoal : Bool) (input : List ℕ) {before after : List ℕ} {count : ℕ} where
  pub run-answered : withGoal ≡ true → Printed (sheetrun input) before after count
      → Printed (answer_bytes withGoal input) before after count
  unfolding answer_bytes
  run-answered e h = rw e h

  pub check-answered : withGoal ≡ false → Printed (sheetcheck input) before after count
      → Printed (answer_bytes withGoal input) before after count
  unfolding answer_bytes
  check-answered e h = rw e h
