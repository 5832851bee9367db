-- The verdict on a program: confluent, with the number of its overlaps, or the first overlap that does not join.
-- Assumes nothing.
use Rattle.std.specs.Prelude.{ℕ, suc, Bool, cond, List, [], ◌∷◌}
use Rattle.semantics.specs.Terms.{Program}
use Rattle.semantics.specs.Strategy.{Final}
use Rattle.semantics.specs.Variants.{same_state}
use Rattle.semantics.specs.Overlaps.{Overlap, overlaps, first_end, second_end}

-- document 01: a sheet passes, with the number of overlaps; or an unjoined overlap is shown, with both ends
pub data Verdict : Type 0 where
  confluent : ℕ → Verdict
  unjoined : Overlap → Final → Final → Verdict

-- whether an overlap joins: the final states of its two sides are equal
unfoldable pub is_joinable : Program → Overlap → Bool
is_joinable p o = same_state (first_end p o).state (second_end p o).state

-- the verdict where n overlaps have joined and these are left
unfoldable pub judge : Program → ℕ → List Overlap → Verdict
judge p n [] = confluent n
judge p n (o ∷ os) =
    let more = judge p (suc n) os in
    cond (is_joinable p o) more (unjoined o (first_end p o) (second_end p o))

-- the verdict on a program
unfoldable pub verdict : Program → Verdict
verdict p = judge p 0 (overlaps p)
