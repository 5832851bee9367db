-- Equal parts of two states, left out of both.
--   Cancelled      what is promised where the first constraints can be left out
-- Assumes nothing.
use Rattle.std.specs.Prelude.{ℕ, ◌*◌, Bool, true, List, ◌≡◌, drop}
use Rattle.semantics.specs.Variants.{same_state}
use Rattle.colours.specs.Ends.{end_of}

-- the constraints from number k on answer for all
pub record Cancelled (r : Bool) (f a g b : List ℕ) (k : ℕ) : Type 0 where
  pub rest : r ≡ true → same_state (end_of f (drop (5 * k) a)) (end_of g (drop (5 * k) b)) ≡ same_state (end_of f a) (end_of g b)
