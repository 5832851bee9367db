-- How the parts of a long input agree with those of its first n bytes.
--   Agree            two inputs' parts: the same program with goals that are long together with it, or two long programs
--   parted-agrees    the parts of an input of at least n bytes agree with those of its first n
-- Assumes nothing.
use Prim.Native.Nat.{ℕ, zero, suc, ◌+◌, ◌≤◌}
use native.Mathlib.Decide.{dec_lt}
use native.Mathlib.Nat.{le_of_suc-le-suc}
use native.Mathlib.Omega.{arith}
use mathlib.Core.Bool.{Bool, true, false, cond, ◌&&◌}
use mathlib.Core.List.{List, [], ◌∷◌}
use mathlib.Core.Path.{◌≡◌, refl, ap}
use lib.Dec.{eqb}
use lib.ListN.{length, length-drop, take, drop}
use lib.Seq.{length-take-le, take-take}
use Rattle.text.specs.Lists.{same_bytes}
use Rattle.text.specs.Lines.{goal_line, Parts, in_program, parted_from, parted}

-- how the parts of an input and of its first n bytes agree: a line `GOAL` has 5 bytes, of which a cut may leave 4
pub data Agree (n : ℕ) (x y : Parts) : Type 0 where
  same_program :
      x.program ≡ y.program → n ≤ length x.program + 5 + length x.goal → n ≤ length y.program + 5 + length y.goal
      → Agree n x y
  long_programs : n ≤ length x.program + 4 → n ≤ length y.program + 4 → Agree n x y

-- one byte in front of both programs
agree-more : (b n : ℕ) (x y : Parts) → Agree n x y → Agree (suc n) (in_program b x) (in_program b y)
unfolding in_program
agree-more b n x y (same_program e g h) = same_program (ap (λ (s : List ℕ). b ∷ s) e) (omega arith) (omega arith)
agree-more b n x y (long_programs g h) = long_programs (omega arith) (omega arith)

-- the parts of an input of at least n bytes agree with those of its first n, from any place on
pub parted-from-agrees :
    (fresh : Bool) (n : ℕ) (s : List ℕ) → n ≤ length s → Agree n (parted_from fresh s) (parted_from fresh (take n s))
unfolding parted_from
parted-from-agrees fresh zero s h = long_programs (omega arith) (omega arith)
parted-from-agrees fresh (suc n) [] h = absurd (omega arith)
parted-from-agrees fresh (suc n) (b ∷ s) h = elim (dec_lt n 4) [
  | yes k ↦ long_programs (omega (arith, k)) (omega (arith, k))
  | no k ↦
      rw (take-take 4 n s (omega (arith, k)))
      (go (fresh && same_bytes (take 5 (b ∷ s)) goal_line) (parted-from-agrees (eqb b 10) n s (le_of_suc-le-suc h)))
]
  where
    go :
        (found : Bool) → Agree n (parted_from (eqb b 10) s) (parted_from (eqb b 10) (take n s))
        → Agree (suc n)
        (cond found (record { program = []; goal = drop 5 (b ∷ s) }) (in_program b (parted_from (eqb b 10) s)))
        (cond found (record { program = []; goal = drop 5 (b ∷ take n s) }) (in_program b (parted_from (eqb b 10) (take n s))))
    go true more =
        same_program refl (omega (arith, length-drop 5 (b ∷ s)))
        (omega (arith, length-drop 5 (b ∷ take n s), length-take-le n s (le_of_suc-le-suc h)))
    go false more = agree-more b n (parted_from (eqb b 10) s) (parted_from (eqb b 10) (take n s)) more

-- and as a whole
pub parted-agrees : (n : ℕ) (s : List ℕ) → n ≤ length s → Agree n (parted s) (parted (take n s))
unfolding parted
parted-agrees n s h = parted-from-agrees true n s h
