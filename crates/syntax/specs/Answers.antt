-- What reading a text answers: a value, or a refusal with its number and line (document 01: turned back at the desk).
--   refused, accepted      the two answers
--   refuse_if, and_then      tests in document 01's order
-- Assumes nothing.
use Rattle.std.specs.Prelude.{ℕ, Bool, true, false}

-- an answer: refused by document 01's number, at a line counted from 1, or 0 where no line is meant; or accepted
pub data Answer (A : Type 0) : Type 0 where
  refused : ℕ → ℕ → Answer A
  accepted : A → Answer A

-- refused by a number at a line if the test holds
abbrev pub refuse_if : {A : Type 0} → Bool → ℕ → ℕ → Answer A → Answer A
refuse_if true number line otherwise = refused number line
refuse_if false number line otherwise = otherwise

-- what is accepted goes on; what is refused stays so
abbrev pub and_then : {A B : Type 0} → Answer A → (A → Answer B) → Answer B
and_then (refused number line) next = refused number line
and_then (accepted a) next = next a
