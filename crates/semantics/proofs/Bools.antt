-- Tests, taken apart, beside those of `text`: what one of two tests says.
--   eqb_same               a number passes the test against itself
--   or_cases               one of two tests passes
--   or_right               the second test is enough
--   none-unless            a value that cannot be there is none
-- Assumes nothing.
use Prim.Native.Nat.{ℕ}
use mathlib.Core.Bool.{Bool, true, false, ◌||◌}
use mathlib.Core.Option.{Option, none, some}
use mathlib.Core.Path.{◌≡◌, refl}
use lib.Dec.{eqb}
use Rattle.semantics.proofs.Configurations.{Or, inl, inr}
use Rattle.semantics.proofs.Options.{equal-eqb}

-- a number passes the test against itself
pub eqb_same : (n : ℕ) → eqb n n ≡ true
eqb_same n = equal-eqb {m = n} refl

-- one of the tests passes
pub or_cases : (a b : Bool) → (a || b) ≡ true → Or (a ≡ true) (b ≡ true)
or_cases true b e = inl refl
or_cases false b e = inr e

-- the second test alone is enough
pub or_right : (a b : Bool) → b ≡ true → (a || b) ≡ true
or_right true b e = refl
or_right false b e = e

-- an optional value that cannot be some is none
pub none-unless {ℓ} : {A : Type ℓ} (o : Option A) → ((a : A) → o ≡ some a → ⊥) → o ≡ none
none-unless none f = refl
none-unless (some a) f = absurd (f a refl)
