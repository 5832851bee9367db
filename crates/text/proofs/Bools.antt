-- Laws of Booleans.
--   never                    true is not false
--   and-true                 both sides of an `&&` that is true
--   and-false, and_assoc     `&&` with false, and regrouped
--   or-true, or-false        `||` with true; both sides of an `||` that is false
--   flipped                  a negation, solved for what is negated
-- Assumes nothing.
use mathlib.Core.Path.{◌≡◌, refl}
use mathlib.Core.Bool.{Bool, true, false, not, ◌&&◌, ◌||◌}
use Prim.Native.Nat.{ℕ}
use native.Mathlib.Omega.{arith}

pub never : true ≡ false → ⊥
never h = let z : ◌≡◌ {A = ℕ} 0 1 = cc in omega arith

pub and-true : (a b : Bool) → (a && b) ≡ true → (a ≡ true) × (b ≡ true)
and-true true b h = (refl, h)
and-true false b h = absurd (let z : ◌≡◌ {A = ℕ} 0 1 = cc in omega arith)

pub and-false : (a : Bool) → (a && false) ≡ false
and-false true = refl
and-false false = refl

pub and_assoc : (a b c : Bool) → ((a && b) && c) ≡ (a && (b && c))
and_assoc true b c = refl
and_assoc false b c = refl

pub or-true : (a : Bool) → (a || true) ≡ true
or-true true = refl
or-true false = refl

pub or-false : (a b : Bool) → (a || b) ≡ false → (a ≡ false) × (b ≡ false)
or-false true b h = absurd (never h)
or-false false b h = (refl, h)

pub flipped : (a b : Bool) → a ≡ not b → b ≡ not a
flipped true true h = h
flipped true false h = refl
flipped false true h = refl
flipped false false h = h
