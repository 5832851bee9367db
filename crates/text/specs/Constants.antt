-- Constants: which are one, and the name of each (document 02, W3).
--   is_numeral         a field made only of digits
--   SameConstant      two constants are one
--   constant_name      the name of a constant
-- Assumes nothing.
use Rattle.std.specs.Prelude.{ℕ, Bool, true, false, cond, List, [], ◌∷◌, ◌≡◌}
use Rattle.text.specs.declared.table.Class.TheVariants.{Digit}
use Rattle.text.specs.Bytes.{is_class}
use Rattle.text.specs.Lists.{every}
use Rattle.text.specs.Fields.{value_of, decimal}

-- a numeral: a field made only of digits
unfoldable pub is_numeral : List ℕ → Bool
is_numeral [] = false
is_numeral (b ∷ s) = every (is_class Digit) (b ∷ s)

-- two constants are one: they have the same spelling, or both are made only of digits and have the same value
pub data SameConstant (f g : List ℕ) : Type 0 where
  spelled : f ≡ g → SameConstant f g
  valued : is_numeral f ≡ true → is_numeral g ≡ true → value_of f ≡ value_of g → SameConstant f g

-- the name of a constant, under which it is numbered and printed: a numeral's is its value in decimal digits, which have no
-- leading zero, and zero's is 0; any other's is its spelling
unfoldable pub constant_name : List ℕ → List ℕ
constant_name f = cond (is_numeral f) (decimal (value_of f)) f
