-- The fields of a line, and their forms.
--   fields                  a line cut at its commas
--   is_name, is_term          document 01's name (1 to 8 bytes of a-z and 0-9) and term (a name or one capital letter)
--   is_number_in, value_of     a number without leading zeros, within a range
--   decimal                 a number's decimal digits
-- Assumes nothing.
use Rattle.std.specs.Prelude.{ℕ, zero, suc, ◌+◌, ◌-◌, ◌*◌, ◌/◌, ◌%◌, Bool, false, cond, not, ◌&&◌, ◌||◌, List, [], ◌∷◌, ltb, eqb, length}
use Rattle.text.specs.declared.table.Class.TheVariants.{Capital, Digit}
use Rattle.text.specs.Bytes.{between, class_of, is_class, is_name_class}
use Rattle.text.specs.Lists.{every}

-- a byte put in front of the first field
unfoldable pub in_first_field : ℕ → List (List ℕ) → List (List ℕ)
in_first_field b [] = (b ∷ []) ∷ []
in_first_field b (f ∷ fs) = (b ∷ f) ∷ fs

-- the fields of a line: what its commas part, one more than there are commas
unfoldable pub fields : List ℕ → List (List ℕ)
fields [] = [] ∷ []
fields (b ∷ s) = cond (eqb b 44) ([] ∷ fields s) (in_first_field b (fields s))

-- a name: 1 to 8 small letters and digits
unfoldable pub is_name : List ℕ → Bool
is_name f = between 1 8 (length f) && every (λ b. is_name_class (class_of b)) f

-- a variable: one capital letter
unfoldable pub is_variable : List ℕ → Bool
is_variable [] = false
is_variable (b ∷ []) = is_class Capital b
is_variable (b ∷ c ∷ s) = false

-- a term: a constant or a variable
unfoldable pub is_term : List ℕ → Bool
is_term f = is_name f || is_variable f

-- digits without a leading zero; 0 alone is one
unfoldable pub is_number : List ℕ → Bool
is_number [] = false
is_number (b ∷ []) = is_class Digit b
is_number (b ∷ c ∷ s) = not (eqb b 48) && every (is_class Digit) (b ∷ c ∷ s)

-- the value of digits that follow others of value v
unfoldable pub value_from : ℕ → List ℕ → ℕ
value_from v [] = v
value_from v (b ∷ s) = value_from (v * 10 + (b - 48)) s

-- the value of a field of digits
unfoldable pub value_of : List ℕ → ℕ
value_of f = value_from 0 f

-- whether a field is a number from lo to hi
unfoldable pub is_number_in : ℕ → ℕ → List ℕ → Bool
is_number_in lo hi f = is_number f && between lo hi (value_of f)

-- the decimal digits of n in front of others, at most `fuel` of them
unfoldable pub decimal_from : ℕ → ℕ → List ℕ → List ℕ
decimal_from zero n behind = behind
decimal_from (suc fuel) n behind =
    let more = decimal_from fuel (n / 10) ((48 + n % 10) ∷ behind) in
    cond (ltb n 10) ((48 + n) ∷ behind) more

-- a number in decimal digits
unfoldable pub decimal : ℕ → List ℕ
decimal n = decimal_from (suc n) n []
