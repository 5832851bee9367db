-- The key of a field: one number that says what the field is, so that nobody asks its bytes again.
--   packed, spell     bytes as one number to base 256, and back
--   key_of             0 for an empty field, 1 for what is no term, 2 to 27 for a letter, from 48 on for a name
--   number_of          the value of a key that is a number of one or two digits without a leading zero; 100 for any other
--   word              the bytes of a text from a place up to the next comma or line feed
-- Assumes nothing.
use Rattle.std.specs.Prelude.{ℕ, zero, suc, ◌+◌, ◌-◌, ◌*◌, ◌/◌, ◌%◌, cond, ◌||◌, ◌&&◌, List, [], ◌∷◌, eqb, length, get_or, take, drop}
use Rattle.text.specs.Bytes.{between}
use Rattle.text.specs.Fields.{is_name, is_variable}

-- bytes that follow others of value v, as one number to base 256
unfoldable pub packed_from : ℕ → List ℕ → ℕ
packed_from v [] = v
packed_from v (b ∷ s) = packed_from (v * 256 + b) s

unfoldable pub packed : List ℕ → ℕ
packed s = packed_from 0 s

-- the bytes of a number to base 256 in front of others, at most `fuel` of them
unfoldable pub spell_from : ℕ → ℕ → List ℕ → List ℕ
spell_from zero k behind = behind
spell_from (suc fuel) k behind = cond (eqb k 0) behind (spell_from fuel (k / 256) ((k % 256) ∷ behind))

-- the name that a key stands for; a name has at most 8 bytes
unfoldable pub spell : ℕ → List ℕ
spell k = spell_from 8 k []

-- the key of a field
unfoldable pub key_of : List ℕ → ℕ
key_of f = cond (is_name f) (packed f) (cond (is_variable f) (get_or f 0 0 - 63) (cond (eqb (length f) 0) 0 1))

-- the value of a key that is a number of one or two digits without a leading zero; 100 for any other
unfoldable pub number_of : ℕ → ℕ
number_of k =
    cond (between 48 57 k) (k - 48)
    (cond (between 49 57 (k / 256) && between 48 57 (k % 256)) ((k / 256 - 48) * 10 + (k % 256 - 48)) 100)

-- how many bytes stand before the first comma or line feed; all of them where there is none
unfoldable pub word_length : List ℕ → ℕ
word_length [] = 0
word_length (b ∷ s) = cond (eqb b 44 || eqb b 10) 0 (suc (word_length s))

-- the bytes of a text from a place up to the next comma or line feed: the field that starts there
unfoldable pub word : List ℕ → ℕ → List ℕ
word s at = take (word_length (drop at s)) (drop at s)
