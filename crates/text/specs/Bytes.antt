-- The bytes of a text: the six classes, and quoted words as bytes.
--   class_of           the class of a byte, one of six; is_class: whether a byte is of a class
--   ascii             a quoted word as its bytes
-- Assumes nothing.
use Rattle.std.specs.Prelude.{ℕ, Bool, true, false, cond, ◌&&◌, List, [], ◌∷◌, leb, eqb}
use Prim.Native.Char.{code}
use Rattle.text.specs.declared.table.Class.{Class}
use Rattle.text.specs.declared.table.Class.TheVariants.{Small, Capital, Digit, Comma, LineFeed, Other}
use Prim.Native.String.{String, [] as nil, ◌∷◌ as put}

-- whether b is one of the byte values from a to z, both included
unfoldable pub between : ℕ → ℕ → ℕ → Bool
between a z b = leb a b && leb b z

-- the class of a byte
unfoldable pub class_of : ℕ → Class
class_of b =
    cond (between 97 122 b) Small
    (cond (between 65 90 b) Capital (cond (between 48 57 b) Digit (cond (eqb b 44) Comma (cond (eqb b 10) LineFeed Other))))

-- the number of a class; those of letters and digits come first
unfoldable pub class_number : Class → ℕ
class_number Small = 0
class_number Capital = 1
class_number Digit = 2
class_number Comma = 3
class_number LineFeed = 4
class_number Other = 5

-- whether a byte is of a class
unfoldable pub is_class : Class → ℕ → Bool
is_class k b = eqb (class_number (class_of b)) (class_number k)

-- the bytes that a name may have: small letters and digits
unfoldable pub is_name_class : Class → Bool
is_name_class Small = true
is_name_class Capital = false
is_name_class Digit = true
is_name_class Comma = false
is_name_class LineFeed = false
is_name_class Other = false

-- a quoted word as its bytes
unfoldable pub ascii : String → List ℕ
ascii nil = []
ascii (put c s) = code c ∷ ascii s
