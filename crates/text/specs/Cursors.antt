-- Where things stand in a text: what the code's cursors mean.
--   before             how many bytes stand before the first of a value
--   class_table         the constant table of 256 classes
--   parts_at            an input parted at two places
-- Assumes nothing.
use Rattle.std.specs.Prelude.{ℕ, suc, cond, List, [], ◌∷◌, ◌++◌, eqb, take, drop}
use Rattle.text.specs.declared.table.Class.{Class}
use Rattle.text.specs.Bytes.{class_of}
use Rattle.text.specs.Lists.{tabled}
use Rattle.text.specs.Lines.{Parts}

-- how many bytes stand before the first x; all of them where there is none
unfoldable pub before : ℕ → List ℕ → ℕ
before x [] = 0
before x (b ∷ s) = cond (eqb b x) 0 (suc (before x s))

-- the classes of the 256 byte values
unfoldable pub class_table : List Class
class_table = tabled class_of 256

-- a program's text with bytes put in front of it
unfoldable pub behind : List ℕ → Parts → Parts
behind s p = record { program = s ++ p.program; goal = p.goal }

-- a program's text up to one place, and a goal's from another
unfoldable pub parts_at : List ℕ → ℕ → ℕ → Parts
parts_at s end start = record { program = take end s; goal = drop start s }
