-- A line split into its fields: what the struct `Fields` of the code says of a text.
--   first_line, line_from, line_end     the first line of a text, the line that starts at a place, and where it ends
--   Holds, Stands                    the keys of a line's fields, and where the fields stand in the text
--   SplitAt                          the promise of `split`
--   is_plain, Passed, Stopped         one field: its bytes, what was seen of some of them, and where they end
-- Assumes nothing.
use Rattle.std.specs.Prelude.{ℕ, ◌+◌, ◌-◌, ◌≤◌, ◌<◌, ◌≡◌, Bool, true, false, not, List, [], map, leb, ltb, length, take, drop, get_or}
use Rattle.text.specs.Bytes.{class_of, class_number, is_name_class}
use Rattle.text.specs.Lists.{every}
use Rattle.text.specs.Lines.{Line, line_is_faulty}
use Rattle.text.specs.Fields.{fields}
use Rattle.text.specs.Keys.{key_of, packed, word}
use Rattle.text.specs.Cursors.{before}
use Rattle.text.specs.declared.fields.Field.{Field}
use Rattle.text.specs.declared.fields.Fields.{Fields}

-- the first line of a text that is not empty: the bytes before its first line feed, or all of them
unfoldable pub first_line : List ℕ → Line
first_line t = record { bytes = take (before 10 t) t; ended = ltb (before 10 t) (length t) }

-- the line of a text that starts at a place
unfoldable pub line_from : List ℕ → ℕ → Line
line_from s at = first_line (drop at s)

-- where that line ends: the place of its line feed, or the text's end
unfoldable pub line_end : List ℕ → ℕ → ℕ
line_end s at = at + before 10 (drop at s)

-- the fields fs are counted, and the keys of the first 8 of them are held
pub record Holds (fs : List (List ℕ)) (f : Fields) : Type 0 where
  pub counted : f.count ≡ length fs
  pub keyed : take (length fs) f.keys ≡ take 8 (map key_of fs)

-- the first 8 of the fields fs stand in the text s at the starts
pub record Stands (s : List ℕ) (fs : List (List ℕ)) (f : Fields) : Type 0 where
  pub stands : (i : ℕ) → i < 8 → i < length fs → word s (get_or f.starts i 0) ≡ get_or fs i []

-- the line of the text s that starts at a place, split: whether it meets number 2, and if not, where it ends and its fields
pub record SplitAt (s : List ℕ) (at : ℕ) (r : Fields) : Type 0 where
  pub faulty : r.faulty ≡ line_is_faulty (line_from s at)
  pub ends : r.faulty ≡ false → r.end ≡ line_end s at
  pub begun : r.faulty ≡ false → at < r.end
  pub inside : r.faulty ≡ false → r.end < length s
  pub holds : r.faulty ≡ false → Holds (fields (line_from s at).bytes) r
  pub stands : r.faulty ≡ false → Stands s (fields (line_from s at).bytes) r
  pub few : r.count ≤ 81
  pub near : (i : ℕ) → get_or r.starts i 0 < 16384

-- a byte that stands in a field: a letter or a digit, which are the first three classes
unfoldable pub is_plain : ℕ → Bool
is_plain b = leb (class_number (class_of b)) 2

-- where values of more than seven bytes begin: 256 to the seventh
abbrev pub seven_bytes : ℕ
seven_bytes = 72057594037927936

-- what is known of a field when its bytes f have passed: their value to base 256 if they are 8 at most, how many they are, and
-- whether there is a capital among them
pub record Passed (f : List ℕ) (value size : ℕ) (capital : Bool) : Type 0 where
  pub plain : every is_plain f ≡ true
  pub sized : size ≡ length f
  pub valued : length f ≤ 8 → value ≡ packed f
  pub shaped : capital ≡ not (every (λ b. is_name_class (class_of b)) f)

-- the bytes of a text from one place up to another
abbrev pub part : List ℕ → ℕ → ℕ → List ℕ
part s at end = take (end - at) (drop at s)

-- the field of the text s that starts at a place: its bytes are plain up to its end, which is a byte of another class or the
-- limit, and its key and the class of that byte are known
pub record Stopped (s : List ℕ) (at limit : ℕ) (r : Field) : Type 0 where
  pub begun : at ≤ r.end
  pub within : r.end ≤ limit
  pub plain : every is_plain (part s at r.end) ≡ true
  pub low : 2 < class_number r.stop
  pub limited : class_number r.stop < 5 → r.end < limit
  pub classed : r.end < limit → r.stop ≡ class_of (get_or s r.end 0)
  pub keyed : r.end < limit → r.key ≡ key_of (part s at r.end)
