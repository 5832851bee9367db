-- The lines of a text.
--   Line, lines     a text cut at its line feeds
--   line_is_faulty    document 01's number 2
--   parted          the input of `sheetrun`, parted at its first `GOAL` line
-- Assumes nothing.
use Rattle.std.specs.Prelude.{ℕ, Bool, true, false, cond, not, ◌&&◌, ◌||◌, List, [], ◌∷◌, ltb, eqb, length, take, drop}
use Rattle.text.specs.declared.table.Class.TheVariants.{Other}
use Rattle.text.specs.Bytes.{is_class, ascii}
use Rattle.text.specs.Lists.{every, same_bytes}

-- a line without its line feed, and whether it had one
pub record Line : Type 0 where
  pub bytes : List ℕ
  pub ended : Bool

-- a byte put in front of the first line
unfoldable pub in_first_line : ℕ → List Line → List Line
in_first_line b [] = record { bytes = b ∷ []; ended = false } ∷ []
in_first_line b (l ∷ ls) = record { bytes = b ∷ l.bytes; ended = l.ended } ∷ ls

-- the lines of a text; only the last may lack its line feed, and none follows the last line feed
unfoldable pub lines : List ℕ → List Line
lines [] = []
lines (b ∷ s) = cond (eqb b 10) (record { bytes = []; ended = true } ∷ lines s) (in_first_line b (lines s))

-- whether a byte may not stand in any line
unfoldable pub is_other : ℕ → Bool
is_other b = is_class Other b

-- number 2: the line is empty, is longer than 80 bytes, lacks its line feed, or holds a byte of class other
unfoldable pub line_is_faulty : Line → Bool
line_is_faulty l =
    eqb (length l.bytes) 0 || ltb 80 (length l.bytes) || not l.ended || not (every (λ b. not (is_other b)) l.bytes)

-- the line that parts a program from its goal in the input of `sheetrun`, with its line feed
unfoldable pub goal_line : List ℕ
goal_line = ascii "GOAL\n"

-- a program's text and a goal's
pub record Parts : Type 0 where
  pub program : List ℕ
  pub goal : List ℕ

-- a byte put in front of the program's text
unfoldable pub in_program : ℕ → Parts → Parts
in_program b p = record { program = b ∷ p.program; goal = p.goal }

-- the input from here on, parted: `fresh` says that a line begins here
unfoldable pub parted_from : Bool → List ℕ → Parts
parted_from fresh [] = record { program = []; goal = [] }
parted_from fresh (b ∷ s) =
    let more = in_program b (parted_from (eqb b 10) s) in
    cond (fresh && same_bytes (take 5 (b ∷ s)) goal_line) (record { program = []; goal = drop 5 (b ∷ s) }) more

-- the input of `sheetrun`, parted at its first line `GOAL`, which belongs to neither part; without one the goal is empty
unfoldable pub parted : List ℕ → Parts
parted s = parted_from true s
