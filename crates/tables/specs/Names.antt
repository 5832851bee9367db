-- Names where they stand in the two texts, for listings to show.
--   name_at         the name that starts at a place of a text
--   name_in         the name of a number, from the table of places
--   Placed         a table of places in which each name stands where it says
-- A place is a start in the program's text, or `goal_place` more than a start in the goal's. Assumes nothing.
use Rattle.std.specs.Prelude.{ℕ, ◌-◌, ◌<◌, cond, List, ◌≡◌, ltb, take, get_or}
use Rattle.text.specs.Keys.{word}
use Rattle.tables.specs.Layout.{max_names, max_name, goal_place}
use Rattle.tables.specs.Rows.{name_of}

-- the name that starts at a place of a text: its bytes up to the next comma or line feed, at most eight
unfoldable pub name_at : List ℕ → ℕ → List ℕ
name_at text at = take max_name (word text at)

-- the name that starts at a place of either text
unfoldable pub placed_at : List ℕ → List ℕ → ℕ → List ℕ
placed_at program goal place = cond (ltb place goal_place) (name_at program place) (name_at goal (place - goal_place))

-- the name of a number: a symbol's, a constant's or a rule's, from the place where it stands
unfoldable pub name_in : List ℕ → List ℕ → List ℕ → ℕ → List ℕ
name_in program goal places n = placed_at program goal (get_or places n 0)

-- each name of the table stands where its place says
pub record Placed (program goal names places : List ℕ) : Type 0 where
  pub each : (n : ℕ) → n < max_names → 0 < get_or names n 0 → name_in program goal places n ≡ name_of names n
