-- Laws of names where they stand in a text.
--   word-here, word-step, word_end    how many bytes stand before the first comma or line feed, one byte on
--   name-cut, name-none               the name that starts at a place, as it is cut out
--   name-program, name-goal           the name of a number, from the text that its place says
--   name-whole, name-short            a word of at most eight bytes is the name that starts where it does; none has more
-- Assumes nothing.
use mathlib.Core.Path.{◌≡◌, sym}
use mathlib.Core.Bool.{Bool, true, false, cond}
use mathlib.Core.List.{List, []}
use Prim.Native.Nat.{ℕ, suc, ◌-◌, ◌≤◌, ◌<◌, min}
use native.Mathlib.Omega.{arith}
use native.Mathlib.Decide.{dec_le}
use borrow.Author.Tests.{ne_eqb, lt-ltb, le-ltb}
use lib.Dec.{ltb}
use lib.ListN.{length, take, drop, get_or, drop_of_length-le, length-take, length-drop, get_or-eq_default}
use lib.Seq.{drop-cons, take-take, take_all}
use Rattle.text.specs.Keys.{word_length, word}
use Rattle.tables.specs.Layout.{max_name, goal_place}
use Rattle.tables.specs.Names.{name_at, placed_at, name_in}

module _ (s : List ℕ) (i : ℕ) where
  -- at a comma or a line feed the word ends, and so it does at the text's end
  pub word-comma : i < length s → get_or s i 0 ≡ 44 → word_length (drop i s) ≡ 0
  unfolding word_length
  word-comma h e = rw (drop-cons s i 0 h, e)

  pub word-feed : i < length s → get_or s i 0 ≡ 10 → word_length (drop i s) ≡ 0
  unfolding word_length
  word-feed h e = rw (drop-cons s i 0 h, e)

  pub word_end : length s ≤ i → word_length (drop i s) ≡ 0
  unfolding word_length
  word_end h = rw (drop_of_length-le s h)

  -- any other byte is one more
  pub word-step : i < length s → (get_or s i 0 ≡ 44 → ⊥) → (get_or s i 0 ≡ 10 → ⊥)
      → word_length (drop i s) ≡ suc (word_length (drop (suc i) s))
  unfolding word_length
  word-step h e f = rw (drop-cons s i 0 h, ne_eqb (get_or s i 0) 44 e, ne_eqb (get_or s i 0) 10 f)

-- the first of the first
take-least : (m n : ℕ) (l : List ℕ) → take m (take n l) ≡ take (min n m) l
take-least m n l = elim (dec_le m n) [
  | yes h ↦ let e : min n m ≡ m = omega arith in rw e (take-take m n l h)
  | no h ↦
      let e : min n m ≡ n = omega (arith, h) in
      rw e (take_all m (take n l) (omega (arith, h, length-take n l)))
]

module _ (text : List ℕ) (at : ℕ) where
  -- the text from a place on, as it is lent
  pub lent-rest : take (length text - at) (drop at text) ≡ drop at text
  lent-rest = take_all (length text - at) (drop at text) (omega (arith, length-drop at text))

  -- the name that starts at a place, as it is cut out of the text from there on
  pub name-cut : (e : ℕ) → e ≡ min (word_length (take (length text - at) (drop at text))) max_name
      → take e (take (length text - at) (drop at text)) ≡ name_at text at
  unfolding name_at word
  name-cut e h =
      rw (h, lent-rest) (sym (take-least max_name (word_length (drop at text)) (drop at text)))

  -- none starts behind the text
  pub name-none : length text ≤ at → [] ≡ name_at text at
  unfolding name_at word word_length
  name-none h = rw (drop_of_length-le text h)

  -- a word of at most eight bytes is the name that starts where it does
  pub name-whole : length (word text at) ≤ 8 → name_at text at ≡ word text at
  unfolding name_at
  name-whole h = take_all max_name (word text at) h

-- a name has at most eight bytes
pub name-short : (program goal places : List ℕ) (n : ℕ) → length (name_in program goal places n) ≤ 8
unfolding name_in placed_at name_at
name-short program goal places n = go (ltb (get_or places n 0) goal_place)
  where
    go : (b : Bool)
        → length (cond b (take max_name (word program (get_or places n 0))) (take max_name (word goal
        (get_or places n 0 - goal_place)))) ≤ 8
    go true = omega (arith, length-take max_name (word program (get_or places n 0)))
    go false = omega (arith, length-take max_name (word goal (get_or places n 0 - goal_place)))

-- behind the last entry stands 0
pub no-entry : (places : List ℕ) (n : ℕ) → length places ≤ n → 0 ≡ get_or places n 0
no-entry places n h = sym (get_or-eq_default places 0 h)

-- the name of a number, from the text that its place says
module _ (program goal places name : List ℕ) (n at : ℕ) (found : at ≡ get_or places n 0) where
  pub name-program : at < goal_place → name ≡ name_at program at → name ≡ name_in program goal places n
  unfolding name_in placed_at
  name-program h e = rw (← found, lt-ltb at goal_place h) e

  pub name-goal : goal_place ≤ at → name ≡ name_at goal (at - goal_place) → name ≡ name_in program goal places n
  unfolding name_in placed_at
  name-goal h e = rw (← found, le-ltb at goal_place h) e
