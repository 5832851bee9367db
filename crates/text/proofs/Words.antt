-- Laws of the word at a place: the bytes up to the next comma or line feed.
--   word-comma, word-feed, word_end, word-step     where it ends, sought from a place on
--   word-part, word_none                           the word as a part of the text
-- Assumes nothing.
use mathlib.Core.Path.{◌≡◌, refl, ap}
use mathlib.Core.Bool.{Bool, true, false, cond, ◌||◌}
use mathlib.Core.List.{List}
use Prim.Native.Nat.{ℕ, suc, ◌+◌, ◌-◌, ◌≤◌, ◌<◌}
use native.Mathlib.Nat.{sub_self}
use native.Mathlib.Numerals.{add-one}
use native.Mathlib.Omega.{arith}
use borrow.Author.Tests.{eq-eqb, ne_eqb}
use lib.Dec.{eqb}
use lib.ListN.{length, take, drop, get_or, drop_of_length-le}
use lib.Seq.{drop-cons}
use Rattle.text.specs.Keys.{word_length, word}

-- no byte from `at` up to i ends the word
module _ (s : List ℕ) (at i : ℕ) (same : i + word_length (drop i s) ≡ at + word_length (drop at s)) where
  pub word-comma : i < length s → get_or s i 0 ≡ 44 → i ≡ at + word_length (drop at s)
  unfolding word_length
  word-comma h e =
      let none : word_length (drop i s) ≡ 0 = rw (drop-cons s i 0 h, eq-eqb (get_or s i 0) 44 e) in
      omega arith

  pub word-feed : i < length s → get_or s i 0 ≡ 10 → i ≡ at + word_length (drop at s)
  unfolding word_length
  word-feed h e =
      let none : word_length (drop i s) ≡ 0 = rw (drop-cons s i 0 h, eq-eqb (get_or s i 0) 10 e) (go (eqb (get_or s i 0) 44)) in
      omega arith
    where
      go : (t : Bool) → cond (t || true) 0 (suc (word_length (drop (suc i) s))) ≡ 0
      go true = refl
      go false = refl

  pub word_end : length s ≤ i → i ≡ at + word_length (drop at s)
  unfolding word_length
  word_end h =
      let none : word_length (drop i s) ≡ 0 = rw (drop_of_length-le s h) in
      omega arith

  pub word-step : i < length s → (get_or s i 0 ≡ 44 → ⊥) → (get_or s i 0 ≡ 10 → ⊥)
      → i + 1 + word_length (drop (i + 1) s) ≡ at + word_length (drop at s)
  unfolding word_length
  word-step h e f =
      let more : word_length (drop i s) ≡ suc (word_length (drop (suc i) s)) =
      rw (drop-cons s i 0 h, ne_eqb (get_or s i 0) 44 e, ne_eqb (get_or s i 0) 10 f) in
      rw (add-one i) (omega arith)

-- the word as a part of the text
module _ (s : List ℕ) (at : ℕ) where
  pub word-part : (e : ℕ) → e ≡ at + word_length (drop at s) → take (e - at) (drop at s) ≡ word s at
  unfolding word
  word-part e h = ap (λ (n : ℕ). take n (drop at s)) (let z : e - at ≡ word_length (drop at s) = omega arith in z)

  pub word_none : length s < at → take (length s - length s) (drop (length s) s) ≡ word s at
  unfolding word word_length
  word_none h = rw (sub_self (length s), drop_of_length-le s {i = at} (omega arith))
