-- Laws of numbers: a field that is a number of one or two digits is told by its key, and so is its value.
--   number-key     whether a field is a number in a range below 100
--   value-key      the value of such a field
--   value_grows    more digits do not make a value smaller
--   number-one-digit, number-two-digits, number-no-digits     the number of a key, as the code tests it
-- Assumes nothing.
use mathlib.Core.Path.{◌≡◌, refl, sym, ap, ◌∙◌}
use mathlib.Core.Bool.{Bool, true, false, not, ◌&&◌}
use mathlib.Core.List.{List, [], ◌∷◌}
use Prim.Native.Nat.{ℕ, ◌+◌, ◌-◌, ◌*◌, ◌/◌, ◌%◌, ◌≤◌, ◌<◌}
use native.Mathlib.Decide.{dec_lt, ℕ_discrete}
use native.Mathlib.Omega.{arith}
use borrow.Author.Tests.{le-leb, lt-leb, ne_eqb, eq-eqb, eqb-false, not-true}
use lib.Dec.{leb, eqb}
use lib.ListN.{length}
use Rattle.text.specs.declared.table.Class.{Class}
use Rattle.text.specs.declared.table.Class.TheVariants.{Small, Capital, Digit, Comma, LineFeed, Other}
use Rattle.text.specs.Bytes.{between, class_of, class_number}
use Rattle.text.specs.Bytes.{is_class, is_name_class}
use Rattle.text.specs.Lists.{every}
use Rattle.text.specs.Fields.{is_name, is_number, is_number_in, value_of, value_from}
use Rattle.text.specs.Keys.{packed_from, packed, key_of, number_of}
use Rattle.text.proofs.Bools.{never, and-true}
use Rattle.text.proofs.ListLaws.{every-weaker}
use Rattle.text.proofs.ClassLaws.{between-true, between-above, between-below, name-range, is_digit}
use Rattle.text.proofs.Keys.{name_byte, name-is, name-short, name-bytes, key-of-name, packed-grows, form-cases}

-- a digit that is not 0
digit-more : (b : ℕ) → between 49 57 b ≡ (not (eqb b 48) && between 48 57 b)
unfolding between
digit-more b = elim (dec_lt 48 b) [
  | yes h ↦ rw (le-leb 49 b h, ne_eqb b 48 (λ e. omega arith), le-leb 48 b (omega arith))
  | no h ↦ rw (lt-leb 49 b (omega (arith, h))) (sym (none h))
]
  where
    none : (48 < b → ⊥) → (not (eqb b 48) && (leb 48 b && leb b 57)) ≡ false
    none h = elim (ℕ_discrete b 48) [
      | yes e ↦ rw (eq-eqb b 48 e)
      | no e ↦ rw (ne_eqb b 48 e, lt-leb 48 b (omega (arith, h, e)))
    ]

number-two : (b c : ℕ) → is_number (b ∷ c ∷ []) ≡ (between 49 57 b && between 48 57 c)
unfolding is_number
number-two b c = rw (is_digit b, is_digit c, digit-more b) (go (not (eqb b 48)) (between 48 57 b) (between 48 57 c))
  where
    go : (s t u : Bool) → (s && (t && (u && true))) ≡ ((s && t) && u)
    go true true true = refl
    go true true false = refl
    go true false u = refl
    go false t u = refl

pub value_grows : (v : ℕ) (s : List ℕ) → v ≤ value_from v s
unfolding value_from
value_grows v [] = omega arith
value_grows v (b ∷ s) = omega (arith, value_grows (v * 10 + (b - 48)) s)

-- a number of three digits or more is at least 100
number-long : (b c d : ℕ) (s : List ℕ) → is_number (b ∷ c ∷ d ∷ s) ≡ true → 100 ≤ value_of (b ∷ c ∷ d ∷ s)
unfolding is_number value_of value_from
number-long b c d s e =
    let both = and-true (not (eqb b 48)) (every (is_class Digit) (b ∷ c ∷ d ∷ s)) e in
    let first : is_class Digit b ≡ true = (and-true (is_class Digit b) (every (is_class Digit) (c ∷ d ∷ s)) both.1).0 in
    let range = between-true 48 57 b (sym (is_digit b) ∙ first) in
    let least : 49 ≤ b = omega (arith, range.0, eqb-false b 48 (not-true (eqb b 48) both.0)) in
    omega (arith, least, value_grows (((0 * 10 + (b - 48)) * 10 + (c - 48)) * 10 + (d - 48)) s)

-- the number that a key stands for: of one digit, of two, or none
pub number-one-digit : (k : ℕ) → between 48 57 k ≡ true → number_of k ≡ k - 48
unfolding number_of
number-one-digit k h = rw h

pub number-two-digits : (k : ℕ) → between 48 57 k ≡ false → between 49 57 (k / 256) ≡ true → between 48 57 (k % 256) ≡ true
    → number_of k ≡ (k / 256 - 48) * 10 + (k % 256 - 48)
unfolding number_of
number-two-digits k h l m = rw (h, l, m)

pub number-no-digits : (k : ℕ) → between 48 57 k ≡ false → (between 49 57 (k / 256) && between 48 57 (k % 256)) ≡ false
    → number_of k ≡ 100
unfolding number_of
number-no-digits k h l = rw (h, l)

number-low : (k : ℕ) → k < 48 → number_of k ≡ 100
number-low k h =
    number-no-digits k (between-below 48 57 k h) (rw (between-below 49 57 (k / 256) (omega arith)))

number-high : (k : ℕ) → 14848 ≤ k → number_of k ≡ 100
number-high k h =
    number-no-digits k (between-above 48 57 k (omega arith)) (rw (between-above 49 57 (k / 256) (omega arith)))

-- what a field's key says of it as a number: its value, or that it has none below 100
data NumberBy (f : List ℕ) : Type 0 where
  valued : is_number f ≡ true → number_of (key_of f) ≡ value_of f → NumberBy f
  unvalued : (is_number f ≡ true → 100 ≤ value_of f) → number_of (key_of f) ≡ 100 → NumberBy f

no_number : (f : List ℕ) → is_number f ≡ false → number_of (key_of f) ≡ 100 → NumberBy f
no_number f h e = unvalued (λ k. absurd (never (sym k ∙ h))) e

-- a field that is no name is no number, and its key is low
digit-name : (b : ℕ) → is_class Digit b ≡ true → name_byte b ≡ true
unfolding is_class class_number is_name_class
digit-name b h = go (class_of b) h
  where
    go : (k : Class) → eqb (class_number k) (class_number Digit) ≡ true → is_name_class k ≡ true
    go Small h = refl
    go Capital h = h
    go Digit h = refl
    go Comma h = h
    go LineFeed h = h
    go Other h = h

low-key : (f : List ℕ) → is_name f ≡ false → key_of f ≤ 27
low-key f h = form-cases (key_of f ≤ 27) f
    (λ k l m. absurd (never (sym k ∙ h))) (λ k l m n. n) (λ k l m. omega arith)

number-name : (f : List ℕ) → length f ≤ 8 → is_number f ≡ true → is_name f ≡ true
unfolding is_number
number-name [] h e = absurd (let z : ◌≡◌ {A = ℕ} 0 1 = cc in omega arith)
number-name (b ∷ []) h e = name-is (b ∷ []) (omega arith) h (rw (digit-name b e))
number-name (b ∷ c ∷ s) h e =
    let digits : every (is_class Digit) (b ∷ c ∷ s) ≡ true = (and-true (not (eqb b 48)) (every (is_class Digit) (b ∷ c ∷ s)) e).1 in
    name-is (b ∷ c ∷ s) (omega arith) h (every-weaker (is_class Digit) name_byte (b ∷ c ∷ s) digit-name digits)

number-none : (f : List ℕ) → length f ≤ 8 → is_name f ≡ false → NumberBy f
number-none f h e = no_number f (go (is_number f) refl) (number-low (key_of f) (omega (arith, low-key f e)))
  where
    go : (t : Bool) → is_number f ≡ t → is_number f ≡ false
    go true k = absurd (never (sym (number-name f h k) ∙ e))
    go false k = k

by_one : (b : ℕ) → is_name (b ∷ []) ≡ true → NumberBy (b ∷ [])
unfolding is_number value_of value_from packed packed_from
by_one b n = go (is_class Digit b) refl
  where
    key : key_of (b ∷ []) ≡ b
    key = key-of-name (b ∷ []) n ∙ omega arith

    range : (48 ≤ b) × (b ≤ 122)
    range = name-range b (and-true (name_byte b) true (name-bytes (b ∷ []) n)).0

    go : (t : Bool) → is_class Digit b ≡ t → NumberBy (b ∷ [])
    go true e =
        valued e (ap number_of key ∙ number-one-digit b (sym (is_digit b) ∙ e) ∙ omega arith)
    go false e =
        let none : between 48 57 b ≡ false = sym (is_digit b) ∙ e in
        no_number (b ∷ []) e (ap number_of key
        ∙ number-no-digits b none (rw (between-below 49 57 (b / 256) (omega (arith, range.1)))))

by_two : (b c : ℕ) → is_name (b ∷ c ∷ []) ≡ true → NumberBy (b ∷ c ∷ [])
unfolding value_of value_from packed packed_from
by_two b c n = go (between 49 57 b) (between 48 57 c) refl refl
  where
    bytes : (name_byte b ≡ true) × (every name_byte (c ∷ []) ≡ true)
    bytes = and-true (name_byte b) (every name_byte (c ∷ [])) (name-bytes (b ∷ c ∷ []) n)

    first : (48 ≤ b) × (b ≤ 122)
    first = name-range b bytes.0

    second : (48 ≤ c) × (c ≤ 122)
    second = name-range c (and-true (name_byte c) true bytes.1).0

    key : key_of (b ∷ c ∷ []) ≡ b * 256 + c
    key = key-of-name (b ∷ c ∷ []) n ∙ omega arith

    front : key_of (b ∷ c ∷ []) / 256 ≡ b
    front = omega (arith, key, second.1)

    last : key_of (b ∷ c ∷ []) % 256 ≡ c
    last = omega (arith, key, second.1)

    more : between 48 57 (key_of (b ∷ c ∷ [])) ≡ false
    more = between-above 48 57 (key_of (b ∷ c ∷ [])) (omega (arith, key, first.0))

    go : (s t : Bool) → between 49 57 b ≡ s → between 48 57 c ≡ t → NumberBy (b ∷ c ∷ [])
    go true true h k =
        valued (number-two b c ∙ rw (h, k))
        (number-two-digits (key_of (b ∷ c ∷ [])) more (rw front h) (rw last k) ∙ rw (front, last) (omega arith))
    go true false h k =
        no_number (b ∷ c ∷ []) (number-two b c ∙ rw (h, k))
        (number-no-digits (key_of (b ∷ c ∷ [])) more (rw (front, last, h, k)))
    go false t h k =
        no_number (b ∷ c ∷ []) (number-two b c ∙ rw h)
        (number-no-digits (key_of (b ∷ c ∷ [])) more (rw (front, h)))

by-more : (b c d : ℕ) (s : List ℕ) → NumberBy (b ∷ c ∷ d ∷ s)
unfolding packed packed_from
by-more b c d s = unvalued (number-long b c d s) (go (is_name (b ∷ c ∷ d ∷ s)) refl)
  where
    go : (t : Bool) → is_name (b ∷ c ∷ d ∷ s) ≡ t → number_of (key_of (b ∷ c ∷ d ∷ s)) ≡ 100
    go true n =
        let first = name-range b (and-true (name_byte b) (every name_byte (c ∷ d ∷ s)) (name-bytes (b ∷ c ∷ d ∷ s) n)).0 in
        number-high (key_of (b ∷ c ∷ d ∷ s))
        (omega (arith, key-of-name (b ∷ c ∷ d ∷ s) n, first.0, packed-grows (((0 * 256 + b) * 256 + c) * 256 + d) s))
    go false n = number-low (key_of (b ∷ c ∷ d ∷ s)) (omega (arith, low-key (b ∷ c ∷ d ∷ s) n))

number_by : (f : List ℕ) → NumberBy f
unfolding is_number
number_by [] = number-none [] (omega arith) name-short
number_by (b ∷ []) = go (is_name (b ∷ [])) refl
  where
    go : (t : Bool) → is_name (b ∷ []) ≡ t → NumberBy (b ∷ [])
    go true n = by_one b n
    go false n = number-none (b ∷ []) (omega arith) n
number_by (b ∷ c ∷ []) = go (is_name (b ∷ c ∷ [])) refl
  where
    go : (t : Bool) → is_name (b ∷ c ∷ []) ≡ t → NumberBy (b ∷ c ∷ [])
    go true n = by_two b c n
    go false n = number-none (b ∷ c ∷ []) (omega arith) n
number_by (b ∷ c ∷ d ∷ s) = by-more b c d s

-- a number in a range below 100, and its value, by its key
module _ (lo hi : ℕ) (f : List ℕ) (h : hi < 100) where
  pub number-key : is_number_in lo hi f ≡ between lo hi (number_of (key_of f))
  unfolding is_number_in
  number-key = go (number_by f)
    where
      go : NumberBy f → (is_number f && between lo hi (value_of f)) ≡ between lo hi (number_of (key_of f))
      go (valued e k) = rw (e, k)
      go (unvalued e k) = none (is_number f) refl ∙ sym (ap (between lo hi) k ∙ between-above lo hi 100 h)
        where
          none : (t : Bool) → is_number f ≡ t → (is_number f && between lo hi (value_of f)) ≡ false
          none true q = rw q (between-above lo hi (value_of f) (omega (arith, e q)))
          none false q = rw q

  pub value-key : is_number_in lo hi f ≡ true → value_of f ≡ number_of (key_of f)
  unfolding is_number_in
  value-key q = go (number_by f)
    where
      go : NumberBy f → value_of f ≡ number_of (key_of f)
      go (valued e k) = sym k
      go (unvalued e k) =
          absurd (never (sym q ∙ number-key ∙ ap (between lo hi) k ∙ between-above lo hi 100 h))
