-- Laws of a constant's key: whether it is a numeral's, by one bit of each byte; and the numeral without its leading zeros, as the
-- code goes through it from its last digit on.
--   letter_bits, numeral-bits           a name is a numeral exactly if none of its bytes has the bit of letters
--   own-other                          a constant that is no numeral is its own name
--   unit-some, unit-fits, rest-fits, kept-fits, zeros-fit, zeros-next    what the code multiplies and counts is within the key
--   Seen                               the last bytes of a name, and what counts of them
--   seen_start, seen-zero, seen-digit  the last digit, and one more in front: a zero, or another
--   seen_all                           all are seen, so that the name of the constant is left
-- Assumes nothing.
use mathlib.Core.Path.{◌≡◌, refl, sym, ap, ◌∙◌}
use mathlib.Core.Bool.{Bool, true, false, cond, ◌&&◌}
use mathlib.Core.List.{List, [], ◌∷◌, ◌++◌}
use Prim.Native.Nat.{ℕ, zero, suc, ◌+◌, ◌-◌, ◌*◌, ◌/◌, ◌%◌, ◌^◌, ◌≤◌, ◌<◌}
use native.Mathlib.Nat.{not-suc-le-zero, pow-suc, pow-le-pow_right, mul-le-mul_left, mul-le-mul_right, div-mul-le_self}
use native.Mathlib.Omega.{arith}
use native.Mathlib.Decide.{dec_lt}
use borrow.Author.Tests.{ne_eqb, eq-eqb, eqb-true, eqb-false}
use lib.Bits.{bit_and, and_block, and_zero_l, and_zero_r}
use lib.Dec.{eqb}
use lib.ListN.{length, take, drop, get_or, length-take}
use lib.Seq.{append_snoc}
use Rattle.text.specs.declared.table.Class.TheVariants.{Small, Capital, Digit, Comma, LineFeed, Other}
use Rattle.text.specs.Bytes.{between, class_of, is_class, is_name_class}
use Rattle.text.specs.Lists.{every}
use Rattle.text.specs.Fields.{is_name}
use Rattle.text.specs.Constants.{is_numeral, constant_name}
use Rattle.text.specs.Keys.{packed_from, packed, key_of}
use Rattle.text.proofs.Bools.{never, and-true, and-false}
use Rattle.text.proofs.Laws.{every_append, last_apart}
use Rattle.text.proofs.ClassLaws.{between-true, name-range, is_digit}
use Rattle.text.proofs.Keys.{name_byte, name-size, name-bytes, key-of-name, packed-append, packed-snoc, packed-grows}
use Rattle.text.proofs.ConstantLaws.{leading_zeros, zeros-few, name-dropped, constant-name, other_name}
use Rattle.numerals.specs.Numerals.{ConstantIn}

-- what the code multiplies and counts stays within the key: a 1 in the place of the next byte, what stands in front of it, and
-- the zeros, of which there are no more than bytes
pub unit-some : (zeros unit : ℕ) → 256 ^ zeros ≤ unit → 1 ≤ unit * 256
unit-some zeros unit h = omega (arith, h, pow-le-pow_right {n = 256} (omega arith) {i = 0} {j = zeros} (omega arith))

pub unit-fits : (rest unit key : ℕ) → rest * (unit * 256) ≤ key → 0 < rest → unit * 256 ≤ key
unit-fits rest unit key h k = omega (arith, h, mul-le-mul_right (unit * 256) k)

pub rest-fits : (rest unit key zeros : ℕ) → rest * (unit * 256) ≤ key → 256 ^ zeros ≤ unit → rest ≤ key
rest-fits rest unit key zeros h k = omega (arith, h, mul-le-mul_left rest (unit-some zeros unit k))

pub kept-fits : (rest unit key : ℕ) → rest * (unit * 256) ≤ key → rest / 256 * 256 * (unit * 256) ≤ key
kept-fits rest unit key h = omega (arith, h, mul-le-mul_right (unit * 256) (div-mul-le_self rest 256))

pub zeros-fit : (zeros unit key : ℕ) → 256 ^ zeros ≤ unit → unit * 256 ≤ key → key < 18446744073709551616 → zeros + 1 ≤ 7
zeros-fit zeros unit key h k low = elim (dec_lt zeros 7) [
  | yes few ↦ omega (arith, few)
  | no many ↦
      let least : 256 ^ 7 ≤ 256 ^ zeros = pow-le-pow_right {n = 256} (omega arith) {i = 7} {j = zeros} (omega (arith, many)) in
      absurd (omega (arith, least, h, k, low))
]

pub zeros-next : (zeros unit : ℕ) → 256 ^ zeros ≤ unit → 256 ^ (zeros + 1) ≤ unit * 256
zeros-next zeros unit h =
    let next : zeros + 1 ≡ suc zeros = omega arith in
    rw (next, pow-suc 256 zeros) (omega (arith, h))

-- some bytes of a name and their value: the last byte, and those before it
record Ended (g : List ℕ) : Type 0 where
  pub front : List ℕ
  pub last : ℕ
  pub is : g ≡ front ++ (last ∷ [])
  pub named : every name_byte front ≡ true
  pub range : (48 ≤ last) × (last ≤ 122)
  pub rest : packed g / 256 ≡ packed front
  pub byte : packed g % 256 ≡ last

ended : (b : ℕ) (s : List ℕ) → every name_byte (b ∷ s) ≡ true → Ended (b ∷ s)
ended b s e =
    let g : List ℕ = take (length s) (b ∷ s) in
    let c : ℕ = get_or (b ∷ s) (length s) 0 in
    let is : b ∷ s ≡ g ++ (c ∷ []) = last_apart b s in
    let both = and-true (every name_byte g) (every name_byte (c ∷ []))
    (sym (every_append name_byte g (c ∷ [])) ∙ sym (ap (every name_byte) is) ∙ e) in
    let range = name-range c (and-true (name_byte c) true both.1).0 in
    let value : packed (b ∷ s) ≡ packed g * 256 + c = ap packed is ∙ packed-snoc g c in
    record {
      front = g;
      last = c;
      is = is;
      named = both.0;
      range = range;
      rest = omega (arith, value, range.1);
      byte = omega (arith, value, range.1);
    }

-- the value of one byte alone
packed-one : (b : ℕ) → packed (b ∷ []) ≡ b
unfolding packed packed_from
packed-one b = omega arith

-- a byte of a name that is no digit is a small letter
letter-high : (b : ℕ) → name_byte b ≡ true → is_class Digit b ≡ false → 97 ≤ b
unfolding class_of is_name_class
letter-high b h k = go (between 97 122 b) (between 65 90 b) (between 48 57 b) (eqb b 44) (eqb b 10) refl (sym (is_digit b) ∙ k) h
  where
    go : (s c d m l : Bool) → between 97 122 b ≡ s → d ≡ false
        → is_name_class (cond s Small (cond c Capital (cond d Digit (cond m Comma (cond l LineFeed Other))))) ≡ true → 97 ≤ b
    go true c d m l p q n = (between-true 97 122 b p).0
    go false true d m l p q n = absurd (never (sym n))
    go false false true m l p q n = absurd (never q)
    go false false false true l p q n = absurd (never (sym n))
    go false false false false true p q n = absurd (never (sym n))
    go false false false false false p q n = absurd (never (sym n))

-- the bit of letters in each of n bytes
abbrev pub letter_bits : ℕ → ℕ
letter_bits zero = 0
letter_bits (suc n) = letter_bits n * 256 + 64

-- a numeral is made only of digits
numeral-all : (f : List ℕ) → 1 ≤ length f → is_numeral f ≡ every (is_class Digit) f
unfolding is_numeral
numeral-all [] h = absurd (not-suc-le-zero h)
numeral-all (b ∷ s) h = refl

-- `&&` with true
and_right : (t : Bool) → (t && true) ≡ t
and_right true = refl
and_right false = refl

-- in a byte of a name: none in a digit, one in a letter
bit-digit : (b : ℕ) → b ≤ 57 → bit_and b 64 ≡ 0
bit-digit b k =
    let parts : b ≡ 0 * 2 ^ 6 + b = omega arith in
    ap (λ (v : ℕ). bit_and v (1 * 2 ^ 6 + 0)) parts ∙ and_block 6 0 1 b 0 (omega (arith, k)) (omega arith)
    ∙ ap (λ (v : ℕ). bit_and 0 1 * 2 ^ 6 + v) (and_zero_r b)

bit-letter : (b : ℕ) → 64 ≤ b → b ≤ 127 → bit_and b 64 ≡ 64
bit-letter b h k =
    let parts : b ≡ 1 * 2 ^ 6 + (b - 64) = omega (arith, h) in
    ap (λ (v : ℕ). bit_and v (1 * 2 ^ 6 + 0)) parts ∙ and_block 6 1 1 (b - 64) 0 (omega (arith, h, k)) (omega arith)
    ∙ ap (λ (v : ℕ). bit_and 1 1 * 2 ^ 6 + v) (and_zero_r (b - 64))

-- one byte more
bits-last : (n : ℕ) (g : List ℕ) (c : ℕ) → c < 256
    → bit_and (packed (g ++ (c ∷ []))) (letter_bits (suc n)) ≡ bit_and (packed g) (letter_bits n) * 256 + bit_and c 64
bits-last n g c h =
    ap (λ (v : ℕ). bit_and v (letter_bits n * 256 + 64)) (packed-snoc g c)
    ∙ and_block 8 (packed g) (letter_bits n) c 64 h (omega arith)

-- a name is a numeral exactly if none of its bytes has the bit
letters-met : (n : ℕ) (f : List ℕ) → length f ≤ n → every name_byte f ≡ true
    → eqb (bit_and (packed f) (letter_bits n)) 0 ≡ every (is_class Digit) f
unfolding packed packed_from
letters-met zero [] h e = refl
letters-met zero (b ∷ s) h e = absurd (not-suc-le-zero h)
letters-met (suc n) [] h e = ap (λ (v : ℕ). eqb v 0) (and_zero_l (letter_bits (suc n)))
letters-met (suc n) (b ∷ s) h e =
    let g : List ℕ = take (length s) (b ∷ s) in
    let c : ℕ = get_or (b ∷ s) (length s) 0 in
    let is : b ∷ s ≡ g ++ (c ∷ []) = last_apart b s in
    let both = and-true (every name_byte g) (every name_byte (c ∷ []))
    (sym (every_append name_byte g (c ∷ [])) ∙ sym (ap (every name_byte) is) ∙ e) in
    let one = (and-true (name_byte c) true both.1).0 in
    let short : length g ≤ n = omega (arith, h, length-take (length s) (b ∷ s)) in
    ap (λ (l : List ℕ). eqb (bit_and (packed l) (letter_bits (suc n))) 0) is
    ∙ ap (λ (v : ℕ). eqb v 0) (bits-last n g c (omega (arith, (name-range c one).1)))
    ∙ last (bit_and (packed g) (letter_bits n)) c (every (is_class Digit) g) one (letters-met n g short both.0)
    ∙ sym (ap (every (is_class Digit)) is ∙ every_append (is_class Digit) g (c ∷ []))
  where
    last : (v c : ℕ) (t : Bool) → name_byte c ≡ true → eqb v 0 ≡ t
        → eqb (v * 256 + bit_and c 64) 0 ≡ (t && (is_class Digit c && true))
    last v c t n q = go (is_class Digit c) refl
      where
        go : (d : Bool) → is_class Digit c ≡ d → eqb (v * 256 + bit_and c 64) 0 ≡ (t && (d && true))
        go true k =
            let none = bit-digit c (between-true 48 57 c (sym (is_digit c) ∙ k)).1 in
            rw none (more (eqb v 0) refl)
          where
            more : (u : Bool) → eqb v 0 ≡ u → eqb (v * 256 + 0) 0 ≡ (t && true)
            more true z = eq-eqb (v * 256 + 0) 0 (omega (arith, eqb-true v 0 z)) ∙ sym (and_right t ∙ sym q ∙ z)
            more false z = ne_eqb (v * 256 + 0) 0 (λ w. eqb-false v 0 z (omega (arith, w))) ∙ sym (and_right t ∙ sym q ∙ z)
        go false k =
            let some = bit-letter c (omega (arith, letter-high c n k)) (omega (arith, (name-range c n).1)) in
            rw some (ne_eqb (v * 256 + 64) 0 (λ w. omega (arith, w)) ∙ sym (and-false t))

pub numeral-bits : (f : List ℕ) (key : ℕ) → is_name f ≡ true → key ≡ key_of f → eqb (bit_and key 4629771061636907072) 0 ≡ is_numeral f
numeral-bits f key h e =
    ap (λ (v : ℕ). eqb (bit_and v 4629771061636907072) 0) (e ∙ key-of-name f h)
    ∙ letters-met 8 f (name-size f h).1 (name-bytes f h) ∙ sym (numeral-all f (name-size f h).0)

-- a constant that is no numeral is its own name
pub own-other : (f : List ℕ) (key : ℕ) → is_name f ≡ true → key ≡ key_of f → is_numeral f ≡ false
    → ConstantIn f (record { key = key; zeros = 0 })
own-other f key h e k =
    let same = other_name f k in
    record { keyed = e ∙ ap key_of (sym same); named = sym same; few = (name-size f h).0 }

-- the value of bytes that follow others of value v
packed-from : (v : ℕ) (s : List ℕ) → packed_from v s ≡ v * 256 ^ length s + packed_from 0 s
unfolding packed_from
packed-from v [] = omega arith
packed-from v (b ∷ s) =
    let n : ℕ = 256 ^ length s in
    let whole : packed_from (v * 256 + b) s ≡ (v * 256 + b) * n + packed_from 0 s = packed-from (v * 256 + b) s in
    let rest : packed_from (0 * 256 + b) s ≡ (0 * 256 + b) * n + packed_from 0 s = packed-from (0 * 256 + b) s in
    rw (pow-suc 256 (length s)) (omega (arith, whole, rest))

-- the value of bytes with others behind them
packed_join : (p q : List ℕ) → packed (p ++ q) ≡ packed p * 256 ^ length q + packed q
unfolding packed
packed_join p q = packed-append 0 p q ∙ packed-from (packed_from 0 p) q

-- the last bytes of a name f: those in front have the value `rest`, a 1 in the place of the first of them is worth `unit`, and
-- without the `zeros` that lead them they have the value `kept`
pub record Seen (f : List ℕ) (rest unit kept zeros : ℕ) : Type 0 where
  pub front : List ℕ
  pub first : ℕ
  pub others : List ℕ
  pub is : f ≡ front ++ (first ∷ others)
  pub named : every name_byte front ≡ true
  pub valued : rest ≡ packed front
  pub worth : unit ≡ 256 ^ length others
  pub counted : zeros ≡ leading_zeros (first ∷ others)
  pub left : kept ≡ packed (drop zeros (first ∷ others))

-- the last digit
pub seen_start : (f : List ℕ) (key : ℕ) → is_name f ≡ true → key ≡ key_of f → Seen f (key / 256) 1 (key % 256) 0
unfolding leading_zeros
seen_start f key h e = go f (e ∙ key-of-name f h) (name-size f h).0 (name-bytes f h) refl
  where
    go : (g : List ℕ) → key ≡ packed g → 1 ≤ length g → every name_byte g ≡ true → f ≡ g → Seen f (key / 256) 1 (key % 256) 0
    go [] w some named same = absurd (not-suc-le-zero some)
    go (b ∷ s) w some named same =
        let l = ended b s named in
        record {
          front = l.front;
          first = l.last;
          others = [];
          is = same ∙ l.is;
          named = l.named;
          valued = ap (λ (v : ℕ). v / 256) w ∙ l.rest;
          worth = refl;
          counted = refl;
          left = ap (λ (v : ℕ). v % 256) w ∙ l.byte ∙ sym (packed-one l.last);
        }

-- one byte more
module _ (f : List ℕ) (rest unit kept zeros : ℕ) (p : Seen f rest unit kept zeros) where
  -- the last byte of those in front
  before : 0 < rest → Ended p.front
  unfolding packed packed_from
  before h = go p.front p.named p.valued
    where
      go : (g : List ℕ) → every name_byte g ≡ true → rest ≡ packed g → Ended g
      go [] named valued = absurd (omega (arith, h, valued))
      go (b ∷ s) named valued = ended b s named

  module _ (some : 0 < rest) where
    abbrev l : Ended p.front
    l = before some

    last : rest % 256 ≡ l.last
    last = ap (λ (v : ℕ). v % 256) p.valued ∙ l.byte

    -- the name, parted in front of that byte
    parted : f ≡ l.front ++ (l.last ∷ p.first ∷ p.others)
    parted =
        p.is ∙ ap (λ (g : List ℕ). g ++ (p.first ∷ p.others)) l.is
        ∙ append_snoc l.front l.last (p.first ∷ p.others)

    seen_more : (kept' zeros' : ℕ) → zeros' ≡ leading_zeros (l.last ∷ p.first ∷ p.others)
        → kept' ≡ packed (drop zeros' (l.last ∷ p.first ∷ p.others)) → Seen f (rest / 256) (unit * 256) kept' zeros'
    seen_more kept' zeros' counted left =
        record {
          front = l.front;
          first = l.last;
          others = p.first ∷ p.others;
          is = parted;
          named = l.named;
          valued = ap (λ (v : ℕ). v / 256) p.valued ∙ l.rest;
          worth = ap (λ (v : ℕ). v * 256) p.worth ∙ sym (pow-suc 256 (length p.others));
          counted = counted;
          left = left;
        }

    pub seen-zero : rest % 256 ≡ 48 → Seen f (rest / 256) (unit * 256) kept (zeros + 1)
    unfolding leading_zeros
    seen-zero k =
        let next : zeros + 1 ≡ suc zeros = omega arith in
        seen_more kept (zeros + 1)
        (next ∙ ap suc p.counted ∙ sym (rw (eq-eqb l.last 48 (sym last ∙ k))))
        (p.left ∙ ap (λ (z : ℕ). packed (drop z (l.last ∷ p.first ∷ p.others))) (sym next))

    pub seen-digit : (key : ℕ) → is_name f ≡ true → key ≡ key_of f → (rest % 256 ≡ 48 → ⊥)
        → Seen f (rest / 256) (unit * 256) (key - rest / 256 * 256 * (unit * 256)) 0
    unfolding leading_zeros
    seen-digit key h e apart =
        let value : key ≡ packed l.front * 256 ^ suc (suc (length p.others)) + packed (l.last ∷ p.first ∷ p.others) =
        e ∙ key-of-name f h ∙ ap packed parted ∙ packed_join l.front (l.last ∷ p.first ∷ p.others) in
        let one = pow-suc 256 (suc (length p.others)) in
        let two = pow-suc 256 (length p.others) in
        let front : rest / 256 ≡ packed l.front = ap (λ (v : ℕ). v / 256) p.valued ∙ l.rest in
        let worth : packed l.front * 256 ^ suc (suc (length p.others)) ≡ rest / 256 * 256 * (unit * 256) =
        rw (one, two, sym p.worth, sym front) (omega arith) in
        seen_more (key - rest / 256 * 256 * (unit * 256)) 0
        (sym (rw (ne_eqb l.last 48 (λ z. apart (last ∙ z)))))
        (omega (arith, value, worth))

  -- all digits are seen
  pub seen_all : is_name f ≡ true → is_numeral f ≡ true → rest ≤ 0 → ConstantIn f (record { key = kept; zeros = zeros })
  unfolding packed packed_from
  seen_all h numeral none = go p.front p.is p.named p.valued
    where
      go : (g : List ℕ) → f ≡ g ++ (p.first ∷ p.others) → every name_byte g ≡ true → rest ≡ packed g
          → ConstantIn f (record { key = kept; zeros = zeros })
      go [] is named valued =
          let zero : zeros ≡ leading_zeros f = p.counted ∙ ap leading_zeros (sym is) in
          let name : drop zeros f ≡ constant_name f = ap (λ (z : ℕ). drop z f) zero ∙ sym (name-dropped f numeral) in
          record {
            keyed = p.left ∙ ap (λ (g : List ℕ). packed (drop zeros g)) (sym is) ∙ ap packed name
                ∙ sym (key-of-name (constant_name f) (constant-name f h));
            named = name;
            few = omega (arith, p.counted, zeros-few p.first p.others, ap length is);
          }
      go (b ∷ s) is named valued =
          let low = (name-range b (and-true (name_byte b) (every name_byte s) named).0).0 in
          absurd (omega (arith, none, valued, low, packed-grows (0 * 256 + b) s))
