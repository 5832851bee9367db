-- Laws of constants: two are one exactly if they have one name, and a numeral's name is the numeral without its leading zeros.
--   same_name            two constants are one exactly if they have one name (the main law)
--   own_name             the name of a name
--   leading_zeros         how many zeros stand in front of the first digit that counts
--   zeros-few            they are fewer than there are digits
--   name-dropped         the name of a numeral is the rest behind them
--   constant-name        the name of a constant is a name
--   numeral-name, other_name     the name of a numeral, and of any other constant
-- Assumes nothing.
use mathlib.Core.Path.{◌≡◌, refl, sym, ap, ap₂, ◌∙◌}
use mathlib.Core.Logic.{◌↔◌}
use mathlib.Core.Bool.{Bool, true, false, cond, not}
use mathlib.Core.List.{List, [], ◌∷◌, ◌++◌}
use Prim.Native.Nat.{ℕ, zero, suc, ◌+◌, ◌-◌, ◌*◌, ◌/◌, ◌%◌, ◌≤◌}
use native.Mathlib.Nat.{not-suc-le-zero}
use native.Mathlib.Omega.{arith}
use borrow.Author.Tests.{eqb-true, eqb-false}
use lib.Dec.{eqb}
use lib.ListN.{length, take, drop, get_or, length-take, length-drop}
use Rattle.text.specs.declared.table.Class.TheVariants.{Digit}
use Rattle.text.specs.Bytes.{is_class}
use Rattle.text.specs.Lists.{every}
use Rattle.text.specs.Fields.{is_name, is_number, value_from, value_of, decimal}
use Rattle.text.specs.Constants.{is_numeral, SameConstant, spelled, valued, constant_name}
use Rattle.text.proofs.Bools.{never, and-true}
use Rattle.text.proofs.Laws.{every_append, last_apart}
use Rattle.text.proofs.ListLaws.{every_drop}
use Rattle.text.proofs.ClassLaws.{between-true, is_digit}
use Rattle.text.proofs.Keys.{name_byte, name-is, name-size, name-bytes}
use Rattle.text.proofs.Numbers.{value_grows}
use Rattle.text.proofs.Decimals.{value-last, decimal-low, decimal-high, decimal-exact}

-- the name of a numeral, and of any other constant
pub numeral-name : (f : List ℕ) → is_numeral f ≡ true → constant_name f ≡ decimal (value_of f)
unfolding constant_name
numeral-name f h = rw h

pub other_name : (f : List ℕ) → is_numeral f ≡ false → constant_name f ≡ f
unfolding constant_name
other_name f h = rw h

-- a number is a numeral
number-numeral : (f : List ℕ) → is_number f ≡ true → is_numeral f ≡ true
unfolding is_number is_numeral
number-numeral [] h = h
number-numeral (b ∷ []) h = rw h
number-numeral (b ∷ c ∷ s) h = (and-true (not (eqb b 48)) (every (is_class Digit) (b ∷ c ∷ s)) h).1

decimal-numeral : (n : ℕ) → is_numeral (decimal n) ≡ true
decimal-numeral n = number-numeral (decimal n) (decimal-exact n).0

-- a name is its own name
pub own_name : (f : List ℕ) → constant_name (constant_name f) ≡ constant_name f
own_name f = go (is_numeral f) refl
  where
    go : (t : Bool) → is_numeral f ≡ t → constant_name (constant_name f) ≡ constant_name f
    go true h =
        let n : ℕ = value_of f in
        ap constant_name (numeral-name f h) ∙ numeral-name (decimal n) (decimal-numeral n) ∙ ap decimal (decimal-exact n).1
        ∙ sym (numeral-name f h)
    go false h = ap constant_name (other_name f h)

-- two constants are one exactly if they have one name
pub same_name : (f g : List ℕ) → SameConstant f g ↔ (constant_name f ≡ constant_name g)
same_name f g = (one, λ e. back (is_numeral f) (is_numeral g) refl refl e)
  where
    one : SameConstant f g → constant_name f ≡ constant_name g
    one (spelled e) = ap constant_name e
    one (valued h k e) = numeral-name f h ∙ ap decimal e ∙ sym (numeral-name g k)

    back : (s t : Bool) → is_numeral f ≡ s → is_numeral g ≡ t → constant_name f ≡ constant_name g → SameConstant f g
    back true true h k e =
        valued h k
        (sym (decimal-exact (value_of f)).1 ∙ ap value_of (sym (numeral-name f h) ∙ e ∙ numeral-name g k)
        ∙ (decimal-exact (value_of g)).1)
    back true false h k e =
        absurd (never (sym (decimal-numeral (value_of f)) ∙ ap is_numeral (sym (numeral-name f h) ∙ e ∙ other_name g k) ∙ k))
    back false true h k e =
        absurd (never (sym (decimal-numeral (value_of g)) ∙ ap is_numeral (sym (numeral-name g k) ∙ sym e ∙ other_name f h) ∙ h))
    back false false h k e = spelled (sym (other_name f h) ∙ e ∙ other_name g k)

-- digits of which the first is not zero are those of their value
digit-range : (b : ℕ) → is_class Digit b ≡ true → (48 ≤ b) × (b ≤ 57)
digit-range b h = between-true 48 57 b (sym (is_digit b) ∙ h)

digit-decimal : (b : ℕ) → every (is_class Digit) (b ∷ []) ≡ true → decimal (value_of (b ∷ [])) ≡ b ∷ []
unfolding value_of value_from
digit-decimal b e =
    let range = digit-range b (and-true (is_class Digit b) true e).0 in
    decimal-low (0 * 10 + (b - 48)) (omega (arith, range.1))
    ∙ ap (λ (x : ℕ). x ∷ []) (let z : 48 + (0 * 10 + (b - 48)) ≡ b = omega (arith, range.0) in z)

led-decimal : (n b : ℕ) (s : List ℕ) → length s ≤ n → 49 ≤ b → every (is_class Digit) (b ∷ s) ≡ true
    → decimal (value_of (b ∷ s)) ≡ b ∷ s
unfolding value_of value_from
led-decimal zero b [] h k e = digit-decimal b e
led-decimal zero b (c ∷ s) h k e = absurd (not-suc-le-zero h)
led-decimal (suc n) b [] h k e = digit-decimal b e
led-decimal (suc n) b (c ∷ s) h k e =
    let g : List ℕ = take (length s) (c ∷ s) in
    let d : ℕ = get_or (c ∷ s) (length s) 0 in
    let is : c ∷ s ≡ g ++ (d ∷ []) = last_apart c s in
    let short : length g ≤ n = omega (arith, length-take (length s) (c ∷ s)) in
    let whole : every (is_class Digit) ((b ∷ g) ++ (d ∷ [])) ≡ true =
    ap (λ (l : List ℕ). every (is_class Digit) (b ∷ l)) (sym is) ∙ e in
    let both = and-true (every (is_class Digit) (b ∷ g)) (every (is_class Digit) (d ∷ []))
    (sym (every_append (is_class Digit) (b ∷ g) (d ∷ [])) ∙ whole) in
    let range = digit-range d (and-true (is_class Digit d) true both.1).0 in
    let v : ℕ = value_of (b ∷ g) in
    let value : value_of (b ∷ c ∷ s) ≡ v * 10 + (d - 48) =
    ap (λ (l : List ℕ). value_of (b ∷ l)) is ∙ value-last 0 (b ∷ g) d in
    let least : 1 ≤ v = omega (arith, k, value_grows (0 * 10 + (b - 48)) g) in
    let front : (v * 10 + (d - 48)) / 10 ≡ v = omega (arith, range.0, range.1) in
    let last : 48 + (v * 10 + (d - 48)) % 10 ≡ d = omega (arith, range.0, range.1) in
    ap decimal value
    ∙ decimal-high (v * 10 + (d - 48)) (omega (arith, least))
    ∙ ap₂ (λ (m x : ℕ). decimal m ++ (x ∷ [])) front last
    ∙ ap (λ (l : List ℕ). l ++ (d ∷ [])) (led-decimal n b g short k both.0)
    ∙ ap (λ (l : List ℕ). b ∷ l) (sym is)

-- how many zeros stand in front of the first digit that counts: the last counts always
unfoldable pub leading_zeros : List ℕ → ℕ
leading_zeros [] = 0
leading_zeros (b ∷ []) = 0
leading_zeros (b ∷ c ∷ s) = cond (eqb b 48) (suc (leading_zeros (c ∷ s))) 0

pub zeros-few : (b : ℕ) (s : List ℕ) → leading_zeros (b ∷ s) ≤ length s
unfolding leading_zeros
zeros-few b [] = omega arith
zeros-few b (c ∷ s) = go (eqb b 48) (zeros-few c s)
  where
    go : (t : Bool) → leading_zeros (c ∷ s) ≤ length s → cond t (suc (leading_zeros (c ∷ s))) 0 ≤ suc (length s)
    go true h = omega arith
    go false h = omega arith

-- a numeral's name is what stands behind them
dropped : (b : ℕ) (s : List ℕ) → every (is_class Digit) (b ∷ s) ≡ true
    → decimal (value_of (b ∷ s)) ≡ drop (leading_zeros (b ∷ s)) (b ∷ s)
unfolding leading_zeros value_of value_from
dropped b [] e = digit-decimal b e
dropped b (c ∷ s) e =
    let both = and-true (is_class Digit b) (every (is_class Digit) (c ∷ s)) e in
    go (eqb b 48) refl (dropped c s both.1) (digit-range b both.0).0
  where
    go : (t : Bool) → eqb b 48 ≡ t → decimal (value_of (c ∷ s)) ≡ drop (leading_zeros (c ∷ s)) (c ∷ s) → 48 ≤ b
        → decimal (value_of (b ∷ c ∷ s)) ≡ drop (cond t (suc (leading_zeros (c ∷ s))) 0) (b ∷ c ∷ s)
    go true h more low =
        let none : 0 * 10 + (b - 48) ≡ 0 = omega (arith, eqb-true b 48 h) in
        ap (λ (v : ℕ). decimal (value_from v (c ∷ s))) none ∙ more
    go false h more low = led-decimal (length (c ∷ s)) b (c ∷ s) (omega arith) (omega (arith, low, eqb-false b 48 h)) e

pub name-dropped : (f : List ℕ) → is_numeral f ≡ true → constant_name f ≡ drop (leading_zeros f) f
unfolding is_numeral
name-dropped [] h = absurd (never (sym h))
name-dropped (b ∷ s) h = numeral-name (b ∷ s) h ∙ dropped b s h

-- the name of a constant is a name
pub constant-name : (f : List ℕ) → is_name f ≡ true → is_name (constant_name f) ≡ true
constant-name [] h = absurd (omega (arith, (name-size [] h).0))
constant-name (b ∷ s) h = go (is_numeral (b ∷ s)) refl
  where
    go : (t : Bool) → is_numeral (b ∷ s) ≡ t → is_name (constant_name (b ∷ s)) ≡ true
    go true k =
        let size = length-drop (leading_zeros (b ∷ s)) (b ∷ s) in
        rw (name-dropped (b ∷ s) k)
        (name-is (drop (leading_zeros (b ∷ s)) (b ∷ s)) (omega (arith, size, zeros-few b s))
        (omega (arith, size, (name-size (b ∷ s) h).1)) (every_drop name_byte (leading_zeros (b ∷ s)) (b ∷ s) (name-bytes (b ∷ s) h)))
    go false k = rw (other_name (b ∷ s) k) h
