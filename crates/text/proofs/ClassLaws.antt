-- Laws of the classes of bytes: what a byte is whose class is known.
--   plain-range, name-range, capital-range     a letter or digit lies between 48 and 122; the capitals from 65 to 90
--   plain-not, plain-inner                     a letter or digit is no comma, no line feed and not of class other
-- Assumes nothing.
use mathlib.Core.Path.{◌≡◌, refl, sym, ap, ◌∙◌}
use mathlib.Core.Bool.{Bool, true, false, cond, not}
use Prim.Native.Nat.{ℕ, ◌≤◌, ◌<◌}
use native.Mathlib.Omega.{arith}
use borrow.Author.Tests.{leb-true, le-leb, lt-leb, eqb-true, ne_eqb}
use lib.Dec.{leb, eqb}
use Rattle.text.specs.declared.table.Class.{Class}
use Rattle.text.specs.declared.table.Class.TheVariants.{Small, Capital, Digit, Comma, LineFeed, Other}
use Rattle.text.specs.Bytes.{between, class_of, class_number}
use Rattle.text.specs.Bytes.{is_class, is_name_class}
use Rattle.text.specs.Lines.{is_other}
use Rattle.text.specs.Splits.{is_plain}
use Rattle.text.proofs.Bools.{never, and-true, and-false}

pub between-true : (a z b : ℕ) → between a z b ≡ true → (a ≤ b) × (b ≤ z)
unfolding between
between-true a z b h =
    let both = and-true (leb a b) (leb b z) h in
    (leb-true a b both.0, leb-true b z both.1)

-- the class by the five tests
abbrev chosen : Bool → Bool → Bool → Bool → Bool → Class
chosen s c d k l = cond s Small (cond c Capital (cond d Digit (cond k Comma (cond l LineFeed Other))))

-- a class is told by which of the tests holds first
module _ (b : ℕ) where
  pub plain-range : is_plain b ≡ true → (48 ≤ b) × (b ≤ 122)
  unfolding is_plain class_of class_number
  plain-range h = go (between 97 122 b) (between 65 90 b) (between 48 57 b) (eqb b 44) (eqb b 10) refl refl refl h
    where
      go : (s c d k l : Bool) → between 97 122 b ≡ s → between 65 90 b ≡ c → between 48 57 b ≡ d
          → leb (class_number (chosen s c d k l)) 2 ≡ true → (48 ≤ b) × (b ≤ 122)
      go true c d k l p q r h = omega (arith, between-true 97 122 b p)
      go false true d k l p q r h = omega (arith, between-true 65 90 b q)
      go false false true k l p q r h = omega (arith, between-true 48 57 b r)
      go false false false true l p q r h = absurd (omega (arith, leb-true 3 2 h))
      go false false false false true p q r h = absurd (omega (arith, leb-true 4 2 h))
      go false false false false false p q r h = absurd (omega (arith, leb-true 5 2 h))

  pub name-plain : is_name_class (class_of b) ≡ true → is_plain b ≡ true
  unfolding is_plain class_number is_name_class
  name-plain h = go (class_of b) h
    where
      go : (k : Class) → is_name_class k ≡ true → leb (class_number k) 2 ≡ true
      go Small h = refl
      go Capital h = refl
      go Digit h = refl
      go Comma h = absurd (let z : ◌≡◌ {A = ℕ} 0 1 = cc in omega arith)
      go LineFeed h = absurd (let z : ◌≡◌ {A = ℕ} 0 1 = cc in omega arith)
      go Other h = absurd (let z : ◌≡◌ {A = ℕ} 0 1 = cc in omega arith)

  pub name-range : is_name_class (class_of b) ≡ true → (48 ≤ b) × (b ≤ 122)
  name-range h = plain-range (name-plain h)

  -- a letter or digit that may not stand in a name is a capital
  pub capital-range : is_plain b ≡ true → is_name_class (class_of b) ≡ false → between 65 90 b ≡ true
  unfolding is_plain class_of class_number is_name_class
  capital-range h n = go (between 97 122 b) (between 65 90 b) (between 48 57 b) (eqb b 44) (eqb b 10) refl h n
    where
      go : (s c d k l : Bool) → between 65 90 b ≡ c
          → leb (class_number (chosen s c d k l)) 2 ≡ true → is_name_class (chosen s c d k l) ≡ false → between 65 90 b ≡ true
      go true c d k l q h n = absurd (let z : ◌≡◌ {A = ℕ} 0 1 = cc in omega arith)
      go false true d k l q h n = q
      go false false true k l q h n = absurd (let z : ◌≡◌ {A = ℕ} 0 1 = cc in omega arith)
      go false false false true l q h n = absurd (omega (arith, leb-true 3 2 h))
      go false false false false true q h n = absurd (omega (arith, leb-true 4 2 h))
      go false false false false false q h n = absurd (omega (arith, leb-true 5 2 h))

  -- a letter or digit may stand in a name, or is a capital
  pub plain-capital : is_plain b ≡ true → eqb (class_number (class_of b)) 1 ≡ not (is_name_class (class_of b))
  unfolding is_plain class_number is_name_class
  plain-capital h = go (class_of b) h
    where
      go : (k : Class) → leb (class_number k) 2 ≡ true → eqb (class_number k) 1 ≡ not (is_name_class k)
      go Small h = refl
      go Capital h = refl
      go Digit h = refl
      go Comma h = absurd (omega (arith, leb-true 3 2 h))
      go LineFeed h = absurd (omega (arith, leb-true 4 2 h))
      go Other h = absurd (omega (arith, leb-true 5 2 h))

  pub plain-not : (x : ℕ) → is_plain x ≡ false → is_plain b ≡ true → b ≡ x → ⊥
  plain-not x p h e = never (sym h ∙ ap is_plain e ∙ p)

pub between-above : (a z b : ℕ) → z < b → between a z b ≡ false
unfolding between
between-above a z b h = rw (lt-leb b z h) (and-false (leb a b))

pub between-below : (a z b : ℕ) → b < a → between a z b ≡ false
unfolding between
between-below a z b h = rw (lt-leb a b h)

-- the capitals and the digits by their byte values
pub is-capital : (b : ℕ) → is_class Capital b ≡ between 65 90 b
unfolding is_class class_of class_number
is-capital b = go (between 97 122 b) (between 65 90 b) (between 48 57 b) (eqb b 44) (eqb b 10) refl refl
  where
    go : (s c d k l : Bool) → between 97 122 b ≡ s → between 65 90 b ≡ c
        → eqb (class_number (chosen s c d k l)) 1 ≡ between 65 90 b
    go true c d k l p q = sym (between-above 65 90 b (omega (arith, between-true 97 122 b p)))
    go false true d k l p q = sym q
    go false false true k l p q = sym q
    go false false false true l p q = sym q
    go false false false false true p q = sym q
    go false false false false false p q = sym q

pub is_digit : (b : ℕ) → is_class Digit b ≡ between 48 57 b
unfolding is_class class_of class_number
is_digit b = go (between 97 122 b) (between 65 90 b) (between 48 57 b) (eqb b 44) (eqb b 10) refl refl refl
  where
    go : (s c d k l : Bool) → between 97 122 b ≡ s → between 65 90 b ≡ c → between 48 57 b ≡ d
        → eqb (class_number (chosen s c d k l)) 2 ≡ between 48 57 b
    go true c d k l p q r = sym (between-above 48 57 b (omega (arith, between-true 97 122 b p)))
    go false true d k l p q r = sym (between-above 48 57 b (omega (arith, between-true 65 90 b q)))
    go false false true k l p q r = sym r
    go false false false true l p q r = sym r
    go false false false false true p q r = sym r
    go false false false false false p q r = sym r

-- a class by its number
pub class-comma : (b : ℕ) → class_number (class_of b) ≡ 3 → b ≡ 44
unfolding class_of class_number
class-comma b h = go (between 97 122 b) (between 65 90 b) (between 48 57 b) (eqb b 44) (eqb b 10) refl h
  where
    go : (s c d k l : Bool) → eqb b 44 ≡ k → class_number (chosen s c d k l) ≡ 3 → b ≡ 44
    go true c d k l q h = absurd (omega arith)
    go false true d k l q h = absurd (omega arith)
    go false false true k l q h = absurd (omega arith)
    go false false false true l q h = eqb-true b 44 q
    go false false false false true q h = absurd (omega arith)
    go false false false false false q h = absurd (omega arith)

pub class-feed : (b : ℕ) → class_number (class_of b) ≡ 4 → b ≡ 10
unfolding class_of class_number
class-feed b h = go (between 97 122 b) (between 65 90 b) (between 48 57 b) (eqb b 44) (eqb b 10) refl h
  where
    go : (s c d k l : Bool) → eqb b 10 ≡ l → class_number (chosen s c d k l) ≡ 4 → b ≡ 10
    go true c d k l q h = absurd (omega arith)
    go false true d k l q h = absurd (omega arith)
    go false false true k l q h = absurd (omega arith)
    go false false false true l q h = absurd (omega arith)
    go false false false false true q h = eqb-true b 10 q
    go false false false false false q h = absurd (omega arith)

pub class-other : (b : ℕ) → 4 < class_number (class_of b) → is_other b ≡ true
unfolding is_other is_class class_number
class-other b h = go (class_of b) h
  where
    go : (k : Class) → 4 < class_number k → eqb (class_number k) (class_number Other) ≡ true
    go Small h = absurd (omega arith)
    go Capital h = absurd (omega arith)
    go Digit h = absurd (omega arith)
    go Comma h = absurd (omega arith)
    go LineFeed h = absurd (omega arith)
    go Other h = refl

-- a byte that stands in a line before its line feed, if the line is not faulty: a letter, a digit or a comma
unfoldable pub is_inner : ℕ → Bool
is_inner b = leb (class_number (class_of b)) 3

pub plain-inner : (b : ℕ) → is_plain b ≡ true → is_inner b ≡ true
unfolding is_plain is_inner
plain-inner b h = le-leb (class_number (class_of b)) 3 (omega (arith, leb-true (class_number (class_of b)) 2 h))

pub inner-comma : (b : ℕ) → b ≡ 44 → is_inner b ≡ true
unfolding is_inner class_of class_number between
inner-comma b e = rw e

pub inner-not-feed : (b : ℕ) → is_inner b ≡ true → b ≡ 10 → ⊥
unfolding is_inner class_of class_number between
inner-not-feed b h e = never (sym h ∙ ap is_inner e ∙ feed)
  where
    feed : is_inner 10 ≡ false
    feed = refl

pub inner-not-other : (b : ℕ) → is_inner b ≡ true → is_other b ≡ false
unfolding is_inner is_other is_class class_number
inner-not-other b h = ne_eqb (class_number (class_of b)) 5 (λ e. omega (arith, leb-true (class_number (class_of b)) 3 h))
