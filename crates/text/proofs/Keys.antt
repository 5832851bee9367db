-- Laws of keys: a field's form is read off its key.
--   name-key, variable-key, term-key     a field is a name, a variable, a term: its key is above 27, from 2 to 27, above 1
--   spell-key                            a name is spelled by its key
--   name-equal                           names with equal keys are equal
--   letter-key, variable-range           a variable's letter by its key, and between which bytes it lies
-- Not here: numbers by their keys (Numbers).
-- Assumes nothing.
use mathlib.Core.Path.{◌≡◌, refl, sym, ap, ◌∙◌}
use mathlib.Core.Bool.{Bool, true, false, cond, ◌&&◌, ◌||◌}
use mathlib.Core.List.{List, [], ◌∷◌, ◌++◌, append-nil}
use Prim.Native.Nat.{ℕ, zero, suc, ◌+◌, ◌-◌, ◌*◌, ◌/◌, ◌%◌, ◌^◌, ◌≤◌, ◌<◌}
use native.Mathlib.Nat.{not-suc-le-zero, pow-suc, pow-le-pow_right}
use native.Mathlib.Omega.{arith}
use borrow.Author.Tests.{le-leb, lt-leb, lt-ltb, le-ltb, ne_eqb}
use lib.Dec.{leb, ltb, eqb}
use lib.ListN.{length, get_or, take, length-take}
use lib.Seq.{append_snoc}
use Rattle.text.specs.Bytes.{between, class_of, is_name_class}
use Rattle.text.specs.Lists.{every}
use Rattle.text.specs.Fields.{is_name, is_variable, is_term}
use Rattle.text.specs.Keys.{packed_from, packed, spell_from, spell, key_of}
use Rattle.text.specs.Splits.{is_plain, seven_bytes}
use Rattle.text.proofs.Bools.{never, and-true, and-false}
use Rattle.text.proofs.Laws.{every_append, last_apart}
use Rattle.text.proofs.ClassLaws.{between-true, plain-range, name-range, is-capital}

abbrev pub name_byte : ℕ → Bool
name_byte b = is_name_class (class_of b)

-- bytes as one number to base 256, one byte on, and its bounds
pub packed-append : (v : ℕ) (p q : List ℕ) → packed_from v (p ++ q) ≡ packed_from (packed_from v p) q
unfolding packed_from
packed-append v [] q = refl
packed-append v (b ∷ p) q = packed-append (v * 256 + b) p q

pub packed-snoc : (f : List ℕ) (b : ℕ) → packed (f ++ (b ∷ [])) ≡ packed f * 256 + b
unfolding packed packed_from
packed-snoc f b = packed-append 0 f (b ∷ [])

-- n bytes of a value to base 256 are below 256 ^ n
pub packed-under : (v m : ℕ) (f : List ℕ) → v < m → every is_plain f ≡ true → packed_from v f < m * 256 ^ length f
unfolding packed_from
packed-under v m [] h e = omega arith
packed-under v m (b ∷ f) h e =
    let both = and-true (is_plain b) (every is_plain f) e in
    let next : v * 256 + b < m * 256 = omega (arith, plain-range b both.0) in
    let rest : packed_from (v * 256 + b) f < m * 256 * 256 ^ length f = packed-under (v * 256 + b) (m * 256) f next both.1 in
    rw (pow-suc 256 (length f)) (omega (arith, rest))

pub packed-below : (f : List ℕ) → every is_plain f ≡ true → length f ≤ 7 → packed f < seven_bytes
unfolding packed
packed-below f e h =
    omega (arith, packed-under 0 1 f (omega arith) e, pow-le-pow_right {n = 256} (omega arith) {i = length f} {j = 7} h)

-- the key by the shape of a field
pub name-is : (f : List ℕ) → 1 ≤ length f → length f ≤ 8 → every name_byte f ≡ true → is_name f ≡ true
unfolding is_name between
name-is f h k e = rw (le-leb 1 (length f) h, le-leb (length f) 8 k, e)

pub name-short : is_name [] ≡ false
unfolding is_name between
name-short = refl

pub name-long : (f : List ℕ) → 8 < length f → is_name f ≡ false
unfolding is_name between
name-long f h = rw (lt-leb (length f) 8 h, and-false (leb 1 (length f)))

pub name-none : (f : List ℕ) → every name_byte f ≡ false → is_name f ≡ false
unfolding is_name
name-none f e = rw (e, and-false (between 1 8 (length f)))

pub key-of-name : (f : List ℕ) → is_name f ≡ true → key_of f ≡ packed f
unfolding key_of
key-of-name f h = rw h

pub key-of-variable : (f : List ℕ) → is_name f ≡ false → is_variable f ≡ true → key_of f ≡ get_or f 0 0 - 63
unfolding key_of
key-of-variable f h k = rw (h, k)

pub key-of-more : (b c : ℕ) (s : List ℕ) → is_name (b ∷ c ∷ s) ≡ false → key_of (b ∷ c ∷ s) ≡ 1
unfolding key_of is_variable
key-of-more b c s h = rw (h, ne_eqb (length (b ∷ c ∷ s)) 0 (λ e. omega arith))

-- a name's bytes and its key
module _ (f : List ℕ) (h : is_name f ≡ true) where
  pub name-size : (1 ≤ length f) × (length f ≤ 8)
  unfolding is_name
  name-size = between-true 1 8 (length f) (and-true (between 1 8 (length f)) (every name_byte f) h).0

  pub name-bytes : every name_byte f ≡ true
  unfolding is_name
  name-bytes = (and-true (between 1 8 (length f)) (every name_byte f) h).1

pub packed-grows : (v : ℕ) (f : List ℕ) → v ≤ packed_from v f
unfolding packed_from
packed-grows v [] = omega arith
packed-grows v (b ∷ f) = omega (arith, packed-grows (v * 256 + b) f)

packed-least : (f : List ℕ) → 1 ≤ length f → every name_byte f ≡ true → 48 ≤ packed f
unfolding packed packed_from
packed-least [] h e = absurd (not-suc-le-zero h)
packed-least (b ∷ f) h e =
    omega (arith, name-range b (and-true (name_byte b) (every name_byte f) e).0, packed-grows (0 * 256 + b) f)

pub name-least : (f : List ℕ) → is_name f ≡ true → 48 ≤ key_of f
name-least f h = rw (key-of-name f h) (packed-least f (name-size f h).0 (name-bytes f h))

-- a variable is one capital letter
pub variable-range : (f : List ℕ) → is_variable f ≡ true → (f ≡ get_or f 0 0 ∷ []) × (65 ≤ get_or f 0 0) × (get_or f 0 0 ≤ 90)
unfolding is_variable
variable-range [] h = absurd (let z : ◌≡◌ {A = ℕ} 0 1 = cc in omega arith)
variable-range (b ∷ []) h =
    let range = between-true 65 90 b (sym (is-capital b) ∙ h) in
    (refl, range.0, range.1)
variable-range (b ∷ c ∷ s) h = absurd (let z : ◌≡◌ {A = ℕ} 0 1 = cc in omega arith)

-- a capital letter stands in no name
letter-not-name : (b : ℕ) → 65 ≤ b → b ≤ 90 → is_name (b ∷ []) ≡ false
unfolding is_name_class class_of between
letter-not-name b h k = name-none (b ∷ []) (rw (lt-leb 97 b (omega arith), le-leb 65 b h, le-leb b 90 k))

pub variable-not-name : (f : List ℕ) → is_variable f ≡ true → is_name f ≡ false
variable-not-name f h =
    let range = variable-range f h in
    ap is_name range.0 ∙ letter-not-name (get_or f 0 0) range.1 range.2

pub letter-key : (f : List ℕ) → is_variable f ≡ true → get_or f 0 0 ≡ key_of f + 63
letter-key f h = omega (arith, key-of-variable f (variable-not-name f h) h, (variable-range f h).1)

key-of-none : (f : List ℕ) → is_name f ≡ false → is_variable f ≡ false → key_of f ≤ 1
unfolding key_of
key-of-none f h k = rw (h, k) (go (eqb (length f) 0))
  where
    go : (t : Bool) → cond t 0 1 ≤ 1
    go true = omega arith
    go false = omega arith

-- a field by its form: a name, a variable or neither
pub form-cases {ℓ} : (Φ : Type ℓ) (f : List ℕ) → (is_name f ≡ true → is_variable f ≡ false → 48 ≤ key_of f → Φ)
    → (is_name f ≡ false → is_variable f ≡ true → 2 ≤ key_of f → key_of f ≤ 27 → Φ)
    → (is_name f ≡ false → is_variable f ≡ false → key_of f ≤ 1 → Φ) → Φ
form-cases Φ f name variable none = go (is_name f) (is_variable f) refl refl
  where
    go : (s t : Bool) → is_name f ≡ s → is_variable f ≡ t → Φ
    go true true h k = absurd (never (sym h ∙ variable-not-name f k))
    go true false h k = name h k (name-least f h)
    go false true h k =
        variable h k (omega (arith, letter-key f k, (variable-range f k).1)) (omega (arith, letter-key f k, (variable-range f k).2))
    go false false h k = none h k (key-of-none f h k)

-- a field's form is read off its key
module _ (f : List ℕ) where
  pub name-key : is_name f ≡ ltb 27 (key_of f)
  name-key = form-cases (is_name f ≡ ltb 27 (key_of f)) f
      (λ h k l. h ∙ sym (lt-ltb 27 (key_of f) (omega arith)))
      (λ h k l m. h ∙ sym (le-ltb 27 (key_of f) m))
      (λ h k l. h ∙ sym (le-ltb 27 (key_of f) (omega arith)))

  pub variable-key : is_variable f ≡ between 2 27 (key_of f)
  unfolding between
  variable-key = form-cases (is_variable f ≡ (leb 2 (key_of f) && leb (key_of f) 27)) f
      (λ h k l. k ∙ rw (le-leb 2 (key_of f) (omega arith), lt-leb (key_of f) 27 (omega arith)))
      (λ h k l m. k ∙ rw (le-leb 2 (key_of f) l, le-leb (key_of f) 27 m))
      (λ h k l. k ∙ rw (lt-leb 2 (key_of f) (omega arith)))

  pub term-key : is_term f ≡ ltb 1 (key_of f)
  unfolding is_term
  term-key = form-cases ((is_name f || is_variable f) ≡ ltb 1 (key_of f)) f
      (λ h k l. rw (h, lt-ltb 1 (key_of f) (omega arith)))
      (λ h k l m. rw (h, k, lt-ltb 1 (key_of f) (omega arith)))
      (λ h k l. rw (h, k, le-ltb 1 (key_of f) l))

-- a name is spelled by its key: its last byte first
spell-snoc : (n : ℕ) (g : List ℕ) (b : ℕ) (behind : List ℕ) → 0 < b → b < 256
    → spell_from (suc n) (packed (g ++ (b ∷ []))) behind ≡ spell_from n (packed g) (b ∷ behind)
unfolding spell_from
spell-snoc n g b behind h k =
    let v : ℕ = packed (g ++ (b ∷ [])) in
    let is : v ≡ packed g * 256 + b = packed-snoc g b in
    let front : v / 256 ≡ packed g = omega arith in
    let last : v % 256 ≡ b = omega arith in
    rw (ne_eqb v 0 (λ e. omega arith), front, last)

spell-packed : (n : ℕ) (f behind : List ℕ) → length f ≤ n → every name_byte f ≡ true → spell_from n (packed f) behind ≡ f ++ behind
unfolding spell_from packed packed_from
spell-packed zero [] behind h e = refl
spell-packed zero (b ∷ f) behind h e = absurd (not-suc-le-zero h)
spell-packed (suc n) [] behind h e = refl
spell-packed (suc n) (b ∷ s) behind h e =
    let g : List ℕ = take (length s) (b ∷ s) in
    let c : ℕ = get_or (b ∷ s) (length s) 0 in
    let is : b ∷ s ≡ g ++ (c ∷ []) = last_apart b s in
    let both = and-true (every name_byte g) (every name_byte (c ∷ []))
    (sym (every_append name_byte g (c ∷ [])) ∙ sym (ap (every name_byte) is) ∙ e) in
    let range = name-range c (and-true (name_byte c) true both.1).0 in
    let short : length g ≤ n = omega (arith, length-take (length s) (b ∷ s)) in
    ap (λ (l : List ℕ). spell_from (suc n) (packed l) behind) is
    ∙ spell-snoc n g c behind (omega arith) (omega arith)
    ∙ spell-packed n g (c ∷ behind) short both.0
    ∙ sym (append_snoc g c behind) ∙ ap (λ (l : List ℕ). l ++ behind) (sym is)

pub spell-key : (f : List ℕ) → is_name f ≡ true → spell (key_of f) ≡ f
unfolding spell
spell-key f h =
    rw (key-of-name f h) (spell-packed 8 f [] (name-size f h).1 (name-bytes f h) ∙ append-nil f)

-- terms with equal keys are equal
pub name-equal : (f g : List ℕ) → is_name f ≡ true → key_of f ≡ key_of g → f ≡ g
name-equal f g h e =
    let k : is_name g ≡ true = name-key g ∙ ap (λ (x : ℕ). ltb 27 x) (sym e) ∙ sym (name-key f) ∙ h in
    sym (spell-key f h) ∙ ap spell e ∙ spell-key g k
