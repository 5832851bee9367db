-- Laws of one field's bytes as they come in: what is known of them, one byte on, and the key that this makes.
--   passed_start, passed-step     what is known of a field, one byte on
--   key-..                        the key by what is known
-- Assumes nothing.
use mathlib.Core.Path.{◌≡◌, refl, sym, ap, ap₂, ◌∙◌}
use mathlib.Core.Bool.{Bool, true, false, not, ◌&&◌, ◌||◌}
use mathlib.Core.List.{List, [], ◌∷◌, ◌++◌}
use Prim.Native.Nat.{ℕ, suc, ◌+◌, ◌-◌, ◌*◌, ◌%◌, ◌≤◌, ◌<◌}
use native.Mathlib.Nat.{mod-eq_of_lt, sub_self}
use native.Mathlib.Numerals.{add-one}
use native.Mathlib.Omega.{arith}
use borrow.Author.Tests.{le-leb}
use lib.Dec.{leb, eqb}
use lib.ListN.{length, get_or, drop, length-append, length-drop}
use lib.Seq.{take-suc, get_or-drop}
use Rattle.text.specs.declared.table.Class.{Class}
use Rattle.text.specs.Bytes.{between, class_of, class_number}
use Rattle.text.specs.Lists.{every}
use Rattle.text.specs.Fields.{is_name, is_variable}
use Rattle.text.specs.Keys.{packed_from, packed, key_of}
use Rattle.text.specs.Splits.{is_plain, seven_bytes, Passed, part}
use Rattle.text.proofs.ClassLaws.{between-true, capital-range, plain-capital, is-capital}
use Rattle.text.proofs.Bools.{never, and-true, flipped}
use Rattle.text.proofs.Laws.{every_append}
use Rattle.text.proofs.Keys.{name_byte, packed-snoc, packed-below, name-is, name-long, name-none, key-of-name}
use Rattle.text.proofs.Keys.{key-of-variable, key-of-more}

-- no byte has passed; one more passes
pub passed_none : Passed [] 0 0 false
unfolding packed packed_from
passed_none = record { plain = refl; sized = refl; valued = λ h. refl; shaped = refl }

pub passed_on : {f : List ℕ} {v n : ℕ} {c : Bool} (b : ℕ) → Passed f v n c → is_plain b ≡ true
    → Passed (f ++ (b ∷ [])) ((v % seven_bytes) * 256 + b) (suc n) (c || eqb (class_number (class_of b)) 1)
passed_on {f} {v} {n} {c} b p h = record {
  plain = every_append is_plain f (b ∷ []) ∙ rw (p.plain, h);
  sized = omega (arith, p.sized, length-append f (b ∷ []));
  valued = λ k.
      let short : length f ≤ 7 = omega (arith, length-append f (b ∷ [])) in
      let same : v ≡ packed f = p.valued (omega arith) in
      let fits : v % seven_bytes ≡ v = mod-eq_of_lt (omega (arith, same, packed-below f p.plain short)) in
      rw fits (rw same (sym (packed-snoc f b)));
  shaped =
      ap₂ ◌||◌ p.shaped (plain-capital b h) ∙ go (every name_byte f) (name_byte b)
      ∙ ap not (sym (every_append name_byte f (b ∷ [])));
}
  where
    go : (s t : Bool) → (not s || not t) ≡ not (s && (t && true))
    go true true = refl
    go true false = refl
    go false t = refl

-- the bytes of a text from a place on: none, and one more
pub part-suc : (s : List ℕ) (at i : ℕ) → at ≤ i → i < length s → part s at (suc i) ≡ part s at i ++ (get_or s i 0 ∷ [])
part-suc s at i h k =
    let more : suc i - at ≡ suc (i - at) = omega arith in
    let place : at + (i - at) ≡ i = omega arith in
    rw more (take-suc (drop at s) (i - at) 0 (omega (arith, length-drop at s))
    ∙ rw (get_or-drop at s (i - at) 0, place))

pub passed_start : (s : List ℕ) (at : ℕ) → Passed (part s at at) 0 (at - at) false
passed_start s at = rw (sub_self at) passed_none

pub passed-step : (s : List ℕ) (at i limit v v' : ℕ) (class : Class) (c c' : Bool) → Passed (part s at i) v (i - at) c → at ≤ i
    → i < limit → limit ≤ length s
    → class ≡ class_of (get_or s i 0) → leb (class_number class) 2 ≡ true → v' ≡ (v % seven_bytes) * 256 + get_or s i 0
    → c' ≡ (c || eqb (class_number class) 1) → Passed (part s at (i + 1)) v' (i + 1 - at) c'
unfolding is_plain
passed-step s at i limit v v' class c c' p h q r e l f g =
    let plain : is_plain (get_or s i 0) ≡ true = sym (ap (λ (k : Class). leb (class_number k) 2) e) ∙ l in
    let more : suc i - at ≡ suc (i - at) = omega arith in
    rw (add-one i, part-suc s at i h (omega arith), more, f, g, e) (passed_on (get_or s i 0) p plain)

-- the key by what is known of a field
pub key-letter : (f : List ℕ) (v n : ℕ) (t : Bool) → Passed f v n t → t ≡ true → n ≡ 1 → v % 64 + 1 ≡ key_of f
unfolding packed packed_from is_variable
key-letter [] v n t p c e = absurd (omega (arith, p.sized))
key-letter (b ∷ []) v n t p c e =
    let plain : is_plain b ≡ true = (and-true (is_plain b) true p.plain).0 in
    let not-all : every name_byte (b ∷ []) ≡ false = flipped true (every name_byte (b ∷ [])) (sym c ∙ p.shaped) in
    let range : between 65 90 b ≡ true = capital-range b plain (not-one (name_byte b) not-all) in
    omega (
      arith,
      between-true 65 90 b range,
      p.valued (omega arith),
      key-of-variable (b ∷ []) (name-none (b ∷ []) not-all)
          (is-capital b ∙ range),
    )
  where
    not-one : (t : Bool) → (t && true) ≡ false → t ≡ false
    not-one true h = h
    not-one false h = h
key-letter (b ∷ c ∷ s) v n t p h e = absurd (omega (arith, p.sized))

pub key-capital : (f : List ℕ) (v n : ℕ) (t : Bool) → Passed f v n t → t ≡ true → (n ≡ 1 → ⊥) → 1 ≡ key_of f
key-capital [] v n t p c e = absurd (never (sym c ∙ p.shaped))
key-capital (b ∷ []) v n t p c e = absurd (e p.sized)
key-capital (b ∷ c ∷ s) v n t p h e =
    sym (key-of-more b c s (name-none (b ∷ c ∷ s) (flipped true (every name_byte (b ∷ c ∷ s)) (sym h ∙ p.shaped))))

pub key-long : (f : List ℕ) (v n : ℕ) (t : Bool) → Passed f v n t → 8 < n → 1 ≡ key_of f
key-long [] v n t p e = absurd (omega (arith, p.sized))
key-long (b ∷ []) v n t p e = absurd (omega (arith, p.sized))
key-long (b ∷ c ∷ s) v n t p e = sym (key-of-more b c s (name-long (b ∷ c ∷ s) (omega (arith, p.sized))))

pub key-name : (f : List ℕ) (v n : ℕ) (t : Bool) → Passed f v n t → t ≡ false → n ≤ 8 → v ≡ key_of f
unfolding key_of is_name is_variable between packed packed_from
key-name [] v n t p c e = p.valued (omega arith)
key-name (b ∷ s) v n t p c e =
    let name : is_name (b ∷ s) ≡ true = name-is (b ∷ s) (omega arith) (omega (arith, p.sized))
    (flipped false (every name_byte (b ∷ s)) (sym c ∙ p.shaped)) in
    p.valued (omega (arith, p.sized)) ∙ sym (key-of-name (b ∷ s) name)
