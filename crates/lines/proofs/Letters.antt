-- Laws of the forms of lines and of their places.
--   form-none               a byte that is none of the letters
--   form-letter, form-word  the form of a line by the key of its first field
-- Assumes nothing.
use mathlib.Core.Path.{◌≡◌, refl, sym, ap, ◌∙◌}
use mathlib.Core.Bool.{Bool, true, false, ◌&&◌}
use mathlib.Core.List.{List, [], ◌∷◌}
use Prim.Native.Nat.{ℕ, ◌+◌, ◌<◌}
use native.Mathlib.Omega.{arith}
use borrow.Author.Tests.{ne_eqb, le-ltb, lt-leb}
use lib.Dec.{leb}
use Rattle.text.specs.Bytes.{between, class_of, class_number, is_class}
use Rattle.text.specs.Fields.{is_name, is_variable}
use Rattle.text.specs.Keys.{key_of}
use Rattle.syntax.specs.Forms.{no_form, form_of_byte, form_of}
use Rattle.text.proofs.Keys.{name-key, variable-key, letter-key, key-of-more}

pub form-none :
    (b : ℕ) → (b ≡ 75 → ⊥) → (b ≡ 82 → ⊥) → (b ≡ 74 → ⊥) → (b ≡ 72 → ⊥) → (b ≡ 66 → ⊥) → (b ≡ 69 → ⊥) → (b ≡ 71 → ⊥)
    → form_of_byte b ≡ no_form
unfolding form_of_byte
form-none b k r j h o e g =
    rw (ne_eqb b 75 k, ne_eqb b 82 r, ne_eqb b 74 j, ne_eqb b 72 h, ne_eqb b 66 o, ne_eqb b 69 e, ne_eqb b 71 g)

-- a byte that is no capital is none of the letters
other_byte : (b x : ℕ) → is_variable (x ∷ []) ≡ true → is_variable (b ∷ []) ≡ false → b ≡ x → ⊥
other_byte b x p q e = let z : ◌≡◌ {A = ℕ} 0 1 = cc in omega arith

form_small : (b : ℕ) → is_variable (b ∷ []) ≡ false → form_of (b ∷ []) ≡ no_form
unfolding is_variable is_class class_of class_number between form_of
form_small b q =
    form-none b (other_byte b 75 refl q) (other_byte b 82 refl q) (other_byte b 74 refl q) (other_byte b 72 refl q)
    (other_byte b 66 refl q) (other_byte b 69 refl q) (other_byte b 71 refl q)

-- what is no name has no key of one
not-name : (f : List ℕ) → key_of f < 28 → is_name f ≡ false
not-name f h = name-key f ∙ le-ltb 27 (key_of f) (omega arith)

-- a first field that is no name, by its key
pub form-letter : (f : List ℕ) → key_of f < 28 → form_of_byte (63 + key_of f) ≡ form_of f
unfolding form_of key_of form_of_byte is_name between is_variable
form-letter [] h = refl
form-letter (b ∷ []) h = go (is_variable (b ∷ [])) refl
  where
    go : (v : Bool) → is_variable (b ∷ []) ≡ v → form_of_byte (63 + key_of (b ∷ [])) ≡ form_of (b ∷ [])
    go true e = ap form_of_byte (let z : 63 + key_of (b ∷ []) ≡ b = omega (arith, letter-key (b ∷ []) e) in z)
    go false e =
        let one : key_of (b ∷ []) ≡ 1 = rw (not-name (b ∷ []) h, e) in
        rw one (sym (form_small b e))
form-letter (b ∷ c ∷ s) h = rw (key-of-more b c s (not-name (b ∷ c ∷ s) h))

-- a first field that is a name
pub form-word : (f : List ℕ) → 27 < key_of f → form_of f ≡ no_form
unfolding form_of between
form-word [] h = refl
form-word (b ∷ []) h =
    form_small b (variable-key (b ∷ []) ∙ rw (lt-leb (key_of (b ∷ [])) 27 h) (never (leb 2 (key_of (b ∷ [])))))
  where
    never : (t : Bool) → (t && false) ≡ false
    never true = refl
    never false = refl
form-word (b ∷ c ∷ s) h = refl
