-- Laws of names in a table of keys.
--   packed-spell, same_key       a key is that of its spelling, so equal keys are equal spellings
--   index-take                   the place of the first of a list that passes a test, in its front
--   named-index                  the place of a name among the names of a part of a table
--   placed-set                   a name and its place, stored
-- Assumes nothing.
use mathlib.Core.Path.{◌≡◌, refl, sym, ap, ap₂, ◌∙◌}
use mathlib.Core.Bool.{Bool, true, false, cond}
use mathlib.Core.List.{List, [], ◌∷◌, ◌++◌, map}
use Prim.Native.Nat.{ℕ, zero, suc, ◌+◌, ◌*◌, ◌/◌, ◌%◌, ◌^◌, ◌≤◌, ◌<◌, min}
use native.Mathlib.Nat.{div-add-mod', pow-suc}
use native.Mathlib.Omega.{arith}
use native.Mathlib.Decide.{dec_lt}
use borrow.Author.Tests.{eqb-true, eqb-false}
use lib.Dec.{eqb}
use lib.ListN.{length, take, drop, get_or, set, length-take, length-drop, get_or-eq_default}
use lib.Seq.{take-suc, get_or-take, get_or-drop, get_or-set_same, get_or-set_other}
use Rattle.text.specs.Lists.{index_from, index_of, same_bytes, tabled}
use Rattle.text.specs.Fields.{is_name}
use Rattle.text.proofs.Laws.{same-is}
use Rattle.text.specs.Keys.{key_of, spell, spell_from, packed, packed_from}
use Rattle.syntax.proofs.Known.{same_refl}
use Rattle.syntax.proofs.Tabled.{map-append}
use Rattle.tables.specs.Layout.{max_names}
use Rattle.tables.specs.Rows.{name_of}
use Rattle.tables.specs.Names.{placed_at, name_in, Placed}
use Rattle.text.proofs.Keys.{spell-key, key-of-name}

-- a number below 256 to a power is the value of its bytes
packed-spelled : (fuel k : ℕ) (behind : List ℕ) → k < 256 ^ fuel → packed_from 0 (spell_from fuel k behind) ≡ packed_from k behind
unfolding spell_from packed_from
packed-spelled zero k behind h = ap (λ (n : ℕ). packed_from n behind) (let z : 0 ≡ k = omega arith in z)
packed-spelled (suc fuel) k behind h =
    let pow : 256 ^ suc fuel ≡ 256 ^ fuel * 256 = pow-suc 256 fuel in
    go (eqb k 0) refl (packed-spelled fuel (k / 256) ((k % 256) ∷ behind) (omega (arith, pow)))
  where
    go : (b : Bool) → eqb k 0 ≡ b
        → packed_from 0 (spell_from fuel (k / 256) ((k % 256) ∷ behind)) ≡ packed_from (k / 256) ((k % 256) ∷ behind)
        → packed_from 0 (cond b behind (spell_from fuel (k / 256) ((k % 256) ∷ behind))) ≡ packed_from k behind
    go true e more = ap (λ (n : ℕ). packed_from n behind) (sym (eqb-true k 0 e))
    go false e more = more ∙ ap (λ (n : ℕ). packed_from n behind) (div-add-mod' k 256)

pub packed-spell : (k : ℕ) → k < 18446744073709551616 → packed (spell k) ≡ k
unfolding packed packed_from spell
packed-spell k h = packed-spelled 8 k [] h

-- a name is the spelling of a key exactly if the key is its own
pub same_key : (f : List ℕ) (k : ℕ) → is_name f ≡ true → k < 18446744073709551616 → eqb (key_of f) k ≡ same_bytes f (spell k)
same_key f k n h = go (eqb (key_of f) k) refl
  where
    go : (b : Bool) → eqb (key_of f) k ≡ b → b ≡ same_bytes f (spell k)
    go true e =
        let same : spell k ≡ f = ap spell (sym (eqb-true (key_of f) k e)) ∙ spell-key f n in
        sym (ap (same_bytes f) same ∙ same_refl f)
    go false e = other (same_bytes f (spell k)) refl
      where
        other : (b : Bool) → same_bytes f (spell k) ≡ b → false ≡ b
        other false q = refl
        other true q =
            let same : key_of f ≡ k = key-of-name f n ∙ ap packed (same-is f (spell k) q) ∙ packed-spell k h in
            absurd (eqb-false (key_of f) k e same)

-- all keys are numbers of 64 bits
abbrev pub Wide : List ℕ → Type 0
Wide keys = (i : ℕ) → get_or keys i 0 < 18446744073709551616

index-keys : (f : List ℕ) → is_name f ≡ true → (i : ℕ) (keys : List ℕ) → Wide keys
    → index_from (eqb (key_of f)) i keys ≡ index_from (same_bytes f) i (map spell keys)
index-keys f n i [] w = refl
index-keys f n i (k ∷ keys) w =
    ap₂ (λ (t : Bool) (p : ℕ). cond t i p) (same_key f k n (w 0)) (index-keys f n (suc i) keys (λ j. w (suc j)))

-- what is found in a list is found in its front, or else the front is passed
index-least : (t : ℕ → Bool) (i : ℕ) (xs : List ℕ) → i ≤ index_from t i xs
index-least t i [] = omega arith
index-least t i (x ∷ xs) = go (t x) (index-least t (suc i) xs)
  where
    go : (b : Bool) → suc i ≤ index_from t (suc i) xs → i ≤ cond b i (index_from t (suc i) xs)
    go true h = omega arith
    go false h = omega arith

pub index-take : (t : ℕ → Bool) (i k : ℕ) (xs : List ℕ) → k ≤ length xs
    → index_from t i (take k xs) ≡ min (index_from t i xs) (i + k)
index-take t i zero xs h = omega (arith, index-least t i xs)
index-take t i (suc k) [] h = absurd (omega arith)
index-take t i (suc k) (x ∷ xs) h = go (t x) (index-take t (suc i) k xs (omega arith))
  where
    go : (b : Bool) → index_from t (suc i) (take k xs) ≡ min (index_from t (suc i) xs) (suc i + k)
        → cond b i (index_from t (suc i) (take k xs)) ≡ min (cond b i (index_from t (suc i) xs)) (i + suc k)
    go true e = omega arith
    go false e = omega (arith, e)

-- the names of a part of a table
pub part-named : (names : List ℕ) (a n : ℕ) → a + n ≤ length names
    → map spell (take n (drop a names)) ≡ tabled (λ i. name_of names (a + i)) n
unfolding name_of
part-named names a zero h = refl
part-named names a (suc n) h =
    ap (map spell) (take-suc (drop a names) n 0 (omega (arith, length-drop a names)))
    ∙ map-append spell (take n (drop a names)) (get_or (drop a names) n 0 ∷ [])
    ∙ ap₂ (λ (l : List (List ℕ)) (k : ℕ). l ++ (spell k ∷ [])) (part-named names a n (omega arith)) (get_or-drop a names n 0)

wide-drop : (a : ℕ) (keys : List ℕ) → Wide keys → Wide (drop a keys)
wide-drop a keys w i = rw (get_or-drop a keys i 0) (w (a + i))

wide-take : (n : ℕ) (keys : List ℕ) → Wide keys → Wide (take n keys)
wide-take n keys w i = elim (dec_lt i n) [
  | yes h ↦ rw (get_or-take n keys i 0 h) (w i)
  | no h ↦ rw (get_or-eq_default (take n keys) 0 {n = i} (omega (arith, h, length-take n keys))) (omega arith)
]

-- the place of a name among the names of a part of a table, which is that of its key
pub named-index : (f names : List ℕ) (a n : ℕ) → is_name f ≡ true → Wide names → a + n ≤ length names
    → index_from (eqb (key_of f)) 0 (take n (drop a names)) ≡ index_of f (tabled (λ i. name_of names (a + i)) n)
unfolding index_of
named-index f names a n e w h =
    index-keys f e 0 (take n (drop a names)) (wide-take n (drop a names) (wide-drop a names w))
    ∙ ap (index_from (same_bytes f) 0) (part-named names a n h)

-- a name and its place, stored
pub placed-set :
    (program goal names places : List ℕ) (n key p : ℕ) → length names ≡ max_names → length places ≡ max_names → n < max_names
    → placed_at program goal p ≡ spell key → Placed program goal names places
    → Placed program goal (set names n key) (set places n p)
unfolding name_in name_of
placed-set program goal names places n key p a b h e d = record { each = λ m. go m (eqb m n) refl }
  where
    go : (m : ℕ) (t : Bool) → eqb m n ≡ t → m < max_names → 0 < get_or (set names n key) m 0
        → placed_at program goal (get_or (set places n p) m 0) ≡ spell (get_or (set names n key) m 0)
    go m true q low used =
        let same : m ≡ n = eqb-true m n q in
        rw (same, get_or-set_same places n p 0 (omega arith), get_or-set_same names n key 0 (omega arith)) e
    go m false q low used =
        let other = eqb-false m n q in
        let same : get_or (set names n key) m 0 ≡ get_or names m 0 = get_or-set_other names n m key 0 other in
        rw (get_or-set_other places n m p 0 other, same) (d.each m low (rw same at used))
