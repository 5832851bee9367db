-- Laws of lists by their places: tables that agree, and the place of the first element that passes a test.
--   tabled-same, map-append, map-tabled    two tables that agree below n, and a function on each entry
--   index-here, index-step, index-end      the place of the first element that passes a test, one element on
--   index-first, index-second, index-most  the place in two lists, one behind the other, and at most behind the last
--   name-first, name-second, name-most     the same for the place of a name
-- Assumes nothing.
use mathlib.Core.Path.{◌≡◌, refl, sym, ap, ap₂, ◌∙◌}
use mathlib.Core.Bool.{Bool, true, false, cond}
use mathlib.Core.List.{List, [], ◌∷◌, ◌++◌, map}
use Prim.Native.Nat.{ℕ, zero, suc, ◌+◌, ◌≤◌, ◌<◌}
use native.Mathlib.Nat.{add-suc, add-zero}
use native.Mathlib.Omega.{arith}
use lib.ListN.{length, drop, get_or, drop_of_length-le}
use lib.Seq.{drop-cons}
use Rattle.text.specs.Lists.{index_from, index_of, same_bytes, tabled}

-- two tables that agree below n
pub tabled-same {ℓ} : {A : Type ℓ} (f g : ℕ → A) (n : ℕ) → ((i : ℕ) → i < n → f i ≡ g i) → tabled f n ≡ tabled g n
tabled-same f g zero h = refl
tabled-same f g (suc n) h = ap₂ (λ xs x. xs ++ (x ∷ [])) (tabled-same f g n (λ i k. h i (omega (arith, k)))) (h n (omega arith))

-- a function on each entry of a table
pub map-append {ℓ κ} : {A : Type ℓ} {B : Type κ} (g : A → B) (xs ys : List A) → map g (xs ++ ys) ≡ map g xs ++ map g ys
map-append g [] ys = refl
map-append g (x ∷ xs) ys = ap (λ l. g x ∷ l) (map-append g xs ys)

pub map-tabled {ℓ κ} : {A : Type ℓ} {B : Type κ} (g : A → B) (f : ℕ → A) (n : ℕ) → map g (tabled f n) ≡ tabled (λ i. g (f i)) n
map-tabled g f zero = refl
map-tabled g f (suc n) = map-append g (tabled f n) (f n ∷ []) ∙ ap (λ l. l ++ (g (f n) ∷ [])) (map-tabled g f n)

module _ {ℓ} {A : Type ℓ} (test : A → Bool) where
  -- the place of the first that passes the test, one element on
  pub index-here : (d : A) (xs : List A) (i : ℕ) → i < length xs → test (get_or xs i d) ≡ true → index_from test i (drop i xs) ≡ i
  index-here d xs i h e = rw (drop-cons xs i d h, e)

  pub index-step : (d : A) (xs : List A) (i : ℕ) → i < length xs → test (get_or xs i d) ≡ false
      → index_from test i (drop i xs) ≡ index_from test (suc i) (drop (suc i) xs)
  index-step d xs i h e = rw (drop-cons xs i d h, e)

  pub index-end : (xs : List A) (i : ℕ) → length xs ≤ i → index_from test i (drop i xs) ≡ i
  index-end xs i h = rw (drop_of_length-le xs h)

  -- the place of the first that passes the test, at most behind the last
  pub index-most : (i : ℕ) (xs : List A) → index_from test i xs ≤ i + length xs
  index-most i [] = omega arith
  index-most i (x ∷ xs) =
      let more : index_from test (suc i) xs ≤ suc i + length xs = index-most (suc i) xs in
      pick (test x) (index_from test (suc i) xs) more
    where
      pick : (t : Bool) (p : ℕ) → p ≤ suc i + length xs → cond t i p ≤ i + suc (length xs)
      pick true p h = omega arith
      pick false p h = omega arith

  pub index-shift : (k i : ℕ) (xs : List A) → index_from test (k + i) xs ≡ k + index_from test i xs
  index-shift k i [] = refl
  index-shift k i (x ∷ xs) =
      let more : index_from test (suc (k + i)) xs ≡ k + index_from test (suc i) xs =
      ap (λ (n : ℕ). index_from test n xs) (sym (add-suc k i)) ∙ index-shift k (suc i) xs in
      pick (test x) (index_from test (suc (k + i)) xs) (index_from test (suc i) xs) more
    where
      pick : (t : Bool) (p q : ℕ) → p ≡ k + q → cond t (k + i) p ≡ k + cond t i q
      pick true p q h = refl
      pick false p q h = h

  -- the place in two lists, one behind the other: in the first, or else in the second
  pub index-first : (i : ℕ) (xs ys : List A) → index_from test i xs < i + length xs
      → index_from test i (xs ++ ys) ≡ index_from test i xs
  index-first i [] ys h = absurd (omega arith)
  index-first i (x ∷ xs) ys h =
      pick (test x) (index_from test (suc i) xs) (index_from test (suc i) (xs ++ ys)) h (λ k. index-first (suc i) xs ys k)
    where
      pick : (t : Bool) (p q : ℕ) → cond t i p < i + suc (length xs) → (p < suc i + length xs → q ≡ p) → cond t i q ≡ cond t i p
      pick true p q k f = refl
      pick false p q k f = f (omega arith)

  pub index-second : (i : ℕ) (xs ys : List A) → i + length xs ≤ index_from test i xs
      → index_from test i (xs ++ ys) ≡ index_from test (i + length xs) ys
  index-second i [] ys h = ap (λ (n : ℕ). index_from test n ys) (sym (add-zero i))
  index-second i (x ∷ xs) ys h =
      pick (test x) (index_from test (suc i) xs) (index_from test (suc i) (xs ++ ys)) h
      (λ k. index-second (suc i) xs ys k
      ∙ ap (λ (n : ℕ). index_from test n ys) (let z : suc i + length xs ≡ i + suc (length xs) = omega arith in z))
    where
      pick : (t : Bool) (p q : ℕ) → i + suc (length xs) ≤ cond t i p
          → (suc i + length xs ≤ p → q ≡ index_from test (i + suc (length xs)) ys)
          → cond t i q ≡ index_from test (i + suc (length xs)) ys
      pick true p q k f = absurd (omega arith)
      pick false p q k f = f (omega arith)

-- the place of a name in two lists, one behind the other
module _ (name : List ℕ) (xs ys : List (List ℕ)) where
  pub name-first : index_of name xs < length xs → index_of name (xs ++ ys) ≡ index_of name xs
  unfolding index_of
  name-first h = index-first (same_bytes name) 0 xs ys (omega arith)

  pub name-second : length xs ≤ index_of name xs → index_of name (xs ++ ys) ≡ length xs + index_of name ys
  unfolding index_of
  name-second h =
      index-second (same_bytes name) 0 xs ys (omega arith)
      ∙ ap (λ (n : ℕ). index_from (same_bytes name) n ys) (let z : 0 + length xs ≡ length xs + 0 = omega arith in z)
      ∙ index-shift (same_bytes name) (length xs) 0 ys

pub name-most : (name : List ℕ) (xs : List (List ℕ)) → index_of name xs ≤ length xs
unfolding index_of
name-most name xs = omega (arith, index-most (same_bytes name) 0 xs)
