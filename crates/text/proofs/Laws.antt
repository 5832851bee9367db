-- Laws of lists, as the definitions and the code of this crate use them.
--   drop-take                          a part by its ends, and by its start and length
--   every_append                       a test of all elements of two lists
--   last_apart                         a list by its last element
--   same-..                            two parts compared: from a place on, of different lengths, equal
--   tabled-length, tabled-at           the length of a table, an entry of it
-- Assumes nothing.
use mathlib.Core.Path.{◌≡◌, refl, sym, ap, ap₂, ◌∙◌}
use mathlib.Core.Bool.{Bool, true, false, ◌&&◌}
use mathlib.Core.List.{List, [], ◌∷◌, ◌++◌}
use Prim.Native.Nat.{ℕ, zero, suc, ◌-◌, ◌≤◌, ◌<◌}
use native.Mathlib.Nat.{le_of_suc-le-suc, not-suc-le-zero, suc-sub-suc, sub-zero}
use native.Mathlib.Decide.{dec_lt}
use native.Mathlib.Omega.{arith}
use borrow.Author.Tests.{eq-eqb, ne_eqb, eqb-true}
use lib.Dec.{eqb}
use lib.ListN.{length, take, drop, get_or, length-append, get_or-append, drop_of_length-le}
use lib.Seq.{drop-cons, get_or_at, take-suc, take_all}
use Rattle.text.specs.Lists.{every, same_bytes, tabled}
use Rattle.text.proofs.Bools.{never, and-true, and-false, and_assoc}

-- a part by its ends, and by its start and length
pub drop-take : (a e : ℕ) (s : List ℕ) → a ≤ e → drop a (take e s) ≡ take (e - a) (drop a s)
drop-take zero e s h = rw (sub-zero e)
drop-take (suc a) zero s h = absurd (not-suc-le-zero h)
drop-take (suc a) (suc e) [] h = rw (suc-sub-suc e a) (nil (e - a))
  where
    nil : (n : ℕ) → ◌≡◌ {A = List ℕ} [] (take n [])
    nil zero = refl
    nil (suc n) = refl
drop-take (suc a) (suc e) (x ∷ s) h = rw (suc-sub-suc e a) (drop-take a e s (le_of_suc-le-suc h))

-- a test of all elements
pub every_append {ℓ} : {A : Type ℓ} (test : A → Bool) (p q : List A) → every test (p ++ q) ≡ (every test p && every test q)
every_append test [] q = refl
every_append test (x ∷ p) q =
    ap (λ (t : Bool). test x && t) (every_append test p q) ∙ sym (and_assoc (test x) (every test p) (every test q))

-- a list that is not empty is all but its last element, and that
pub last_apart : (b : ℕ) (s : List ℕ) → b ∷ s ≡ take (length s) (b ∷ s) ++ (get_or (b ∷ s) (length s) 0 ∷ [])
last_apart b s = sym (take_all (suc (length s)) (b ∷ s) (omega arith)) ∙ take-suc (b ∷ s) (length s) 0 (omega arith)

-- two parts compared
pub same-lengths : (a b : List ℕ) → (length a ≡ length b → ⊥) → same_bytes a b ≡ false
same-lengths [] [] h = absurd (h refl)
same-lengths [] (y ∷ b) h = refl
same-lengths (x ∷ a) [] h = refl
same-lengths (x ∷ a) (y ∷ b) h = rw (same-lengths a b (λ e. h (ap suc e))) (and-false (eqb x y))

pub same-fails : (a b : List ℕ) (i : ℕ) → i < length a → i < length b → (get_or a i 0 ≡ get_or b i 0 → ⊥)
    → same_bytes (drop i a) (drop i b) ≡ false
same-fails a b i h k e = rw (drop-cons a i 0 h, drop-cons b i 0 k, ne_eqb (get_or a i 0) (get_or b i 0) e)

pub same_step : (a b : List ℕ) (i : ℕ) → i < length a → i < length b → get_or a i 0 ≡ get_or b i 0
    → same_bytes (drop i a) (drop i b) ≡ same_bytes (drop (suc i) a) (drop (suc i) b)
same_step a b i h k e = rw (drop-cons a i 0 h, drop-cons b i 0 k, eq-eqb (get_or a i 0) (get_or b i 0) e)

pub same_end : (a b : List ℕ) (i : ℕ) → length a ≤ i → length b ≤ i → same_bytes (drop i a) (drop i b) ≡ true
same_end a b i h k = rw (drop_of_length-le a h, drop_of_length-le b k)

pub same_length : (a b : List ℕ) → same_bytes a b ≡ true → length a ≡ length b
same_length [] [] e = refl
same_length [] (y ∷ b) e = absurd (let z : ◌≡◌ {A = ℕ} 0 1 = cc in omega arith)
same_length (x ∷ a) [] e = absurd (let z : ◌≡◌ {A = ℕ} 0 1 = cc in omega arith)
same_length (x ∷ a) (y ∷ b) e = ap suc (same_length a b (and-true (eqb x y) (same_bytes a b) e).1)

-- lists of the same bytes are the same
pub same-is : (a b : List ℕ) → same_bytes a b ≡ true → a ≡ b
same-is [] [] e = refl
same-is [] (y ∷ b) e = absurd (never (sym e))
same-is (x ∷ a) [] e = absurd (never (sym e))
same-is (x ∷ a) (y ∷ b) e =
    let (p, q) = and-true (eqb x y) (same_bytes a b) e in
    ap₂ (λ (z : ℕ) (l : List ℕ). z ∷ l) (eqb-true x y p) (same-is a b q)

-- a table by its entries
module _ {ℓ} {A : Type ℓ} (f : ℕ → A) where
  pub tabled-length : (n : ℕ) → length (tabled f n) ≡ n
  tabled-length zero = refl
  tabled-length (suc n) = omega (arith, length-append (tabled f n) (f n ∷ []), tabled-length n)

  pub tabled-at : (n i : ℕ) (d : A) → i < n → get_or (tabled f n) i d ≡ f i
  tabled-at zero i d h = absurd (not-suc-le-zero h)
  tabled-at (suc n) i d h = elim (dec_lt i n) [
    | yes k ↦ get_or-append (tabled f n) (f n ∷ []) d i (omega (arith, tabled-length n, k)) ∙ tabled-at n i d k
    | no k ↦
        let e : i ≡ n = omega arith in
        rw e (get_or_at (tabled f n) (f n) [] d n (tabled-length n))
  ]
