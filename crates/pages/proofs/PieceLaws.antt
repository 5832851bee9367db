-- Laws of a list cut into pieces, and of the rows that fit a page.
--   pieces-cons       the first piece, and those behind it
--   pieces-joined     the pieces one behind the other are the list
--   pieces-few        how many they are
--   every-pieces      a test of all elements of the pieces
--   row_lines-take     the lines of a page show only as many rows as there are lines
-- Assumes nothing.
use Prim.Native.Nat.{ℕ, zero, suc, ◌*◌, ◌≤◌, ◌<◌}
use native.Mathlib.Omega.{arith}
use mathlib.Core.Bool.{Bool, true}
use mathlib.Core.List.{List, [], ◌∷◌, ◌++◌}
use mathlib.Core.Path.{◌≡◌, refl, ap, ◌∙◌}
use lib.ListN.{length, take, drop, length-drop, take-append-drop}
use Rattle.text.specs.Lists.{every, gather}
use Rattle.text.proofs.ListLaws.{every_take, every_drop}
use Rattle.pages.specs.Pages.{page_line, pieces_from, pieces, row_lines}

-- any fuel that is not below the length is enough
pub pieces-fuel : {A : Type 0} (j k n : ℕ) (l : List A) → 0 < n → length l ≤ j → length l ≤ k
    → pieces_from j n l ≡ pieces_from k n l
pieces-fuel zero zero n l p h i = refl
pieces-fuel zero (suc k) n [] p h i = refl
pieces-fuel zero (suc k) n (x ∷ l) p h i = absurd (omega arith)
pieces-fuel (suc j) zero n [] p h i = refl
pieces-fuel (suc j) zero n (x ∷ l) p h i = absurd (omega arith)
pieces-fuel (suc j) (suc k) n [] p h i = refl
pieces-fuel (suc j) (suc k) n (x ∷ l) p h i =
    let size = length-drop n (x ∷ l) in
    ap (λ (more : List (List _)). take n (x ∷ l) ∷ more)
    (pieces-fuel j k n (drop n (x ∷ l)) p (omega (arith, size)) (omega (arith, size)))

-- the first piece, and those behind it
pub pieces-cons : {A : Type 0} (n : ℕ) (x : A) (l : List A) → 0 < n
    → pieces n (x ∷ l) ≡ take n (x ∷ l) ∷ pieces n (drop n (x ∷ l))
pieces-cons n x l p =
    ap (λ (more : List (List _)). take n (x ∷ l) ∷ more)
    (pieces-fuel (length l) (length (drop n (x ∷ l))) n (drop n (x ∷ l)) p (omega (arith, length-drop n (x ∷ l))) (omega arith))

joined-from : {A : Type 0} (k n : ℕ) (l : List A) → 0 < n → length l ≤ k → gather (λ p. p) (pieces_from k n l) ≡ l
joined-from zero n [] p h = refl
joined-from zero n (x ∷ l) p h = absurd (omega arith)
joined-from (suc k) n [] p h = refl
joined-from (suc k) n (x ∷ l) p h =
    ap (λ (more : List _). take n (x ∷ l) ++ more) (joined-from k n (drop n (x ∷ l)) p (omega (arith, length-drop n (x ∷ l))))
    ∙ take-append-drop n (x ∷ l)

-- the pieces one behind the other are the list
pub pieces-joined : {A : Type 0} (n : ℕ) (l : List A) → 0 < n → gather (λ p. p) (pieces n l) ≡ l
pieces-joined n l p = joined-from (length l) n l p (omega arith)

few-from : {A : Type 0} (k n m : ℕ) (l : List A) → length l ≤ n * m → length (pieces_from k n l) ≤ m
few-from zero n m l h = omega arith
few-from (suc k) n m [] h = omega arith
few-from (suc k) n zero (x ∷ l) h = absurd (omega arith)
few-from (suc k) n (suc m) (x ∷ l) h =
    omega (arith, few-from k n m (drop n (x ∷ l)) (omega (arith, length-drop n (x ∷ l))))

-- how many pieces of n elements there are at most
pub pieces-few : {A : Type 0} (n m : ℕ) (l : List A) → 0 < n → length l ≤ n * m → length (pieces n l) ≤ m
pieces-few n m l p h = few-from (length l) n m l h

-- a test of all elements of the pieces
pub every-pieces : {A : Type 0} (t : A → Bool) (k n : ℕ) (l : List A) → every t l ≡ true
    → every (every t) (pieces_from k n l) ≡ true
every-pieces t zero n l h = refl
every-pieces t (suc k) n [] h = refl
every-pieces t (suc k) n (x ∷ l) h =
    rw (every_take t n (x ∷ l) h, every-pieces t k n (drop n (x ∷ l)) (every_drop t n (x ∷ l) h))

-- n lines of a page show only the first n rows
pub row_lines-take : (n : ℕ) (rs : List (List ℕ)) → row_lines n (take n rs) ≡ row_lines n rs
unfolding row_lines
row_lines-take zero rs = refl
row_lines-take (suc n) [] = refl
row_lines-take (suc n) (r ∷ rs) = ap (λ (l : List ℕ). page_line r ++ l) (row_lines-take n rs)
