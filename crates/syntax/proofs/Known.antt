-- Names that a line brings: those before it stay in front, and each name of the line is known after it.
--   known-front, known_behind      a known name stays known with more behind; a new name is known behind the others
--   grown                          names with the new ones among some fields behind them
--   grown-front, grown-known       what a line's fields do to the names
--   constants-grown, letters-grown so constants and letters grow
-- Assumes nothing.
use Prim.Native.Nat.{ℕ, suc, ◌+◌, ◌<◌}
use native.Mathlib.Omega.{arith}
use mathlib.Core.Bool.{Bool, true, false, cond, not}
use mathlib.Core.List.{List, [], ◌∷◌, ◌++◌, append_assoc, append-nil}
use mathlib.Core.Path.{◌≡◌, refl, sym, ap, ◌∙◌}
use lib.ListN.{length, length-append}
use borrow.Author.Tests.{lt-ltb, ltb-true}
use Rattle.text.specs.Lists.{index_from, index_of, same_bytes, is_known, with_name}
use Rattle.text.specs.Fields.{is_name}
use Rattle.text.specs.Constants.{constant_name}
use Rattle.semantics.proofs.Configurations.{All, none, also}
use Rattle.semantics.proofs.Bools.{eqb_same}
use Rattle.syntax.specs.Forms.{constants_after}
use Rattle.syntax.specs.Goals.{letters_after}
use Rattle.syntax.proofs.Tabled.{index-first}

-- what passes the test behind the others is found there, or before
index-behind :
    (t : List ℕ → Bool) (i : ℕ) (xs : List (List ℕ)) (y : List ℕ) → t y ≡ true
    → index_from t i (xs ++ (y ∷ [])) < i + suc (length xs)
index-behind t i [] y e = rw e (omega arith)
index-behind t i (x ∷ xs) y e = go (index-behind t (suc i) xs y e) (t x)
  where
    go :
        index_from t (suc i) (xs ++ (y ∷ [])) < suc i + suc (length xs) → (b : Bool)
        → cond b i (index_from t (suc i) (xs ++ (y ∷ []))) < i + suc (suc (length xs))
    go more true = omega arith
    go more false = omega arith

pub same_refl : (s : List ℕ) → same_bytes s s ≡ true
same_refl [] = refl
same_refl (b ∷ s) = rw (eqb_same b) (same_refl s)

-- a known name stays known with more behind
pub known-front : (f : List ℕ) (names more : List (List ℕ)) → is_known f names ≡ true → is_known f (names ++ more) ≡ true
unfolding is_known index_of
known-front f names more h =
    let k : index_from (same_bytes f) 0 names < length names = ltb-true _ _ h in
    let e = index-first (same_bytes f) 0 names more (omega arith) in
    lt-ltb (index_from (same_bytes f) 0 (names ++ more)) (length (names ++ more)) (omega (arith, e, length-append names more))

-- a name is known behind the others
pub known_behind : (f : List ℕ) (names : List (List ℕ)) → is_known f (names ++ (f ∷ [])) ≡ true
unfolding is_known index_of
known_behind f names =
    let k = index-behind (same_bytes f) 0 names f (same_refl f) in
    lt-ltb (index_from (same_bytes f) 0 (names ++ (f ∷ []))) (length (names ++ (f ∷ [])))
    (omega (arith, length-append names (f ∷ [])))

-- names, with those of the picked fields that are new behind them
abbrev pub grown : (List ℕ → Bool) → (List ℕ → List ℕ) → List (List ℕ) → List (List ℕ) → List (List ℕ)
grown pick name [] names = names
grown pick name (f ∷ fs) names = grown pick name fs (cond (pick f) (with_name (name f) names) names)

-- the names before stay in front
with-front : (b : Bool) (f : List ℕ) (names : List (List ℕ))
    → (more : List (List ℕ)) × (cond b (with_name f names) names ≡ names ++ more)
unfolding with_name
with-front false f names = ([], sym (append-nil names))
with-front true f names = go (is_known f names)
  where
    go : (k : Bool) → (more : List (List ℕ)) × (cond k names (names ++ (f ∷ [])) ≡ names ++ more)
    go true = ([], sym (append-nil names))
    go false = (f ∷ [], refl)

pub grown-front : (pick : List ℕ → Bool) (name : List ℕ → List ℕ) (fs names : List (List ℕ))
    → (more : List (List ℕ)) × (grown pick name fs names ≡ names ++ more)
grown-front pick name [] names = ([], sym (append-nil names))
grown-front pick name (f ∷ fs) names =
    let (one, e) = with-front (pick f) (name f) names in
    let (more, k) = grown-front pick name fs (cond (pick f) (with_name (name f) names) names) in
    (one ++ more, k ∙ ap (λ ns. ns ++ more) e ∙ append_assoc names one more)

-- a name that was added is known
pub with-known : (f : List ℕ) (names : List (List ℕ)) → is_known f (with_name f names) ≡ true
unfolding with_name
with-known f names = go (is_known f names) refl
  where
    go : (k : Bool) → is_known f names ≡ k → is_known f (cond k names (names ++ (f ∷ []))) ≡ true
    go true e = e
    go false e = known_behind f names

-- the name of each picked field is known afterwards
pub grown-known :
    (pick : List ℕ → Bool) (name : List ℕ → List ℕ) (fs names : List (List ℕ))
    → All (λ f. pick f ≡ true → is_known (name f) (grown pick name fs names) ≡ true) fs
grown-known pick name [] names = none
grown-known pick name (f ∷ fs) names =
    also picked (grown-known pick name fs (cond (pick f) (with_name (name f) names) names))
  where
    picked : pick f ≡ true → is_known (name f) (grown pick name fs (cond (pick f) (with_name (name f) names) names)) ≡ true
    picked e =
        let (more, k) = grown-front pick name fs (cond (pick f) (with_name (name f) names) names) in
        let first : is_known (name f) (cond (pick f) (with_name (name f) names) names) ≡ true = rw e (with-known (name f) names) in
        rw k (known-front (name f) _ more first)

-- so constants and letters grow
pub constants-grown : (fs names : List (List ℕ)) → constants_after fs names ≡ grown is_name constant_name fs names
unfolding constants_after
constants-grown [] names = refl
constants-grown (f ∷ fs) names = constants-grown fs (cond (is_name f) (with_name (constant_name f) names) names)

pub letters-grown : (fs names : List (List ℕ)) → letters_after fs names ≡ grown (λ f. not (is_name f)) (λ f. f) fs names
unfolding letters_after
letters-grown [] names = refl
letters-grown (f ∷ fs) names =
    letters-grown fs (cond (is_name f) names (with_name f names)) ∙ ap (grown (λ f. not (is_name f)) (λ f. f) fs) (turned (is_name f))
  where
    turned : (b : Bool) → cond b names (with_name f names) ≡ cond (not b) (with_name f names) names
    turned true = refl
    turned false = refl
