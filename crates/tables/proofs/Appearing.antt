-- Every variable of a final state appears in the order of its numbers.
--   var_in                     a constant, or a variable that stands in the order
--   in-terms                  every term of terms
--   grows_in, grows           what was seen stays seen
--   index_in, index_on        and has the same place there
--   numbered-by, numbered-all    so that a term keeps its number
-- Assumes nothing.
use mathlib.Core.Path.{◌≡◌, refl, ap, ◌∙◌}
use mathlib.Core.Bool.{Bool, true, false, cond, ◌||◌, ◌&&◌}
use mathlib.Core.List.{List, [], ◌∷◌, ◌++◌, map}
use Prim.Native.Nat.{ℕ}
use native.Mathlib.Omega.{arith}
use lib.Dec.{eqb}
use borrow.Author.Tests.{eq-eqb}
use Rattle.text.specs.Lists.{has, every, index_from}
use Rattle.semantics.specs.Terms.{Term, con, var, Constraint}
use Rattle.semantics.specs.Overlaps.{appearing_in, appearing, numbered}
use Rattle.text.proofs.Bools.{and-true}
use Rattle.semantics.proofs.Bools.{or_right}
use Rattle.tables.proofs.NumberLaws.{has_more, index_kept}

-- a constant, or a variable that stands in the order
abbrev pub var_in : List ℕ → Term → Bool
var_in order (con c) = true
var_in order (var x) = has x order

-- both tests
both : (a b : Bool) → a ≡ true → b ≡ true → (a && b) ≡ true
both true true p q = refl
both true false p q = q
both false b p q = p

or_left : (a b : Bool) → a ≡ true → (a || b) ≡ true
or_left true b e = refl
or_left false b e = let bad : ◌≡◌ {A = ℕ} 0 1 = cc in absurd (omega arith)

-- the seen variables with one more, if it is new
abbrev more : ℕ → List ℕ → List ℕ
more x seen = cond (has x seen) seen (seen ++ (x ∷ []))

more-itself : (x : ℕ) (seen : List ℕ) → has x (more x seen) ≡ true
more-itself x seen = go (has x seen) refl
  where
    go : (b : Bool) → has x seen ≡ b → has x (cond b seen (seen ++ (x ∷ []))) ≡ true
    go true e = e
    go false e = has_more x x seen ∙ or_right (has x seen) (eqb x x) (eq-eqb x x refl)

more-keeps : (x y : ℕ) (seen : List ℕ) → has y seen ≡ true → has y (more x seen) ≡ true
more-keeps x y seen h = go (has x seen)
  where
    go : (b : Bool) → has y (cond b seen (seen ++ (x ∷ []))) ≡ true
    go true = h
    go false = has_more y x seen ∙ or_left (has y seen) (eqb y x) h

-- what was seen stays seen
pub grows_in : (ts : List Term) (seen : List ℕ) (y : ℕ) → has y seen ≡ true → has y (appearing_in seen ts) ≡ true
unfolding appearing_in
grows_in [] seen y h = h
grows_in (con c ∷ ts) seen y h = grows_in ts seen y h
grows_in (var x ∷ ts) seen y h = grows_in ts (more x seen) y (more-keeps x y seen h)

pub grows : (cs : List Constraint) (seen : List ℕ) (y : ℕ) → has y seen ≡ true → has y (appearing seen cs) ≡ true
unfolding appearing
grows [] seen y h = h
grows (c ∷ cs) seen y h = grows cs (appearing_in seen c.terms) y (grows_in c.terms seen y h)

-- every variable of terms is seen behind them
pub in-terms : (ts : List Term) (seen : List ℕ) → every (var_in (appearing_in seen ts)) ts ≡ true
unfolding appearing_in
in-terms [] seen = refl
in-terms (con c ∷ ts) seen = in-terms ts seen
in-terms (var x ∷ ts) seen =
    both (has x (appearing_in (more x seen) ts)) (every (var_in (appearing_in (more x seen) ts)) ts)
    (grows_in ts (more x seen) x (more-itself x seen)) (in-terms ts (more x seen))

-- a variable that has appeared keeps its place when more appear
pub index_in :
    (ts : List Term) (o : List ℕ) (x : ℕ) → has x o ≡ true → index_from (eqb x) 0 (appearing_in o ts) ≡ index_from (eqb x) 0 o
unfolding appearing_in
index_in [] o x h = refl
index_in (con c ∷ ts) o x h = index_in ts o x h
index_in (var y ∷ ts) o x h = index_in ts (more y o) x (more-keeps y x o h) ∙ one (has y o)
  where
    one : (b : Bool) → index_from (eqb x) 0 (cond b o (o ++ (y ∷ []))) ≡ index_from (eqb x) 0 o
    one true = refl
    one false = index_kept x y 0 o h

pub index_on :
    (cs : List Constraint) (o : List ℕ) (x : ℕ) → has x o ≡ true
    → index_from (eqb x) 0 (appearing o cs) ≡ index_from (eqb x) 0 o
unfolding appearing
index_on [] o x h = refl
index_on (c ∷ cs) o x h =
    index_on cs (appearing_in o c.terms) x (grows_in c.terms o x h) ∙ index_in c.terms o x h

-- so does a term, and so do terms
pub numbered-by :
    (a b : List ℕ) (t : Term) → ((x : ℕ) → has x a ≡ true → index_from (eqb x) 0 b ≡ index_from (eqb x) 0 a)
    → var_in a t ≡ true → numbered b t ≡ numbered a t
unfolding numbered
numbered-by a b (con c) f h = refl
numbered-by a b (var x) f h = ap var (f x h)

pub numbered-all :
    (a b : List ℕ) (ts : List Term) → ((x : ℕ) → has x a ≡ true → index_from (eqb x) 0 b ≡ index_from (eqb x) 0 a)
    → every (var_in a) ts ≡ true → map (numbered b) ts ≡ map (numbered a) ts
numbered-all a b [] f h = refl
numbered-all a b (t ∷ ts) f h =
    let parts = and-true (var_in a t) (every (var_in a) ts) h in
    rw (numbered-by a b t f parts.0, numbered-all a b ts f parts.1)
