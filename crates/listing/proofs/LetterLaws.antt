-- How an end shows its variables: those of the goal by their own names, the others numbered (document 02, W5).
--   own-letter        a variable of the goal is shown by its own name
--   other-number      any other that appears is shown as U and its number among the others
--   own-place, other_place     the places behind this: a goal variable is its own place, and the others stand behind the goal's
--   own-order       terms over the goal's variables add none to the order
--   own-numbers     and keep their numbers, where each goal variable is its own place
-- Assumes nothing.
use mathlib.Core.Path.{◌≡◌, refl, sym, ap, ap₂, ◌∙◌}
use mathlib.Core.Bool.{true}
use mathlib.Core.List.{List, [], ◌∷◌, map}
use mathlib.Core.Logic.{⊎_elim}
use mathlib.Core.Option.{some}
use Prim.Native.Nat.{ℕ, ◌+◌, ◌-◌, ◌≤◌, ◌<◌}
use native.Mathlib.Omega.{arith}
use borrow.Author.Tests.{ltb-true, lt-ltb, le-ltb}
use lib.Dec.{eqb, ltb}
use lib.ListN.{get_elem?}
use Rattle.text.specs.Bytes.{ascii}
use Rattle.text.specs.Lists.{has, every, index_from, up_to}
use Rattle.text.proofs.Bools.{and-true}
use Rattle.semantics.specs.Terms.{Term, con, var, Constraint, is_below}
use Rattle.semantics.specs.Overlaps.{appearing_in, appearing, numbered}
use Rattle.semantics.proofs.Appearing.{up_to-has}
use Rattle.semantics.proofs.Indices.{index-stands, some-equal}
use Rattle.tables.proofs.CellLaws.{le-or-lt}
use Rattle.tables.proofs.NumberLaws.{first-place}
use Rattle.tables.proofs.Appearing.{grows_in, grows, index_in, index_on}
use Rattle.listing.specs.Listing.{numbered_as, place_name, unbound}

-- the order of an end with n goal variables
module _ (n : ℕ) (bound : List Term) (cs : List Constraint) where
  abbrev order_in : List ℕ
  order_in = appearing (appearing_in (up_to n) bound) cs

  -- a goal variable stands in it at its own place
  own-stands : (x : ℕ) → x < n → has x order_in ≡ true
  own-stands x h = grows cs (appearing_in (up_to n) bound) x (grows_in bound (up_to n) x (up_to-has n x h))

  pub own-place : (x : ℕ) → x < n → index_from (eqb x) 0 order_in ≡ x
  own-place x h =
      index_on cs (appearing_in (up_to n) bound) x (grows_in bound (up_to n) x (up_to-has n x h))
      ∙ (index_in bound (up_to n) x (up_to-has n x h) ∙ first-place n x h)

  -- and any other behind those of the goal: each place before is a goal variable's
  pub other_place : (x : ℕ) → n ≤ x → has x order_in ≡ true → n ≤ index_from (eqb x) 0 order_in
  other_place x h seen =
      let i = index_from (eqb x) 0 order_in in
      ⊎_elim (λ high. high)
      (λ low.
      let own : get_elem? order_in i ≡ some i =
      ap (get_elem? order_in) (sym (own-place i low)) ∙ index-stands i order_in (own-stands i low) in
      let same : x ≡ i = some-equal (sym (index-stands x order_in seen) ∙ own) in
      absurd (omega (arith, same))) (le-or-lt n i)

-- a goal variable is shown by its own name
pub own-letter : (variable : ℕ → List ℕ) (n : ℕ) (bound : List Term) (cs : List Constraint) (x : ℕ) → x < n
    → unbound variable n (appearing (appearing_in (up_to n) bound) cs) x ≡ variable x
unfolding unbound place_name
own-letter variable n bound cs x h = rw (own-place n bound cs x h, lt-ltb x n h)

-- any other that appears is shown as U and its number, which counts those behind the goal's
pub other-number : (variable : ℕ → List ℕ) (n : ℕ) (bound : List Term) (cs : List Constraint) (x : ℕ) → n ≤ x
    → has x (appearing (appearing_in (up_to n) bound) cs) ≡ true
    → (k : ℕ) × (k + n ≡ index_from (eqb x) 0 (appearing (appearing_in (up_to n) bound) cs))
    × (unbound variable n (appearing (appearing_in (up_to n) bound) cs) x ≡ numbered_as (ascii "U") k)
unfolding unbound place_name
other-number variable n bound cs x h seen =
    let i = index_from (eqb x) 0 (order_in n bound cs) in
    let behind = other_place n bound cs x h seen in
    (i - n, omega (arith, behind), rw (le-ltb i n behind))

-- terms over the goal's variables add none to the order
pub own-order : (n : ℕ) (ts : List Term) → every (is_below n) ts ≡ true → appearing_in (up_to n) ts ≡ up_to n
unfolding appearing_in is_below
own-order n [] h = refl
own-order n (con c ∷ ts) h = own-order n ts h
own-order n (var x ∷ ts) h =
    let both = and-true (ltb x n) (every (is_below n) ts) h in
    rw (up_to-has n x (ltb-true x n both.0)) (own-order n ts both.1)

-- and keep their numbers, where each goal variable is its own place
pub own-numbers : (n : ℕ) (order : List ℕ) → ((x : ℕ) → x < n → index_from (eqb x) 0 order ≡ x) → (ts : List Term)
    → every (is_below n) ts ≡ true → map (numbered order) ts ≡ ts
unfolding numbered is_below
own-numbers n order own [] h = refl
own-numbers n order own (con c ∷ ts) h = ap (λ (l : List Term). con c ∷ l) (own-numbers n order own ts h)
own-numbers n order own (var x ∷ ts) h =
    let both = and-true (ltb x n) (every (is_below n) ts) h in
    ap₂ (λ (y : ℕ) (l : List Term). var y ∷ l) (own x (ltb-true x n both.0)) (own-numbers n order own ts both.1)
