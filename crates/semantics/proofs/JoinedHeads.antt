-- Heads and their joined ones: what stands in the lists that an overlap is made of.
--   renamed-same, heads-same              a rule that is not renamed
--   agreed-member                         an element of the second list is one of the first, or is left
--   leftover-member                       what is left are elements
--   equated-sides, picked-member          the sides of equations between constraints; chosen constraints
-- Assumes nothing.
use Prim.Native.Nat.{ℕ, suc}
use mathlib.Core.Bool.{Bool, true, false, cond}
use mathlib.Core.List.{List, [], ◌∷◌, map}
use mathlib.Core.Path.{◌≡◌, refl, sym, ap₂, subst}
use lib.Dec.{eqb}
use lib.ListN.{get_elem?}
use Rattle.text.specs.Lists.{has, index_from}
use Rattle.semantics.specs.Terms.{Term, Constraint, Equation, map_terms}
use Rattle.semantics.specs.Terms as T
use Rattle.semantics.specs.Published.{Equated, EquatedAll, renamed}
use Rattle.semantics.specs.Published as P
use Rattle.semantics.specs.CriticalPairs.{picked}
use Rattle.semantics.proofs.Configurations.{Or, inl, inr, Member, first, later}
use Rattle.semantics.proofs.Options.{decide}
use Rattle.semantics.proofs.Multisets.{member-cons, member-append}
use Rattle.semantics.proofs.Pairings.{leftover, Agreed}
use Rattle.semantics.proofs.Listings.{at-member, answers-member}
use Rattle.semantics.proofs.PairSides.{Within}

-- a rule that is not renamed
pub renamed-same : (t : Term) → renamed (λ x. x) t ≡ t
unfolding renamed
renamed-same (T.con c) = refl
renamed-same (T.var x) = refl

pub heads-same : (hs : List Constraint) → map (map_terms (renamed (λ x. x))) hs ≡ hs
unfolding map_terms
heads-same [] = refl
heads-same (h ∷ hs) = λ i. record { symbol = h.symbol; terms = terms h.terms i } ∷ heads-same hs i
  where
    terms : (ts : List Term) → map (renamed (λ x. x)) ts ≡ ts
    terms [] = refl
    terms (t ∷ ts) = ap₂ ◌∷◌ (renamed-same t) (terms ts)

-- an element of the second list is joined to one of the first, which it is, or is left
pub agreed-member :
    {A : Type 0} {y : A} (n : ℕ) (xs ys : List A) (ds : List ℕ) → Agreed n xs ys ds → Member y ys
    → Or (Member y xs) (Member y (leftover n ys ds))
agreed-member {A = A} {y = y} n xs [] ds a x'' = elim x'' [ ]
agreed-member n xs (z ∷ ys) ds a first = go (decide (has n ds))
  where
    go :
        Or (has n ds ≡ true) (has n ds ≡ false)
        → Or (Member z xs) (Member z (cond (has n ds) (leftover (suc n) ys ds) (z ∷ leftover (suc n) ys ds)))
    go (inl h) = inl (at-member xs (index_from (eqb n) 0 ds) (a.0 h))
    go (inr h) = inr (rw h first)
agreed-member {A} {y} n xs (z ∷ ys) ds a (later i) = go (agreed-member (suc n) xs ys ds a.1 i)
  where
    kept :
        (b : Bool) → Member y (leftover (suc n) ys ds)
        → Member y (cond b (leftover (suc n) ys ds) (z ∷ leftover (suc n) ys ds))
    kept true j = j
    kept false j = later j

    go :
        Or (Member y xs) (Member y (leftover (suc n) ys ds))
        → Or (Member y xs) (Member y (cond (has n ds) (leftover (suc n) ys ds) (z ∷ leftover (suc n) ys ds)))
    go (inl j) = inl j
    go (inr j) = inr (kept (has n ds) j)

-- what is left are elements
pub leftover-member : {A : Type 0} {y : A} (n : ℕ) (ys : List A) (ds : List ℕ) → Member y (leftover n ys ds) → Member y ys
leftover-member n [] ds i = i
leftover-member {A} {y} n (z ∷ ys) ds i = go (has n ds) i (leftover-member (suc n) ys ds)
  where
    go :
        (b : Bool) → Member y (cond b (leftover (suc n) ys ds) (z ∷ leftover (suc n) ys ds))
        → (Member y (leftover (suc n) ys ds) → Member y ys) → Member y (z ∷ ys)
    go true j ih = later (ih j)
    go false j ih = front (member-cons j)
      where
        front : Or (y ≡ z) (Member y (leftover (suc n) ys ds)) → Member y (z ∷ ys)
        front (inl e) = subst (λ x. Member x (z ∷ ys)) (sym e) first
        front (inr k) = later (ih k)

-- the sides of the equations between two lists of constraints are terms of these
terms-sides :
    {ss ts : List Term} {es : List Equation} {e : Equation} → Equated ss ts es → Member e es
    → Member e.left ss × Member e.right ts
terms-sides {e = e} P.no_terms x5 = elim x5 [ ]
terms-sides (P.Equated.one_more q) first = (first, first)
terms-sides (P.Equated.one_more q) (later i) = let (a, b) = terms-sides q i in (later a, later b)

pub equated-sides :
    {cs ds : List Constraint} {es : List Equation} {e : Equation} → EquatedAll cs ds es → Member e es
    → Within cs e.left × Within ds e.right
equated-sides {e = e} P.no_constraints i = elim i [ ]
equated-sides {e} (P.EquatedAll.one_more {c} {d} {cs} {ds} {es} {fs} p q r) i = go (member-append es i) (λ j. equated-sides r j)
  where
    go :
        Or (Member e es) (Member e fs) → (Member e fs → Within cs e.left × Within ds e.right)
        → Within (c ∷ cs) e.left × Within (d ∷ ds) e.right
    go (inl j) ih = let (a, b) = terms-sides q j in ((c, first, a), (d, first, b))
    go (inr j) ih = let ((x, k, a), (y, l, b)) = ih j in ((x, later k, a), (y, later l, b))

-- chosen constraints are of the list
pub picked-member : {c : Constraint} (cs : List Constraint) (ns : List ℕ) → Member c (picked cs ns) → Member c cs
unfolding picked
picked-member cs ns i = let (n, j, e) = answers-member (get_elem? cs) ns i in at-member cs n e
