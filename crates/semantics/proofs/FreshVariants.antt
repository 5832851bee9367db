-- Fresh variants of a rule (document 000, figure 1 and its footnote): there always is one, and the state's own terms are none of
-- its variables.
--   fresh-beyond                                     the variant by numbers beyond all of a state's
--   matched-avoids, rest-avoids, built_in-avoids, …   the terms of a state's stores, and its variables
-- Assumes nothing.
use Prim.Native.Nat.{ℕ, ◌+◌}
use mathlib.Core.List.{List, ◌++◌, map}
use mathlib.Core.Path.{◌≡◌, sym, subst}
use native.Mathlib.Omega.{arith}
use Rattle.semantics.specs.Terms.{Term, Constraint, Equation}
use Rattle.semantics.specs.Terms as T
use Rattle.semantics.specs.Variants.{SameMultiset}
use Rattle.semantics.specs.Published.{Published, Occurs, here, there, terms_of, terms_of_items, terms_of_constraints}
use Rattle.semantics.specs.Published.{terms_of_equations, FreshFor}
use Rattle.semantics.proofs.Configurations.{Member, first, later, All}
use Rattle.semantics.proofs.Multisets.{member-append-left, member-append-right, all-of-members, multiset-partner}
use Rattle.semantics.proofs.Multisets.{multiset-back}
use Rattle.semantics.proofs.Renamings.{Avoids, ConstraintAvoids, beyond, beyond-member}
use Rattle.semantics.proofs.Entailment.{left-member, right-member}

-- an element of one of two equal multisets is one of the other
pub member-same : {A : Type 0} {a : A} {l m : List A} → SameMultiset ◌≡◌ l m → Member a l → Member a m
member-same {m} s i = let (b, e, j) = multiset-partner i s in subst (λ x. Member x m) (sym e) j

-- a variable stands in a list of terms
occurs-member : {x : ℕ} {ts : List Term} → Occurs x ts → Member (T.var x) ts
occurs-member here = first
occurs-member (there o) = later (occurs-member o)

member-occurs : {x : ℕ} {ts : List Term} → Member (T.var x) ts → Occurs x ts
member-occurs first = here
member-occurs (later i) = there (member-occurs i)

-- numbers from beyond all terms of a state on make a fresh variant
pub fresh-beyond : (p : Published) → FreshFor p (λ x. beyond (terms_of p) + x)
fresh-beyond p = record {
  apart = λ x y h k e. omega arith;
  fresh = λ x h o. let k = beyond-member (occurs-member o) in omega arith;
}

-- the terms of a state are none of a fresh variant's variables
fresh-avoids : {p : Published} {ρ : ℕ → ℕ} → FreshFor p ρ → (t : Term) → Member t (terms_of p) → Avoids ρ t
fresh-avoids f (T.con c) i = tt
fresh-avoids {p} f (T.var z) i = λ x h e. f.fresh x h (subst (λ y. Occurs y (terms_of p)) (sym e) (member-occurs i))

-- the terms of its stores
constraint-terms :
    {c : Constraint} {cs : List Constraint} {t : Term} → Member c cs → Member t c.terms → Member t (terms_of_constraints cs)
unfolding terms_of_constraints
constraint-terms (first {l}) j = member-append-left (terms_of_constraints l) j
constraint-terms (later {b} i) j = member-append-right b.terms (constraint-terms i j)

module _ (p : Published) (ρ : ℕ → ℕ) (f : FreshFor p ρ) where
  user-avoids : (c : Constraint) → Member c p.user_store → ConstraintAvoids ρ c
  unfolding terms_of
  user-avoids c i =
      all-of-members c.terms (λ t j. fresh-avoids f t (member-append-right (terms_of_items p.goals)
      (member-append-left (terms_of_equations p.built_in_store ++ map T.var p.variables) (constraint-terms i j))))

  pub built_in-avoids : (e : Equation) → Member e p.built_in_store → Avoids ρ e.left × Avoids ρ e.right
  unfolding terms_of
  built_in-avoids e i = (side (left-member i), side (right-member i))
    where
      side : {t : Term} → Member t (terms_of_equations p.built_in_store) → Avoids ρ t
      side {t} j =
          fresh-avoids f t (member-append-right (terms_of_items p.goals) (member-append-right (terms_of_constraints p.user_store)
          (member-append-left (map T.var p.variables) j)))

  pub variables-avoid : All (Avoids ρ) (map T.var p.variables)
  unfolding terms_of
  variables-avoid =
      all-of-members (map T.var p.variables) (λ t i. fresh-avoids f t (member-append-right (terms_of_items p.goals)
      (member-append-right (terms_of_constraints p.user_store) (member-append-right (terms_of_equations p.built_in_store) i))))

  -- of the user-defined store, in two parts
  pub matched-avoids :
      {M : List Constraint} (L : List Constraint) → SameMultiset ◌≡◌ p.user_store (M ++ L) → All (ConstraintAvoids ρ) M
  matched-avoids {M} L s = all-of-members M (λ c i. user-avoids c (member-same (multiset-back s) (member-append-left L i)))

  pub rest-avoids :
      {L : List Constraint} (M : List Constraint) → SameMultiset ◌≡◌ p.user_store (M ++ L) → All (ConstraintAvoids ρ) L
  rest-avoids {L} M s = all-of-members L (λ c i. user-avoids c (member-same (multiset-back s) (member-append-right M i)))
