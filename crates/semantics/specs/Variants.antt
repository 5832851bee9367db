-- Equal states: variants of each other.
--   OneToOne, TermVariant, Variant      as a relation: one renaming of variables, one to one
--   Inserted, SameMultiset              lists that are equal as multisets, up to a relation of their elements
--   same_state                           as a function: placing a constraint and trying its partners
-- Assumes nothing.
use Rattle.std.specs.Prelude.{ℕ, suc, Bool, true, false, cond, ◌&&◌, ◌||◌, List, [], ◌∷◌, ◌++◌, ◌≡◌, eqb, length}
use Rattle.std.proofs.Math.Option.{Option, none, some}
use Rattle.std.proofs.Math.Logic.{Lift}
use Rattle.text.specs.Lists.{onward, bind, has}
use Rattle.semantics.specs.Terms.{Term, con, var, Constraint, State, failed, live}

-- a renaming, as a relation between the variables of two states: no variable has two partners on either side
abbrev pub OneToOne : (ℕ → ℕ → Type 0) → Type 0
OneToOne ρ = ((x y z : ℕ) → ρ x y → ρ x z → y ≡ z) × ((x y z : ℕ) → ρ x z → ρ y z → x ≡ y)

-- two terms that a renaming makes equal: a constant is only itself
pub data TermVariant (ρ : ℕ → ℕ → Type 0) : Term → Term → Type 0 where
  same_con : {c : ℕ} → TermVariant ρ (con c) (con c)
  partners : {x y : ℕ} → ρ x y → TermVariant ρ (var x) (var y)

-- two lists, element by element
pub data Pointwise {A : Type 0} {B : Type 0} (R : A → B → Type 0) : List A → List B → Type 0 where
  empty : Pointwise R [] []
  each : {a : A} {b : B} {l : List A} {m : List B} → R a b → Pointwise R l m → Pointwise R (a ∷ l) (b ∷ m)

-- two constraints that a renaming makes equal
pub record ConstraintVariant (ρ : ℕ → ℕ → Type 0) (c : Constraint) (d : Constraint) : Type 0 where
  pub symbols : c.symbol ≡ d.symbol
  pub terms : Pointwise (TermVariant ρ) c.terms d.terms

-- m is l with a put in somewhere
pub data Inserted {A : Type 0} (a : A) : List A → List A → Type 0 where
  here : {l : List A} → Inserted a l (a ∷ l)
  there : {b : A} {l : List A} {m : List A} → Inserted a l m → Inserted a (b ∷ l) (b ∷ m)

-- two lists whose elements are related one to one, in any order
pub data SameMultiset {A : Type 0} {B : Type 0} (R : A → B → Type 0) : List A → List B → Type 0 where
  done : SameMultiset R [] []
  put :
      {a : A} {b : B} {l : List A} {m : List B} {n : List B} → R a b → Inserted b m n → SameMultiset R l m
      → SameMultiset R (a ∷ l) n

-- two states are equal: both failed; or one renaming makes equal what each goal variable became, and makes the constraints
-- equal as multisets
abbrev pub Variant : State → State → Type 1
Variant failed failed = Unit {1}
Variant failed (live n c ds) = Lift {0, 1} ⊥
Variant (live m b cs) failed = Lift {0, 1} ⊥
Variant (live m b cs) (live n c ds) =
    (ρ : ℕ → ℕ → Type 0) × OneToOne ρ × Pointwise (TermVariant ρ) b c × SameMultiset (ConstraintVariant ρ) cs ds

-- two variables that are partners
pub record Pair : Type 0 where
  pub left : ℕ
  pub right : ℕ

-- whether two variables are partners
unfoldable pub are_partners : ℕ → ℕ → List Pair → Bool
are_partners x y [] = false
are_partners x y (p ∷ ps) = (eqb x p.left && eqb y p.right) || are_partners x y ps

-- whether either of two variables has a partner
unfoldable pub are_paired : ℕ → ℕ → List Pair → Bool
are_paired x y [] = false
are_paired x y (p ∷ ps) = eqb x p.left || eqb y p.right || are_paired x y ps

-- the renaming, as the list of its partners, after two terms are made equal; none where it cannot make them equal
unfoldable pub pair_term : Term → Term → List Pair → Option (List Pair)
pair_term (con a) (con b) ρ = cond (eqb a b) (some ρ) none
pair_term (con a) (var y) ρ = none
pair_term (var x) (con b) ρ = none
pair_term (var x) (var y) ρ =
    cond (are_partners x y ρ) (some ρ) (cond (are_paired x y ρ) none (some (record { left = x; right = y } ∷ ρ)))

-- the same for lists of terms
unfoldable pub pair_terms : List Term → List Term → List Pair → Option (List Pair)
pair_terms [] [] ρ = some ρ
pair_terms [] (t ∷ ts) ρ = none
pair_terms (s ∷ ss) [] ρ = none
pair_terms (s ∷ ss) (t ∷ ts) ρ = bind (pair_term s t ρ) (pair_terms ss ts)

-- the same for constraints
unfoldable pub pair_constraint : Constraint → Constraint → List Pair → Option (List Pair)
pair_constraint c d ρ = cond (eqb c.symbol d.symbol) (pair_terms c.terms d.terms ρ) none

-- whether one of the partners of a list, the first at position p, will do
unfoldable pub try_partners : ℕ → List Constraint → (ℕ → Constraint → Bool) → Bool
try_partners p [] placed = false
try_partners p (d ∷ ds) placed =
    let more = try_partners (suc p) ds placed in
    placed p d || more

-- whether the constraints can all be placed: the first with a partner at a position that is not used yet, then the others
unfoldable pub place : List Constraint → List Constraint → List ℕ → List Pair → Bool
place [] ds used ρ = true
place (c ∷ cs) ds used ρ =
    try_partners 0 ds
    (λ p d. cond (has p used) false (onward (pair_constraint c d ρ) false (place cs ds (used ++ (p ∷ [])))))

-- whether two states are equal, by placing constraints and trying partners (document 01: the comparison of two ends)
unfoldable pub same_state : State → State → Bool
same_state failed failed = true
same_state failed (live n c ds) = false
same_state (live m b cs) failed = false
same_state (live m b cs) (live n c ds) =
    eqb (length cs) (length ds) && onward (pair_terms b c []) false (place cs ds [])
