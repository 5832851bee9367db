-- Equations between constraints (document 000, the notation of section 2.2.3): equating lists of constraints is equating their
-- terms one by one.
--   equated-pairs, equated-related     from the equations to pairs of terms, and back
--   equated-exists                     where there are equations
-- Assumes nothing.
use mathlib.Core.List.{List, [], ◌∷◌, ◌++◌}
use Rattle.semantics.specs.Terms.{Term, Constraint, Equation}
use Rattle.semantics.specs.Published.{Equated, no_terms, EquatedAll, no_constraints}
use Rattle.semantics.specs.Published as P
use Rattle.semantics.specs.Variants.{Pointwise, empty, each}
use Rattle.semantics.proofs.Configurations.{Or, inl, inr, Member, first, later}
use Rattle.semantics.proofs.Multisets.{pointwise-mono, member-append, member-append-left, member-append-right}
use Rattle.semantics.proofs.Multisets.{member-nil}
use Rattle.semantics.proofs.MatchLaws.{ConstraintRel}

-- the equation of two terms is among those of a list
abbrev pub Among : List Equation → Term → Term → Type 0
Among es s t = Member (record { left = s; right = t }) es

-- equated terms stand in the equations, pair by pair
terms-pairs : {ss ts : List Term} {es : List Equation} → Equated ss ts es → Pointwise (Among es) ss ts
terms-pairs no_terms = empty
terms-pairs (P.Equated.one_more q) = each first (pointwise-mono (λ s t i. later i) (terms-pairs q))

pub equated-pairs :
    {cs ds : List Constraint} {es : List Equation} → EquatedAll cs ds es → Pointwise (ConstraintRel (Among es)) cs ds
equated-pairs no_constraints = empty
equated-pairs (P.EquatedAll.one_more {es} {fs} p q r) =
    each (record { symbols = p; terms = pointwise-mono (λ s t i. member-append-left fs i) (terms-pairs q) })
    (pointwise-mono (λ c d k. record {
      symbols = k.symbols;
      terms = pointwise-mono (λ s t i. member-append-right es i) k.terms;
    }) (equated-pairs r))

-- what relates the terms, pair by pair, relates the sides of each equation
terms-related :
    {R : Term → Term → Type 0} {ss ts : List Term} {es : List Equation} {e : Equation} → Equated ss ts es → Pointwise R ss ts
    → Member e es → R e.left e.right
terms-related no_terms empty i = absurd (member-nil i)
terms-related (P.Equated.one_more q) (each r p) first = r
terms-related (P.Equated.one_more q) (each r p) (later i) = terms-related q p i

pub equated-related :
    {R : Term → Term → Type 0} {cs ds : List Constraint} {es : List Equation} {e : Equation} → EquatedAll cs ds es
    → Pointwise (ConstraintRel R) cs ds → Member e es → R e.left e.right
equated-related no_constraints empty i = absurd (member-nil i)
equated-related {R} {e} (P.EquatedAll.one_more {es} {fs} s q k) (each r p) i =
    either (member-append es i) (λ j. equated-related k p j)
  where
    either : Or (Member e es) (Member e fs) → (Member e fs → R e.left e.right) → R e.left e.right
    either (inl j) more = terms-related q r.terms j
    either (inr j) more = more j

-- constraints of the same symbols and numbers of terms have equations
terms-exist : {R : Term → Term → Type 0} {ss ts : List Term} → Pointwise R ss ts → (es : List Equation) × Equated ss ts es
terms-exist empty = ([], no_terms)
terms-exist (each {a = s} {b = t} r p) =
    let (es, q) = terms-exist p in
    (record { left = s; right = t } ∷ es, P.Equated.one_more q)

pub equated-exists :
    {R : Term → Term → Type 0} {cs ds : List Constraint} → Pointwise (ConstraintRel R) cs ds
    → (es : List Equation) × EquatedAll cs ds es
equated-exists empty = ([], no_constraints)
equated-exists (each r p) =
    let (es, q) = terms-exist r.terms in
    let (fs, k) = equated-exists p in
    (es ++ fs, P.EquatedAll.one_more r.symbols q k)
