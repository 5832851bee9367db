-- Entailment (document 000, figure 1, the condition of Simplify): a built-in store that is not false implies that the heads of a
-- fresh variant can be made equal to constraints exactly when the heads fit them up to what the store makes equivalent.
--   implies-fits      the heads fit
--   fits-implies      and conversely
-- Assumes nothing.
use Prim.Native.Nat.{ℕ, ◌+◌, ◌≤◌}
use mathlib.Core.List.{List, [], ◌∷◌, map}
use mathlib.Core.Option.{some}
use mathlib.Core.Path.{◌≡◌, refl, sym, ap, ◌∙◌}
use native.Mathlib.Omega.{arith}
use Rattle.semantics.specs.Terms.{Term, con, var, Constraint, Equation, Rule, map_terms, alphabet}
use Rattle.semantics.specs.Solving.{solve}
use Rattle.semantics.specs.Published.{value, Hold, Satisfiable, EquatedAll, renamed, Implies, terms_of_equations}
use Rattle.semantics.specs.Variants.{Pointwise, empty, each}
use Rattle.semantics.proofs.Configurations.{Member, first, later, Tm, sub, Eqv, flip, chain, AtomRel, lift, lift_atom}
use Rattle.semantics.proofs.Configurations.{lift_eqn, heads_of, Fits, All, also, TermBelow}
use Rattle.semantics.proofs.Configurations as C
use Rattle.semantics.proofs.Multisets.{pointwise-mono, pointwise-map, pointwise-unmap}
use Rattle.semantics.proofs.Closure.{eqv-path}
use Rattle.semantics.proofs.Lifting.{down, down-lift}
use Rattle.semantics.proofs.SolveLaws.{solve-solution, solve-keeps}
use Rattle.semantics.proofs.MatchLaws.{ConstraintRel}
use Rattle.semantics.proofs.MatchedTerms.{ConstraintBelow}
use Rattle.semantics.proofs.Renamings.{Separates, Avoids, ConstraintAvoids, at_letters, at-letter, at_other, beyond}
use Rattle.semantics.proofs.Renamings.{beyond-member}
use Rattle.semantics.proofs.Valuations.{hold-member, hold-members, hold-eqv, generic, generic-value, generic-holds}
use Rattle.semantics.proofs.Valuations.{ConBelow, read, read-constant, read_above, satisfiable-solved}
use Rattle.semantics.proofs.Equating.{Among, equated-pairs, equated-related}

-- the sides of an equation are among the terms
pub left-member : {e : Equation} {es : List Equation} → Member e es → Member e.left (terms_of_equations es)
unfolding terms_of_equations
left-member first = first
left-member (later i) = later (later (left-member i))

pub right-member : {e : Equation} {es : List Equation} → Member e es → Member e.right (terms_of_equations es)
unfolding terms_of_equations
right-member first = later first
right-member (later i) = later (later (right-member i))

-- a constant below what is beyond the terms
constant-below : {n : ℕ} {ts : List Term} (t : Term) → Member t ts → beyond ts ≤ n → ConBelow n t
constant-below (con c) i h = let k = beyond-member i in omega arith
constant-below (var x) i h = tt

-- a head's terms, before they were renamed, and the terms that they are equated with
pub heads-pairs :
    (ρ : ℕ → ℕ) (hs : List Constraint) {ms : List Constraint} {es : List Equation}
    → EquatedAll (map (map_terms (renamed ρ)) hs) ms es → Pointwise (ConstraintRel (λ s t. Among es (renamed ρ s) t)) hs ms
unfolding map_terms
heads-pairs ρ hs {ms} {es} q = back hs (equated-pairs q)
  where
    terms : (ss : List Term) {ts : List Term} → Pointwise (Among es) (map (renamed ρ) ss) ts
        → Pointwise (λ s t. Among es (renamed ρ s) t) ss ts
    terms [] empty = empty
    terms (s ∷ ss) (each i p) = each i (terms ss p)

    back : (hs : List Constraint) {ms : List Constraint}
        → Pointwise (ConstraintRel (Among es)) (map (map_terms (renamed ρ)) hs) ms
        → Pointwise (ConstraintRel (λ s t. Among es (renamed ρ s) t)) hs ms
    back [] empty = empty
    back (h ∷ hs) (each r p) = each (record { symbols = r.symbols; terms = terms h.terms r.terms }) (back hs p)

-- with what all terms on the right have
pub with-right :
    {R : Term → Term → Type 0} {P : Term → Type 0} {hs ms : List Constraint} → Pointwise (ConstraintRel R) hs ms
    → All (λ c. All P c.terms) ms → Pointwise (ConstraintRel (λ s t. R s t × P t)) hs ms
with-right empty C.none = empty
with-right {R} {P} (each r p) (also a more) =
    each (record { symbols = r.symbols; terms = terms r.terms a }) (with-right p more)
  where
    terms : {ss ts : List Term} → Pointwise R ss ts → All P ts → Pointwise (λ s t. R s t × P t) ss ts
    terms empty C.none = empty
    terms (each k l) (also b more) = each (k, b) (terms l more)

-- with what all terms on the left have
pub with-left :
    {R : Term → Term → Type 0} {P : Term → Type 0} {hs ms : List Constraint} → Pointwise (ConstraintRel R) hs ms
    → All (λ c. All P c.terms) hs → Pointwise (ConstraintRel (λ s t. R s t × P s)) hs ms
with-left empty C.none = empty
with-left {R} {P} (each r p) (also a more) =
    each (record { symbols = r.symbols; terms = terms r.terms a }) (with-left p more)
  where
    terms : {ss ts : List Term} → Pointwise R ss ts → All P ss → Pointwise (λ s t. R s t × P s) ss ts
    terms empty C.none = empty
    terms (each k l) (also b more) = each (k, b) (terms l more)

-- pairs of terms, as pairs of terms of atoms, and back
fits-of :
    {E : List (C.Eqn ℕ)} {θ : ℕ → Tm ℕ} (hs ms : List Constraint)
    → Pointwise (ConstraintRel (λ s t. Eqv E (sub θ (lift s)) (lift t))) hs ms
    → Pointwise (AtomRel (λ h m. Eqv E (sub θ h) m)) (map lift_atom hs) (map lift_atom ms)
fits-of hs ms p =
    pointwise-map lift_atom lift_atom (pointwise-mono (λ h c q. record {
      symbols = q.symbols;
      args = pointwise-map lift lift q.terms;
    }) p)

pub fits-back :
    {E : List (C.Eqn ℕ)} {θ : ℕ → Tm ℕ} (hs ms : List Constraint)
    → Pointwise (AtomRel (λ h m. Eqv E (sub θ h) m)) (map lift_atom hs) (map lift_atom ms)
    → Pointwise (ConstraintRel (λ s t. Eqv E (sub θ (lift s)) (lift t))) hs ms
fits-back hs ms p =
    pointwise-mono (λ h c q. record {
      symbols = q.symbols;
      terms = pointwise-unmap lift lift h.terms c.terms q.args;
    }) (pointwise-unmap lift_atom lift_atom hs ms p)

module _
    (ρ : ℕ → ℕ) (bs es : List Equation) (imp : Implies ρ bs es) (σ : Term → Term) (p : solve bs (λ t. t) ≡ some σ) where
  -- a number above all constants in play
  abbrev limit : ℕ
  limit = beyond (terms_of_equations es) + beyond (terms_of_equations bs)

  -- the valuation that the implication finds from the generic one
  abbrev found : ℕ → ℕ
  found = imp.change (generic limit σ) (generic-holds limit (solve-solution bs p))

  -- what a rule's variable has been found to stand for
  abbrev matching : ℕ → Tm ℕ
  matching x = read limit (found (ρ x))

  found-other : (t : Term) → Avoids ρ t → value found t ≡ value (generic limit σ) t
  unfolding value
  found-other (con c) a = refl
  found-other (var z) a = imp.elsewhere (generic limit σ) (generic-holds limit (solve-solution bs p)) z a

  -- a head's term is what its value stands for
  matching-read : (s : Term) → ConBelow limit (renamed ρ s) → sub matching (lift s) ≡ read limit (value found (renamed ρ s))
  unfolding value renamed
  matching-read (con c) h = sym (read-constant limit c h)
  matching-read (var x) h = refl

  -- and what it is equated with is equivalent to that
  matching-fits : (s t : Term) → Among es (renamed ρ s) t × Avoids ρ t → Eqv (map lift_eqn bs) (sub matching (lift s)) (lift t)
  matching-fits s t (i, a) =
      let q = solve-solution bs p in
      let equal : value found (renamed ρ s) ≡ value found t =
      hold-member (imp.equal (generic limit σ) (generic-holds limit q)) i in
      let below : ConBelow limit (renamed ρ s) = constant-below (renamed ρ s) (left-member i) (omega arith) in
      let kept : ConBelow limit (σ t) = solve-keeps (ConBelow limit) bs p (λ e j.
      (constant-below e.left (left-member j) (omega arith), constant-below e.right (right-member j) (omega arith)))
      t (constant-below t (right-member i) (omega arith)) in
      chain (eqv-path (matching-read s below ∙ ap (read limit) (equal ∙ found-other t a ∙ generic-value limit q t)
      ∙ read_above limit (σ t) kept)) (flip (q.follows t))

-- where the store implies that the heads can be made equal to the constraints, they fit
pub implies-fits :
    (r : Rule) (ρ : ℕ → ℕ) {ms : List Constraint} {bs es : List Equation} → All (ConstraintAvoids ρ) ms → Satisfiable bs
    → EquatedAll (map (map_terms (renamed ρ)) r.heads) ms es → Implies ρ bs es
    → Fits (map lift_eqn bs) (heads_of r) (map lift_atom ms)
implies-fits r ρ {ms} {bs} {es} away sat q imp =
    let (σ, p) = satisfiable-solved bs sat in
    record {
      θ = matching ρ bs es imp σ p;
      fits = fits-of r.heads ms (pointwise-mono (λ h c k. record {
        symbols = k.symbols;
        terms = pointwise-mono (matching-fits ρ bs es imp σ p) k.terms;
      }) (with-right (heads-pairs ρ r.heads q) away));
    }

-- pairs of a head's terms and a constraint's, with the head's terms renamed
pub pairs-renamed :
    {R : Term → Term → Type 0} (ρ : ℕ → ℕ) {hs ms : List Constraint}
    → Pointwise (ConstraintRel (λ s t. R (renamed ρ s) t)) hs ms
    → Pointwise (ConstraintRel R) (map (map_terms (renamed ρ)) hs) ms
unfolding map_terms
pairs-renamed ρ empty = empty
pairs-renamed {R} ρ (each r p) = each (record { symbols = r.symbols; terms = terms r.terms }) (pairs-renamed ρ p)
  where
    terms : {ss ts : List Term} → Pointwise (λ s t. R (renamed ρ s) t) ss ts → Pointwise R (map (renamed ρ) ss) ts
    terms empty = empty
    terms (each k l) = each k (terms l)

module _ (r : Rule) (ρ : ℕ → ℕ) (bs : List Equation) (θ : ℕ → Tm ℕ) (α : ℕ → ℕ) (h : Hold α bs) where
  -- the letters' values are those of what they are replaced by
  abbrev changed : ℕ → ℕ
  changed = at_letters ρ (λ x. value α (down (θ x))) α

  changed-letter :
      Separates ρ → (s : Term) → TermBelow alphabet s → value changed (renamed ρ s) ≡ value α (down (sub θ (lift s)))
  unfolding value renamed
  changed-letter apart (con c) b = refl
  changed-letter apart (var x) b = at-letter ρ (λ x. value α (down (θ x))) α x apart b

  changed-other : (t : Term) → Avoids ρ t → value changed t ≡ value α t
  unfolding value
  changed-other (con c) a = refl
  changed-other (var z) a = at_other ρ (λ x. value α (down (θ x))) α z a

  -- so a head's term and what it fits have equal values
  changed-equal :
      Separates ρ → (s t : Term) → TermBelow alphabet s → Avoids ρ t → Eqv (map lift_eqn bs) (sub θ (lift s)) (lift t)
      → value changed (renamed ρ s) ≡ value changed t
  changed-equal apart s t b a e =
      changed-letter apart s b ∙ hold-eqv h e ∙ ap (value α) (down-lift t) ∙ sym (changed-other t a)

-- where the heads fit, the store implies that they can be made equal to the constraints
pub fits-implies :
    (r : Rule) (ρ : ℕ → ℕ) {ms : List Constraint} {bs es : List Equation} → Separates ρ
    → All (ConstraintBelow alphabet) r.heads → All (ConstraintAvoids ρ) ms
    → EquatedAll (map (map_terms (renamed ρ)) r.heads) ms es → Fits (map lift_eqn bs) (heads_of r) (map lift_atom ms)
    → Implies ρ bs es
fits-implies r ρ {ms} {bs} {es} apart letters away q f = record {
  change = λ α h. changed r ρ bs f.θ α h;
  elsewhere = λ α h y n. at_other ρ (λ x. value α (down (f.θ x))) α y n;
  equal = λ α h. hold-members es (λ e i. equated-related {R = Equal α h} q (pairs-renamed ρ (pointwise-mono (λ c d k. record {
    symbols = k.symbols;
    terms = pointwise-mono (λ s t p. changed-equal r ρ bs f.θ α h apart s t p.0.1 p.1 p.0.0) k.terms;
  }) (with-right (with-left (fits-back r.heads ms f.fits) letters) away))) i);
}
  where
    Equal : (α : ℕ → ℕ) → Hold α bs → Term → Term → Type 0
    Equal α h s t = value (changed r ρ bs f.θ α h) s ≡ value (changed r ρ bs f.θ α h) t
