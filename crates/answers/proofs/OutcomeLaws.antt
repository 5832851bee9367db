-- The claims of demand 3 as a contract has them say what those of crate semantics say.
--   equal-variant, variant-equal     equal states
--   outcome-claim                    each goal has one outcome
--   appearance-claim                 so does each goal by first appearance
--   joins-claim                      an overlap joins
--   counterexample-claim             the earliest overlap that does not join
-- Assumes nothing.
use Prim.Native.Nat.{ℕ}
use mathlib.Core.Bool.{true}
use mathlib.Core.List.{List, []}
use mathlib.Core.Logic.{◌↔◌}
use mathlib.Core.Path.{◌≡◌, refl}
use Rattle.semantics.specs.Terms.{Constraint, Program, State, failed, live}
use Rattle.semantics.specs.Derivations.{derive}
use Rattle.semantics.specs.Strategy.{Final}
use Rattle.semantics.specs.Variants.{OneToOne, ConstraintVariant, SameMultiset, done, put, Variant}
use Rattle.semantics.specs.Variants.{Pair, are_partners}
use Rattle.semantics.specs.Overlaps.{Overlap}
use Rattle.semantics.specs.Claims as claims
use Rattle.semantics.proofs.Options.{true-false}
use Rattle.semantics.proofs.Pairs.{Paired, Inside, Grown, grown-same, grown-chain, terms-inside, constraint-inside}
use Rattle.semantics.proofs.Pairs.{pair_terms-sound, pair_constraint-sound, pair_terms-complete, pair_constraint-complete}
use Rattle.answers.specs.Outcomes.{EqualStates, OneOutcome, OneOutcomeByAppearance, Joins, Counterexample}

-- equal states are variants
pub equal-variant : (s t : State) → EqualStates s t → Variant s t
equal-variant failed failed e = tt
equal-variant failed (live n c ds) e = absurd e
equal-variant (live m b cs) failed e = absurd e
equal-variant (live m b cs) (live n c ds) (ρ, one, bound, constraints) = (λ x y. ρ x y ≡ true, one, bound, constraints)

-- constraints that a renaming makes equal are made so by finitely many of its pairs
paired-constraints :
    (ρ : ℕ → ℕ → Type 0) → OneToOne ρ → (ps : List Pair) → Inside (Paired ps) ρ → {cs ds : List Constraint}
    → SameMultiset (ConstraintVariant ρ) cs ds
    → (qs : List Pair) × Grown ps qs × Inside (Paired qs) ρ × SameMultiset (ConstraintVariant (Paired qs)) cs ds
paired-constraints ρ o ps i done = (ps, grown-same ps, i, done)
paired-constraints ρ o ps i (put {a = c} {b = d} r j s) =
    let (qs, e, k) = pair_constraint-complete ρ o c d ps i r in
    let (grown, same) = pair_constraint-sound c d ps qs e in
    let (rs, more, l, rest) = paired-constraints ρ o qs k s in
    (rs, grown-chain grown more, l, put (constraint-inside more.holds same) j rest)

-- and variants are equal
pub variant-equal : (s t : State) → Variant s t → EqualStates s t
unfolding are_partners
variant-equal failed failed v = tt
variant-equal failed (live n c ds) v = absurd v.lower
variant-equal (live m b cs) failed v = absurd v.lower
variant-equal (live m b cs) (live n c ds) (ρ, one, bound, constraints) =
    let (ps, e, i) = pair_terms-complete ρ one b c [] (λ x y h. true-false h refl) bound in
    let (grown, terms) = pair_terms-sound b c [] ps e in
    let (qs, more, k, rest) = paired-constraints ρ one ps i constraints in (
      λ x y. are_partners x y qs,
      (λ x y z p q. one.0 x y z (k x y p) (k x z q), λ x y z p q. one.1 x y z (k x z p) (k y z q)),
      terms-inside more.holds terms,
      rest,
    )

-- each goal has one outcome
pub outcome-claim : (p : Program) → OneOutcome p ↔ claims.OneOutcome p
outcome-claim p = (
  λ h g is es fs a b. equal-variant (derive p g es).state (derive p g fs).state (h g is es fs a b),
  λ h g is es fs a b. variant-equal (derive p g es).state (derive p g fs).state (h g is es fs a b),
)

pub appearance-claim : (p : Program) → OneOutcomeByAppearance p ↔ claims.OneOutcomeByAppearance p
appearance-claim p = (
  λ h g is by es fs a b. equal-variant (derive p g es).state (derive p g fs).state (h g is by es fs a b),
  λ h g is by es fs a b. variant-equal (derive p g es).state (derive p g fs).state (h g is by es fs a b),
)

-- an overlap that joins, and one that does not
pub joins-claim : (p : Program) (o : Overlap) → Joins p o ↔ claims.Joins p o
joins-claim p o = (
  λ j. record { one = j.one; two = j.two; ends = j.ends; equal = equal-variant j.one.state j.two.state j.equal },
  λ j. record { one = j.one; two = j.two; ends = j.ends; equal = variant-equal j.one.state j.two.state j.equal },
)

pub counterexample-claim : (p : Program) (o : Overlap) (one two : Final)
    → Counterexample p o one two ↔ claims.Counterexample p o one two
counterexample-claim p o one two = (
  λ c. record {
    overlap = c.overlap;
    ends = c.ends;
    differ = λ e. c.differ (variant-equal one.state two.state e);
    earlier = λ u i e. (joins-claim p u).0 (c.earlier u i e);
    goal = c.goal;
    appearance = c.appearance;
  },
  λ c. record {
    overlap = c.overlap;
    ends = c.ends;
    differ = λ e. c.differ (equal-variant one.state two.state e);
    earlier = λ u i e. (joins-claim p u).1 (c.earlier u i e);
    goal = c.goal;
    appearance = c.appearance;
  },
)
