-- Demand 3 for every well-formed program: `verdict-exact`.
-- Assumes nothing.
use mathlib.Core.Bool.{true}
use mathlib.Core.Logic.{◌⊎◌, inl, inr}
use mathlib.Core.Path.{◌≡◌, refl, sym, subst, subst₂, ◌∙◌}
use lib.ListN.{length}
use Rattle.semantics.specs.Terms.{Program, is_well_formed}
use Rattle.semantics.specs.Strategy.{Final}
use Rattle.semantics.specs.Variants.{Variant}
use Rattle.semantics.specs.Overlaps.{Overlap, overlaps, first_end, second_end}
use Rattle.semantics.specs.Order.{Earlier}
use Rattle.semantics.specs.Verdict.{Verdict, confluent, unjoined, verdict}
use Rattle.semantics.specs.Claims.{Ends, Joins, Counterexample, Demand3}
use Rattle.semantics.proofs.Options.{true-false}
use Rattle.semantics.proofs.Bound.{firings-bounded}
use Rattle.semantics.proofs.Runs.{ends-only}
use Rattle.semantics.proofs.Listings.{at-member}
use Rattle.semantics.proofs.Enumeration.{overlaps-member}
use Rattle.semantics.proofs.OverlapOrder.{overlaps-ordered, earlier-below}
use Rattle.semantics.proofs.Verdicts.{FirstUnjoined, verdict-confluent, confluent-verdict, verdict-unjoined}
use Rattle.semantics.proofs.OverlapGoals.{listed-goal, listed-appearance}
use Rattle.semantics.proofs.Exactness.{joins-confluent, confluent-joins, overlap-ends, equal-joins, joinable-joins}

module _ (p : Program) (w : is_well_formed p ≡ true) where
  -- the first overlap that does not join is a counterexample, with its ends
  counterexample : (o : Overlap) → FirstUnjoined p (overlaps p) o → Counterexample p o (first_end p o) (second_end p o)
  counterexample o f =
      let l = overlaps-member p (at-member (overlaps p) f.number f.listed) in
      record {
        overlap = (f.number, f.listed);
        ends = overlap-ends p w o l;
        differ = λ v. true-false (equal-joins p w o l v) f.unequal;
        earlier =
            λ u (k, e) h.
            joinable-joins p w u (overlaps-member p (at-member (overlaps p) k e))
            (f.earlier k u (earlier-below p k f.number o u e f.listed h) e);
        goal = listed-goal p w l;
        appearance = listed-appearance p l;
      }

  shown-counterexample : (o : Overlap) (one two : Final) → verdict p ≡ unjoined o one two → Counterexample p o one two
  shown-counterexample o one two e =
      let (f, first, second) = verdict-unjoined p e in
      subst₂ (Counterexample p o) (sym first) (sym second) (counterexample o f)

  -- a counterexample does not join: it has no other ends
  not-joined : {o : Overlap} {one two : Final} → Counterexample p o one two → Joins p o → ⊥
  not-joined c j =
      let first = ends-only j.ends.first c.ends.first in
      let second = ends-only j.ends.second c.ends.second in
      c.differ (subst₂ (λ a b. Variant a.state b.state) first second j.equal)

  -- there is one counterexample
  counterexample-only :
      {o u : Overlap} {a b c d : Final} → Counterexample p o a b → Counterexample p u c d
      → unjoined o a b ≡ unjoined u c d
  counterexample-only {o} {u} {a} {b} {c} {d} x y = go ((overlaps-ordered p).total o u x.overlap y.overlap)
    where
      same : o ≡ u → Ends p u a b → unjoined o a b ≡ unjoined u c d
      same e ends =
          let first = ends-only ends.first y.ends.first in
          let second = ends-only ends.second y.ends.second in
          λ i. unjoined (e i) (first i) (second i)

      go : (o ≡ u) ⊎ (Earlier o u ⊎ Earlier u o) → unjoined o a b ≡ unjoined u c d
      go (inl e) = same e (subst (λ v. Ends p v a b) e x.ends)
      go (inr (inl e)) = absurd (not-joined x (y.earlier o x.overlap e))
      go (inr (inr e)) = absurd (not-joined y (x.earlier u y.overlap e))

  -- and the verdict shows it
  counterexample-shown : (o : Overlap) (one two : Final) → Counterexample p o one two → verdict p ≡ unjoined o one two
  counterexample-shown o one two c = go (verdict p) refl
    where
      go : (v : Verdict) → verdict p ≡ v → verdict p ≡ unjoined o one two
      go (confluent n) e =
          let i = at-member (overlaps p) c.overlap.0 c.overlap.1 in
          absurd (not-joined c (joinable-joins p w o (overlaps-member p i) ((verdict-confluent p e).0 o i)))
      go (unjoined u a b) e = e ∙ counterexample-only (shown-counterexample u a b e) c

-- demand 3
pub verdict-exact : (p : Program) → is_well_formed p ≡ true → Demand3 p
verdict-exact p w =
    record {
      exact = (
        λ (n, e). joins-confluent p w (verdict-confluent p e).0,
        λ h. (length (overlaps p), confluent-verdict p (confluent-joins p w (λ g over _. h g over))),
      );
      enough = λ h. joins-confluent p w (confluent-joins p w h);
      counted = λ n e. (verdict-confluent p e).1;
      shown = λ o one two. (shown-counterexample p w o one two, counterexample-shown p w o one two);
      ordered = overlaps-ordered p;
      bounded = λ g es. firings-bounded p g es w;
    }
