-- Exactness: the overlaps of a well-formed program all join exactly where any two finished derivations of a goal over it end in
-- equal states.
--   AllJoin                    all overlaps join
--   joins-confluent            then each goal has one outcome
--   overlap-ends               the ends of an overlap, by finished derivations of its goal
--   confluent-joins            where each goal whose variables count by first appearance has one outcome, all overlaps join
-- Assumes nothing.
use mathlib.Core.Bool.{true}
use mathlib.Core.Path.{◌≡◌, subst₂}
use lib.ListN.{length}
use Rattle.text.specs.Lists.{up_to}
use Rattle.semantics.specs.Terms.{Program, is_well_formed}
use Rattle.semantics.specs.Derivations.{derive}
use Rattle.semantics.specs.Strategy.{goal_state}
use Rattle.semantics.specs.Overlaps.{Overlap, second_positions, overlaps, first_end, second_end}
use Rattle.semantics.specs.Variants.{Variant}
use Rattle.semantics.specs.Verdict.{is_joinable}
use Rattle.semantics.specs.Claims.{OneOutcome, OneOutcomeByAppearance, Ends, Joins}
use Rattle.semantics.proofs.Configurations.{Member}
use Rattle.semantics.proofs.Comparison.{same_state-sound, same_state-complete}
use Rattle.semantics.proofs.VariantLaws.{variant-sym, variant-trans}
use Rattle.semantics.proofs.Reordering.{reordered-variant}
use Rattle.semantics.proofs.LateEntry.{goal-below, finished-reaches}
use Rattle.semantics.proofs.Enumeration.{Listed, overlaps-member}
use Rattle.semantics.proofs.OverlapGoals.{listed-goal, listed-appearance, first-end, second-end}
use Rattle.semantics.proofs.Runs.{side-runs}
use Rattle.semantics.proofs.Newman.{newman}
use Rattle.semantics.proofs.Firings.{counted-star, rests-normal, entered-scoped, reducing}
use Rattle.semantics.proofs.Peak.{peak-joined}

-- all overlaps of a program join
abbrev pub AllJoin : Program → Type 0
AllJoin p = (o : Overlap) → Member o (overlaps p) → is_joinable p o ≡ true

module _ (p : Program) (w : is_well_formed p ≡ true) where
  -- where all overlaps join, finished derivations of a goal end in equal states
  pub joins-confluent : AllJoin p → OneOutcome p
  joins-confluent all g goal es fs e f =
      let (t, h, rests, s) = finished-reaches p g goal es e in
      let (u, k, stops, q) = finished-reaches p g goal fs f in
      let one = (derive p g es).state in
      let two = (derive p g fs).state in
      let ends = newman (reducing p w) (peak-joined p w all) (goal_state g) t u (entered-scoped g (goal-below p g goal))
      (counted-star h) (counted-star k) (rests-normal p t rests) (rests-normal p u stops) in
      variant-trans one t two (reordered-variant s) (variant-trans t u two ends (variant-sym two u (reordered-variant q)))

  module _ (o : Overlap) (listed : Listed p o) where
    -- the two ends of an overlap, by finished derivations of its goal
    pub overlap-ends : Ends p o (first_end p o) (second_end p o)
    unfolding first_end second_end
    overlap-ends =
        let (s, fits, _) = first-end p listed in
        let (t, second, _) = second-end p listed in
        record {
          first =
              side-runs p o.goal o.first.number o.first.rule (up_to (length o.first.rule.heads)) s w
              listed.first_rule fits;
          second =
              side-runs p o.goal o.second.number o.second.rule
              (second_positions 1 (length o.first.rule.heads) (length o.second.rule.heads) o.partners) t w
              listed.second_rule second;
        }

    -- an overlap joins exactly where its ends are equal
    pub equal-joins : Variant (first_end p o).state (second_end p o).state → is_joinable p o ≡ true
    unfolding is_joinable
    equal-joins v = same_state-complete (first_end p o).state (second_end p o).state v

    pub joinable-joins : is_joinable p o ≡ true → Joins p o
    unfolding is_joinable
    joinable-joins e = record {
      one = first_end p o;
      two = second_end p o;
      ends = overlap-ends;
      equal = same_state-sound (first_end p o).state (second_end p o).state e;
    }

    -- where each goal whose variables count by first appearance has one outcome, an overlap joins
    confluent-join : OneOutcomeByAppearance p → is_joinable p o ≡ true
    confluent-join h =
        let a = overlap-ends.first in
        let b = overlap-ends.second in
        equal-joins (subst₂ Variant a.state b.state
        (h o.goal (listed-goal p w listed) (listed-appearance p listed) _ _ a.finished b.finished))

  -- where each such goal has one outcome, all overlaps join
  pub confluent-joins : OneOutcomeByAppearance p → AllJoin p
  confluent-joins h o i = confluent-join o (overlaps-member p i) h
