-- The two sides of an overlap (document 000), as configurations: where the overlap joins, they meet.
--   PartsOf                        what an overlap was made from, by its own fields
--   afterwards                     the configuration after a rule has fired on constraints of an overlap's goal
--   first-side, second-side        what the states after the sides' own firings represent
--   sides-meet                     where an overlap joins, its two sides meet
-- Assumes nothing.
use Prim.Native.Nat.{ℕ, ◌≤◌}
use mathlib.Core.Bool.{true, not}
use mathlib.Core.List.{List, map}
use mathlib.Core.Path.{◌≡◌, sym, subst, ◌∙◌}
use lib.Dec.{eqb}
use lib.ListN.{length, length-map}
use Rattle.text.specs.Lists.{every, tabled, up_to}
use Rattle.semantics.specs.Terms.{Constraint, Rule, Program, State, weight, map_terms, is_well_formed}
use Rattle.semantics.specs.Terms as T
use Rattle.semantics.specs.Strategy.{Final, normalise, goal_state}
use Rattle.semantics.specs.Overlaps.{Overlap, apart, is_one_to_one, is_pairing, second_positions, first_end, second_end}
use Rattle.semantics.specs.Variants.{Variant}
use Rattle.semantics.specs.Verdict.{is_joinable}
use Rattle.semantics.proofs.Configurations.{Config, lift_atom, fire_c, conf_of, All, Scoped, Rep}
use Rattle.semantics.proofs.Multisets.{all-member, multiset-right, multiset-of-path}
use Rattle.semantics.proofs.Letters.{program-lettered}
use Rattle.text.proofs.Bools.{and-true}
use Rattle.semantics.proofs.Comparison.{same_state-sound}
use Rattle.semantics.proofs.Normal.{normalise-reach}
use Rattle.semantics.proofs.Pairings.{leftover, alone, join-union}
use Rattle.semantics.proofs.Listings.{at-member}
use Rattle.semantics.proofs.Enumeration.{IsPairing, pairings-member, OverlapParts, Listed}
use Rattle.semantics.proofs.OverlapGoals.{second_heads, goal_term, goal_first, goal_second, goal-constraints, goal-agreed}
use Rattle.semantics.proofs.OverlapGoals.{first-stands, second-stands, overlap-scoped, first-end, second-end}
use Rattle.semantics.proofs.Newman.{Star, Joined}
use Rattle.semantics.proofs.Firings.{Fires, counted-star, entered-scoped}
use Rattle.semantics.proofs.Critical.{Meets}
use Rattle.semantics.proofs.FireOn.{fired-at, fired-on, joined_meets}

-- what an overlap was made from, by its own fields
abbrev pub PartsOf : Overlap → Type 0
PartsOf o = OverlapParts o.first o.second o.partners o

-- the configuration after a rule has fired on constraints of an overlap's goal, M, and has left L
abbrev pub afterwards : Overlap → Rule → List Constraint → List Constraint → Config
afterwards o r M L =
    fire_c r (conf_of (tabled T.var o.goal.variables) o.goal.constraints) (map lift_atom M) (map lift_atom L)

-- the strategy's end, from the state that it starts from
ends-star :
    (p : Program) (fuel : ℕ) (s : State) {end : Final} → end ≡ normalise fuel p.rules s 1
    → Star (Fires p.rules) s end.state
ends-star p fuel s e =
    subst (λ (f : Final). Star (Fires p.rules) s f.state) (sym e) (counted-star (normalise-reach p.rules fuel s 1).1)

module _ (p : Program) (w : is_well_formed p ≡ true) (o : Overlap) (listed : Listed p o) (parts : PartsOf o) where
  -- the overlap's partners are a pairing
  paired : IsPairing (length o.first.rule.heads) (length o.second.rule.heads) o.partners
  paired =
      pairings-member (length o.first.rule.heads) (length o.second.rule.heads) o.partners listed.paired

  -- its goal, entered, is scoped
  goal-scoped : Scoped o.goal.variables (tabled T.var o.goal.variables) o.goal.constraints
  unfolding goal_state
  goal-scoped = entered-scoped o.goal (overlap-scoped parts)

  -- the first rule fires on its heads, and leaves what is not joined of the second's
  pub first-side :
      Rep (first-end p listed).0
      (afterwards o o.first.rule (goal_first parts) (leftover 1 (goal_second parts) o.partners))
  unfolding goal_state
  first-side =
      fired-on
      (fired-at o.first.rule (up_to (length o.first.rule.heads)) o.goal.variables (tabled T.var o.goal.variables)
      o.goal.constraints (all-member (program-lettered p w) (at-member p.rules o.first.number listed.first_rule))
      goal-scoped (first-end p listed).1)
      (goal_first parts) (leftover 1 (goal_second parts) o.partners) (first-stands parts)
      (multiset-of-path (goal-constraints parts))

  -- the second rule fires on its own, and leaves what is not joined of the first's
  pub second-side :
      Rep (second-end p listed).0 (afterwards o o.second.rule (goal_second parts) (alone (goal_first parts) o.partners))
  unfolding goal_state is_pairing
  second-side =
      let ones = goal_first parts in
      let twos = goal_second parts in
      let ds = o.partners in
      let rename = map_terms (goal_term parts) in
      let first : length o.first.rule.heads ≡ length ones = sym (length-map o.first.rule.heads rename) in
      let second : length o.second.rule.heads ≡ length twos =
      sym (length-map (second_heads o.second) rename ∙ length-map o.second.rule.heads (map_terms apart)) in
      let once : is_one_to_one ds ≡ true = (and-true (is_one_to_one ds) (not (every (eqb 0) ds)) paired.pairs).0 in
      fired-on
      (fired-at o.second.rule (second_positions 1 (length o.first.rule.heads) (length o.second.rule.heads) ds)
      o.goal.variables (tabled T.var o.goal.variables) o.goal.constraints
      (all-member (program-lettered p w) (at-member p.rules o.second.number listed.second_rule)) goal-scoped
      (second-end p listed).1)
      twos (alone ones ds) (second-stands parts paired.long)
      (multiset-right (multiset-of-path (goal-constraints parts))
      (join-union ones twos ds (paired.long ∙ first) once (subst (λ n. All (λ d. d ≤ n) ds) second paired.within)
      (goal-agreed parts paired.long)))

  -- where the overlap joins, what the two sides fire to is joined
  sides-joined : is_joinable p o ≡ true → Joined (Fires p.rules) Variant (first-end p listed).0 (second-end p listed).0
  unfolding is_joinable
  sides-joined j = record {
    left = (first_end p o).state;
    right = (second_end p o).state;
    left_steps = ends-star p (weight p.symbols o.goal.constraints) (first-end p listed).0 (first-end p listed).2;
    right_steps = ends-star p (weight p.symbols o.goal.constraints) (second-end p listed).0 (second-end p listed).2;
    equal = same_state-sound (first_end p o).state (second_end p o).state j;
  }

  -- and the sides as configurations meet
  pub sides-meet :
      is_joinable p o ≡ true
      → Meets p.rules (afterwards o o.first.rule (goal_first parts) (leftover 1 (goal_second parts) o.partners))
      (afterwards o o.second.rule (goal_second parts) (alone (goal_first parts) o.partners))
  sides-meet j = joined_meets (program-lettered p w) first-side second-side (sides-joined j)
