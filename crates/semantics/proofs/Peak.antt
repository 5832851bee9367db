-- Local confluence: where all overlaps of a well-formed program join, whatever two firings lead a state to is joined.
--   matched-meet, made-meet      two firings on an instance of an overlap meet
--   shared-meet, apart-meet      two firings of one state, the first rule not behind the second, meet
--   peak-joined                  two firings of one state are joined
-- Assumes nothing.
use Prim.Native.Nat.{ℕ, ◌≤◌, ◌<◌}
use native.Mathlib.Omega.{arith}
use mathlib.Core.Bool.{true}
use mathlib.Core.List.{List, ◌++◌, map, map-append}
use mathlib.Core.Option.{some}
use mathlib.Core.Path.{◌≡◌, refl, sym, ap, subst, subst₂, ◌∙◌}
use lib.Dec.{eqb}
use lib.ListN.{length, get_elem?}
use Rattle.text.specs.Lists.{every}
use Rattle.semantics.specs.Terms.{Term, Constraint, Rule, Program, State, failed, live, map_terms, is_well_formed}
use Rattle.semantics.specs.Firing.{without, fire_at}
use Rattle.semantics.specs.Overlaps.{Numbered, Overlap, goal_of, unjoined_heads, is_pairing, overlaps}
use Rattle.semantics.specs.Variants.{Pointwise, SameMultiset, Variant}
use Rattle.semantics.specs.Verdict.{is_joinable}
use Rattle.semantics.proofs.Configurations.{Or, inl, inr, Member, Config, lift_atom, fire_c, conf_of, All}
use Rattle.semantics.proofs.Options.{none-some}
use Rattle.semantics.proofs.Multisets.{pointwise-length, all-member}
use Rattle.semantics.proofs.MatchLaws.{ConstraintRel, instantiate}
use Rattle.semantics.proofs.Letters.{program-lettered}
use Rattle.semantics.proofs.VariantLaws.{variant-sym}
use Rattle.semantics.proofs.Represent.{ScopedState}
use Rattle.semantics.proofs.Indices.{le-or-lt}
use Rattle.semantics.proofs.Pairings.{leftover, alone, Agreed, leftover-all, alone-all}
use Rattle.semantics.proofs.Partners.{partners_of, partners-length, partners-bound, partners-once, partners-agreed}
use Rattle.semantics.proofs.Partners.{partners-whole, partners-first, partners-second, partners-cases}
use Rattle.semantics.proofs.Listings.{at-member, member-at}
use Rattle.semantics.proofs.Enumeration.{OverlapParts, member-pairings, member-overlaps, overlaps-member}
use Rattle.semantics.proofs.OverlapGoals.{second_heads, goal_value, goal_first, goal_second, heads-instance, well_formed-heads}
use Rattle.semantics.proofs.PeakOverlaps.{value_of, merged, merged-first, merged-second, overlap-exists}
use Rattle.semantics.proofs.PeakOverlaps.{first-matched, second-matched}
use Rattle.semantics.proofs.Newman.{Joined, Joins}
use Rattle.semantics.proofs.Firings.{Fires}
use Rattle.semantics.proofs.Critical.{Meets}
use Rattle.semantics.proofs.FireOn.{FiredAt, fired-at, rep-joined}
use Rattle.semantics.proofs.Sides.{PartsOf}
use Rattle.semantics.proofs.Forks.{disjoint-meet, overlapping-meet}

-- constraints that a replacement makes others, one by one
image-instance :
    (ϑ : ℕ → Term) (l : List Constraint) {m : List Constraint} → map (map_terms (instantiate ϑ)) l ≡ m
    → Pointwise (ConstraintRel (λ s t. instantiate ϑ s ≡ t)) l m
image-instance ϑ l e =
    subst (Pointwise (ConstraintRel (λ s t. instantiate ϑ s ≡ t)) l) e (heads-instance ϑ (instantiate ϑ) (λ t. refl) l)

module _ (p : Program) (w : is_well_formed p ≡ true) (all : (o : Overlap) → Member o (overlaps p) → is_joinable p o ≡ true) where
  -- two firings meet on constraints that the heads of an overlap's rules are, under a replacement that its solution agrees with
  matched-meet :
      (o : Overlap) (parts : PartsOf o) → Member o (overlaps p) → (θ : ℕ → Term)
      → ((t : Term) → instantiate θ (parts.solution t) ≡ instantiate θ t)
      → (b : List Term) (cs M N rest : List Constraint)
      → Pointwise (ConstraintRel (λ s t. instantiate θ s ≡ t)) o.first.rule.heads M
      → Pointwise (ConstraintRel (λ s t. instantiate θ s ≡ t)) (second_heads o.second) N
      → length o.partners ≡ length o.first.rule.heads → Agreed 1 M N o.partners
      → SameMultiset ◌≡◌ cs ((M ++ leftover 1 N o.partners) ++ rest)
      → Meets p.rules
      (fire_c o.first.rule (conf_of b cs) (map lift_atom M) (map lift_atom (leftover 1 N o.partners ++ rest)))
      (fire_c o.second.rule (conf_of b cs) (map lift_atom N) (map lift_atom (alone M o.partners ++ rest)))
  matched-meet o parts i θ same b cs M N rest m n long a whole =
      let under = goal_value parts θ in
      overlapping-meet p w o parts (overlaps-member p i) (all o i) b cs M N rest under
      (image-instance under (goal_first parts) (first-matched parts θ same m n))
      (image-instance under (goal_second parts) (second-matched parts θ same m n long a)) long a whole

  -- the same, by what the overlap was made from
  made-meet :
      (i j : Numbered) (ds : List ℕ) (o : Overlap) (parts : OverlapParts i j ds o) → Member o (overlaps p) → (θ : ℕ → Term)
      → ((t : Term) → instantiate θ (parts.solution t) ≡ instantiate θ t)
      → (b : List Term) (cs M N rest : List Constraint)
      → Pointwise (ConstraintRel (λ s t. instantiate θ s ≡ t)) i.rule.heads M
      → Pointwise (ConstraintRel (λ s t. instantiate θ s ≡ t)) (second_heads j) N
      → length ds ≡ length i.rule.heads → Agreed 1 M N ds → SameMultiset ◌≡◌ cs ((M ++ leftover 1 N ds) ++ rest)
      → Meets p.rules
      (fire_c i.rule (conf_of b cs) (map lift_atom M) (map lift_atom (leftover 1 N ds ++ rest)))
      (fire_c j.rule (conf_of b cs) (map lift_atom N) (map lift_atom (alone M ds ++ rest)))
  made-meet i j ds o parts k θ same =
      matched-meet
      (record {
        first = i;
        second = j;
        partners = ds;
        goal = goal_of (map (map_terms parts.solution) (i.rule.heads ++ unjoined_heads 1 (second_heads j) ds));
      })
      (record {
        equations = parts.equations;
        solution = parts.solution;
        joined = parts.joined;
        solved = parts.solved;
        made = refl;
      })
      (subst (λ x. Member x (overlaps p)) parts.made k) θ same

  -- two firings of one state: their rules, the first not behind the second, and what they have matched
  module _
      (i j : ℕ) (r q : Rule) (ri : get_elem? p.rules i ≡ some r) (qj : get_elem? p.rules j ≡ some q) (l : i ≤ j)
      (b : List Term) (cs : List Constraint) (ps qs : List ℕ) (s t : State) (F : FiredAt r ps b cs s) (H : FiredAt q qs b cs t)
    where
      -- the partners of their positions, and what neither has matched
      abbrev shared : List ℕ
      shared = partners_of ps qs

      abbrev rest : List Constraint
      rest = without 0 (ps ++ leftover 1 qs shared) cs

      -- the configurations that they lead to
      abbrev left_side : Config
      left_side =
          fire_c r (conf_of b cs) (map lift_atom F.match.matched) (map lift_atom (leftover 1 H.match.matched shared ++ rest))

      abbrev right_side : Config
      right_side =
          fire_c q (conf_of b cs) (map lift_atom H.match.matched) (map lift_atom (alone F.match.matched shared ++ rest))

      -- they meet if constraints are shared
      shared-meet : is_pairing shared ≡ true → Meets p.rules left_side right_side
      shared-meet pairs =
          let M = F.match.matched in
          let N = H.match.matched in
          let first : Numbered = record { number = i; rule = r } in
          let second : Numbered = record { number = j; rule = q } in
          let θ = merged (value_of F.assignment) (value_of H.assignment) in
          let m = merged-first F.assignment (value_of H.assignment) (well_formed-heads p i w ri).1 F.match.heads.fits in
          let k = merged-second (value_of F.assignment) H.assignment H.match.heads.fits in
          let once = partners-once ps qs F.match.fresh in
          let long : length shared ≡ length r.heads =
          partners-length ps qs ∙ pointwise-length F.match.stand ∙ sym (pointwise-length F.match.heads.fits) in
          let short : length N ≡ length q.heads = sym (pointwise-length H.match.heads.fits) in
          let within : All (λ d. d ≤ length q.heads) shared =
          subst (λ n. All (λ d. d ≤ n) shared) (pointwise-length H.match.stand ∙ short) (partners-bound ps qs) in
          let agreed = partners-agreed cs F.match.stand H.match.stand in
          let (o, e, (parts, same)) = overlap-exists first second shared θ once within m k agreed in
          let listed = member-overlaps p i j ri qj l (member-pairings (record { long = long; within = within; pairs = pairs })) e
          in
          made-meet first second shared o parts listed θ same b cs M N rest m k long agreed
          (partners-whole cs ps qs F.match.fresh H.match.fresh F.match.stand H.match.stand)

      -- they meet if none is
      apart-meet : every (eqb 0) shared ≡ true → Meets p.rules left_side right_side
      apart-meet zeros =
          let M = F.match.matched in
          let N = H.match.matched in
          let long : length shared ≡ length M = partners-length ps qs ∙ pointwise-length F.match.stand in
          let up : (a c : List Constraint) → map lift_atom (a ++ c) ≡ map lift_atom a ++ map lift_atom c = map-append lift_atom in
          subst₂ (λ L K. Meets p.rules (fire_c r (conf_of b cs) (map lift_atom M) L) (fire_c q (conf_of b cs) (map lift_atom N) K))
          (sym (ap (λ a. map lift_atom (a ++ rest)) (leftover-all 0 N shared zeros) ∙ up N rest))
          (sym (ap (λ a. map lift_atom (a ++ rest)) (alone-all M shared zeros long) ∙ up M rest))
          (disjoint-meet r q (conf_of b cs) (map lift_atom M) (map lift_atom N) (map lift_atom rest) (at-member p.rules i ri)
          (at-member p.rules j qj) F.fits H.fits)

      -- so they are joined
      fork-joined : Joined (Fires p.rules) Variant s t
      fork-joined =
          rep-joined (program-lettered p w)
          (F.represents (leftover 1 H.match.matched shared ++ rest)
          (partners-first cs ps qs F.match.fresh H.match.fresh F.match.stand H.match.stand))
          (H.represents (alone F.match.matched shared ++ rest)
          (partners-second cs ps qs F.match.fresh H.match.fresh F.match.stand H.match.stand))
          (cases (partners-cases shared (partners-once ps qs F.match.fresh)))
        where
          cases : Or (every (eqb 0) shared ≡ true) (is_pairing shared ≡ true) → Meets p.rules left_side right_side
          cases (inl z) = apart-meet z
          cases (inr z) = shared-meet z

  -- whatever two firings lead a scoped state to is joined
  pub peak-joined : Joins ScopedState (Fires p.rules) Variant
  unfolding fire_at
  peak-joined failed t u scoped f g = none-some refl f.fires
  peak-joined (live n b cs) t u scoped f g =
      let (i, ri) = member-at f.among in
      let (j, qj) = member-at g.among in
      let letters = program-lettered p w in
      let F = fired-at f.rule f.positions n b cs (all-member letters f.among) scoped f.fires in
      let H = fired-at g.rule g.positions n b cs (all-member letters g.among) scoped g.fires in
      cases i j ri qj F H (le-or-lt i j)
    where
      turned : {t u : State} → Joined (Fires p.rules) Variant u t → Joined (Fires p.rules) Variant t u
      turned h = record {
        left = h.right;
        right = h.left;
        left_steps = h.right_steps;
        right_steps = h.left_steps;
        equal = variant-sym h.left h.right h.equal;
      }

      cases :
          (i j : ℕ) → get_elem? p.rules i ≡ some f.rule → get_elem? p.rules j ≡ some g.rule
          → FiredAt f.rule f.positions b cs t → FiredAt g.rule g.positions b cs u → Or (i ≤ j) (j < i)
          → Joined (Fires p.rules) Variant t u
      cases i j ri qj F H (inl l) = fork-joined i j f.rule g.rule ri qj l b cs f.positions g.positions t u F H
      cases i j ri qj F H (inr l) =
          turned (fork-joined j i g.rule f.rule qj ri (omega arith) b cs g.positions f.positions u t H F)
