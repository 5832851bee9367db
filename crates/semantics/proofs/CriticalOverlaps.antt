-- The overlaps of a program are the critical pairs of its rules (document 000, definition 3.4), one to one.
--   joinings-are-pairings            which heads are equated with which, as it is enumerated
--   critical-overlap                 a critical pair has an overlap
--   overlaps-are-critical-pairs      the claim, of every well-formed program
-- Assumes nothing.
use Prim.Native.Nat.{ℕ, ◌+◌, ◌≤◌}
use mathlib.Core.Bool.{true}
use mathlib.Core.List.{List, ◌++◌, map}
use mathlib.Core.Option.{some}
use mathlib.Core.Path.{◌≡◌, sym, ap, subst, subst₂, ◌∙◌}
use native.Mathlib.Omega.{arith}
use lib.ListN.{length, get_elem?, length-map}
use Rattle.semantics.specs.Terms.{Rule, Program, map_terms, is_well_formed}
use Rattle.semantics.specs.Overlaps.{pairings, apart, join_equations, unjoined_heads, goal_of, Numbered, Overlap, overlap_of}
use Rattle.semantics.specs.Overlaps.{overlaps}
use Rattle.semantics.specs.CriticalPairs.{Joint, lefts, rights, Joining, joints_of, partners_of, picked, CriticalPair}
use Rattle.semantics.specs.CriticalPairs.{shifted_heads, pair_of, Critical, critical}
use Rattle.semantics.specs.Published.{EquatedAll}
use Rattle.semantics.specs.Correspondence.{JoiningsArePairings, OverlapsAreCriticalPairs}
use Rattle.semantics.specs.Rewriting.{rewritten}
use Rattle.semantics.proofs.Configurations.{All}
use Rattle.semantics.proofs.Options.{none-some}
use Rattle.semantics.proofs.Precedence.{before-irreflexive}
use Rattle.semantics.proofs.Listings.{at-member, member-at, ascending-once}
use Rattle.semantics.proofs.Enumeration.{IsPairing, member-pairings, pairings-member, pairings-ascend, OverlapParts}
use Rattle.semantics.proofs.Enumeration.{overlap-parts, Listed, member-overlaps, overlaps-member}
use Rattle.semantics.proofs.EnumerationOrder.{overlaps-ascend}
use Rattle.semantics.proofs.OverlapOrder.{same-rule, same-overlap, earlier-irreflexive}
use Rattle.semantics.proofs.Valuations.{satisfiable-solved}
use Rattle.semantics.proofs.Joinings.{joints-partners, partners-joints, joining-pairing, pairing-joining}
use Rattle.semantics.proofs.ChosenHeads.{equated-join, shifted-heads}
use Rattle.semantics.proofs.OverlapSides.{overlap-critical, overlap-sides}

-- from a joining to its partners and back, and the other way round
back-joints : (m n : ℕ) (js : List Joint) → Joining m n js → joints_of (partners_of m js) ≡ js
unfolding joints_of partners_of
back-joints m n js c = joints-partners m n 0 m (omega arith) c.joints

back-partners : (m n : ℕ) (ds : List ℕ) → IsPairing m n ds → partners_of m (joints_of ds) ≡ ds
unfolding joints_of partners_of
back-partners m n ds h = subst (λ k. partners_of k (joints_of ds) ≡ ds) h.long (partners-joints 0 ds)

-- the joinings are the pairings
pub joinings-are-pairings : (m n : ℕ) → JoiningsArePairings m n
joinings-are-pairings m n = record {
  enumerated = λ js c. member-at (member-pairings (joining-pairing m n js c));
  joining = λ i ds e. pairing-joining m n ds (listed i ds e);
  back = back-joints m n;
  forth = λ i ds e. back-partners m n ds (listed i ds e);
  once = λ i k ds e f. ascending-once (λ a b. before-irreflexive b) (pairings-ascend m n) i k e f;
}
  where
    listed : (i : ℕ) (ds : List ℕ) → get_elem? (pairings m n) i ≡ some ds → IsPairing m n ds
    listed i ds e = pairings-member m n ds (at-member (pairings m n) i e)

-- a critical pair has an overlap, by the partners of its joining
pub critical-overlap :
    (i j : Numbered) {js : List Joint} {c : CriticalPair} → Critical (rewritten i.rule) (rewritten j.rule) js c
    → (o : Overlap) × (overlap_of i j (partners_of (length i.rule.heads) js) ≡ some o)
unfolding overlap_of joints_of partners_of shifted_heads
critical-overlap i j {js} (critical {es} joining equated sat) =
    let m = length i.rule.heads in
    let n = length j.rule.heads in
    let ds = partners_of m js in
    let hs = i.rule.heads in
    let gs = map (map_terms apart) j.rule.heads in
    let paired = joining-pairing m n js joining in
    let here : EquatedAll (picked hs (lefts (joints_of ds))) (picked gs (rights (joints_of ds))) es =
    subst₂ (λ k g. EquatedAll (picked hs (lefts k)) (picked g (rights k)) es) (sym (back-joints m n js joining))
    (sym (shifted-heads j.rule)) equated in
    let joins : join_equations hs ds gs ≡ some es =
    equated-join hs 0 hs gs (λ k. ap (get_elem? hs) (let z : 0 + k ≡ k = omega arith in z)) paired.long
    (subst (λ k. All (λ d. d ≤ k) ds) (sym (length-map j.rule.heads (map_terms apart))) paired.within) here in
    let (σ, solved) = satisfiable-solved es sat in (
      record { first = i; second = j; partners = ds; goal = goal_of (map (map_terms σ) (hs ++ unjoined_heads 1 gs ds)) },
      rw (joins, solved),
    )

-- it is of a joining
critical-joining :
    {r q : Rule} {js : List Joint} {c : CriticalPair} → Critical r q js c → Joining (length r.heads) (length q.heads) js
critical-joining (critical joining equated sat) = joining

-- overlaps of the same rules and joints have the same partners
same-partners :
    (p : Program) (o u : Overlap) → Listed p o → Listed p u → o.first.number ≡ u.first.number
    → joints_of o.partners ≡ joints_of u.partners → o.partners ≡ u.partners
same-partners p o u l k a c =
    let one = same-rule p o.first u.first l.first_rule k.first_rule a in
    sym (back-partners (length o.first.rule.heads) (length o.second.rule.heads) o.partners
    (pairings-member (length o.first.rule.heads) (length o.second.rule.heads) o.partners l.paired))
    ∙ (λ i. partners_of (length (one i).rule.heads) (c i))
    ∙ back-partners (length u.first.rule.heads) (length u.second.rule.heads) u.partners
    (pairings-member (length u.first.rule.heads) (length u.second.rule.heads) u.partners k.paired)

-- the overlaps of a well-formed program are the critical pairs of its rules
pub overlaps-are-critical-pairs : (p : Program) → is_well_formed p ≡ true → OverlapsAreCriticalPairs p
overlaps-are-critical-pairs p w = record {
  enumerated = enumerated;
  ordered = λ n o e. let l = listed n o e in (l.first_rule, l.second_rule, l.ordered);
  critical = λ n o e.
      let l = listed n o e in (
        pair_of (rewritten o.first.rule) (rewritten o.second.rule) (joints_of o.partners) (parts-of o l).equations,
        overlap-critical (paired-of o l) (parts-of o l),
        overlap-sides p w o l,
      );
  refused = λ i j n ds c at e k.
      let m = length i.rule.heads in
      let l = length j.rule.heads in
      let back = back-partners m l ds (pairings-member m l ds (at-member (pairings m l) n at)) in
      let (o, h) = critical-overlap i j k in
      none-some e (subst (λ x. overlap_of i j x ≡ some o) back h);
  once = λ m n o u e f a b c.
      let l = listed m o e in
      let k = listed n u f in
      ascending-once earlier-irreflexive (overlaps-ascend p) m n e
      (f ∙ ap some (sym (same-overlap p o u l k a b (same-partners p o u l k a c))));
}
  where
    listed : (n : ℕ) (o : Overlap) → get_elem? (overlaps p) n ≡ some o → Listed p o
    listed n o e = overlaps-member p (at-member (overlaps p) n e)

    parts-of : (o : Overlap) → Listed p o → OverlapParts o.first o.second o.partners o
    parts-of o l = overlap-parts o.first o.second o.partners l.made

    paired-of :
        (o : Overlap) → Listed p o → IsPairing (length o.first.rule.heads) (length o.second.rule.heads) o.partners
    paired-of o l =
        pairings-member (length o.first.rule.heads) (length o.second.rule.heads) o.partners l.paired

    enumerated :
        (i j : ℕ) (r q : Rule) (js : List Joint) (c : CriticalPair) → get_elem? p.rules i ≡ some r
        → get_elem? p.rules j ≡ some q → i ≤ j → Critical (rewritten r) (rewritten q) js c
        → (n : ℕ) × (o : Overlap) × (get_elem? (overlaps p) n ≡ some o) × (o.first.number ≡ i) × (o.second.number ≡ j)
        × (joints_of o.partners ≡ js)
    enumerated i j r q js c f g h k =
        let one : Numbered = record { number = i; rule = r } in
        let two : Numbered = record { number = j; rule = q } in
        let m = length r.heads in
        let n = length q.heads in
        let ds = partners_of m js in
        let (o, e) = critical-overlap one two k in
        let made = (overlap-parts one two ds e).made in
        let listed = member-pairings (joining-pairing m n js (critical-joining k)) in
        let (x, at) = member-at (member-overlaps p i j f g h listed e) in (
          x,
          o,
          at,
          ap (λ (x : Overlap). x.first.number) made,
          ap (λ (x : Overlap). x.second.number) made,
          ap (λ (x : Overlap). joints_of x.partners) made ∙ back-joints m n js (critical-joining k),
        )
