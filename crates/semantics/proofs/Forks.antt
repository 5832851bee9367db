-- Forks of a state as a configuration: two firings on different constraints meet, and so do two on an instance of an overlap that
-- joins.
--   disjoint-meet         two firings on different constraints meet
--   face-terms            the terms of a goal's constraints are those of the face that lists its variables
--   overlapping-meet      two firings on an instance of an overlap that joins meet
-- Assumes nothing.
use Prim.Native.Nat.{ℕ, zero, suc, ◌<◌}
use native.Mathlib.Omega.{arith}
use mathlib.Core.Bool.{true}
use mathlib.Core.List.{List, [], ◌∷◌, ◌++◌, map, map-append}
use mathlib.Core.Path.{◌≡◌, refl, sym, ap, ap₂, subst, subst₂, ◌∙◌}
use lib.ListN.{length, get_or, length-map}
use Rattle.text.specs.Lists.{tabled}
use Rattle.semantics.specs.Terms.{Term, Constraint, Rule, Program, map_terms, is_well_formed}
use Rattle.semantics.specs.Terms as T
use Rattle.semantics.specs.Derivations.{become}
use Rattle.semantics.specs.Overlaps.{Overlap}
use Rattle.semantics.specs.Variants.{Pointwise, SameMultiset}
use Rattle.semantics.specs.Verdict.{is_joinable}
use Rattle.semantics.proofs.Configurations.{Or, Member, con, var, Atom, sub, sub_atom, old, flat, Eqv, Config, AtomRel, iso}
use Rattle.semantics.proofs.Configurations.{lift}
use Rattle.semantics.proofs.Configurations.{lift_atom, heads_of, Fits, fire_c, conf_of, TermBelow, All, also}
use Rattle.semantics.proofs.Configurations as C
use Rattle.semantics.proofs.Multisets.{pointwise-mono, pointwise-map, pointwise-length, multiset-of-path}
use Rattle.semantics.proofs.Closure.{eqv-path}
use Rattle.semantics.proofs.Commute.{commute}
use Rattle.semantics.proofs.Peaks.{peak_of}
use Rattle.semantics.proofs.MatchLaws.{ConstraintRel, instantiate}
use Rattle.semantics.proofs.MatchedTerms.{ConstraintBelow}
use Rattle.semantics.proofs.Pairings.{leftover, alone, Agreed, join-pointwise, leftover-pointwise, alone-pointwise}
use Rattle.semantics.proofs.Pairings.{leftover-map, alone-map, agreed-map}
use Rattle.semantics.proofs.Enumeration.{Listed}
use Rattle.semantics.proofs.Entering.{tabled-length, constraint-itself}
use Rattle.semantics.proofs.Reface.{entry}
use Rattle.semantics.proofs.Critical.{Meets, meets-peak, meets-around}
use Rattle.semantics.proofs.FireOn.{lift-multiset}
use Rattle.semantics.proofs.OverlapGoals.{goal_first, goal_second, goal-constraints, goal-agreed, overlap-scoped}
use Rattle.semantics.proofs.Sides.{PartsOf, sides-meet}

-- two firings on different constraints meet
pub disjoint-meet :
    {rs : List Rule} (r q : Rule) (C : Config) (M N L : List (Atom C.Var)) → Member r rs → Member q rs
    → Fits C.eqs (heads_of r) M → Fits C.eqs (heads_of q) N → Meets rs (fire_c r C M (N ++ L)) (fire_c q C N (M ++ L))
disjoint-meet r q C M N L i j f g =
    let (D, B, s, t, I) = commute C r q M N L i j f g in
    record { left = D; right = B; left_steps = s; right_steps = t; equal = iso I }

-- an entry of a face that lists terms
entry-list : (l : List Term) (x : ℕ) (d : Term) → x < length l → entry (map lift l) x ≡ lift (get_or l x d)
entry-list [] x d h = absurd (omega arith)
entry-list (t ∷ l) zero d h = refl
entry-list (t ∷ l) (suc x) d h = entry-list l x d (omega arith)

-- a term over a goal's variables, by the face that lists them, is what it has become
entry-become :
    (k : ℕ) (t : Term) → TermBelow k t → sub (entry (map lift (tabled T.var k))) (lift t) ≡ lift (become (tabled T.var k) t)
unfolding become
entry-become k (T.con c) h = refl
entry-become k (T.var x) h =
    entry-list (tabled T.var k) x (T.var x) (subst (λ n. x < n) (sym (tabled-length T.var k)) h)

-- the terms of constraints over a goal's variables are those of the face that lists them
face-terms :
    (k : ℕ) {cs : List Constraint} → All (ConstraintBelow k) cs
    → map (sub (entry (map lift (tabled T.var k)))) (flat (map lift_atom cs)) ≡ flat (map lift_atom cs)
unfolding map_terms
face-terms k C.none = refl
face-terms k (also {a = c} {l = cs} h more) =
    map-append (sub (entry (map lift (tabled T.var k)))) (map lift c.terms) (flat (map lift_atom cs))
    ∙ ap₂ ◌++◌ (terms h ∙ ap (λ (d : Constraint). map lift d.terms) (constraint-itself k c)) (face-terms k more)
  where
    terms :
        {ts : List Term} → All (TermBelow k) ts
        → map (sub (entry (map lift (tabled T.var k)))) (map lift ts) ≡ map lift (map (become (tabled T.var k)) ts)
    terms C.none = refl
    terms (also {a = t} h more) = ap₂ ◌∷◌ (entry-become k t h) (terms more)

-- constraints that a replacement makes others are atoms that it makes others
instance-atoms :
    (ϑ : ℕ → Term) {l m : List Constraint} → Pointwise (ConstraintRel (λ s t. instantiate ϑ s ≡ t)) l m
    → Pointwise (AtomRel (λ h m. Eqv [] (sub (λ x. lift (ϑ x)) h) m)) (map lift_atom l) (map lift_atom m)
instance-atoms ϑ p =
    pointwise-map lift_atom lift_atom (pointwise-mono (λ c d r. record {
      symbols = r.symbols;
      args = pointwise-map lift lift (pointwise-mono (λ s t e. eqv-path (term s ∙ ap lift e)) r.terms);
    }) p)
  where
    term : (t : Term) → sub (λ x. lift (ϑ x)) (lift t) ≡ lift (instantiate ϑ t)
    term (T.con c) = refl
    term (T.var x) = refl

-- what is left, and what is alone, of the atoms of constraints, and of these under a substitution
leftover-atoms :
    (ds : List ℕ) (l : List Constraint)
    → leftover 1 (map (sub_atom (old {Z = ℕ})) (map lift_atom l)) ds ≡ map (sub_atom old) (map lift_atom (leftover 1 l ds))
leftover-atoms ds l = leftover-map (sub_atom old) 1 (map lift_atom l) ds ∙ ap (map (sub_atom old)) (leftover-map lift_atom 1 l ds)

alone-atoms :
    (ds : List ℕ) (l : List Constraint)
    → alone (map (sub_atom (old {Z = ℕ})) (map lift_atom l)) ds ≡ map (sub_atom old) (map lift_atom (alone l ds))
alone-atoms ds l = alone-map (sub_atom old) (map lift_atom l) ds ∙ ap (map (sub_atom old)) (alone-map lift_atom l ds)

-- what relates the first constraints of two forks, and what is left of the second ones, relates the second ones, and what is
-- alone of the first ones
others-related :
    (ds : List ℕ) (M N X Y : List Constraint) → Agreed 1 M N ds → Agreed 1 X Y ds → length N ≡ length Y
    → (R : Atom ℕ → Atom (Or ℕ ℕ) → Type 0) → Pointwise R (map lift_atom M) (map (sub_atom old) (map lift_atom X))
    → Pointwise R (map lift_atom (leftover 1 N ds)) (map (sub_atom old) (map lift_atom (leftover 1 Y ds)))
    → Pointwise R (map lift_atom N) (map (sub_atom old) (map lift_atom Y))
    × Pointwise R (map lift_atom (alone M ds)) (map (sub_atom old) (map lift_atom (alone X ds)))
others-related ds M N X Y a b e R p q = (
  join-pointwise 1 (map lift_atom N) (map (sub_atom old) (map lift_atom Y)) ds p
      (subst₂ (Pointwise R) (sym (leftover-map lift_atom 1 N ds)) (sym (leftover-atoms ds Y)) q)
      (agreed-map lift_atom 1 M N ds a)
      (agreed-map (sub_atom old) 1 (map lift_atom X) (map lift_atom Y) ds (agreed-map lift_atom 1 X Y ds b)) long,
  subst₂ (Pointwise R) (alone-map lift_atom M ds) (alone-atoms ds X) (alone-pointwise ds p),
)
  where
    long : length (map lift_atom N) ≡ length (map (sub_atom (old {Z = ℕ})) (map lift_atom Y))
    long = length-map N lift_atom ∙ e ∙ sym (length-map (map lift_atom Y) (sub_atom old) ∙ length-map Y lift_atom)

-- two firings meet on constraints that are an instance of an overlap that joins: under a replacement of the goal's variables, the
-- heads of the two rules in its goal are what is matched
pub overlapping-meet :
    (p : Program) → is_well_formed p ≡ true → (o : Overlap) (parts : PartsOf o) → Listed p o → is_joinable p o ≡ true
    → (b : List Term) (cs M N rest : List Constraint) (under : ℕ → Term)
    → Pointwise (ConstraintRel (λ s t. instantiate under s ≡ t)) (goal_first parts) M
    → Pointwise (ConstraintRel (λ s t. instantiate under s ≡ t)) (goal_second parts) N
    → length o.partners ≡ length o.first.rule.heads → Agreed 1 M N o.partners
    → SameMultiset ◌≡◌ cs ((M ++ leftover 1 N o.partners) ++ rest)
    → Meets p.rules
    (fire_c o.first.rule (conf_of b cs) (map lift_atom M) (map lift_atom (leftover 1 N o.partners ++ rest)))
    (fire_c o.second.rule (conf_of b cs) (map lift_atom N) (map lift_atom (alone M o.partners ++ rest)))
overlapping-meet p w o parts listed joins b cs M N rest under first second long a whole =
    meets-around r q (map lift_atom X) (map lift_atom U) (map lift_atom Y) (map lift_atom (alone X ds)) (conf_of b cs)
    (map lift_atom M) (map lift_atom W) (map lift_atom N) (map lift_atom (alone M ds)) (map lift_atom rest)
    (map lift_atom (W ++ rest)) (map lift_atom (alone M ds ++ rest)) (λ x. lift (under x))
    (instance-atoms under first) (instance-atoms under (leftover-pointwise 1 ds second))
    (subst (SameMultiset ◌≡◌ (map lift_atom cs))
    (map-append lift_atom (M ++ W) rest ∙ ap (◌++ map lift_atom rest) (map-append lift_atom M W)) (lift-multiset whole))
    (multiset-of-path (map-append lift_atom W rest)) (multiset-of-path (map-append lift_atom (alone M ds) rest))
    (λ R. others-related ds M N X Y a (goal-agreed parts long) (sym (pointwise-length second)) (AtomRel R))
    (subst (λ S. Meets p.rules (fire_c r (peak_of S []) (map lift_atom X) (map lift_atom U))
    (fire_c q (peak_of S []) (map lift_atom Y) (map lift_atom (alone X ds))))
    (ap (map lift_atom) (goal-constraints parts) ∙ map-append lift_atom X U)
    (meets-peak r q (map lift (tabled T.var o.goal.variables)) (map lift_atom o.goal.constraints) (map lift_atom X)
    (map lift_atom U) (map lift_atom Y) (map lift_atom (alone X ds)) (face-terms o.goal.variables (overlap-scoped parts))
    (sides-meet p w o listed parts joins)))
  where
    r : Rule
    r = o.first.rule

    q : Rule
    q = o.second.rule

    ds : List ℕ
    ds = o.partners

    X : List Constraint
    X = goal_first parts

    Y : List Constraint
    Y = goal_second parts

    U : List Constraint
    U = leftover 1 Y ds

    W : List Constraint
    W = leftover 1 N ds
