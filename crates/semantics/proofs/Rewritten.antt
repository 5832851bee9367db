-- A program and the same program with its kept heads on both sides: `passes-rewritten`. One passes exactly when the other does,
-- with the same number of overlaps.
--   Mirrored                 whatever fires by one list of rules fires by another, with the same result up to order
--   reach-finished           what a goal reaches by firings, and where no rule fits, ends a finished derivation
--   one-outcome-mirrored     programs whose rules mirror each other have one outcome of each goal together
--   overlaps-rewritten       the overlaps are the same, their rules rewritten
--   rewritten-well-formed    a well-formed program is well-formed rewritten
-- Assumes nothing.
use Prim.Native.Nat.{ℕ, suc, ◌+◌}
use native.Mathlib.Nat.{add-zero, suc-add, add-suc}
use mathlib.Core.Bool.{true}
use mathlib.Core.List.{List, [], ◌∷◌, ◌++◌, map, map-append}
use mathlib.Core.Logic.{◌↔◌}
use mathlib.Core.Option.{Option, none, some}
use mathlib.Core.Path.{◌≡◌, refl, sym, ap, subst, subst₂, ◌∙◌}
use lib.Dec.{ltb, ltb→lt, lt→ltb}
use lib.ListN.{length, get_elem?, length-map}
use Rattle.text.specs.Lists.{every, gather, answers, onward, bind}
use Rattle.semantics.specs.Terms.{Term, Constraint, Equation, Symbol, Rule, Program, Goal, State, map_terms, kept_heads}
use Rattle.semantics.specs.Terms.{removed_heads, weight, is_goal_of, is_of_rule, is_rule_of, is_well_formed}
use Rattle.semantics.specs.Solving.{solve}
use Rattle.semantics.specs.Firing.{fire_at}
use Rattle.semantics.specs.Derivations.{Event, fire, Progress, follow, follow_all, start, derive, NoRuleFits, Finished}
use Rattle.semantics.specs.Derivations.{by_rest}
use Rattle.semantics.specs.Strategy.{goal_state}
use Rattle.semantics.specs.Runs.{arrivals}
use Rattle.semantics.specs.Variants.{Variant}
use Rattle.semantics.specs.Rewriting.{whole_body, rewritten, rewritten_all, Reordered}
use Rattle.semantics.specs.Overlaps.{pairings, join_equations, unjoined_heads, apart, goal_of, Numbered, Overlap, overlap_of}
use Rattle.semantics.specs.Overlaps.{numbered_from, overlaps_of, overlaps_among, overlaps}
use Rattle.semantics.specs.Verdict.{verdict, confluent}
use Rattle.semantics.specs.Claims.{OneOutcome, PassesAsRewritten}
use Rattle.text.proofs.Bools.{and-true}
use Rattle.semantics.proofs.Options.{none-some, true-T, T_true}
use Rattle.semantics.proofs.Bools.{none-unless}
use Rattle.semantics.proofs.Multisets.{all-mono, all_append, all_take, all_map}
use Rattle.semantics.proofs.Indices.{get_elem_map, get_elem-unmap}
use Rattle.semantics.proofs.KeptHeads.{fires-as-rewritten}
use Rattle.semantics.proofs.Letters.{every-all}
use Rattle.semantics.proofs.VariantLaws.{variant-sym, variant-trans}
use Rattle.semantics.proofs.Weights.{weight-lower}
use Rattle.semantics.proofs.Entering.{follow_all-append, arrived_at, enters-all, arrived_at-state, arrived_at-entered}
use Rattle.semantics.proofs.Normal.{Reach, arrived, fires, firing-fires}
use Rattle.semantics.proofs.Reordering.{reordered-refl, reordered-sym, reordered-trans, reordered-variant, reordered-fires}
use Rattle.semantics.proofs.LateEntry.{finished-reaches}
use Rattle.semantics.proofs.Listings.{all-every}
use Rattle.semantics.proofs.Demand3.{verdict-exact}

-- whatever fires by a rule of one list fires by the rule of the same number of another, at the same positions and with the same
-- result up to order
abbrev Mirrored : List Rule → List Rule → Type 0
Mirrored rs qs =
    (n : ℕ) (r : Rule) (ps : List ℕ) (s t : State) → get_elem? rs n ≡ some r → fire_at r ps s ≡ some t
    → (q : Rule) × (u : State) × (get_elem? qs n ≡ some q) × (fire_at q ps s ≡ some u) × Reordered t u

-- rules and the same rewritten, both ways
mirrored-forth : (rs : List Rule) → Mirrored rs (map rewritten rs)
mirrored-forth rs n r ps s t e f =
    let (u, g, o) = (fires-as-rewritten r ps s).forth t f in
    (rewritten r, u, get_elem_map rewritten rs n e, g, o)

mirrored-back : (rs : List Rule) → Mirrored (map rewritten rs) rs
mirrored-back rs n q ps s u e f =
    let (r, a, same) = get_elem-unmap rewritten rs n e in
    let (t, g, o) = (fires-as-rewritten r ps s).back u (subst (λ x. fire_at x ps s ≡ some u) (sym same) f) in
    (r, t, a, g, reordered-sym o)

-- what one list of rules reaches the other does, from a reordered state, up to order
reach-mirrored :
    {rs qs : List Rule} → Mirrored rs qs → {n : ℕ} {s s' t : State} → Reordered s s' → Reach rs n s t
    → (t' : State) × Reach qs n s' t' × Reordered t t'
reach-mirrored m {s'} o arrived = (s', arrived, o)
reach-mirrored m {s'} o (fires k r ps e f more) =
    let (qs, v, g, a) = reordered-fires r ps o _ f in
    let (q, u, i, h, b) = m k r qs s' v e g in
    let (t', rest, c) = reach-mirrored m (reordered-trans a b) more in
    (t', fires k q qs i h rest, c)

-- where no rule of one fits, none of the other does in a reordered state
rests-mirrored :
    (p q : Program) → Mirrored q.rules p.rules → {s t : State} → Reordered s t → NoRuleFits p s → NoRuleFits q t
rests-mirrored p q m {s} {t} o rest n r ps e = none-unless (fire_at r ps t) fires-not
  where
    fires-not : (u : State) → fire_at r ps t ≡ some u → ⊥
    fires-not u f =
        let (x, v, i, g, a) = m n r ps t u e f in
        let (qs, w, h, b) = reordered-fires x ps (reordered-sym o) v g in
        none-some (rest n x qs i) h

-- the events of firings one after the other
reach-events :
    (p : Program) (g : Goal) {n : ℕ} {s t : State} → Reach p.rules n s t
    → (es : List Event) × ((d : Progress) → d.state ≡ s
    → follow_all p g es d ≡ record { state = t; entered = d.entered; firings = d.firings + n })
unfolding follow_all follow
reach-events p g arrived = ([], λ d e. rw (add-zero, ← e))
reach-events p g {n} (fires {s = s} {t = t} k r ps e f more) =
    let (es, h) = reach-events p g more in (
      fire k ps ∷ es,
      λ d q.
          ap (follow_all p g es) (firing-fires p k r ps d s t q e f)
          ∙ (rw (suc-add, ← add-suc) at (h (record { state = t; entered = d.entered; firings = suc d.firings }) refl)),
    )

-- what a goal reaches by firings, and where no rule fits, ends a finished derivation
pub reach-finished :
    (p : Program) (g : Goal) {n : ℕ} (t : State) → Reach p.rules n (goal_state g) t → NoRuleFits p t
    → (es : List Event) × Finished p g (derive p g es) × ((derive p g es).state ≡ t)
unfolding derive arrivals
reach-finished p g {n} t h rest =
    let (es, f) = reach-events p g h in
    let all = arrived_at g (length g.constraints) in
    let whole : follow_all p g (arrivals g ++ es) (start g)
    ≡ record { state = t; entered = all.entered; firings = all.firings + n } =
    follow_all-append p g (arrivals g) es (start g) ∙ ap (follow_all p g es) (enters-all p g) ∙ f all (arrived_at-state g) in (
      arrivals g ++ es,
      by_rest (arrived_at-entered g _ (ap (λ d. d.entered) whole)) (subst (NoRuleFits p) (sym (ap (λ d. d.state) whole)) rest),
      ap (λ d. d.state) whole,
    )

-- where each goal has one outcome by one program, it has by a program over the same symbols whose rules mirror it
one-outcome-mirrored :
    (p q : Program) → Mirrored p.rules q.rules → Mirrored q.rules p.rules
    → ((g : Goal) → is_goal_of q g ≡ true → is_goal_of p g ≡ true) → OneOutcome p → OneOutcome q
one-outcome-mirrored p q m k over one g goal es fs e f =
    let (t, a, rest, s) = finished-reaches q g goal es e in
    let (u, b, stop, o) = finished-reaches q g goal fs f in
    let (t', c, i) = reach-mirrored k (reordered-refl (goal_state g)) a in
    let (u', d, j) = reach-mirrored k (reordered-refl (goal_state g)) b in
    let (es', x, v) = reach-finished p g t' c (rests-mirrored q p m i rest) in
    let (fs', y, w) = reach-finished p g u' d (rests-mirrored q p m j stop) in
    let same = subst₂ Variant v w (one g (over g goal) es' fs' x y) in
    let left = reordered-variant (reordered-trans s i) in
    let right = reordered-variant (reordered-trans o j) in
    variant-trans (derive q g es).state t' (derive q g fs).state left
    (variant-trans t' u' (derive q g fs).state same (variant-sym (derive q g fs).state u' right))

-- each goal has one outcome exactly when it has by the program rewritten
pub one-outcome-rewritten : (p : Program) → OneOutcome p ↔ OneOutcome (rewritten_all p)
unfolding is_goal_of
one-outcome-rewritten p = (
  one-outcome-mirrored p (rewritten_all p) (mirrored-forth p.rules) (mirrored-back p.rules) (λ g e. e),
  one-outcome-mirrored (rewritten_all p) p (mirrored-back p.rules) (mirrored-forth p.rules) (λ g e. e),
)

-- a numbered rule, and an overlap, with its rules rewritten
abbrev rewritten_rule : Numbered → Numbered
rewritten_rule i = record { number = i.number; rule = rewritten i.rule }

abbrev pub rewritten_overlap : Overlap → Overlap
rewritten_overlap o =
    record {
      first = rewritten_rule o.first;
      second = rewritten_rule o.second;
      partners = o.partners;
      goal = o.goal;
    }

-- an answer's image
abbrev image : {A B : Type 0} → (A → B) → Option A → Option B
image f none = none
image f (some a) = some (f a)

-- the overlap of a pairing is the same but for its rules
overlap-rewritten :
    (i j : Numbered) (ds : List ℕ)
    → overlap_of (rewritten_rule i) (rewritten_rule j) ds ≡ image rewritten_overlap (overlap_of i j ds)
unfolding overlap_of
overlap-rewritten i j ds = go (join_equations hs ds gs)
  where
    hs : List Constraint
    hs = i.rule.heads

    gs : List Constraint
    gs = map (map_terms apart) j.rule.heads

    made : Numbered → Numbered → (Term → Term) → Overlap
    made x y σ =
        record { first = x; second = y; partners = ds; goal = goal_of (map (map_terms σ) (hs ++ unjoined_heads 1 gs ds)) }

    go :
        (o : Option (List Equation))
        → bind o (λ es. bind (solve es (λ t. t)) (λ σ. some (made (rewritten_rule i) (rewritten_rule j) σ)))
        ≡ image rewritten_overlap (bind o (λ es. bind (solve es (λ t. t)) (λ σ. some (made i j σ))))
    go none = refl
    go (some es) = solved (solve es (λ t. t))
      where
        solved :
            (o : Option (Term → Term))
            → bind o (λ σ. some (made (rewritten_rule i) (rewritten_rule j) σ))
            ≡ image rewritten_overlap (bind o (λ σ. some (made i j σ)))
        solved none = refl
        solved (some σ) = refl

-- the answers, where each is an image
answers-image :
    {A B : Type 0} (f : B → B) (h k : A → Option B) → ((a : A) → h a ≡ image f (k a)) → (l : List A)
    → answers h l ≡ map f (answers k l)
answers-image f h k e [] = refl
answers-image {A} {B} f h k e (a ∷ l) = rw (e a, answers-image f h k e l) (go (k a))
  where
    go :
        (o : Option B)
        → onward (image f o) (map f (answers k l)) (λ y. y ∷ map f (answers k l))
        ≡ map f (onward o (answers k l) (λ y. y ∷ answers k l))
    go none = refl
    go (some b) = refl

-- the overlaps of two rules, of one with others, and of all
of-rewritten : (i j : Numbered) → overlaps_of (rewritten_rule i) (rewritten_rule j) ≡ map rewritten_overlap (overlaps_of i j)
unfolding overlaps_of
of-rewritten i j =
    answers-image rewritten_overlap (overlap_of (rewritten_rule i) (rewritten_rule j)) (overlap_of i j) (overlap-rewritten i j)
    (pairings (length i.rule.heads) (length j.rule.heads))

gather-rewritten :
    (i : Numbered) (js : List Numbered)
    → gather (overlaps_of (rewritten_rule i)) (map rewritten_rule js) ≡ map rewritten_overlap (gather (overlaps_of i) js)
gather-rewritten i [] = refl
gather-rewritten i (j ∷ js) =
    rw (of-rewritten i j, gather-rewritten i js)
    (sym (map-append rewritten_overlap (overlaps_of i j) (gather (overlaps_of i) js)))

among-rewritten : (is : List Numbered) → overlaps_among (map rewritten_rule is) ≡ map rewritten_overlap (overlaps_among is)
unfolding overlaps_among
among-rewritten [] = refl
among-rewritten (i ∷ js) =
    rw (gather-rewritten i (i ∷ js), among-rewritten js)
    (sym (map-append rewritten_overlap (gather (overlaps_of i) (i ∷ js)) (overlaps_among js)))

numbered-rewritten : (n : ℕ) (rs : List Rule) → numbered_from n (map rewritten rs) ≡ map rewritten_rule (numbered_from n rs)
unfolding numbered_from
numbered-rewritten n [] = refl
numbered-rewritten n (r ∷ rs) = ap (record { number = n; rule = rewritten r } ∷◌) (numbered-rewritten (suc n) rs)

-- the overlaps of a program rewritten are its own, their rules rewritten
pub overlaps-rewritten : (p : Program) → overlaps (rewritten_all p) ≡ map rewritten_overlap (overlaps p)
unfolding overlaps
overlaps-rewritten p = ap overlaps_among (numbered-rewritten 0 p.rules) ∙ among-rewritten (numbered_from 0 p.rules)

-- a rule over the symbols is so rewritten, and lowers the weight
rewritten-rule : (symbols : List Symbol) (r : Rule) → is_rule_of symbols r ≡ true → is_rule_of symbols (rewritten r) ≡ true
unfolding is_rule_of kept_heads removed_heads
rewritten-rule symbols r w =
    let (abc, d) = and-true _ _ w in
    let (ab, c) = and-true _ _ abc in
    let (a, b) = and-true (every (is_of_rule symbols) r.heads) (every (is_of_rule symbols) r.body) ab in
    let whole : every (is_of_rule symbols) (whole_body r) ≡ true =
    all-every (is_of_rule symbols) (all_append (all_take r.kept (every-all (is_of_rule symbols) r.heads a))
    (every-all (is_of_rule symbols) r.body b)) in
    let lower : ltb (weight symbols (whole_body r)) (weight symbols r.heads) ≡ true =
    T_true _ (lt→ltb _ _ (weight-lower symbols r (ltb→lt _ _ (true-T d)))) in
    rw (a, whole, c, lower) refl

-- a well-formed program is well-formed rewritten
pub rewritten-well-formed : (p : Program) → is_well_formed p ≡ true → is_well_formed (rewritten_all p) ≡ true
unfolding is_well_formed
rewritten-well-formed p w =
    all-every (is_rule_of p.symbols)
    (all_map rewritten (all-mono (rewritten-rule p.symbols) (every-all (is_rule_of p.symbols) p.rules w)))

-- a well-formed program passes exactly when it does rewritten, with the same number of overlaps
pub passes-rewritten : (p : Program) → is_well_formed p ≡ true → PassesAsRewritten p
passes-rewritten p w n =
    let here = verdict-exact p w in
    let there = verdict-exact (rewritten_all p) (rewritten-well-formed p w) in
    let (forth, back) = one-outcome-rewritten p in
    let count : length (overlaps (rewritten_all p)) ≡ length (overlaps p) =
    ap length (overlaps-rewritten p) ∙ length-map (overlaps p) rewritten_overlap in (
      λ e.
          let (m, f) = there.exact.1 (forth (here.exact.0 (n, e))) in
          subst (λ k. verdict (rewritten_all p) ≡ confluent k) (there.counted m f ∙ count ∙ sym (here.counted n e)) f,
      λ e.
          let (m, f) = here.exact.1 (back (there.exact.0 (n, e))) in
          subst (λ k. verdict p ≡ confluent k) (here.counted m f ∙ sym count ∙ sym (there.counted n e)) f,
    )
