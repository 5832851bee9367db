-- Two rules that fit and share a constraint have an overlap (document 000), of whose goal the constraints that they match are an
-- instance.
--   merged, merged-first, merged-second    one replacement for the variables of both rules
--   holds-solves, solution-instance        equations that hold under a replacement have a solution, which it does not see
--   overlap-exists                         joined heads that a replacement makes equal have an overlap
--   goal-matched, first-, second-matched   its goal, and each side of it, is what is matched, under the replacement
-- Assumes nothing.
use Prim.Native.Nat.{ℕ, suc, ◌+◌, ◌-◌, ◌≤◌}
use native.Mathlib.Omega.{arith}
use mathlib.Core.Bool.{true, cond}
use mathlib.Core.List.{List, [], ◌∷◌, ◌++◌, map, map-append}
use mathlib.Core.Option.{Option, none, some}
use mathlib.Core.Path.{◌≡◌, refl, sym, ap, subst, ◌∙◌}
use lib.Dec.{ltb}
use lib.ListN.{length, length-map}
use Rattle.text.specs.Lists.{onward}
use Rattle.semantics.specs.Terms.{Term, con, var, Constraint, Equation, map_terms, alphabet}
use Rattle.semantics.specs.Matching.{Assignment}
use Rattle.semantics.specs.Solving.{solve}
use Rattle.semantics.specs.Overlaps.{is_one_to_one, apart, unjoined_heads, goal_of, Numbered, Overlap, overlap_of}
use Rattle.semantics.specs.Variants.{Pointwise, empty, each}
use Rattle.semantics.proofs.Configurations.{Member, All, also, TermBelow, Tm, Eqn, Eqv, sub, lift, lift_eqn}
use Rattle.semantics.proofs.Configurations as C
use Rattle.semantics.proofs.Closure.{eqv-path, eqv-nil, eqv-sub}
use Rattle.semantics.proofs.Lifting.{down, down-lift}
use Rattle.semantics.proofs.Multisets.{member-unmap, pointwise-mono, pointwise-length}
use Rattle.semantics.proofs.SolveLaws.{Solution, solve-solution, solve-clash}
use Rattle.semantics.proofs.MatchLaws.{TermFits, ConstraintRel, instantiate}
use Rattle.semantics.proofs.Indices.{leb-true, leb-false}
use Rattle.semantics.proofs.Pairings.{leftover, Agreed, join-pointwise, leftover-map, unjoined-leftover}
use Rattle.semantics.proofs.Enumeration.{OverlapParts}
use Rattle.semantics.proofs.Appearing.{goal-instance}
use Rattle.semantics.proofs.JoinLaws.{Holds, join-complete, agreed-joined}
use Rattle.semantics.proofs.OverlapGoals.{second_heads, goal_term, goal_value, goal_first, goal_second, goal-constraints}
use Rattle.semantics.proofs.OverlapGoals.{goal-agreed, map_terms-twice}

-- what an assignment replaces a variable by; what it leaves open is a constant
abbrev pub value_of : Assignment → ℕ → Term
value_of θ x = onward (θ x) (con 0) (λ t. t)

-- one replacement for two rules' variables: letters are the first rule's, and those behind them the second's, renamed apart
abbrev pub merged : (ℕ → Term) → (ℕ → Term) → ℕ → Term
merged α β x = cond (ltb x alphabet) (α x) (β (x - alphabet))

-- what fits under an assignment is an instance
fits-value : (θ : Assignment) (s t : Term) → TermFits θ s t → instantiate (value_of θ) s ≡ t
fits-value θ (con c) t e = e
fits-value θ (var x) t e = rw e

-- on a term over letters it is the first, on one renamed apart the second
merged-letter : (α β : ℕ → Term) (t : Term) → TermBelow alphabet t → instantiate (merged α β) t ≡ instantiate α t
merged-letter α β (con c) h = refl
merged-letter α β (var x) h = rw (leb-true (suc x) alphabet h)

merged-apart : (α β : ℕ → Term) (t : Term) → instantiate (merged α β) (apart t) ≡ instantiate β t
unfolding apart
merged-apart α β (con c) = refl
merged-apart α β (var x) =
    let z : (alphabet + x) - alphabet ≡ x = omega arith in
    rw (leb-false (suc (alphabet + x)) alphabet (omega arith)) (ap β z)

-- the heads of the first rule are what they match
pub merged-first :
    (θ : Assignment) (β : ℕ → Term) {hs M : List Constraint} → All (λ c. All (TermBelow alphabet) c.terms) hs
    → Pointwise (ConstraintRel (TermFits θ)) hs M
    → Pointwise (ConstraintRel (λ s t. instantiate (merged (value_of θ) β) s ≡ t)) hs M
merged-first θ β C.none empty = empty
merged-first θ β (also a as') (each r rs) =
    each (record { symbols = r.symbols; terms = terms a r.terms }) (merged-first θ β as' rs)
  where
    terms :
        {ss ts : List Term} → All (TermBelow alphabet) ss → Pointwise (TermFits θ) ss ts
        → Pointwise (λ s t. instantiate (merged (value_of θ) β) s ≡ t) ss ts
    terms C.none empty = empty
    terms (also b bs) (each {a = s} {b = t} q qs) = each (merged-letter (value_of θ) β s b ∙ fits-value θ s t q) (terms bs qs)

-- the heads of the second rule, renamed apart, are what they match
pub merged-second :
    (α : ℕ → Term) (θ : Assignment) {hs M : List Constraint} → Pointwise (ConstraintRel (TermFits θ)) hs M
    → Pointwise (ConstraintRel (λ s t. instantiate (merged α (value_of θ)) s ≡ t)) (map (map_terms apart) hs) M
unfolding map_terms
merged-second α θ empty = empty
merged-second α θ (each r rs) =
    each (record { symbols = r.symbols; terms = terms r.terms }) (merged-second α θ rs)
  where
    terms :
        {ss ts : List Term} → Pointwise (TermFits θ) ss ts
        → Pointwise (λ s t. instantiate (merged α (value_of θ)) s ≡ t) (map apart ss) ts
    terms empty = empty
    terms (each {a = s} {b = t} q qs) = each (merged-apart α (value_of θ) s ∙ fits-value θ s t q) (terms qs)

-- a replacement, lifted
pub lift-instance : (θ : ℕ → Term) (t : Term) → sub (λ x. lift (θ x)) (lift t) ≡ lift (instantiate θ t)
lift-instance θ (con c) = refl
lift-instance θ (var x) = refl

-- what is equivalent under equations that hold under a replacement is equal under it
holds-equal :
    (θ : ℕ → Term) (es : List Equation) → Holds (instantiate θ) es → {s t : Tm ℕ} → Eqv (map lift_eqn es) s t
    → sub (λ x. lift (θ x)) s ≡ sub (λ x. lift (θ x)) t
holds-equal θ es h v = eqv-nil (eqv-sub (λ x. lift (θ x)) (λ e m. eqv-path (side (member-unmap lift_eqn es m))) v)
  where
    side : {e : Eqn ℕ} → (e' : Equation) × Member e' es × (e ≡ lift_eqn e')
        → sub (λ x. lift (θ x)) e.left ≡ sub (λ x. lift (θ x)) e.right
    side {e} (e', m, p) =
        ap (λ f. sub (λ x. lift (θ x)) f.left) p ∙ lift-instance θ e'.left ∙ ap lift (h e' m)
        ∙ sym (lift-instance θ e'.right) ∙ sym (ap (λ f. sub (λ x. lift (θ x)) f.right) p)

-- so they have a solution
pub holds-solves :
    (θ : ℕ → Term) (es : List Equation) → Holds (instantiate θ) es
    → (σ : Term → Term) × (solve es (λ t. t) ≡ some σ)
holds-solves θ es h = go (solve es (λ t. t)) refl
  where
    clash : (a b : ℕ) → ◌≡◌ {A = Tm ℕ} (C.con a) (C.con b) → (a ≡ b → ⊥) → ⊥
    clash a b e d = d (cc)

    go : (x : Option (Term → Term)) → solve es (λ t. t) ≡ x → (σ : Term → Term) × (solve es (λ t. t) ≡ some σ)
    go none e = let (a, b, d, v) = solve-clash es e in absurd (clash a b (holds-equal θ es h v) d)
    go (some σ) e = (σ, e)

-- and the replacement does not see the solution: a term and what it becomes are equal under it
pub solution-instance :
    (θ : ℕ → Term) (es : List Equation) {σ : Term → Term} → Holds (instantiate θ) es → Solution es σ
    → (t : Term) → instantiate θ (σ t) ≡ instantiate θ t
solution-instance θ es {σ} h q t =
    sym (down-lift (instantiate θ (σ t)))
    ∙ ap down (sym (lift-instance θ (σ t)) ∙ sym (holds-equal θ es h (q.follows t)) ∙ lift-instance θ t)
    ∙ down-lift (instantiate θ t)

-- heads that a replacement makes what is matched have an overlap where what is joined is equal
pub overlap-exists :
    (i j : Numbered) (ds : List ℕ) (θ : ℕ → Term) {M N : List Constraint} → is_one_to_one ds ≡ true
    → All (λ d. d ≤ length j.rule.heads) ds
    → Pointwise (ConstraintRel (λ s t. instantiate θ s ≡ t)) i.rule.heads M
    → Pointwise (ConstraintRel (λ s t. instantiate θ s ≡ t)) (second_heads j) N → Agreed 1 M N ds
    → (o : Overlap) × (overlap_of i j ds ≡ some o)
    × ((parts : OverlapParts i j ds o) × ((t : Term) → instantiate θ (parts.solution t) ≡ instantiate θ t))
unfolding overlap_of
overlap-exists i j ds θ u b p q a =
    let hs = i.rule.heads in
    let gs = second_heads j in
    let bound = subst (λ n. All (λ d. d ≤ n) ds) (sym (length-map j.rule.heads (map_terms apart))) b in
    let (es, e, h) = join-complete (instantiate θ) hs ds gs (agreed-joined (instantiate θ) ds u bound p q a) in
    let (σ, s) = holds-solves θ es h in (
      record { first = i; second = j; partners = ds; goal = goal_of (map (map_terms σ) (hs ++ unjoined_heads 1 gs ds)) },
      rw (e, s),
      (
        record { equations = es; solution = σ; joined = e; solved = s; made = refl },
        solution-instance θ es h (solve-solution es s),
      ),
    )

-- an image, element by element
image-pointwise : {A B : Type 0} (f : A → B) (l : List A) {m : List B} → map f l ≡ m → Pointwise (λ a b. f a ≡ b) l m
image-pointwise {A} {B} f l e = subst (Pointwise (λ a b. f a ≡ b) l) e (own l)
  where
    own : (l : List A) → Pointwise (λ a b. f a ≡ b) l (map f l)
    own [] = empty
    own (x ∷ l) = each refl (own l)

pointwise-image : {A B : Type 0} (f : A → B) {l : List A} {m : List B} → Pointwise (λ a b. f a ≡ b) l m → map f l ≡ m
pointwise-image f empty = refl
pointwise-image f (each e es) = λ i. e i ∷ pointwise-image f es i

-- constraints that a function on terms makes others
pub instance-image :
    (f : Term → Term) {hs M : List Constraint} → Pointwise (ConstraintRel (λ s t. f s ≡ t)) hs M → map (map_terms f) hs ≡ M
unfolding map_terms
instance-image f p = pointwise-image (map_terms f) (pointwise-mono one p)
  where
    one : (h c : Constraint) → ConstraintRel (λ s t. f s ≡ t) h c → map_terms f h ≡ c
    one h c r = λ i. record { symbol = r.symbols i; terms = pointwise-image f r.terms i }

-- equal lists have equal parts, where the first ones are as long
parts-equal :
    {A : Type 0} (a c : List A) {b d : List A} → length a ≡ length c → a ++ b ≡ c ++ d → (a ≡ c) × (b ≡ d)
parts-equal [] [] l e = (refl, e)
parts-equal [] (x ∷ c) l e = absurd (omega arith)
parts-equal (x ∷ a) [] l e = absurd (omega arith)
parts-equal {A} (x ∷ a) (y ∷ c) {b} {d} l e =
    let front : x ≡ y = cc in
    let behind : a ++ b ≡ c ++ d = cc in
    let (p, q) = parts-equal a c (omega arith) behind in
    ((λ i. front i ∷ p i), q)

-- an overlap of rules whose heads a replacement makes what is matched, joined elements being equal
module _
    {i j : Numbered} {ds : List ℕ} {o : Overlap} (parts : OverlapParts i j ds o) (θ : ℕ → Term)
    (same : (t : Term) → instantiate θ (parts.solution t) ≡ instantiate θ t) {M N : List Constraint}
    (p : Pointwise (ConstraintRel (λ s t. instantiate θ s ≡ t)) i.rule.heads M)
    (q : Pointwise (ConstraintRel (λ s t. instantiate θ s ≡ t)) (second_heads j) N)
  where
    -- the goal is what is matched, with each of its variables replaced by what it stands for
    pub goal-matched :
        map (map_terms (instantiate (goal_value parts θ))) o.goal.constraints ≡ M ++ leftover 1 N ds
    goal-matched =
        let hs = i.rule.heads in
        let gs = second_heads j in
        let σ = parts.solution in
        let rest = unjoined_heads 1 gs ds in
        ap (λ x. map (map_terms (instantiate (goal_value parts θ))) x.goal.constraints) parts.made
        ∙ goal-instance θ (map (map_terms σ) (hs ++ rest)) ∙ map_terms-twice (instantiate θ) σ (hs ++ rest)
        ∙ (λ k. map (map_terms (λ t. same t k)) (hs ++ rest)) ∙ map-append (map_terms (instantiate θ)) hs rest
        ∙ (λ k. instance-image (instantiate θ) p k ++ map (map_terms (instantiate θ)) (unjoined-leftover 1 gs ds k))
        ∙ ap (M ++◌) (sym (leftover-map (map_terms (instantiate θ)) 1 gs ds)
        ∙ ap (λ l. leftover 1 l ds) (instance-image (instantiate θ) q))

    -- so are the heads of the first rule in the goal, and what is left of the second's
    goal-sides :
        (map (map_terms (instantiate (goal_value parts θ))) (goal_first parts) ≡ M)
        × (map (map_terms (instantiate (goal_value parts θ))) (leftover 1 (goal_second parts) ds)
        ≡ leftover 1 N ds)
    goal-sides =
        let f = map_terms (instantiate (goal_value parts θ)) in
        parts-equal (map f (goal_first parts)) M
        (length-map (goal_first parts) f ∙ length-map i.rule.heads (map_terms (goal_term parts)) ∙ pointwise-length p)
        (sym (map-append f (goal_first parts) (leftover 1 (goal_second parts) ds)) ∙ sym (ap (map f) (goal-constraints parts))
        ∙ goal-matched)

    pub first-matched : map (map_terms (instantiate (goal_value parts θ))) (goal_first parts) ≡ M
    first-matched = goal-sides.0

    -- and all heads of the second
    pub second-matched :
        length ds ≡ length i.rule.heads → Agreed 1 M N ds
        → map (map_terms (instantiate (goal_value parts θ))) (goal_second parts) ≡ N
    second-matched l a =
        let f = map_terms (instantiate (goal_value parts θ)) in
        pointwise-image f
        (join-pointwise 1 (goal_second parts) N ds (image-pointwise f (goal_first parts) goal-sides.0)
        (image-pointwise f (leftover 1 (goal_second parts) ds) goal-sides.1) (goal-agreed parts l) a
        (length-map (second_heads j) (map_terms (goal_term parts)) ∙ pointwise-length q))
