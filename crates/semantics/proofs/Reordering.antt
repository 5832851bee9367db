-- States that differ only in the order of their constraints: they are variants, and what fires in one fires in the other, with
-- the same result up to order.
--   reordered-variant                  they are variants of each other
--   match_at-moves                      heads that match among constraints match them wherever they stand
--   reordered-fires, reordered-rests   firing, and resting, in a reordered state
-- Assumes nothing.
use Prim.Native.Nat.{ℕ, ◌+◌}
use native.Mathlib.Omega.{arith}
use mathlib.Core.Bool.{false}
use mathlib.Core.List.{List, [], ◌∷◌, ◌++◌, map, map-append, append_assoc, append-nil}
use mathlib.Core.Option.{Option, none, some}
use mathlib.Core.Path.{◌≡◌, refl, sym, ◌∙◌, ap, subst}
use lib.ListN.{get_elem?}
use Rattle.text.specs.Lists.{has}
use Rattle.semantics.specs.Terms.{Term, con, var, Constraint, Equation, Rule, Program, State, failed, live}
use Rattle.semantics.specs.Terms.{map_terms, map_sides, alphabet}
use Rattle.semantics.specs.Matching.{Assignment, unassigned, match_constraint, match_at}
use Rattle.semantics.specs.Solving.{solve}
use Rattle.semantics.specs.Firing.{without, instance, settle, fired, fire_at}
use Rattle.semantics.specs.Derivations.{NoRuleFits}
use Rattle.semantics.specs.Variants.{TermVariant, same_con, partners, ConstraintVariant, Inserted, SameMultiset, Variant}
use Rattle.semantics.specs.Rewriting.{whole_body, rewritten, Reordered, both_failed, reordered}
use Rattle.semantics.proofs.Multisets.{pointwise-refl, inserted-left, multiset-take, multiset-refl, multiset-mono}
use Rattle.semantics.proofs.Multisets.{multiset-map, multiset-append, multiset-swap, multiset-right, multiset-back}
use Rattle.semantics.proofs.Options.{none-some, bind-some}
use Rattle.semantics.proofs.Bools.{none-unless}
use Rattle.semantics.proofs.SolveLaws.{solve-solution}
use Rattle.semantics.proofs.Removal.{Among, without-none, without-one, without-found}
use Rattle.semantics.proofs.MatchLaws.{match_at-sound}
use Rattle.semantics.proofs.KeptHeads.{fired-reordered}
use Rattle.semantics.proofs.Search.{FirstFits, match_at-cons, match_at-join}

-- a state is a reordering of itself
pub reordered-refl : (s : State) → Reordered s s
reordered-refl failed = both_failed
reordered-refl (live next bound cs) = reordered (multiset-refl (λ c. refl) cs)

-- the other way round
pub reordered-sym : {s t : State} → Reordered s t → Reordered t s
reordered-sym both_failed = both_failed
reordered-sym (reordered m) = reordered (multiset-back m)

-- one reordering after another
pub reordered-trans : {s t u : State} → Reordered s t → Reordered t u → Reordered s u
reordered-trans both_failed both_failed = both_failed
reordered-trans (reordered m) (reordered n) = reordered (multiset-right m n)

-- a term is its own variant
term-itself : (t : Term) → TermVariant ◌≡◌ t t
term-itself (con c) = same_con
term-itself (var x) = partners refl

-- the same for constraints
constraint-itself : (c d : Constraint) → c ≡ d → ConstraintVariant ◌≡◌ c d
constraint-itself c d e =
    subst (ConstraintVariant ◌≡◌ c) e (record { symbols = refl; terms = pointwise-refl term-itself c.terms })

-- reordered states are variants of each other
pub reordered-variant : {s t : State} → Reordered s t → Variant s t
reordered-variant both_failed = tt
reordered-variant (reordered {bound = b} m) =
    (◌≡◌, (λ x y z p q. sym p ∙ q, λ x y z p q. p ∙ sym q), pointwise-refl term-itself b, multiset-mono constraint-itself m)

-- a constraint found at a free position of a list, with the others that are left there
record Moved (c : Constraint) (rest : List Constraint) (taken : List ℕ) (ds : List Constraint) : Type 0 where
  at : ℕ
  stands : get_elem? ds at ≡ some c
  free : has at taken ≡ false
  left : SameMultiset ◌≡◌ rest (without 0 (taken ++ (at ∷ [])) ds)

-- a constraint of a list stands somewhere in a reordered one
moved :
    (c : Constraint) (k l : List Constraint) (taken : List ℕ) (ds : List Constraint) → Inserted c k l
    → SameMultiset ◌≡◌ l (without 0 taken ds) → Moved c k taken ds
moved c k l taken ds i m = go (multiset-take i m)
  where
    found : (d : Constraint) (n : List Constraint) → c ≡ d → Among 0 taken ds d n → SameMultiset ◌≡◌ k n → Moved c k taken ds
    found d n e a s =
        let q : a.position ≡ a.at = omega (arith, a.counted) in
        record { at = a.at; stands = rw e a.stands; free = rw q at a.free; left = rw (a.rest, q) at s }

    go :
        (d : Constraint) × (n : List Constraint) × (c ≡ d) × Inserted d n (without 0 taken ds) × SameMultiset ◌≡◌ k n
        → Moved c k taken ds
    go (d, n, e, j, s) = found d n e (without-found 0 taken ds d n (without 0 taken ds) refl j) s

-- what a match becomes in a reordered list: positions, the same assignment, and the others that are left
abbrev Moves : List Constraint → List Constraint → List ℕ → Assignment → Assignment → List Constraint → Type 0
Moves hs ds taken θ end rest =
    (qs : List ℕ) × (match_at hs qs ds taken θ ≡ some end) × SameMultiset ◌≡◌ rest (without 0 (taken ++ qs) ds)

-- the first head and the others
moves-join :
    (h : Constraint) (hs ds : List Constraint) (taken : List ℕ) (θ next end : Assignment) (c : Constraint)
    (k rest : List Constraint) → match_constraint h c θ ≡ some next → (m : Moved c k taken ds)
    → Moves hs ds (taken ++ (m.at ∷ [])) next end rest
    → Moves (h ∷ hs) ds taken θ end rest
moves-join h hs ds taken θ next end c k rest f m (qs, e, s) = (
  m.at ∷ qs,
  match_at-join (record { free = m.free; constraint = c; stands = m.stands; next = next; fits = f; rest = e }),
  rw append_assoc at s,
)

-- heads that match among constraints match them wherever they stand, with the same assignment, and the same others are left;
-- there may be more constraints, ws
pub match_at-moves :
    (hs : List Constraint) (ps : List ℕ) (cs ds ws : List Constraint) (chosen taken : List ℕ) (θ end : Assignment)
    → match_at hs ps cs chosen θ ≡ some end → SameMultiset ◌≡◌ (without 0 chosen cs ++ ws) (without 0 taken ds)
    → Moves hs ds taken θ end (without 0 (chosen ++ ps) cs ++ ws)
unfolding match_at
match_at-moves [] [] cs ds ws chosen taken θ end e m = ([], e, rw (append-nil chosen, append-nil taken) m)
match_at-moves [] (p ∷ ps) cs ds ws chosen taken θ end e m = none-some refl e
match_at-moves (h ∷ hs) [] cs ds ws chosen taken θ end e m = none-some refl e
match_at-moves (h ∷ hs) (p ∷ ps) cs ds ws chosen taken θ end e m =
    go (match_at-cons h hs p ps cs chosen θ end e) (match_at-moves hs ps cs ds ws)
  where
    go :
        (f : FirstFits h hs p ps cs chosen θ end)
        → ((chosen taken : List ℕ) (θ end : Assignment)
        → match_at hs ps cs chosen θ ≡ some end → SameMultiset ◌≡◌ (without 0 chosen cs ++ ws) (without 0 taken ds)
        → Moves hs ds taken θ end (without 0 (chosen ++ ps) cs ++ ws))
        → Moves (h ∷ hs) ds taken θ end (without 0 (chosen ++ p ∷ ps) cs ++ ws)
    go f more =
        let i = without-one 0 chosen cs p p f.constraint (omega arith) f.stands f.free in
        let left = without 0 (chosen ++ (p ∷ [])) cs ++ ws in
        let n = moved f.constraint left (without 0 chosen cs ++ ws) taken ds (inserted-left ws i) m in
        moves-join h hs ds taken θ f.next end f.constraint left
        (without 0 (chosen ++ p ∷ ps) cs ++ ws) f.fits n
        (rw append_assoc at (more (chosen ++ (p ∷ [])) (taken ++ (n.at ∷ [])) f.next end f.rest n.left))

-- a state with more constraints, which may depend on what the goal variables have become
unfoldable pub with_more : (List Term → List Constraint) → State → State
with_more more failed = failed
with_more more (live next bound cs) = live next bound (cs ++ more bound)

-- reordered states with more constraints
with_more-reordered :
    (more : List Term → List Constraint) {s t : State} → Reordered s t → Reordered (with_more more s) (with_more more t)
unfolding with_more
with_more-reordered more both_failed = both_failed
with_more-reordered more (reordered {bound = bound} m) =
    reordered (multiset-append m (multiset-refl (λ c. refl) (more bound)))

-- more constraints that follow what the goal variables become
abbrev pub Follows : (List Term → List Constraint) → List Term → Type 0
Follows more bound =
    (σ : Term → Term) → ((c : ℕ) → σ (con c) ≡ con c) → more (map σ bound) ≡ map (map_terms σ) (more bound)

-- the body comes behind what is left, with or without more
body-behind :
    (rest more body left : List Constraint) → SameMultiset ◌≡◌ (rest ++ more) left
    → SameMultiset ◌≡◌ ((rest ++ body) ++ more) (left ++ body)
body-behind rest more body left m =
    rw (append_assoc rest body more)
    (multiset-right (multiset-append (multiset-refl (λ c. refl) rest) (multiset-swap body more))
    (rw append_assoc at (multiset-append m (multiset-refl (λ c. refl) body))))

-- settling with more constraints
settle-moves :
    (more : List Term → List Constraint) (bound : List Term) → Follows more bound
    → (es : List Equation) (next : ℕ) (cs ds : List Constraint) → SameMultiset ◌≡◌ (cs ++ more bound) ds
    → Reordered (with_more more (settle (solve es (λ t. t)) next bound cs)) (settle (solve es (λ t. t)) next bound ds)
unfolding with_more settle
settle-moves more bound f es next cs ds m = go (solve es (λ t. t)) refl
  where
    go :
        (o : Option (Term → Term)) → solve es (λ t. t) ≡ o
        → Reordered (with_more more (settle o next bound cs)) (settle o next bound ds)
    go none e = both_failed
    go (some σ) e =
        let n : SameMultiset ◌≡◌ (map (map_terms σ) (cs ++ more bound)) (map (map_terms σ) ds) =
        multiset-map (map_terms σ) (map_terms σ) (multiset-mono (λ c d q. ap (map_terms σ) q) m) in
        reordered (rw (map-append (map_terms σ) cs (more bound), ← f σ (solve-solution es e).fixes) at n)

-- a rule that fires in a state fires in one with more constraints, in any order
pub fire-moves :
    (more : List Term → List Constraint) (r : Rule) (ps : List ℕ) (next : ℕ) (bound : List Term) (cs ds : List Constraint)
    (t : State) → Follows more bound → fire_at r ps (live next bound cs) ≡ some t → SameMultiset ◌≡◌ (cs ++ more bound) ds
    → (qs : List ℕ) × (u : State) × (fire_at r qs (live next bound ds) ≡ some u) × Reordered (with_more more t) u
unfolding fire_at fired
fire-moves more r ps next bound cs ds t f e m =
    go (bind-some (match_at r.heads ps cs [] unassigned) (λ θ. some (fired r ps θ next bound cs)) e)
  where
    go :
        (θ : Assignment) × (match_at r.heads ps cs [] unassigned ≡ some θ) × (some (fired r ps θ next bound cs) ≡ some t)
        → (qs : List ℕ) × (u : State) × (fire_at r qs (live next bound ds) ≡ some u) × Reordered (with_more more t) u
    go (θ, a, b) =
        moves (match_at-moves r.heads ps cs ds (more bound) [] [] unassigned θ a (rw (without-none 0 cs, without-none 0 ds) m))
      where
        body : List Constraint
        body = map (map_terms (instance next θ)) (whole_body r)

        moves :
            Moves r.heads ds [] unassigned θ (without 0 ps cs ++ more bound)
            → (qs : List ℕ) × (u : State) × (fire_at r qs (live next bound ds) ≡ some u) × Reordered (with_more more t) u
        moves (qs, c, n) =
            let q : fired r ps θ next bound cs ≡ t = cc in
            let s : Reordered (with_more more (fired (rewritten r) ps θ next bound cs)) (fired (rewritten r) qs θ next bound ds) =
            settle-moves more bound f (map (map_sides (instance next θ)) r.equations) (next + alphabet)
            (without 0 ps cs ++ body) (without 0 qs ds ++ body)
            (body-behind (without 0 ps cs) (more bound) body (without 0 qs ds) n) in
            let one = fired-reordered r ps θ next bound cs (match_at-sound r.heads ps cs [] unassigned a) in
            let two = fired-reordered r qs θ next bound ds (match_at-sound r.heads qs ds [] unassigned c) in
            let u = reordered-trans (with_more-reordered more one) (reordered-trans s (reordered-sym two)) in
            (qs, fired r qs θ next bound ds, rw c, rw q at u)

-- no more constraints change nothing
with_more-none : (s : State) → with_more (λ bound. []) s ≡ s
unfolding with_more
with_more-none failed = refl
with_more-none (live next bound cs) = rw append-nil

-- what fires in a state fires in a reordered one, with the same result up to order
pub reordered-fires :
    (r : Rule) (ps : List ℕ) {s t : State} → Reordered s t → (u : State) → fire_at r ps s ≡ some u
    → (qs : List ℕ) × (v : State) × (fire_at r qs t ≡ some v) × Reordered u v
unfolding fire_at
reordered-fires r ps both_failed u e = none-some refl e
reordered-fires r ps (reordered {next = next} {bound = bound} {cs = cs} {ds = ds} m) u e =
    rw (with_more-none u) at
    (fire-moves (λ b. []) r ps next bound cs ds u (λ σ f. refl) e (rw (append-nil cs) m))

-- where no rule fits, none fits in a reordered state
pub reordered-rests : (p : Program) {s t : State} → Reordered s t → NoRuleFits p s → NoRuleFits p t
reordered-rests p {s} {t} h f = λ n r ps e. none-unless (fire_at r ps t) (fires n r ps e)
  where
    fires : (n : ℕ) (r : Rule) (ps : List ℕ) → get_elem? p.rules n ≡ some r → (v : State) → fire_at r ps t ≡ some v → ⊥
    fires n r ps e v q =
        let g = reordered-fires r ps (reordered-sym h) v q in
        none-some (f n r g.0 e) g.2
