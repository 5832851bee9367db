-- Firing a rule beside firing it rewritten, at the same positions: what is kept and what is put back are the same constraints.
--   instance-fits            a term of a rule that fits is what it is assigned
--   keeps-places             a firing leaves what it does not remove in its place
--   kept-left                what is left where only the later of distinct positions are removed
--   fired-reordered          the states after both firings are equal but for the order of their constraints
--   fires-as-rewritten       where one fires the other does
--   keeps-nothing            a rule that keeps nothing is itself rewritten
-- Assumes nothing.
use Prim.Native.Nat.{ℕ, zero, suc, ◌+◌, ◌<◌}
use native.Mathlib.Nat.{zero-add, add-zero}
use native.Mathlib.Omega.{arith}
use mathlib.Core.Bool.{Bool, true, false, cond}
use mathlib.Core.List.{List, [], ◌∷◌, ◌++◌, map, map-append, append_assoc}
use mathlib.Core.Option.{Option, none, some}
use mathlib.Core.Path.{◌≡◌, refl, sym, ap, ap₂, subst, ◌∙◌}
use lib.Dec.{eqb}
use lib.ListN.{take, drop, get_elem?, take-append-drop}
use Rattle.text.specs.Lists.{bind, has}
use Rattle.semantics.specs.Terms.{Term, Constraint, Rule, State, failed, live, map_terms, map_sides, alphabet, kept_heads}
use Rattle.semantics.specs.Terms as T
use Rattle.semantics.specs.Matching.{Assignment, unassigned, match_at}
use Rattle.semantics.specs.Solving.{solve}
use Rattle.semantics.specs.Firing.{without, instance, settle, fired, fire_at}
use Rattle.semantics.specs.Variants.{Pointwise, empty, each, SameMultiset}
use Rattle.semantics.specs.Rewriting.{rewritten, Reordered, both_failed, reordered}
use Rattle.semantics.specs.Correspondence.{place_after, KeepsPlaces, FiresAsRewritten}
use Rattle.semantics.proofs.Multisets.{pointwise-drop, multiset-refl, multiset-mono, multiset-map, multiset-append}
use Rattle.semantics.proofs.Multisets.{multiset-swap, multiset-right, multiset-back, multiset-cancel}
use Rattle.semantics.proofs.Options.{true-false, none-some, bind-some}
use Rattle.semantics.proofs.Bools.{or_right}
use Rattle.semantics.proofs.Indices.{false-unless, some-equal, get_elem_map, get_elem-left, Distinct, distinct-fresh}
use Rattle.semantics.proofs.Indices.{fresh-distinct}
use Rattle.semantics.proofs.PositionLaws.{Stands, Fresh, without-taken}
use Rattle.semantics.proofs.MatchLaws.{TermFits, ConstraintRel, AtMatch, match_at-sound}

-- a term of a rule that fits is what it is assigned
pub instance-fits : (n : ℕ) (θ : Assignment) (s t : Term) → TermFits θ s t → instance n θ s ≡ t
unfolding instance
instance-fits n θ (T.con c) t f = f
instance-fits n θ (T.var x) t f = rw f

-- terms that fit, and constraints that fit, are the instances of those that they fit
terms-instances : (n : ℕ) (θ : Assignment) {ss ts : List Term} → Pointwise (TermFits θ) ss ts → map (instance n θ) ss ≡ ts
terms-instances n θ empty = refl
terms-instances n θ (each {a = s} {b = t} f p) = ap₂ ◌∷◌ (instance-fits n θ s t f) (terms-instances n θ p)

matched-instances :
    (n : ℕ) (θ : Assignment) {hs M : List Constraint} → Pointwise (ConstraintRel (TermFits θ)) hs M
    → map (map_terms (instance n θ)) hs ≡ M
unfolding map_terms
matched-instances n θ empty = refl
matched-instances n θ (each {a = h} {b = c} f p) =
    ap₂ ◌∷◌ (one f.symbols (terms-instances n θ f.terms)) (matched-instances n θ p)
  where
    one : {k l : ℕ} {ss ts : List Term} → k ≡ l → ss ≡ ts
        → ◌≡◌ {A = Constraint} (record { symbol = k; terms = ss }) (record { symbol = l; terms = ts })
    one a b = rw (a, b)

-- the later ones of distinct positions are distinct
distinct-drop : (k : ℕ) (ps : List ℕ) → Distinct ps → Distinct (drop k ps)
distinct-drop zero ps d = d
distinct-drop (suc k) [] d = tt
distinct-drop (suc k) (p ∷ ps) d = distinct-drop k ps d.1

-- an earlier one is none of the later ones
distinct_apart : (k i p : ℕ) (ps : List ℕ) → Distinct ps → i < k → get_elem? ps i ≡ some p → has p (drop k ps) ≡ false
distinct_apart k i p [] d l e = none-some refl e
distinct_apart zero i p (q ∷ ps) d l e = absurd (omega arith)
distinct_apart (suc k) zero p (q ∷ ps) d l e =
    false-unless (has p (drop k ps)) (λ h.
    true-false (dropped k ps h) (subst (λ x. has x ps ≡ false) (let z : q ≡ p = cc in z) d.0))
  where
    dropped : (k : ℕ) (l : List ℕ) → has p (drop k l) ≡ true → has p l ≡ true
    dropped zero l h = h
    dropped (suc k) [] h = h
    dropped (suc k) (x ∷ l) h = or_right (eqb p x) (has p l) (dropped k l h)
distinct_apart (suc k) (suc i) p (q ∷ ps) d l e = distinct_apart k i p ps d.1 (omega arith) e

-- a constraint that is not removed stands behind as many as are not removed before it
without-place :
    (k : ℕ) (qs : List ℕ) (cs : List Constraint) (p : ℕ) {c : Constraint} → get_elem? cs p ≡ some c → has (k + p) qs ≡ false
    → get_elem? (without k qs cs) (place_after k qs p) ≡ some c
unfolding without place_after
without-place k qs [] p e f = none-some refl e
without-place k qs (b ∷ cs) zero e f = let free : has k qs ≡ false = rw (add-zero k) at f in rw free e
without-place k qs (b ∷ cs) (suc p) {c} e f =
    go (has k qs) (without-place (suc k) qs cs p e (let z : suc k + p ≡ k + suc p = omega arith in rw z f))
  where
    go :
        (t : Bool) → get_elem? (without (suc k) qs cs) (place_after (suc k) qs p) ≡ some c
        → get_elem? (cond t (without (suc k) qs cs) (b ∷ without (suc k) qs cs))
        (cond t (place_after (suc k) qs p) (suc (place_after (suc k) qs p))) ≡ some c
    go true h = h
    go false h = h

-- a firing removes the constraints of the heads that are not kept, and leaves each other one in its place
pub keeps-places :
    (r : Rule) (ps : List ℕ) (n : ℕ) (b : List Term) (cs : List Constraint) → KeepsPlaces r ps n b cs
unfolding fire_at fired settle
keeps-places r ps n b cs = record { stays = stays; spared = spared }
  where
    stays :
        (m : ℕ) (c : List Term) (ds : List Constraint) → fire_at r ps (live n b cs) ≡ some (live m c ds)
        → (σ : Term → Term) × (c ≡ map σ b)
        × ((p : ℕ) (d : Constraint) → get_elem? cs p ≡ some d → has p (drop r.kept ps) ≡ false
        → get_elem? ds (place_after 0 (drop r.kept ps) p) ≡ some (map_terms σ d))
    stays m c ds e =
        let (θ, _, q) = bind-some (match_at r.heads ps cs [] unassigned) (λ θ. some (fired r ps θ n b cs)) e in
        go (solve (map (map_sides (instance n θ)) r.equations) (λ t. t)) (map (map_terms (instance n θ)) r.body)
        (some-equal q)
      where
        go :
            (o : Option (Term → Term)) (body : List Constraint)
            → settle o (n + alphabet) b (without 0 (drop r.kept ps) cs ++ body) ≡ live m c ds
            → (σ : Term → Term) × (c ≡ map σ b)
            × ((p : ℕ) (d : Constraint) → get_elem? cs p ≡ some d → has p (drop r.kept ps) ≡ false
            → get_elem? ds (place_after 0 (drop r.kept ps) p) ≡ some (map_terms σ d))
        go none body q = absurd (let z : ◌≡◌ {A = ℕ} 0 1 = cc in omega arith)
        go (some σ) body q =
            let left : List Constraint = without 0 (drop r.kept ps) cs in
            let terms : map σ b ≡ c = cc in
            let same : map (map_terms σ) (left ++ body) ≡ ds = cc in (
              σ,
              sym terms,
              λ p d s f.
                  subst (λ l. get_elem? l (place_after 0 (drop r.kept ps) p) ≡ some (map_terms σ d)) same
                  (get_elem_map (map_terms σ) (left ++ body) (place_after 0 (drop r.kept ps) p)
                  (get_elem-left left body (place_after 0 (drop r.kept ps) p)
                  (without-place 0 (drop r.kept ps) cs p s (rw zero-add f)))),
            )

    spared :
        (t : State) → fire_at r ps (live n b cs) ≡ some t → (i p : ℕ) → i < r.kept → get_elem? ps i ≡ some p
        → has p (drop r.kept ps) ≡ false
    spared t e i p l at =
        let (θ, m, _) = bind-some (match_at r.heads ps cs [] unassigned) (λ θ. some (fired r ps θ n b cs)) e in
        let fresh = (match_at-sound r.heads ps cs [] unassigned m).fresh in
        distinct_apart r.kept i p ps (fresh-distinct [] ps fresh) l at

-- what is left where only the later of distinct positions are removed: the constraints at the others, and what is left without
-- them
pub kept-left :
    (k : ℕ) (cs : List Constraint) (ps : List ℕ) {M : List Constraint} → Fresh [] ps → Pointwise (Stands cs) ps M
    → SameMultiset ◌≡◌ (without 0 (drop k ps) cs) (without 0 ps cs ++ take k M)
kept-left k cs ps {M} f h =
    let W = without 0 ps cs in
    let fresh : Fresh [] (drop k ps) =
    distinct-fresh [] (drop k ps) (distinct-drop k ps (fresh-distinct [] ps f)) (λ q e. refl) in
    let some = without-taken cs (drop k ps) fresh (pointwise-drop k h) in
    let all : SameMultiset ◌≡◌ cs ((take k M ++ drop k M) ++ W) = rw (take-append-drop k M) (without-taken cs ps f h) in
    let turned : SameMultiset ◌≡◌ ((take k M ++ drop k M) ++ W) (drop k M ++ (take k M ++ W)) =
    rw (append_assoc (drop k M) (take k M) W) at
    (multiset-append (multiset-swap (take k M) (drop k M)) (multiset-refl (λ c. refl) W)) in
    multiset-right (multiset-cancel (drop k M) (multiset-right (multiset-back some) (multiset-right all turned)))
    (multiset-swap (take k M) W)

-- settling lists that are equal but for their order
pub settle-reordered :
    (o : Option (Term → Term)) (next : ℕ) (bound : List Term) {cs ds : List Constraint} → SameMultiset ◌≡◌ cs ds
    → Reordered (settle o next bound cs) (settle o next bound ds)
unfolding settle
settle-reordered none next bound m = both_failed
settle-reordered (some σ) next bound m =
    reordered (multiset-map (map_terms σ) (map_terms σ) (multiset-mono (λ c d q. ap (map_terms σ) q) m))

-- the instances of a part of a list
map-take : {A B : Type 0} (f : A → B) (k : ℕ) (l : List A) → map f (take k l) ≡ take k (map f l)
map-take f zero l = refl
map-take f (suc k) [] = refl
map-take f (suc k) (a ∷ l) = ap (f a ∷◌) (map-take f k l)

-- the states after firing a rule and after firing it rewritten, at the same positions
pub fired-reordered :
    (r : Rule) (ps : List ℕ) (θ : Assignment) (n : ℕ) (b : List Term) (cs : List Constraint)
    → AtMatch r.heads ps cs [] unassigned θ → Reordered (fired r ps θ n b cs) (fired (rewritten r) ps θ n b cs)
unfolding fired kept_heads
fired-reordered r ps θ n b cs m =
    let body = map (map_terms (instance n θ)) r.body in
    let W = without 0 ps cs in
    let same : take r.kept m.matched ≡ map (map_terms (instance n θ)) (take r.kept r.heads) =
    ap (take r.kept) (sym (matched-instances n θ m.heads.fits))
    ∙ sym (map-take (map_terms (instance n θ)) r.kept r.heads) in
    let parts : map (map_terms (instance n θ)) (take r.kept r.heads) ++ body
    ≡ map (map_terms (instance n θ)) (take r.kept r.heads ++ r.body) =
    sym (map-append (map_terms (instance n θ)) (take r.kept r.heads) r.body) in
    settle-reordered (solve (map (map_sides (instance n θ)) r.equations) (λ t. t)) (n + alphabet) b
    (subst (SameMultiset ◌≡◌ (without 0 (drop r.kept ps) cs ++ body))
    (append_assoc W (take r.kept m.matched) body ∙ ap (W ++◌) (ap (◌++ body) same ∙ parts))
    (multiset-append (kept-left r.kept cs ps m.fresh m.stand) (multiset-refl (λ c. refl) body)))

-- where a rule fires so does it rewritten, at the same positions, and the other way round
pub fires-as-rewritten : (r : Rule) (ps : List ℕ) (s : State) → FiresAsRewritten r ps s
unfolding fire_at
fires-as-rewritten r ps failed = record { forth = λ t e. none-some refl e; back = λ t e. none-some refl e }
fires-as-rewritten r ps (live n b cs) = record { forth = forth; back = back }
  where
    same :
        (θ : Assignment) → match_at r.heads ps cs [] unassigned ≡ some θ
        → Reordered (fired r ps θ n b cs) (fired (rewritten r) ps θ n b cs)
    same θ m = fired-reordered r ps θ n b cs (match_at-sound r.heads ps cs [] unassigned m)

    forth :
        (t : State) → fire_at r ps (live n b cs) ≡ some t
        → (u : State) × (fire_at (rewritten r) ps (live n b cs) ≡ some u) × Reordered t u
    forth t e =
        let (θ, m, q) = bind-some (match_at r.heads ps cs [] unassigned) (λ θ. some (fired r ps θ n b cs)) e in
        let final : fired r ps θ n b cs ≡ t = cc in (
          fired (rewritten r) ps θ n b cs,
          ap (λ o. bind o (λ θ. some (fired (rewritten r) ps θ n b cs))) m,
          subst (λ s. Reordered s (fired (rewritten r) ps θ n b cs)) final (same θ m),
        )

    back :
        (u : State) → fire_at (rewritten r) ps (live n b cs) ≡ some u
        → (t : State) × (fire_at r ps (live n b cs) ≡ some t) × Reordered t u
    back u e =
        let (θ, m, q) = bind-some (match_at r.heads ps cs [] unassigned) (λ θ. some (fired (rewritten r) ps θ n b cs)) e in
        let final : fired (rewritten r) ps θ n b cs ≡ u = cc in (
          fired r ps θ n b cs,
          ap (λ o. bind o (λ θ. some (fired r ps θ n b cs))) m,
          subst (Reordered (fired r ps θ n b cs)) final (same θ m),
        )

-- a rule that keeps nothing is itself rewritten
pub keeps-nothing : (r : Rule) → r.kept ≡ 0 → rewritten r ≡ r
unfolding kept_heads
keeps-nothing r e = ap (rule_with 0) e ∙ ap (λ k. rule_with k 0) (sym e)
  where
    rule_with : ℕ → ℕ → Rule
    rule_with k b =
        record { name = r.name; kept = k; heads = r.heads; body = take b r.heads ++ r.body; equations = r.equations }
