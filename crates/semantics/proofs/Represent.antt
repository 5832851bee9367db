-- States represent configurations: what one can do the other can, and equal ones stay equal.
--   rep-iso, rep-same, rep-variant      equal configurations are represented by the same states, and only by equal ones
--   fire-represents                     the state after a firing represents the configuration after it
--   fire_at-matched, matched-fires       firing at positions, by the constraints there, and conversely
--   fire_at-sound, fire_at-complete       firing at positions is firing a rule on matched atoms, and conversely
--   rep-fires, rep_step                 a firing is a step of what the state represents, and conversely
--   Reach, rep-reach, rep-steps         the same for firings one after the other
--   fire_at-scoped, variant-fires        a firing keeps a state scoped; equal states fire alike
-- Assumes nothing.
use Prim.Native.Nat.{ℕ}
use mathlib.Core.List.{List, [], ◌∷◌, ◌++◌, map, map-append}
use mathlib.Core.Option.{some}
use mathlib.Core.Path.{◌≡◌, refl, sym, ap, subst, subst₂, ◌∙◌}
use Rattle.text.specs.Lists.{bind}
use Rattle.semantics.specs.Terms.{Term, Constraint, Rule, State, failed, live}
use Rattle.semantics.specs.Terms as T
use Rattle.semantics.specs.Matching.{Assignment, unassigned, match_at}
use Rattle.semantics.specs.Firing.{without, fired, fire_at}
use Rattle.semantics.specs.Variants.{Pointwise, SameMultiset, Variant}
use Rattle.semantics.specs.Rewriting.{rewritten, Reordered, both_failed, reordered}
use Rattle.semantics.proofs.Configurations.{Member, first, later, Tm, con, Atom, sub, Eqv, Config, Inconsistent}
use Rattle.semantics.proofs.Configurations.{AtomRel, Iso, Same, iso, both_fail, lift, lift_atom, heads_of}
use Rattle.semantics.proofs.Configurations.{Fits, fire_c, Step, step, Steps, stay, go, conf_of, All, none, also, Scoped, Rep}
use Rattle.semantics.proofs.Configurations.{has_failed, is_live}
use Rattle.semantics.proofs.Multisets.{pointwise-mono, pointwise-unmap, multiset-mono, multiset-map}
use Rattle.semantics.proofs.Multisets.{all-member, all-multiset}
use Rattle.semantics.proofs.Closure.{eqv-nil}
use Rattle.semantics.proofs.Isos.{iso-refl, iso-sym, iso-trans, inconsistent-iso, same_refl, same-sym, same-inconsistent}
use Rattle.semantics.proofs.Stepping.{fire-rest, step-iso}
use Rattle.semantics.proofs.Contexts.{steps-inconsistent}
use Rattle.semantics.proofs.Options.{none-some, bind-some}
use Rattle.semantics.proofs.Lifting.{down, down_atom, down-lift, lift_atom-down_atom, down_atom-lift_atom, map-inverse}
use Rattle.semantics.proofs.PositionLaws.{Stands, stands_same, without-taken, without-positions}
use Rattle.semantics.proofs.MatchLaws.{ConstraintRel, instantiate, match_at-sound, match_at-complete}
use Rattle.semantics.proofs.KeptHeads.{fired-reordered}
use Rattle.semantics.proofs.Reordering.{reordered-sym, reordered-variant}
use Rattle.semantics.proofs.FireLaws.{Lettered, Firing, rewritten-represents, fire-fits}
use Rattle.semantics.proofs.VariantLaws.{variant-iso, iso-variant}

-- what equals a live state has not failed
live-consistent {ℓ} :
    {A : Type ℓ} (b : List Term) (cs : List Constraint) {C : Config} → Iso (conf_of b cs) C → Inconsistent C → A
live-consistent b cs I n =
    let m = inconsistent-iso (iso-sym I) n in
    absurd (m.apart (same-con (eqv-nil m.clash)))
  where
    same-con : {x y : ℕ} → ◌≡◌ {A = Tm ℕ} (con x) (con y) → x ≡ y
    same-con p = cc

-- a state represents what equals a configuration that it represents
pub rep-iso : {s : State} {C D : Config} → Rep s C → Iso C D → Rep s D
rep-iso (has_failed n) J = has_failed (inconsistent-iso J n)
rep-iso (is_live s I) J = is_live s (iso-trans I J)

-- states that represent the same are equal
pub rep-same : {s t : State} {C D : Config} → Rep s C → Rep t D → Same C D → Variant s t
rep-same (has_failed n) (has_failed m) S = tt
rep-same (has_failed n) (is_live {b} {cs} s I) S = live-consistent b cs I (same-inconsistent S n)
rep-same (is_live {b} {cs} s I) (has_failed m) S = live-consistent b cs I (same-inconsistent (same-sym S) m)
rep-same (is_live {n = k} s I) (is_live {n = l} t J) (iso K) = iso-variant k l (iso-trans I (iso-trans K (iso-sym J)))
rep-same (is_live {b} {cs} s I) (is_live t J) (both_fail n m) = live-consistent b cs I n

-- every variable of a state is below its number
abbrev pub ScopedState : State → Type 0
ScopedState failed = Unit {0}
ScopedState (live n b cs) = Scoped n b cs

-- a state that represents something is scoped
pub rep-scoped : {s : State} {C : Config} → Rep s C → ScopedState s
rep-scoped (has_failed n) = tt
rep-scoped (is_live s I) = s

-- a live state represents itself
pub rep-self : (n : ℕ) {b : List Term} {cs : List Constraint} → Scoped n b cs → Rep (live n b cs) (conf_of b cs)
rep-self n {b} {cs} s = is_live s (iso-refl (conf_of b cs))

-- equal states represent the same
pub rep-variant : (s t : State) {C : Config} → Variant s t → ScopedState t → Rep s C → Rep t C
rep-variant failed failed v h p = p
rep-variant failed (live n c ds) v h p = absurd v.lower
rep-variant (live m b cs) failed v h p = absurd v.lower
rep-variant (live m b cs) (live n c ds) v h (is_live s I) = is_live h (iso-trans (iso-sym (variant-iso m n v)) I)

-- a reordered state is scoped too
pub reordered-scoped : {s t : State} → Reordered s t → ScopedState s → ScopedState t
reordered-scoped both_failed h = tt
reordered-scoped (reordered m) h = record { bound = h.bound; constraints = all-multiset m h.constraints }

-- the state after a firing represents the configuration after it
pub fire-represents :
    (r : Rule) (n : ℕ) (b : List Term) (cs : List Constraint) (ps : List ℕ) (θ : Assignment) (F : Firing r n b cs ps θ)
    → Lettered r
    → Rep (fired r ps θ n b cs) (fire_c r (conf_of b cs) (map lift_atom F.fitting.matched) (map lift_atom (without 0 ps cs)))
fire-represents r n b cs ps θ F letters =
    let rep = rewritten-represents r n b cs ps θ F letters in
    let same = reordered-sym (fired-reordered r ps θ n b cs F.fitting) in
    rep-variant (fired (rewritten r) ps θ n b cs) (fired r ps θ n b cs) (reordered-variant same)
    (reordered-scoped same (rep-scoped rep)) rep

-- the constraints of a state that are matched, and the rest, as atoms
lift-split :
    {cs : List Constraint} (M L : List Constraint) → SameMultiset ◌≡◌ cs (M ++ L)
    → SameMultiset ◌≡◌ (map lift_atom cs) (map lift_atom M ++ map lift_atom L)
lift-split {cs} M L h =
    subst (SameMultiset ◌≡◌ (map lift_atom cs)) (map-append lift_atom M L)
    (multiset-map lift_atom lift_atom (multiset-mono (λ a b e. ap lift_atom e) h))

-- firing at positions: the rule fits the constraints there, and the state after it represents the firing on them
pub fire_at-matched :
    (r : Rule) (ps : List ℕ) (n : ℕ) (b : List Term) (cs : List Constraint) {s : State} → Lettered r → Scoped n b cs
    → fire_at r ps (live n b cs) ≡ some s
    → (M : List Constraint) × Pointwise (Stands cs) ps M × SameMultiset ◌≡◌ cs (M ++ without 0 ps cs)
    × Fits [] (heads_of r) (map lift_atom M) × Rep s (fire_c r (conf_of b cs) (map lift_atom M) (map lift_atom (without 0 ps cs)))
unfolding fire_at
fire_at-matched r ps n b cs {s} letters scoped p =
    let (θ, m, e) = bind-some (match_at r.heads ps cs [] unassigned) (λ θ. some (fired r ps θ n b cs)) p in
    let F : Firing r n b cs ps θ = record { scoped = scoped; fitting = match_at-sound r.heads ps cs [] unassigned m } in
    let M = F.fitting.matched in
    let final : fired r ps θ n b cs ≡ s = cc in (
      M,
      F.fitting.stand,
      without-taken cs ps F.fitting.fresh F.fitting.stand,
      fire-fits r n b cs ps θ F,
      subst (λ t. Rep t (fire_c r (conf_of b cs) (map lift_atom M) (map lift_atom (without 0 ps cs)))) final
          (fire-represents r n b cs ps θ F letters),
    )

-- firing at positions is a step of the state as a configuration
pub fire_at-sound :
    {rs : List Rule} (r : Rule) (ps : List ℕ) (n : ℕ) (b : List Term) (cs : List Constraint) {s : State} → Lettered r
    → Scoped n b cs → Member r rs → fire_at r ps (live n b cs) ≡ some s → (D : Config) × Step rs (conf_of b cs) D × Rep s D
fire_at-sound r ps n b cs letters scoped i p =
    let (M, stand, split, fits, rep) = fire_at-matched r ps n b cs letters scoped p in
    let L = without 0 ps cs in (
      fire_c r (conf_of b cs) (map lift_atom M) (map lift_atom L),
      step r (map lift_atom M) (map lift_atom L) i (lift-split M L split) fits,
      rep,
    )

-- a constraint and a rule's head that fit as atoms do
fits-down :
    (ϑ : ℕ → Tm ℕ) {hs M : List Constraint}
    → Pointwise (λ h c. AtomRel (λ h m. Eqv [] (sub ϑ h) m) (lift_atom h) (lift_atom c)) hs M
    → Pointwise (ConstraintRel (λ s t. instantiate (λ x. down (ϑ x)) s ≡ t)) hs M
fits-down ϑ p =
    pointwise-mono (λ h c q. record {
      symbols = q.symbols;
      terms = pointwise-mono (λ s t e. lowered s t (eqv-nil e)) (pointwise-unmap lift lift h.terms c.terms q.args);
    }) p
  where
    lowered : (s t : Term) → sub ϑ (lift s) ≡ lift t → instantiate (λ x. down (ϑ x)) s ≡ t
    lowered (T.con c) t e = ap down e ∙ down-lift t
    lowered (T.var x) t e = ap down e ∙ down-lift t

-- where a rule fits constraints of a state, it can be fired at their positions
pub matched-fires :
    (r : Rule) (n : ℕ) (b : List Term) (cs M L : List Constraint) → Lettered r → Scoped n b cs → SameMultiset ◌≡◌ cs (M ++ L)
    → Fits [] (heads_of r) (map lift_atom M)
    → (ps : List ℕ) × (s : State) × Pointwise (Stands cs) ps M × (fire_at r ps (live n b cs) ≡ some s)
    × Rep s (fire_c r (conf_of b cs) (map lift_atom M) (map lift_atom L))
unfolding fire_at unassigned
matched-fires r n b cs M L letters scoped split f =
    let (ps, fresh, stand, rest) = without-positions cs M L split in
    let heads = fits-down f.θ (pointwise-unmap lift_atom lift_atom r.heads M f.fits) in
    let none_yet : (x : ℕ) (t : Term) → unassigned x ≡ some t → t ≡ down (f.θ x) = λ x t p. none-some refl p in
    let (θ, m, agrees) = match_at-complete (λ x. down (f.θ x)) cs [] unassigned none_yet stand fresh heads in
    let F : Firing r n b cs ps θ = record { scoped = scoped; fitting = match_at-sound r.heads ps cs [] unassigned m } in (
      ps,
      fired r ps θ n b cs,
      stand,
      ap (λ o. bind o (λ θ. some (fired r ps θ n b cs))) m,
      rep-iso (subst (λ N. Rep (fired r ps θ n b cs) (fire_c r (conf_of b cs) (map lift_atom N) (map lift_atom (without 0 ps cs))))
          (stands_same cs F.fitting.stand stand) (fire-represents r n b cs ps θ F letters))
          (fire-rest r (conf_of b cs) (map lift_atom M)
          (multiset-map lift_atom lift_atom (multiset-mono (λ c d e. ap lift_atom e) rest))),
    )

-- the list of atoms of a list of constraints, in two parts
down-split :
    {cs : List Constraint} (M L : List (Atom ℕ)) → SameMultiset ◌≡◌ (map lift_atom cs) (M ++ L)
    → SameMultiset ◌≡◌ cs (map down_atom M ++ map down_atom L)
down-split {cs} M L h =
    let k : SameMultiset ◌≡◌ (map down_atom (map lift_atom cs)) (map down_atom (M ++ L)) =
    multiset-map down_atom down_atom (multiset-mono (λ a b e. ap down_atom e) h) in
    subst₂ (SameMultiset ◌≡◌) (map-inverse lift_atom down_atom down_atom-lift_atom cs) (map-append down_atom M L) k

-- a step of a state as a configuration is a firing at positions
pub fire_at-complete :
    {rs : List Rule} {D : Config} (n : ℕ) (b : List Term) (cs : List Constraint) → All Lettered rs → Scoped n b cs
    → Step rs (conf_of b cs) D
    → (r : Rule) × (ps : List ℕ) × (s : State) × Member r rs × (fire_at r ps (live n b cs) ≡ some s) × Rep s D
fire_at-complete n b cs letters scoped (step r M L i split f) =
    let up : (l : List (Atom ℕ)) → map lift_atom (map down_atom l) ≡ l = map-inverse down_atom lift_atom lift_atom-down_atom in
    let (ps, s, stand, p, h) =
    matched-fires r n b cs (map down_atom M) (map down_atom L) (all-member letters i) scoped (down-split M L split)
    (subst (Fits [] (heads_of r)) (sym (up M)) f) in
    (r, ps, s, i, p, subst₂ (λ M L. Rep s (fire_c r (conf_of b cs) M L)) (up M) (up L) h)

-- a firing of a state is a step of what the state represents
pub rep-fires :
    {rs : List Rule} {C : Config} (r : Rule) (ps : List ℕ) {s t : State} → Lettered r → Member r rs → Rep s C
    → fire_at r ps s ≡ some t → (D : Config) × Step rs C D × Rep t D
unfolding fire_at
rep-fires r ps letters i (has_failed n) p = none-some refl p
rep-fires r ps letters i (is_live {n} {b} {cs} scoped I) p =
    let (D, k, h) = fire_at-sound r ps n b cs letters scoped i p in
    let (B, l, J) = step-iso I k in
    (B, l, rep-iso h J)

-- a step of what a live state represents is a firing of the state
pub rep_step :
    {rs : List Rule} {C D : Config} {n : ℕ} {b : List Term} {cs : List Constraint} → All Lettered rs → Rep (live n b cs) C
    → Step rs C D
    → (r : Rule) × (ps : List ℕ) × (s : State) × Member r rs × (fire_at r ps (live n b cs) ≡ some s) × Rep s D
rep_step {n} {b} {cs} letters (is_live scoped I) k =
    let (B, l, J) = step-iso (iso-sym I) k in
    let (r, ps, s, i, p, h) = fire_at-complete n b cs letters scoped l in
    (r, ps, s, i, p, rep-iso h (iso-sym J))

-- firings of rules of a list, one after the other
pub data Reach (rs : List Rule) : State → State → Type 0 where
  arrived : {s : State} → Reach rs s s
  fires :
      {s t u : State} (r : Rule) (ps : List ℕ) → Member r rs → fire_at r ps s ≡ some t → Reach rs t u → Reach rs s u

-- firings are steps of what the state represents
pub rep-reach :
    {rs : List Rule} {s t : State} {C : Config} → All Lettered rs → Rep s C → Reach rs s t
    → (D : Config) × Steps rs C D × Rep t D
rep-reach {C} letters p arrived = (C, stay, p)
rep-reach letters p (fires r ps i e more) =
    let (B, k, q) = rep-fires r ps (all-member letters i) i p e in
    let (D, l, h) = rep-reach letters q more in
    (D, go k l, h)

-- steps of what a state represents are firings of the state
pub rep-steps :
    {rs : List Rule} {s : State} {C D : Config} → All Lettered rs → Rep s C → Steps rs C D
    → (t : State) × Reach rs s t × Rep t D
rep-steps {s} letters p stay = (s, arrived, p)
rep-steps letters (has_failed n) (go k l) = (failed, arrived, has_failed (steps-inconsistent n (go k l)))
rep-steps letters (is_live scoped I) (go k l) =
    let (r, ps, t, i, e, q) = rep_step letters (is_live scoped I) k in
    let (u, more, h) = rep-steps {s = t} letters q l in
    (u, fires r ps i e more, h)

-- a firing keeps every variable below the state's number
pub fire_at-scoped :
    (r : Rule) (ps : List ℕ) (s : State) {t : State} → Lettered r → ScopedState s → fire_at r ps s ≡ some t → ScopedState t
unfolding fire_at
fire_at-scoped r ps failed letters h p = none-some refl p
fire_at-scoped r ps (live n b cs) letters h p = rep-scoped (fire_at-sound {rs = r ∷ []} r ps n b cs letters h first p).2

-- the one element of a list
only : {A : Type 0} {a b : A} → Member a (b ∷ []) → a ≡ b
only first = refl
only (later i) = elim i [ ]

-- equal states fire alike
pub variant-fires :
    (r : Rule) (ps : List ℕ) (s t : State) {s' : State} → Lettered r → ScopedState s → ScopedState t → Variant s t
    → fire_at r ps s ≡ some s' → (qs : List ℕ) × (t' : State) × (fire_at r qs t ≡ some t') × Variant s' t'
unfolding fire_at
variant-fires r ps failed t letters hs ht v p = none-some refl p
variant-fires r ps (live m b cs) failed letters hs ht v p = absurd v.lower
variant-fires r ps (live m b cs) (live n c ds) letters hs ht v p =
    let (D, k, h) = fire_at-sound r ps m b cs letters hs first p in
    let here = rep-variant (live m b cs) (live n c ds) v ht (rep-self m hs) in
    let (q, qs, t', i, e, g) = rep_step {rs = r ∷ []} (also letters none) here k in
    (qs, t', subst (λ x. fire_at x qs (live n c ds) ≡ some t') (only i) e, rep-same h g (same_refl D))
