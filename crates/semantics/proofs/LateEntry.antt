-- Late entry: wherever a derivation of a goal stands, its state with the constraints that have not entered is, up to order, a
-- state that as many firings reach from all of the goal at once. So what entered late could as well have entered first.
--   whole               a derivation's state with the constraints that have not entered, as they would enter
--   late-entry          it is reached from all of the goal, up to order
--   finished-reaches    the end of a finished derivation is, up to order, reached from all of the goal, and no rule fits there
-- Assumes nothing.
use Prim.Native.Nat.{ℕ, zero, suc, ◌+◌, ◌<◌}
use native.Mathlib.Omega.{arith}
use mathlib.Core.Bool.{Bool, true, false, cond, ◌&&◌}
use mathlib.Core.List.{List, [], ◌∷◌, ◌++◌, map, append_assoc, append-nil}
use mathlib.Core.Option.{Option, none, some}
use mathlib.Core.Path.{◌≡◌, refl, sym, ◌∙◌}
use lib.ListN.{length, drop, get_or, get_elem?, length-map}
use Rattle.text.specs.Lists.{onward, every, has, tabled}
use Rattle.semantics.specs.Terms.{Term, con, var, Constraint, Rule, Program, Goal, State, failed, live}
use Rattle.semantics.specs.Terms.{map_terms, map_sides, alphabet, is_below, is_declared, is_goal_of}
use Rattle.semantics.specs.Matching.{Assignment, unassigned, match_at}
use Rattle.semantics.specs.Solving.{solve}
use Rattle.semantics.specs.Firing.{without, instance, settle, fired, fire_at}
use Rattle.semantics.specs.Derivations.{Event, enter, fire, Progress, become, taken, entering, firing, follow, follow_all}
use Rattle.semantics.specs.Derivations.{start, derive, waiting, NoRuleFits, all_entered, Finished, by_failure, by_rest}
use Rattle.semantics.specs.Strategy.{goal_state}
use Rattle.semantics.specs.Variants.{Inserted, SameMultiset, put}
use Rattle.semantics.proofs.Configurations.{TermBelow, All, also}
use Rattle.semantics.proofs.Configurations as C
use Rattle.semantics.proofs.Multisets.{inserted-map, multiset-refl, multiset-append}
use Rattle.semantics.proofs.Options.{is_below-below}
use Rattle.semantics.proofs.MatchedTerms.{ConstraintBelow, without_all}
use Rattle.semantics.proofs.Options.{none-some, bind-some}
use Rattle.text.proofs.Bools.{and-true}
use Rattle.semantics.proofs.Removal.{without-none, without-every}
use Rattle.semantics.proofs.Bound.{waiting-enters}
use Rattle.semantics.proofs.Entering.{tabled-length, constraint-itself, every-up_to}
use Rattle.semantics.proofs.Normal.{Reach, arrived, fires}
use Rattle.semantics.specs.Rewriting.{Reordered, both_failed, reordered}
use Rattle.semantics.proofs.Reordering.{reordered-refl, reordered-trans}
use Rattle.semantics.proofs.Reordering.{with_more, Follows, fire-moves, reordered-rests}

-- constraints of a goal as they would enter
abbrev pub entrants : List Constraint → List Term → List Constraint
entrants ws = λ bound. map (map_terms (become bound)) ws

-- a derivation's state with the constraints that have not entered
abbrev pub whole : Goal → Progress → State
whole g d = with_more (entrants (waiting g d)) d.state

-- what each of n goal variables has become
abbrev Sized : ℕ → State → Type 0
Sized n failed = Unit {0}
Sized n (live next bound cs) = length bound ≡ n

-- settling keeps that
sized-settled :
    (n : ℕ) (o : Option (Term → Term)) (next : ℕ) (bound : List Term) (cs : List Constraint) → length bound ≡ n
    → Sized n (settle o next bound cs)
unfolding settle
sized-settled n none next bound cs e = tt
sized-settled n (some σ) next bound cs e = length-map bound σ ∙ e

-- so does a firing
sized-fired : (n : ℕ) (r : Rule) (ps : List ℕ) (s t : State) → fire_at r ps s ≡ some t → Sized n s → Sized n t
unfolding fire_at fired
sized-fired n r ps failed t e z = none-some refl e
sized-fired n r ps (live next bound cs) t e z =
    go (bind-some (match_at r.heads ps cs [] unassigned) (λ θ. some (fired r ps θ next bound cs)) e)
  where
    go :
        (θ : Assignment) × (match_at r.heads ps cs [] unassigned ≡ some θ) × (some (fired r ps θ next bound cs) ≡ some t)
        → Sized n t
    go (θ, m, q) =
        let p : fired r ps θ next bound cs ≡ t = cc in
        rw p at (sized-settled n (solve (map (map_sides (instance next θ)) r.equations) (λ t. t)) (next + alphabet) bound
        (without 0 (drop r.kept ps) cs ++ map (map_terms (instance next θ)) r.body) z)

-- and an entry
sized-taken : (n : ℕ) (c : Constraint) (s : State) → Sized n s → Sized n (taken c s)
unfolding taken
sized-taken n c failed z = tt
sized-taken n c (live next bound cs) z = z

-- an entry of an image
get_d-image : (σ : Term → Term) (l : List Term) (i : ℕ) (d e : Term) → i < length l → get_or (map σ l) i d ≡ σ (get_or l i e)
get_d-image σ [] i d e h = absurd (omega arith)
get_d-image σ (a ∷ l) zero d e h = refl
get_d-image σ (a ∷ l) (suc i) d e h = get_d-image σ l i d e (omega arith)

-- what a goal's term becomes follows what the goal variables become
become-follows :
    (σ : Term → Term) → ((c : ℕ) → σ (con c) ≡ con c) → (bound : List Term) (t : Term) → TermBelow (length bound) t
    → become (map σ bound) t ≡ σ (become bound t)
unfolding become
become-follows σ f bound (con c) h = sym (f c)
become-follows σ f bound (var x) h = get_d-image σ bound x (var x) (var x) h

-- the same for lists of terms
terms-follow :
    (σ : Term → Term) → ((c : ℕ) → σ (con c) ≡ con c) → (bound : List Term) {ts : List Term} → All (TermBelow (length bound)) ts
    → map (become (map σ bound)) ts ≡ map σ (map (become bound) ts)
terms-follow σ f bound C.none = refl
terms-follow σ f bound (also {a = t} h hs) = rw (become-follows σ f bound t h, terms-follow σ f bound hs)

-- the same for the constraints that wait
entrants-follow :
    (bound : List Term) {ws : List Constraint} → All (ConstraintBelow (length bound)) ws → Follows (entrants ws) bound
unfolding map_terms
entrants-follow bound C.none σ f = refl
entrants-follow bound (also {a = c} h hs) σ f = rw (terms-follow σ f bound h, entrants-follow bound hs σ f)

-- one firing more at the end
pub reach-last :
    {rs : List Rule} {n : ℕ} {s t u : State} → Reach rs n s t → (k : ℕ) (r : Rule) (ps : List ℕ) → get_elem? rs k ≡ some r
    → fire_at r ps t ≡ some u → Reach rs (suc n) s u
reach-last arrived k r ps e f = fires k r ps e f arrived
reach-last (fires j q qs a b h) k r ps e f = fires j q qs a b (reach-last h k r ps e f)

-- where a derivation stands: what all of the goal reaches by as many firings
pub record Late (p : Program) (g : Goal) (d : Progress) : Type 0 where
  pub reached : State
  pub reach : Reach p.rules d.firings (goal_state g) reached
  pub same : Reordered (whole g d) reached
  pub sized : Sized g.variables d.state

-- before any firing each constraint of the goal would enter as it is
entrants-themselves : (n : ℕ) (ws : List Constraint) → entrants ws (tabled var n) ≡ ws
entrants-themselves n [] = refl
entrants-themselves n (c ∷ ws) = rw (constraint-itself n c, entrants-themselves n ws)

-- at the start nothing has entered
late-start : (p : Program) (g : Goal) → Late p g (start g)
unfolding start with_more goal_state
late-start p g = record {
  reached = goal_state g;
  reach = arrived;
  same = rw (without-none, entrants-themselves) (reordered-refl (goal_state g));
  sized = tabled-length var g.variables;
}

-- a state that a waiting constraint enters is, with the others that wait, the same up to order
whole-entered :
    (c : Constraint) (ws vs : List Constraint) (s : State) → Inserted c vs ws
    → Reordered (with_more (entrants vs) (taken c s)) (with_more (entrants ws) s)
unfolding with_more taken
whole-entered c ws vs failed i = both_failed
whole-entered c ws vs (live next bound cs) i = reordered behind
  where
    behind : SameMultiset ◌≡◌ ((cs ++ (map_terms (become bound) c ∷ [])) ++ entrants vs bound) (cs ++ entrants ws bound)
    behind =
        rw append_assoc (multiset-append (multiset-refl (λ d. refl) cs)
        (put refl (inserted-map (map_terms (become bound)) i) (multiset-refl (λ d. refl) (entrants vs bound))))

-- each event keeps where the derivation stands: an entry
late-entering : (p : Program) (g : Goal) (n : ℕ) (d : Progress) → Late p g d → Late p g (entering g n d)
unfolding entering
late-entering p g n d h = go (has n d.entered) refl (get_elem? g.constraints n) refl
  where
    go :
        (t : Bool) → has n d.entered ≡ t → (o : Option Constraint) → get_elem? g.constraints n ≡ o
        → Late p g
        (cond t d (onward o d (λ c. record { state = taken c d.state; entered = n ∷ d.entered; firings = d.firings })))
    go true f o s = h
    go false f none s = h
    go false f (some c) s = record {
      reached = h.reached;
      reach = h.reach;
      same = reordered-trans
          (whole-entered c (waiting g d) (without 0 (n ∷ d.entered) g.constraints) d.state
          (waiting-enters g d.entered n c f s))
          h.same;
      sized = sized-taken g.variables c d.state h.sized;
    }

-- a state of which a live one is a reordering is live
reordered-live :
    {next : ℕ} {bound : List Term} {cs : List Constraint} {u : State} → Reordered (live next bound cs) u
    → (ds : List Constraint) × (u ≡ live next bound ds) × SameMultiset ◌≡◌ cs ds
reordered-live (reordered {ds = ds} m) = (ds, refl, m)

-- what fires in a state fires in what all of the goal reaches
whole-fires :
    (n : ℕ) (ws : List Constraint) → All (ConstraintBelow n) ws → (r : Rule) (ps : List ℕ) (s t u : State) → Sized n s
    → fire_at r ps s ≡ some t → Reordered (with_more (entrants ws) s) u
    → (qs : List ℕ) × (v : State) × (fire_at r qs u ≡ some v) × Reordered (with_more (entrants ws) t) v
unfolding with_more fire_at
whole-fires n ws below r ps failed t u z e h = none-some refl e
whole-fires n ws below r ps (live next bound cs) t u z e h = go (reordered-live h)
  where
    go :
        (ds : List Constraint) × (u ≡ live next bound ds) × SameMultiset ◌≡◌ (cs ++ entrants ws bound) ds
        → (qs : List ℕ) × (v : State) × (fire_at r qs u ≡ some v) × Reordered (with_more (entrants ws) t) v
    go (ds, q, m) =
        rw q (fire-moves (entrants ws) r ps next bound cs ds t (entrants-follow bound (rw (← z) at below)) e m)

-- a firing
late-firing :
    (p : Program) (g : Goal) (n : ℕ) (ps : List ℕ) (d : Progress) → All (ConstraintBelow g.variables) g.constraints
    → Late p g d → Late p g (firing p n ps d)
unfolding firing
late-firing p g n ps d below h = go (get_elem? p.rules n) refl
  where
    step :
        (r : Rule) → get_elem? p.rules n ≡ some r → (t : State) → fire_at r ps d.state ≡ some t
        → (qs : List ℕ) × (v : State) × (fire_at r qs h.reached ≡ some v) × Reordered (with_more (entrants (waiting g d)) t) v
        → Late p g (record { state = t; entered = d.entered; firings = suc d.firings })
    step r e t f (qs, v, k, m) = record {
      reached = v;
      reach = reach-last h.reach n r qs e k;
      same = m;
      sized = sized-fired g.variables r ps d.state t f h.sized;
    }

    fires-or-not :
        (r : Rule) → get_elem? p.rules n ≡ some r → (o : Option State) → fire_at r ps d.state ≡ o
        → Late p g (onward o d (λ s. record { state = s; entered = d.entered; firings = suc d.firings }))
    fires-or-not r e none f = h
    fires-or-not r e (some t) f =
        let rest = without_all 0 d.entered below in
        step r e t f
        (whole-fires g.variables (waiting g d) rest r ps d.state t h.reached h.sized f h.same)

    go :
        (o : Option Rule) → get_elem? p.rules n ≡ o
        → Late p g
        (onward o d
        (λ r. onward (fire_at r ps d.state) d
        (λ s. record { state = s; entered = d.entered; firings = suc d.firings })))
    go none e = h
    go (some r) e = fires-or-not r e (fire_at r ps d.state) refl

-- all events
late-all :
    (p : Program) (g : Goal) (es : List Event) (d : Progress) → All (ConstraintBelow g.variables) g.constraints
    → Late p g d → Late p g (follow_all p g es d)
unfolding follow_all follow
late-all p g [] d below h = h
late-all p g (enter n ∷ es) d below h = late-all p g es (entering g n d) below (late-entering p g n d h)
late-all p g (fire n ps ∷ es) d below h = late-all p g es (firing p n ps d) below (late-firing p g n ps d below h)

-- the terms of a goal are constants or its own variables
every-below : (n : ℕ) (ts : List Term) → every (is_below n) ts ≡ true → All (TermBelow n) ts
every-below n [] e = C.none
every-below n (t ∷ ts) e =
    let u = and-true (is_below n t) (every (is_below n) ts) e in
    also (is_below-below n t u.0) (every-below n ts u.1)

-- and so are those of all its constraints
pub goal-below : (p : Program) (g : Goal) → is_goal_of p g ≡ true → All (ConstraintBelow g.variables) g.constraints
unfolding is_goal_of
goal-below p g e = go g.constraints e
  where
    go :
        (cs : List Constraint)
        → every (λ c. is_declared p.symbols c && every (is_below g.variables) c.terms) cs ≡ true
        → All (ConstraintBelow g.variables) cs
    go [] e = C.none
    go (c ∷ cs) e =
        let rest = every (λ c. is_declared p.symbols c && every (is_below g.variables) c.terms) cs in
        let u = and-true (is_declared p.symbols c && every (is_below g.variables) c.terms) rest e in
        let v = and-true (is_declared p.symbols c) (every (is_below g.variables) c.terms) u.0 in
        also (every-below g.variables c.terms v.1) (go cs u.1)

-- where a derivation of a goal stands, with what has not entered, all of the goal reaches by as many firings, up to order
pub late-entry : (p : Program) (g : Goal) → is_goal_of p g ≡ true → (es : List Event) → Late p g (derive p g es)
unfolding derive
late-entry p g e es = late-all p g es (start g) (goal-below p g e) (late-start p g)

-- in the end of a finished derivation nothing waits that could change it, and no rule fits
finished-whole : (p : Program) (g : Goal) (d : Progress) → Finished p g d → (whole g d ≡ d.state) × NoRuleFits p d.state
unfolding all_entered with_more fire_at
finished-whole p g d (by_failure e) = (rw e, λ n r ps q. rw e)
finished-whole p g d (by_rest a f) = (rw none-waits (alone d.state), f)
  where
    none-waits : without 0 d.entered g.constraints ≡ []
    none-waits =
        without-every 0 d.entered g.constraints
        (λ i l. every-up_to (λ n. has n d.entered) (length g.constraints) i a (omega arith))

    alone : (s : State) → with_more (entrants []) s ≡ s
    alone failed = refl
    alone (live next bound cs) = rw append-nil

-- the end of a finished derivation is, up to order, reached from all of the goal by as many firings, and no rule fits there
pub finished-reaches :
    (p : Program) (g : Goal) → is_goal_of p g ≡ true → (es : List Event) → Finished p g (derive p g es)
    → (u : State) × Reach p.rules (derive p g es).firings (goal_state g) u × NoRuleFits p u
    × Reordered (derive p g es).state u
finished-reaches p g e es f =
    let h = late-entry p g e es in
    let w = finished-whole p g (derive p g es) f in
    let s : Reordered (derive p g es).state h.reached = rw w.0 at h.same in
    (h.reached, h.reach, reordered-rests p s w.1, s)
