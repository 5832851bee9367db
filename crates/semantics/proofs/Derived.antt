-- The states of derivations (document 01: runs) are scoped.
--   Sound                a state over a goal's variables: scoped, with a term for each
--   start-sound          where a derivation starts
--   follow-sound         every event keeps a state so
--   derive-scoped        so all states of derivations are scoped
-- Assumes nothing.
use Prim.Native.Nat.{ℕ, suc, ◌+◌}
use mathlib.Core.Bool.{Bool, true, false, cond}
use mathlib.Core.List.{List, [], ◌∷◌, ◌++◌, map}
use mathlib.Core.Option.{Option, none, some}
use mathlib.Core.Path.{◌≡◌, refl, sym, subst, ◌∙◌}
use lib.ListN.{length, drop, get_elem?, length-map}
use Rattle.text.specs.Lists.{onward, has}
use Rattle.semantics.specs.Terms.{Term, Constraint, Rule, Program, Goal, State, failed, live, map_terms, map_sides}
use Rattle.semantics.specs.Terms.{is_goal_of, alphabet, is_well_formed}
use Rattle.semantics.specs.Terms as T
use Rattle.semantics.specs.Matching.{unassigned, match_at}
use Rattle.semantics.specs.Solving.{solve}
use Rattle.semantics.specs.Firing.{without, instance, settle, fired, fire_at}
use Rattle.semantics.specs.Derivations.{Event, enter, fire, Progress, become, taken, entering, firing, follow, follow_all}
use Rattle.semantics.specs.Derivations.{start, derive}
use Rattle.semantics.specs.Strategy.{goal_state}
use Rattle.semantics.proofs.Configurations.{TermBelow, All, also}
use Rattle.semantics.proofs.Configurations as C
use Rattle.semantics.proofs.Multisets.{all-member, all-mono, all_map, all_append}
use Rattle.semantics.proofs.Options.{none-some, bind-some}
use Rattle.semantics.proofs.Indices.{some-equal}
use Rattle.semantics.proofs.Listings.{at-member}
use Rattle.semantics.proofs.MatchedTerms.{ConstraintBelow}
use Rattle.semantics.proofs.FireLaws.{Lettered}
use Rattle.semantics.proofs.Letters.{program-lettered}
use Rattle.semantics.proofs.Represent.{ScopedState, fire_at-scoped}
use Rattle.semantics.proofs.Entering.{tabled-length}
use Rattle.semantics.proofs.LateEntry.{goal-below}
use Rattle.semantics.proofs.Firings.{entered-scoped}
use Rattle.semantics.proofs.GoalTerms.{become-below}

-- how many terms a state has for goal variables
abbrev width_of : ℕ → State → Type 0
width_of k failed = Unit {0}
width_of k (live n b cs) = length b ≡ k

-- a state over k goal variables: scoped, with a term for each
abbrev pub Sound : ℕ → State → Type 0
Sound k s = ScopedState s × width_of k s

-- a firing keeps the number of terms
settle-width :
    (k : ℕ) (o : Option (Term → Term)) (n : ℕ) (b : List Term) (cs : List Constraint) → length b ≡ k
    → width_of k (settle o n b cs)
unfolding settle
settle-width k none n b cs e = tt
settle-width k (some σ) n b cs e = length-map b σ ∙ e

fire-width : (k : ℕ) (r : Rule) (ps : List ℕ) (s : State) {t : State} → width_of k s → fire_at r ps s ≡ some t → width_of k t
unfolding fire_at fired
fire-width k r ps failed h p = none-some refl p
fire-width k r ps (live n b cs) h p =
    let (θ, m, e) = bind-some (match_at r.heads ps cs [] unassigned) (λ θ. some (fired r ps θ n b cs)) p in
    subst (width_of k) (some-equal e)
    (settle-width k (solve (map (map_sides (instance n θ)) r.equations) (λ t. t)) (n + alphabet) b
    (without 0 (drop r.kept ps) cs ++ map (map_terms (instance n θ)) r.body) h)

-- a constraint over the goal's variables that enters is over the state's
taken-sound : {k : ℕ} (c : Constraint) (s : State) → All (TermBelow k) c.terms → Sound k s → Sound k (taken c s)
unfolding taken map_terms
taken-sound c failed h v = (tt, tt)
taken-sound {k} c (live n b cs) h (scoped, e) = (
  record {
    bound = scoped.bound;
    constraints = all_append scoped.constraints (also (all_map (become b) (all-mono (λ t l.
        become-below scoped.bound t (subst (λ m. TermBelow m t) (sym e) l)) h)) C.none);
  },
  e,
)

module _
    (p : Program) (w : is_well_formed p ≡ true) (g : Goal) (over : All (ConstraintBelow g.variables) g.constraints) where
  -- every event keeps a state so
  pub follow-sound : (e : Event) (d : Progress) → Sound g.variables d.state → Sound g.variables (follow p g e d).state
  unfolding follow entering firing
  follow-sound (enter n) d h = go (has n d.entered) (get_elem? g.constraints n) refl
    where
      go :
          (b : Bool) (o : Option Constraint) → get_elem? g.constraints n ≡ o
          → Sound g.variables (cond b d (onward o d (λ c. record {
            state = taken c d.state;
            entered = n ∷ d.entered;
            firings = d.firings;
          }))).state
      go true o e = h
      go false none e = h
      go false (some c) e = taken-sound c d.state (all-member over (at-member g.constraints n e)) h
  follow-sound (fire n ps) d h = go (get_elem? p.rules n) refl
    where
      after : (r : Rule) → Lettered r → (o : Option State) → fire_at r ps d.state ≡ o
          → Sound g.variables (onward o d (λ s. record { state = s; entered = d.entered; firings = suc d.firings })).state
      after r letters none e = h
      after r letters (some t) e =
          (fire_at-scoped r ps d.state letters h.0 e, fire-width g.variables r ps d.state h.1 e)

      go :
          (o : Option Rule) → get_elem? p.rules n ≡ o
          → Sound g.variables (onward o d (λ r. onward (fire_at r ps d.state) d (λ s. record {
            state = s;
            entered = d.entered;
            firings = suc d.firings;
          }))).state
      go none e = h
      go (some r) e =
          after r (all-member (program-lettered p w) (at-member p.rules n e)) (fire_at r ps d.state) refl

  -- so do all events
  follow_all-sound :
      (es : List Event) (d : Progress) → Sound g.variables d.state → Sound g.variables (follow_all p g es d).state
  unfolding follow_all
  follow_all-sound [] d h = h
  follow_all-sound (e ∷ es) d h = follow_all-sound es (follow p g e d) (follow-sound e d h)

-- where a derivation starts
pub start-sound : (g : Goal) → All (ConstraintBelow g.variables) g.constraints → Sound g.variables (start g).state
unfolding start goal_state
start-sound g over =
    (record { bound = (entered-scoped g over).bound; constraints = C.none }, tabled-length T.var g.variables)

-- all states of derivations of a program's goals are scoped
pub derive-scoped :
    (p : Program) (g : Goal) (es : List Event) → is_well_formed p ≡ true → is_goal_of p g ≡ true → ScopedState (derive p g es).state
unfolding derive
derive-scoped p g es w e =
    let over = goal-below p g e in
    (follow_all-sound p w g over es (start g) (start-sound g over)).0
