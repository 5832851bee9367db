-- The states of derivations represent published states that are reached from the initial state of their goal (document 000,
-- definitions 2.8 and 2.9).
--   entry-represents      a constraint that enters is introduced
--   Reached               the published state of a derivation's progress
--   derive-reached        every derivation has one
-- Assumes nothing.
use Prim.Native.Nat.{ℕ, zero, suc, ◌<◌}
use mathlib.Core.Bool.{Bool, true, false, cond}
use mathlib.Core.List.{List, [], ◌∷◌, ◌++◌, map, map-append, append-nil}
use mathlib.Core.Option.{Option, none, some}
use mathlib.Core.Path.{◌≡◌, refl, sym, ap, subst, ◌∙◌}
use native.Mathlib.Omega.{arith}
use lib.ListN.{get_elem?}
use Rattle.text.specs.Lists.{onward, has, tabled, up_to}
use Rattle.semantics.specs.Terms.{Term, con, var, Constraint, Rule, Program, Goal, State, failed, live, map_terms}
use Rattle.semantics.specs.Terms.{is_goal_of, is_well_formed}
use Rattle.semantics.specs.Solving.{solve}
use Rattle.semantics.specs.Firing.{without, settle, fire_at}
use Rattle.semantics.specs.Derivations.{Event, enter, fire, Progress, become, taken, entering, firing, follow, follow_all}
use Rattle.semantics.specs.Derivations.{start, derive, waiting}
use Rattle.semantics.specs.Variants.{TermVariant, same_con, Pointwise, empty, each, here, SameMultiset, put, Variant}
use Rattle.semantics.specs.Published.{Item, user, Published, initial, introduces, Simplify, simplifies, introducing}
use Rattle.semantics.specs.Published.{simplifying, Reaches, stays, goes, solved_form, Represents}
use Rattle.semantics.specs.Rewriting.{rewritten, rewritten_all}
use Rattle.semantics.proofs.Configurations.{TermBelow, All, also, conf_of}
use Rattle.semantics.proofs.Configurations as C
use Rattle.semantics.proofs.Multisets.{inserted-map, inserted-right, multiset-refl, multiset-right}
use Rattle.semantics.proofs.Multisets.{multiset-back, multiset-of-path, all-member}
use Rattle.semantics.proofs.Isos.{iso-refl}
use Rattle.semantics.proofs.MatchedTerms.{ConstraintBelow}
use Rattle.semantics.proofs.Indices.{pointwise-get, get_elem_map, get_elem-at, get_d_at}
use Rattle.semantics.proofs.Listings.{at-member}
use Rattle.semantics.proofs.Removal.{without-none}
use Rattle.semantics.proofs.SolveLaws.{solve-solution}
use Rattle.semantics.proofs.VariantLaws.{iso-variant}
use Rattle.semantics.proofs.Bound.{waiting-enters}
use Rattle.semantics.proofs.Entering.{tabled-length, tabled-entry}
use Rattle.semantics.proofs.LateEntry.{goal-below}
use Rattle.semantics.proofs.Clearing.{cleared-into, reaches-trans, cleared-reaches}
use Rattle.semantics.proofs.FiringIsSimplify.{firing-is-simplify}
use Rattle.semantics.proofs.Derived.{Sound, start-sound, follow-sound}

-- the variables below n, as terms
variables-tabled : (n : ℕ) → map var (up_to n) ≡ tabled var n
variables-tabled zero = refl
variables-tabled (suc n) = map-append var (up_to n) (n ∷ []) ∙ ap (λ l. l ++ (var n ∷ [])) (variables-tabled n)

-- nothing changes them where nothing is solved
unsolved-variables : (n : ℕ) → map (λ t. t) (map var (up_to n)) ≡ tabled var n
unsolved-variables n = map-identity (map var (up_to n)) ∙ variables-tabled n
  where
    map-identity : (l : List Term) → map (λ t. t) l ≡ l
    map-identity [] = refl
    map-identity (t ∷ l) = ap (t ∷◌) (map-identity l)

-- each of them stands at its number
variable-at : (n x : ℕ) → x < n → get_elem? (map var (up_to n)) x ≡ some (var x)
variable-at n x h =
    let (t, e) = get_elem-at (tabled var n) x (omega (arith, tabled-length var n)) in
    ap (λ l. get_elem? l x) (variables-tabled n) ∙ e
    ∙ ap some (sym (get_d_at (tabled var n) x (var x) e) ∙ tabled-entry var n x)

-- a goal's terms, solved, are what they have become, up to the renaming
module _
    (ρ : ℕ → ℕ → Type 0) (σ : Term → Term) (fixes : (c : ℕ) → σ (con c) ≡ con c) (k : ℕ) (b : List Term)
    (face : Pointwise (TermVariant ρ) (map σ (map var (up_to k))) b) where
  term-becomes : (t : Term) → TermBelow k t → TermVariant ρ (σ t) (become b t)
  unfolding become
  term-becomes (con c) h = subst (λ t. TermVariant ρ t (con c)) (sym (fixes c)) same_con
  term-becomes (var x) h =
      let (t, e, r) = pointwise-get x face (get_elem_map σ (map var (up_to k)) x (variable-at k x h)) in
      subst (TermVariant ρ (σ (var x))) (sym (get_d_at b x (var x) e)) r

  terms-become : {ts : List Term} → All (TermBelow k) ts → Pointwise (TermVariant ρ) (map σ ts) (map (become b) ts)
  terms-become C.none = empty
  terms-become (also {a = t} h hs) = each (term-becomes t h) (terms-become hs)

-- a state that a constraint of the goal enters represents the stores with that constraint
entry-represents :
    (a : Published) (k : ℕ) (c : Constraint) (s : State) (gs : List Item) → a.variables ≡ up_to k → All (TermBelow k) c.terms
    → Represents a s
    → Represents (record {
      goals = gs;
      user_store = c ∷ a.user_store;
      built_in_store = a.built_in_store;
      variables = a.variables;
    }) (taken c s)
unfolding solved_form settle taken map_terms
entry-represents a k c s gs vs below v = go (solve a.built_in_store (λ t. t)) refl s v
  where
    go :
        (o : Option (Term → Term)) → solve a.built_in_store (λ t. t) ≡ o → (s : State)
        → Variant (settle o 0 (map var a.variables) a.user_store) s
        → Variant (settle o 0 (map var a.variables) (c ∷ a.user_store)) (taken c s)
    go none q failed v = v
    go none q (live n b cs) v = absurd v.lower
    go (some σ) q failed v = absurd v.lower
    go (some σ) q (live n b cs) (ρ, o, f, m) = (
      ρ,
      o,
      f,
      put (record {
        symbols = refl;
        terms = terms-become ρ σ (solve-solution a.built_in_store q).fixes k b
            (subst (λ l. Pointwise (TermVariant ρ) (map σ (map var l)) b) vs f) below;
      }) (inserted-right cs here) (subst (SameMultiset _ (map (map_terms σ) a.user_store)) (sym (append-nil cs)) m),
    )

-- a published state of a derivation's progress: reached from the initial state, with what has not entered in its goal store
pub record Reached (p : Program) (g : Goal) (d : Progress) : Type 1 where
  pub at : Published
  pub reaches : Reaches (rewritten_all p) (initial g) at
  pub goals : SameMultiset ◌≡◌ at.goals (map user (waiting g d))
  pub variables : at.variables ≡ up_to g.variables
  pub represents : Represents at d.state
  pub sound : Sound g.variables d.state

-- a Simplify step keeps the variables
simplify-variables : {r : Rule} {cs : List Constraint} {a b : Published} → Simplify r cs a b → b.variables ≡ a.variables
simplify-variables (simplifies ρ sat f split equated implied) = refl

module _
    (p : Program) (w : is_well_formed p ≡ true) (g : Goal) (over : All (ConstraintBelow g.variables) g.constraints) where
  -- the initial state
  reached-start : Reached p g (start g)
  unfolding start initial solved_form settle solve
  reached-start = record {
    at = initial g;
    reaches = stays;
    goals = multiset-of-path (ap (map user) (sym (without-none 0 g.constraints)));
    variables = refl;
    represents =
        subst (λ l. Variant (live 0 l []) (live g.variables (tabled var g.variables) []))
        (sym (unsolved-variables g.variables))
        (iso-variant 0 g.variables (iso-refl (conf_of (tabled var g.variables) [])));
    sound = start-sound g over;
  }

  -- a constraint enters
  reached-entry :
      (n : ℕ) (c : Constraint) (d : Progress) → Reached p g d → has n d.entered ≡ false → get_elem? g.constraints n ≡ some c
      → Sound g.variables (taken c d.state)
      → Reached p g (record { state = taken c d.state; entered = n ∷ d.entered; firings = d.firings })
  reached-entry n c d h new at sound =
      let vs = without 0 (n ∷ d.entered) g.constraints in
      let one : SameMultiset ◌≡◌ (map user (waiting g d)) (user c ∷ map user vs) =
      multiset-back (put refl (inserted-map user (waiting-enters g d.entered n c new at))
      (multiset-refl (λ i. refl) (map user vs))) in
      record {
        at = record {
          goals = map user vs;
          user_store = c ∷ h.at.user_store;
          built_in_store = h.at.built_in_store;
          variables = h.at.variables;
        };
        reaches = reaches-trans h.reaches (goes (introducing (introduces (multiset-right h.goals one))) stays);
        goals = multiset-refl (λ i. refl) (map user vs);
        variables = h.variables;
        represents =
            entry-represents h.at g.variables c d.state (map user vs) h.variables
            (all-member over (at-member g.constraints n at)) h.represents;
        sound = sound;
      }

  -- a rule fires
  reached-firing :
      (n : ℕ) (r : Rule) (ps : List ℕ) (t : State) (d : Progress) → Reached p g d → get_elem? p.rules n ≡ some r
      → fire_at r ps d.state ≡ some t → Sound g.variables t
      → Reached p g (record { state = t; entered = d.entered; firings = suc d.firings })
  reached-firing n r ps t d h i e sound =
      let claim = firing-is-simplify p h.at d.state w h.sound.0 h.represents in
      let (cs, b, c, standing, k, l, rep) = claim.published n r ps t i e in
      let into = cleared-into l in
      record {
        at = c;
        reaches =
            reaches-trans h.reaches
            (goes (simplifying n (rewritten r) (get_elem_map rewritten p.rules n i) k) (cleared-reaches (rewritten_all p) l));
        goals = multiset-right into.goals h.goals;
        variables = into.variables ∙ simplify-variables k ∙ h.variables;
        represents = rep;
        sound = sound;
      }

  -- every event
  reached-follow : (e : Event) (d : Progress) → Reached p g d → Reached p g (follow p g e d)
  unfolding follow entering firing
  reached-follow (enter n) d h =
      go (has n d.entered) refl (get_elem? g.constraints n) refl (follow-sound p w g over (enter n) d h.sound)
    where
      go :
          (b : Bool) → has n d.entered ≡ b → (o : Option Constraint) → get_elem? g.constraints n ≡ o
          → Sound g.variables (cond b d (onward o d (λ c. record {
            state = taken c d.state;
            entered = n ∷ d.entered;
            firings = d.firings;
          }))).state
          → Reached p g (cond b d (onward o d (λ c. record {
            state = taken c d.state;
            entered = n ∷ d.entered;
            firings = d.firings;
          })))
      go true f o e sound = h
      go false f none e sound = h
      go false f (some c) e sound = reached-entry n c d h f e sound
  reached-follow (fire n ps) d h = go (get_elem? p.rules n) refl (follow-sound p w g over (fire n ps) d h.sound)
    where
      after :
          (r : Rule) → get_elem? p.rules n ≡ some r → (o : Option State) → fire_at r ps d.state ≡ o
          → Sound g.variables (onward o d (λ s. record { state = s; entered = d.entered; firings = suc d.firings })).state
          → Reached p g (onward o d (λ s. record { state = s; entered = d.entered; firings = suc d.firings }))
      after r i none e sound = h
      after r i (some t) e sound = reached-firing n r ps t d h i e sound

      go :
          (o : Option Rule) → get_elem? p.rules n ≡ o
          → Sound g.variables (onward o d (λ r. onward (fire_at r ps d.state) d (λ s. record {
            state = s;
            entered = d.entered;
            firings = suc d.firings;
          }))).state
          → Reached p g (onward o d (λ r. onward (fire_at r ps d.state) d (λ s. record {
            state = s;
            entered = d.entered;
            firings = suc d.firings;
          })))
      go none i sound = h
      go (some r) i sound = after r i (fire_at r ps d.state) refl sound

  -- all events
  reached-all : (es : List Event) (d : Progress) → Reached p g d → Reached p g (follow_all p g es d)
  unfolding follow_all
  reached-all [] d h = h
  reached-all (e ∷ es) d h = reached-all es (follow p g e d) (reached-follow e d h)

-- every derivation has reached a published state
pub derive-reached :
    (p : Program) (g : Goal) (es : List Event) → is_well_formed p ≡ true → is_goal_of p g ≡ true → Reached p g (derive p g es)
unfolding derive
derive-reached p g es w e = let over = goal-below p g e in reached-all p w g over es (start g) (reached-start p w g over)
