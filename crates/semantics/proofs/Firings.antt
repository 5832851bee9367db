-- Firings as steps between states.
--   Fires                       a firing of a rule of a list
--   star-reach, reach-star      firings one after the other, with and without their number
--   normal-rests, rests-normal  no firing leads on exactly where no rule fits
--   entered-scoped              all of a goal, entered, is a scoped state
--   fires-…                     a firing keeps states scoped, lowers the weight, and is followed by equal states
--   reducing                    what Newman's lemma asks of firings
-- Assumes nothing.
use Prim.Native.Nat.{ℕ, zero, suc, ◌<◌}
use native.Mathlib.Omega.{arith}
use mathlib.Core.Bool.{true}
use mathlib.Core.List.{List}
use mathlib.Core.Option.{Option, none, some}
use mathlib.Core.Path.{◌≡◌, refl}
use lib.ListN.{get_elem?}
use Rattle.text.specs.Lists.{tabled}
use Rattle.semantics.specs.Terms.{Rule, Program, Goal, State, is_well_formed}
use Rattle.semantics.specs.Terms as T
use Rattle.semantics.specs.Firing.{fire_at}
use Rattle.semantics.specs.Derivations.{NoRuleFits}
use Rattle.semantics.specs.Strategy.{advance, goal_state}
use Rattle.semantics.specs.Variants.{Variant}
use Rattle.semantics.proofs.Configurations.{Or, inl, inr, Member, TermBelow, All, also}
use Rattle.semantics.proofs.Configurations as C
use Rattle.semantics.proofs.Options.{none-some}
use Rattle.semantics.proofs.Bools.{none-unless}
use Rattle.semantics.proofs.Multisets.{all-member, all-mono, all_append}
use Rattle.semantics.proofs.MatchedTerms.{ConstraintBelow, below-mono}
use Rattle.semantics.proofs.Choosing.{advance-fires, advance-rests}
use Rattle.semantics.proofs.Weights.{state_weight, fire_at-lighter}
use Rattle.semantics.proofs.Normal as N
use Rattle.semantics.proofs.Letters.{program-lettered}
use Rattle.semantics.proofs.VariantLaws.{variant-refl, variant-sym, variant-trans}
use Rattle.semantics.proofs.Represent.{ScopedState, Reach, arrived, fires, fire_at-scoped, variant-fires}
use Rattle.semantics.proofs.Newman.{Star, here, next, Normal, Reducing}
use Rattle.semantics.proofs.Listings.{at-member, member-at}

-- a firing of a rule of a list
pub record Fires (rs : List Rule) (s t : State) : Type 0 where
  pub rule : Rule
  pub positions : List ℕ
  pub among : Member rule rs
  pub fires : fire_at rule positions s ≡ some t

-- the firing of the rule of a number
pub fires-at :
    (rs : List Rule) (k : ℕ) (r : Rule) (ps : List ℕ) {s t : State} → get_elem? rs k ≡ some r → fire_at r ps s ≡ some t
    → Fires rs s t
fires-at rs k r ps e f = record { rule = r; positions = ps; among = at-member rs k e; fires = f }

-- firings one after the other
pub reach-star : {rs : List Rule} {s t : State} → Reach rs s t → Star (Fires rs) s t
reach-star arrived = here
reach-star (fires r ps i e more) = next (record { rule = r; positions = ps; among = i; fires = e }) (reach-star more)

pub star-reach : {rs : List Rule} {s t : State} → Star (Fires rs) s t → Reach rs s t
star-reach here = arrived
star-reach (next f more) = fires f.rule f.positions f.among f.fires (star-reach more)

-- firings whose number is known
pub counted-star : {rs : List Rule} {n : ℕ} {s t : State} → N.Reach rs n s t → Star (Fires rs) s t
counted-star N.arrived = here
counted-star {rs} (N.fires k r ps e f more) = next (fires-at rs k r ps e f) (counted-star more)

-- no firing leads on exactly where no rule fits
pub normal-rests : (p : Program) (s : State) → Normal (Fires p.rules) s → NoRuleFits p s
normal-rests p s h k r ps e = none-unless (fire_at r ps s) (λ t f. h t (fires-at p.rules k r ps e f))

pub rests-normal : (p : Program) (s : State) → NoRuleFits p s → Normal (Fires p.rules) s
rests-normal p s h t f =
    let (k, e) = member-at f.among in
    none-some (h k f.rule f.positions e) f.fires

-- the strategy knows which it is
pub fires-known : (p : Program) (s : State) → Or (Normal (Fires p.rules) s) ((t : State) × Fires p.rules s t)
fires-known p s = go (advance p.rules s) refl
  where
    go : (o : Option State) → advance p.rules s ≡ o → Or (Normal (Fires p.rules) s) ((t : State) × Fires p.rules s t)
    go none e = inl (rests-normal p s (advance-rests p s e))
    go (some t) e =
        let (k, r, ps, a, f) = advance-fires p.rules s t e in
        inr (t, fires-at p.rules k r ps a f)

-- the variables below a number are below it
tabled-below : (n : ℕ) → All (TermBelow n) (tabled T.var n)
tabled-below zero = C.none
tabled-below (suc n) =
    all_append (all-mono (λ t h. below-mono (omega arith) t h) (tabled-below n)) (also (omega arith) C.none)

-- all of a goal, entered, is scoped
pub entered-scoped : (g : Goal) → All (ConstraintBelow g.variables) g.constraints → ScopedState (goal_state g)
unfolding goal_state
entered-scoped g h = record { bound = tabled-below g.variables; constraints = h }

module _ (p : Program) (w : is_well_formed p ≡ true) where
  -- a firing keeps every variable below the state's number
  pub fires-scoped : (s t : State) → ScopedState s → Fires p.rules s t → ScopedState t
  fires-scoped s t h f = fire_at-scoped f.rule f.positions s (all-member (program-lettered p w) f.among) h f.fires

  -- it lowers the weight
  pub fires-lighter : (s t : State) → Fires p.rules s t → state_weight p.symbols t < state_weight p.symbols s
  fires-lighter s t f =
      let (k, e) = member-at f.among in
      fire_at-lighter p k f.rule f.positions s t w e f.fires

  -- equal states fire alike
  pub fires-follow :
      (s t u : State) → ScopedState s → ScopedState t → Variant s t → Fires p.rules s u
      → (v : State) × Fires p.rules t v × Variant u v
  fires-follow s t u hs ht v f =
      let letters = all-member (program-lettered p w) f.among in
      let (qs, t', e, d) = variant-fires f.rule f.positions s t letters hs ht v f.fires in
      (t', record { rule = f.rule; positions = qs; among = f.among; fires = e }, d)

  -- what Newman's lemma asks of firings
  pub reducing : Reducing ScopedState (Fires p.rules) (state_weight p.symbols) Variant
  reducing = record {
    keeps = fires-scoped;
    falls = fires-lighter;
    known = fires-known p;
    reflexive = variant-refl;
    symmetric = variant-sym;
    transitive = variant-trans;
    follows = fires-follow;
  }
