-- The goal of an overlap (document 000): both of its rules fit in it, each on its own side.
--   overlap_order, goal_term            the goal's variables, in order; a term of the rules, as it stands in the goal
--   goal_value                         what a goal variable stands for, under a replacement of the rules' variables
--   goal-constraints, goal-agreed     the goal's constraints; joined heads are equal in it
--   first-stands, second-stands       where the heads of the two rules stand in it
--   first_fits, second_fits           both rules fit there
--   first-fires, second-fires         so both sides fire
--   overlap-goal, listed-goal         it is a goal over the program's symbols
--   first-end, second-end             the ends of the two sides of an overlap of a program
-- Assumes nothing.
use Prim.Native.Nat.{ℕ, suc}
use native.Mathlib.Omega.{arith}
use mathlib.Core.Bool.{Bool, true, false, cond, ◌&&◌}
use mathlib.Core.List.{List, [], ◌∷◌, ◌++◌, map, map-map, map-append}
use mathlib.Core.Option.{some}
use mathlib.Core.Path.{◌≡◌, refl, sym, ap, subst, subst₂, ◌∙◌}
use lib.Dec.{ltb}
use lib.ListN.{length, get_or, get_elem?, length-map}
use Rattle.text.specs.Lists.{every, has, tabled, up_to}
use Rattle.semantics.specs.Terms.{Term, con, var, Constraint, Symbol, Rule, Program, Goal, State, map_terms}
use Rattle.semantics.specs.Terms.{removed_heads, is_declared, is_below, is_goal_of, alphabet, is_of_rule, is_rule_of, weight}
use Rattle.semantics.specs.Terms.{is_well_formed}
use Rattle.semantics.specs.Matching.{Assignment, unassigned, match_at}
use Rattle.semantics.specs.Firing.{fired, fire_at}
use Rattle.semantics.specs.Strategy.{goal_state, normalise}
use Rattle.semantics.specs.Overlaps.{apart, unjoined_heads, second_positions, appearing, numbered, goal_of}
use Rattle.semantics.specs.Overlaps.{Numbered, Overlap, side_end, first_end, second_end}
use Rattle.semantics.specs.Variants.{Pointwise, empty, each}
use Rattle.semantics.specs.Claims.{ByAppearance}
use Rattle.semantics.proofs.Configurations.{All, none, also, TermBelow}
use Rattle.semantics.proofs.Options.{none-some, below-is_below, is_below-below}
use Rattle.text.proofs.Bools.{and-true}
use Rattle.semantics.proofs.Multisets.{all-mono, all_append}
use Rattle.semantics.proofs.SolveLaws.{solve-solution}
use Rattle.semantics.proofs.PositionLaws.{Stands}
use Rattle.semantics.proofs.MatchLaws.{ConstraintRel, instantiate, Agrees, match_at-complete}
use Rattle.semantics.proofs.Pairings.{leftover, Agreed, leftover-map, unjoined-leftover}
use Rattle.semantics.proofs.OverlapPositions.{first-stand, first-fresh, second-stand, second-fresh}
use Rattle.semantics.proofs.Listings.{all-every}
use Rattle.semantics.proofs.Letters.{every-all}
use Rattle.semantics.proofs.Weights.{every-at}
use Rattle.semantics.proofs.Enumeration.{OverlapParts, overlap-parts, Listed, pairings-member}
use Rattle.semantics.proofs.Appearing.{goal-appearance, goal-scoped}
use Rattle.semantics.proofs.JoinLaws.{Holds, join-agreed}

-- the heads of an overlap's second rule, renamed apart
abbrev pub second_heads : Numbered → List Constraint
second_heads j = map (map_terms apart) j.rule.heads

-- one function on terms after another
pub map_terms-twice :
    (f g : Term → Term) (cs : List Constraint) → map (map_terms f) (map (map_terms g) cs) ≡ map (map_terms (λ t. f (g t))) cs
unfolding map_terms
map_terms-twice f g [] = refl
map_terms-twice f g (c ∷ cs) = λ i. record { symbol = c.symbol; terms = map-map f g c.terms i } ∷ map_terms-twice f g cs i

-- heads, and what they are under a function on terms that a replacement of variables amounts to
pub heads-instance :
    (ϑ : ℕ → Term) (f : Term → Term) → ((t : Term) → instantiate ϑ t ≡ f t) → (hs : List Constraint)
    → Pointwise (ConstraintRel (λ s t. instantiate ϑ s ≡ t)) hs (map (map_terms f) hs)
unfolding map_terms
heads-instance ϑ f e [] = empty
heads-instance ϑ f e (h ∷ hs) = each (record { symbols = refl; terms = images h.terms }) (heads-instance ϑ f e hs)
  where
    images : (ts : List Term) → Pointwise (λ s t. instantiate ϑ s ≡ t) ts (map f ts)
    images [] = empty
    images (t ∷ ts) = each (e t) (images ts)

-- with nothing assigned, any replacement agrees
pub unassigned-agrees : (ϑ : ℕ → Term) → Agrees unassigned ϑ
unfolding unassigned
unassigned-agrees ϑ x t e = none-some refl e

-- what is left of a list has what all of it has
all-leftover : {A : Type 0} {P : A → Type 0} (n : ℕ) (ds : List ℕ) {l : List A} → All P l → All P (leftover n l ds)
all-leftover n ds none = none
all-leftover {A} {P} n ds (also {a = x} {l} p ps) = go (has n ds) (all-leftover (suc n) ds ps)
  where
    go : (b : Bool) → All P (leftover (suc n) l ds) → All P (cond b (leftover (suc n) l ds) (x ∷ leftover (suc n) l ds))
    go true q = q
    go false q = also p q

-- a declared constraint is declared with other terms for its own
declared-map :
    (symbols : List Symbol) (f : Term → Term) {cs : List Constraint} → All (λ c. is_declared symbols c ≡ true) cs
    → All (λ c. is_declared symbols c ≡ true) (map (map_terms f) cs)
unfolding is_declared map_terms
declared-map symbols f none = none
declared-map symbols f (also {a = c} d ds) =
    also {a = map_terms f c} (rw (length-map c.terms f) d) (declared-map symbols f ds)

module _ {i j : Numbered} {ds : List ℕ} {o : Overlap} (parts : OverlapParts i j ds o) where
  -- the goal's variables, in order, as variables of the two rules
  abbrev pub overlap_order : List ℕ
  overlap_order = appearing [] (map (map_terms parts.solution) (i.rule.heads ++ unjoined_heads 1 (second_heads j) ds))

  -- a term of the two rules, as it stands in the goal
  abbrev pub goal_term : Term → Term
  goal_term t = numbered overlap_order (parts.solution t)

  -- what a goal variable stands for, under a replacement of the rules' variables
  abbrev pub goal_value : (ℕ → Term) → ℕ → Term
  goal_value θ v = θ (get_or overlap_order v 0)

  -- the heads of the first rule, and of the second, in the goal
  abbrev pub goal_first : List Constraint
  goal_first = map (map_terms goal_term) i.rule.heads

  abbrev pub goal_second : List Constraint
  goal_second = map (map_terms goal_term) (second_heads j)

  -- constants remain
  pub goal-fixes : (c : ℕ) → goal_term (con c) ≡ con c
  unfolding numbered
  goal-fixes c = ap (numbered overlap_order) ((solve-solution parts.equations parts.solved).fixes c)

  -- the equations of the joined heads hold
  pub goal-holds : Holds goal_term parts.equations
  goal-holds e m = ap (numbered overlap_order) ((solve-solution parts.equations parts.solved).joins m)

  -- the goal's constraints: the heads of the first rule, and what is left of the second's
  pub goal-constraints : o.goal.constraints ≡ goal_first ++ leftover 1 goal_second ds
  unfolding goal_of
  goal-constraints =
      let σ = parts.solution in
      let hs = i.rule.heads in
      let gs = second_heads j in
      ap (λ x. x.goal.constraints) parts.made
      ∙ map_terms-twice (numbered overlap_order) σ (hs ++ unjoined_heads 1 gs ds)
      ∙ map-append (map_terms goal_term) hs (unjoined_heads 1 gs ds)
      ∙ ap (goal_first ++◌)
      (ap (map (map_terms goal_term)) (unjoined-leftover 1 gs ds) ∙ sym (leftover-map (map_terms goal_term) 1 gs ds))

  pub goal-variables : o.goal.variables ≡ length overlap_order
  unfolding goal_of
  goal-variables = ap (λ x. x.goal.variables) parts.made

  -- joined heads are equal in the goal
  pub goal-agreed : length ds ≡ length i.rule.heads → Agreed 1 goal_first goal_second ds
  goal-agreed l = join-agreed i.rule.heads ds (second_heads j) parts.joined l goal_term goal-holds

  -- the first rule's heads stand at the first positions
  pub first-stands : Pointwise (Stands o.goal.constraints) (up_to (length i.rule.heads)) goal_first
  first-stands =
      subst₂ (λ cs m. Pointwise (Stands cs) (up_to m) goal_first) (sym goal-constraints)
      (length-map i.rule.heads (map_terms goal_term)) (first-stand goal_first (leftover 1 goal_second ds))

  -- the second rule's at the second positions
  pub second-stands :
      length ds ≡ length i.rule.heads
      → Pointwise (Stands o.goal.constraints)
      (second_positions 1 (length i.rule.heads) (length j.rule.heads) ds) goal_second
  second-stands l =
      subst (λ cs. Pointwise (Stands cs) (second_positions 1 (length i.rule.heads) (length j.rule.heads) ds) goal_second)
      (sym goal-constraints)
      (subst₂ (λ m n. Pointwise (Stands (goal_first ++ leftover 1 goal_second ds)) (second_positions 1 m n ds) goal_second)
      (length-map i.rule.heads (map_terms goal_term))
      (length-map (second_heads j) (map_terms goal_term) ∙ length-map j.rule.heads (map_terms apart))
      (second-stand goal_first goal_second ds (goal-agreed l)))

  -- both rules fit there
  pub first_fits :
      (θ : Assignment)
      × (match_at i.rule.heads (up_to (length i.rule.heads)) o.goal.constraints [] unassigned ≡ some θ)
      × Agrees θ (λ x. goal_term (var x))
  first_fits =
      match_at-complete (λ x. goal_term (var x)) o.goal.constraints [] unassigned (unassigned-agrees (λ x. goal_term (var x)))
      first-stands (first-fresh (length i.rule.heads))
      (heads-instance (λ x. goal_term (var x)) goal_term terms i.rule.heads)
    where
      terms : (t : Term) → instantiate (λ x. goal_term (var x)) t ≡ goal_term t
      terms (con c) = sym (goal-fixes c)
      terms (var x) = refl

  pub second_fits :
      length ds ≡ length i.rule.heads
      → (θ : Assignment)
      × (match_at j.rule.heads (second_positions 1 (length i.rule.heads) (length j.rule.heads) ds)
      o.goal.constraints [] unassigned ≡ some θ)
      × Agrees θ (λ x. goal_term (apart (var x)))
  unfolding apart
  second_fits l =
      match_at-complete (λ x. goal_term (apart (var x))) o.goal.constraints [] unassigned
      (unassigned-agrees (λ x. goal_term (apart (var x)))) (second-stands l)
      (second-fresh 1 (length i.rule.heads) (length j.rule.heads) ds (omega arith))
      (subst (Pointwise (ConstraintRel (λ s t. instantiate (λ x. goal_term (apart (var x))) s ≡ t)) j.rule.heads)
      (sym (map_terms-twice goal_term apart j.rule.heads))
      (heads-instance (λ x. goal_term (apart (var x))) (λ t. goal_term (apart t)) terms j.rule.heads))
    where
      terms : (t : Term) → instantiate (λ x. goal_term (apart (var x))) t ≡ goal_term (apart t)
      terms (con c) = sym (goal-fixes c)
      terms (var x) = refl

  -- so both sides of the overlap fire
  pub first-fires :
      (s : State) × (fire_at i.rule (up_to (length i.rule.heads)) (goal_state o.goal) ≡ some s)
  unfolding fire_at goal_state
  first-fires =
      let (θ, e, a) = first_fits in (
        fired i.rule (up_to (length i.rule.heads)) θ o.goal.variables (tabled var o.goal.variables)
            o.goal.constraints,
        rw e,
      )

  pub second-fires :
      length ds ≡ length i.rule.heads
      → (s : State)
      × (fire_at j.rule (second_positions 1 (length i.rule.heads) (length j.rule.heads) ds) (goal_state o.goal)
      ≡ some s)
  unfolding fire_at goal_state
  second-fires l =
      let (θ, e, a) = second_fits l in (
        fired j.rule (second_positions 1 (length i.rule.heads) (length j.rule.heads) ds) θ o.goal.variables
            (tabled var o.goal.variables) o.goal.constraints,
        rw e,
      )

  -- every variable of the goal's constraints is one of the goal's
  pub overlap-scoped : All (λ c. All (TermBelow o.goal.variables) c.terms) o.goal.constraints
  overlap-scoped =
      subst (λ x. All (λ c. All (TermBelow x.goal.variables) c.terms) x.goal.constraints) (sym parts.made)
      (goal-scoped (map (map_terms parts.solution) (i.rule.heads ++ unjoined_heads 1 (second_heads j) ds)))

  -- where the heads of both rules are declared, so are the goal's constraints, and it is a goal of the program
  pub overlap-goal :
      (p : Program) → All (λ c. is_declared p.symbols c ≡ true) i.rule.heads
      → All (λ c. is_declared p.symbols c ≡ true) j.rule.heads → is_goal_of p o.goal ≡ true
  unfolding is_goal_of
  overlap-goal p a b =
      all-every (λ c. is_declared p.symbols c && every (is_below o.goal.variables) c.terms)
      (all_both declared overlap-scoped)
    where
      declared : All (λ c. is_declared p.symbols c ≡ true) o.goal.constraints
      declared =
          subst (All (λ c. is_declared p.symbols c ≡ true)) (sym goal-constraints)
          (all_append (declared-map p.symbols goal_term a)
          (all-leftover 1 ds (declared-map p.symbols goal_term (declared-map p.symbols apart b))))

      all_both :
          {cs : List Constraint} → All (λ c. is_declared p.symbols c ≡ true) cs
          → All (λ c. All (TermBelow o.goal.variables) c.terms) cs
          → All (λ c. (is_declared p.symbols c && every (is_below o.goal.variables) c.terms) ≡ true) cs
      all_both none none = none
      all_both (also {a = c} d ds) (also e es) =
          also {a = c} (rw d (all-every (is_below o.goal.variables) (all-mono (λ t. below-is_below o.goal.variables t) e)))
          (all_both ds es)

-- the heads of a rule of a well-formed program are declared, and over letters
pub well_formed-heads :
    (p : Program) (n : ℕ) {r : Rule} → is_well_formed p ≡ true → get_elem? p.rules n ≡ some r
    → All (λ c. is_declared p.symbols c ≡ true) r.heads × All (λ c. All (TermBelow alphabet) c.terms) r.heads
unfolding is_well_formed is_rule_of is_of_rule
well_formed-heads p n {r} w e =
    let rule = every-at (is_rule_of p.symbols) p.rules n r w e in
    let heads = every-all (is_of_rule p.symbols) r.heads (first_of (every (is_of_rule p.symbols) r.heads)
    (every (is_of_rule p.symbols) r.body)
    (every (λ e. is_below alphabet e.left && is_below alphabet e.right) r.equations)
    (ltb (weight p.symbols r.body) (weight p.symbols (removed_heads r))) rule) in (
      all-mono (λ c h. (and-true (is_declared p.symbols c) (every (is_below alphabet) c.terms) h).0) heads,
      all-mono (λ c h.
          all-mono (λ t. is_below-below alphabet t) (every-all (is_below alphabet) c.terms
          (and-true (is_declared p.symbols c) (every (is_below alphabet) c.terms) h).1)) heads,
    )
  where
    first_of : (a b c d : Bool) → (a && b && c && d) ≡ true → a ≡ true
    first_of a b c d h = (and-true a b (and-true (a && b) c (and-true (a && b && c) d h).0).0).0

-- an overlap of a well-formed program has a goal of the program
pub listed-goal : (p : Program) {o : Overlap} → is_well_formed p ≡ true → Listed p o → is_goal_of p o.goal ≡ true
listed-goal p {o} w l =
    overlap-goal (overlap-parts o.first o.second o.partners l.made) p
    (well_formed-heads p o.first.number w l.first_rule).0 (well_formed-heads p o.second.number w l.second_rule).0

-- its goal's variables count by first appearance
pub listed-appearance : (p : Program) {o : Overlap} → Listed p o → ByAppearance o.goal
listed-appearance p {o} l =
    let parts = overlap-parts o.first o.second o.partners l.made in
    let heads = o.first.rule.heads ++ unjoined_heads 1 (second_heads o.second) o.partners in
    subst (λ (x : Overlap). ByAppearance x.goal) (sym parts.made) (goal-appearance (map (map_terms parts.solution) heads))

-- the end of a side that fires is what the strategy makes of the state after its firing
side-end :
    (p : Program) (g : Goal) (r : Rule) (ps : List ℕ) {s : State} → fire_at r ps (goal_state g) ≡ some s
    → side_end p g r ps ≡ normalise (weight p.symbols g.constraints) p.rules s 1
unfolding side_end
side-end p g r ps e = rw e

-- so both sides of an overlap of a program fire, and end so
pub first-end :
    (p : Program) {o : Overlap} → Listed p o
    → (s : State) × (fire_at o.first.rule (up_to (length o.first.rule.heads)) (goal_state o.goal) ≡ some s)
    × (first_end p o ≡ normalise (weight p.symbols o.goal.constraints) p.rules s 1)
unfolding first_end
first-end p {o} l =
    let (s, e) = first-fires (overlap-parts o.first o.second o.partners l.made) in
    (s, e, side-end p o.goal o.first.rule (up_to (length o.first.rule.heads)) e)

pub second-end :
    (p : Program) {o : Overlap} → Listed p o
    → (s : State)
    × (fire_at o.second.rule
    (second_positions 1 (length o.first.rule.heads) (length o.second.rule.heads) o.partners) (goal_state o.goal)
    ≡ some s)
    × (second_end p o ≡ normalise (weight p.symbols o.goal.constraints) p.rules s 1)
unfolding second_end
second-end p {o} l =
    let m = length o.first.rule.heads in
    let n = length o.second.rule.heads in
    let (s, e) = second-fires (overlap-parts o.first o.second o.partners l.made)
    (pairings-member m n o.partners l.paired).long in
    (s, e, side-end p o.goal o.second.rule (second_positions 1 m n o.partners) e)
