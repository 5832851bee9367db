-- What is claimed beside the published system (document 000; document 01: demand 2): firing is Simplify, and the overlaps are the
-- critical pairs. The published rules keep nothing: a rule that keeps constraints stands there rewritten (document 02).
--   SolvingIsExact               of equations and their solution
--   JoiningsArePairings          of the numbers of heads of two rules
--   KeepsPlaces                  of a firing
--   FiresAsRewritten             of a rule, positions and a state
--   Groundwork                   all four, whatever the program
--   StandAt, FiringIsSimplify    of a state and the published state that it represents
--   Side, Sides                  of an overlap and a critical pair
--   OverlapsAreCriticalPairs     of a program
--   Demand2                      all of demand 2, as one claim
-- Assumes nothing.
use Rattle.std.specs.Prelude.{ℕ, zero, suc, ◌<◌, ◌≤◌, true, false, cond, List, [], map, ◌↔◌, ◌≡◌, length, drop}
use Rattle.std.proofs.Math.Option.{none, some}
use Rattle.std.proofs.Math.ListN.{get_elem?}
use Rattle.text.specs.Lists.{has, up_to}
use Rattle.semantics.specs.Terms.{Term, var, Constraint, Equation, Rule, Program, Goal, State, live, map_terms, is_goal_of}
use Rattle.semantics.specs.Solving.{solve}
use Rattle.semantics.specs.Firing.{fire_at}
use Rattle.semantics.specs.Derivations.{Event, derive, waiting, NoRuleFits}
use Rattle.semantics.specs.Strategy.{goal_state}
use Rattle.semantics.specs.Runs.{RunsByChoice}
use Rattle.semantics.specs.Variants.{OneToOne, TermVariant, Pointwise, ConstraintVariant, SameMultiset}
use Rattle.semantics.specs.Rewriting.{rewritten, rewritten_all, Reordered}
use Rattle.semantics.specs.Overlaps.{pairings, Numbered, Overlap, second_positions, goal_of, overlap_of, overlaps}
use Rattle.semantics.specs.Published.{user, Published, initial, value, Hold, Simplify, Goes, Reaches, Cleared, Represents}
use Rattle.semantics.specs.CriticalPairs.{Joint, Joining, joints_of, partners_of, CriticalPair, Critical, left_state}
use Rattle.semantics.specs.CriticalPairs.{right_state, joined, goal_terms, with_terms}

-- what solving means: where it has an answer, values make the equations hold exactly when they are the same before and after the
-- answer is put in; where it has none, no values make them hold
pub record SolvingIsExact (es : List Equation) : Type 0 where
  pub answer :
      (σ : Term → Term) → solve es (λ t. t) ≡ some σ → (α : ℕ → ℕ) → Hold α es ↔ ((t : Term) → value α (σ t) ≡ value α t)
  pub refusal : solve es (λ t. t) ≡ none → (α : ℕ → ℕ) → Hold α es → ⊥

-- the joinings of m heads and n heads are the pairings that are enumerated, one to one, and none of these is enumerated twice
pub record JoiningsArePairings (m n : ℕ) : Type 0 where
  pub enumerated : (js : List Joint) → Joining m n js → (i : ℕ) × (get_elem? (pairings m n) i ≡ some (partners_of m js))
  pub joining : (i : ℕ) (ds : List ℕ) → get_elem? (pairings m n) i ≡ some ds → Joining m n (joints_of ds)
  pub back : (js : List Joint) → Joining m n js → joints_of (partners_of m js) ≡ js
  pub forth : (i : ℕ) (ds : List ℕ) → get_elem? (pairings m n) i ≡ some ds → partners_of m (joints_of ds) ≡ ds
  pub once : (i k : ℕ) (ds : List ℕ) → get_elem? (pairings m n) i ≡ some ds → get_elem? (pairings m n) k ≡ some ds → i ≡ k

-- where a constraint stands when those at the positions qs are removed: the number of those before it, the first at position k,
-- that are not
unfoldable pub place_after : ℕ → List ℕ → ℕ → ℕ
place_after k qs zero = 0
place_after k qs (suc p) = cond (has k qs) (place_after (suc k) qs p) (suc (place_after (suc k) qs p))

-- a firing removes the constraints at the positions of heads that are not kept, and no other: each other one keeps its place,
-- with the solution put in (`stays`); and the positions of kept heads are none of those (`spared`)
pub record KeepsPlaces (r : Rule) (ps : List ℕ) (next : ℕ) (bound : List Term) (cs : List Constraint) : Type 0 where
  pub stays :
      (m : ℕ) (after : List Term) (ds : List Constraint) → fire_at r ps (live next bound cs) ≡ some (live m after ds)
      → (σ : Term → Term) × (after ≡ map σ bound)
      × ((p : ℕ) (c : Constraint) → get_elem? cs p ≡ some c → has p (drop r.kept ps) ≡ false
      → get_elem? ds (place_after 0 (drop r.kept ps) p) ≡ some (map_terms σ c))
  pub spared :
      (t : State) → fire_at r ps (live next bound cs) ≡ some t → (i p : ℕ) → i < r.kept → get_elem? ps i ≡ some p
      → has p (drop r.kept ps) ≡ false

-- firing a rule, and firing it with its kept heads on both sides, at the same positions: where one fires so does the other, and
-- the states are equal but for the order of their constraints
pub record FiresAsRewritten (r : Rule) (ps : List ℕ) (s : State) : Type 0 where
  pub forth : (t : State) → fire_at r ps s ≡ some t → (u : State) × (fire_at (rewritten r) ps s ≡ some u) × Reordered t u
  pub back : (u : State) → fire_at (rewritten r) ps s ≡ some u → (t : State) × (fire_at r ps s ≡ some t) × Reordered t u

-- the part of demand 2 that is about no program: solving is exact, the joinings are the pairings, a firing leaves what it does
-- not remove in its place, and a rule fires as it does rewritten
pub record Groundwork : Type 0 where
  pub solving : (es : List Equation) → SolvingIsExact es
  pub joinings : (m n : ℕ) → JoiningsArePairings m n
  pub places : (r : Rule) (ps : List ℕ) (n : ℕ) (b : List Term) (cs : List Constraint) → KeepsPlaces r ps n b cs
  pub rewriting : (r : Rule) (ps : List ℕ) (s : State) → FiresAsRewritten r ps s

-- constraints of a published state stand at positions of a state that represents it: one renaming makes equal what each variable
-- became, the constraints as multisets, and each of these constraints, solved, and the one at its position
pub data StandAt (a : Published) (cs : List Constraint) (ps : List ℕ) : State → Type 1 where
  stand :
      {σ : Term → Term} {next : ℕ} {bound : List Term} {ds : List Constraint} (ρ : ℕ → ℕ → Type 0)
      → solve a.built_in_store (λ t. t) ≡ some σ → OneToOne ρ
      → Pointwise (TermVariant ρ) (map σ (map var a.variables)) bound
      → SameMultiset (ConstraintVariant ρ) (map (map_terms σ) a.user_store) ds
      → Pointwise (λ c p. (d : Constraint) × ConstraintVariant ρ (map_terms σ c) d × (get_elem? ds p ≡ some d)) cs ps
      → StandAt a cs ps (live next bound ds)

-- firing in a state is Simplify in the published state whose stores it represents
pub record FiringIsSimplify (p : Program) (a : Published) (s : State) : Type 1 where
  -- every firing is a Simplify step of the rule rewritten, on the constraints at its positions, followed by the Introduce and
  -- Solve steps of the body
  pub published :
      (n : ℕ) (r : Rule) (ps : List ℕ) (t : State) → get_elem? p.rules n ≡ some r → fire_at r ps s ≡ some t
      → (cs : List Constraint) × (b : Published) × (c : Published) × StandAt a cs ps s × Simplify (rewritten r) cs a b
      × Cleared a.goals b c × Represents c t
  -- every Simplify step of a rule rewritten, followed by the Introduce and Solve steps of the body in any order, is a firing at
  -- the positions of the constraints that it matches
  pub fires :
      (n : ℕ) (r : Rule) (cs : List Constraint) (b c : Published) → get_elem? p.rules n ≡ some r → Simplify (rewritten r) cs a b
      → Cleared a.goals b c
      → (ps : List ℕ) × (t : State) × StandAt a cs ps s × (fire_at r ps s ≡ some t) × Represents c t
  -- where no rule fits and the goal store is empty, no step is possible
  pub final : NoRuleFits p s → a.goals ≡ [] → (b : Published) → Goes (rewritten_all p) a b → ⊥

-- one side of an overlap is one state of a critical pair: the side's rule fires at its positions, and however the goal store of
-- the pair's state is emptied, the state after the firing represents it, with what has become of the pair's variables
pub record Side (o : Overlap) (r : Rule) (ps : List ℕ) (ts : List Term) (a : Published) : Type 1 where
  pub state : State
  pub fires : fire_at r ps (goal_state o.goal) ≡ some state
  pub represents : (b : Published) → Cleared [] a b → Represents b (with_terms ts state)

-- the two sides of an overlap are the two states of a critical pair, under the unifier of the pair's condition, which makes the
-- overlap's goal of the joined heads. What the pair's variables are in the goal leaves out no variable of the goal
pub record Sides (o : Overlap) (js : List Joint) (c : CriticalPair) : Type 1 where
  pub unifier : Term → Term
  pub solved : solve c.condition (λ t. t) ≡ some unifier
  pub goal : o.goal ≡ goal_of (map (map_terms unifier) (joined o.first.rule o.second.rule js))
  pub terms : List Term
  pub given : terms ≡ goal_terms unifier (joined o.first.rule o.second.rule js) c.variables
  pub covered : (v : ℕ) → v < o.goal.variables → (n : ℕ) × (get_elem? terms n ≡ some (var v))
  pub first : Side o o.first.rule (up_to (length o.first.rule.heads)) terms (left_state c)
  pub second :
      Side o o.second.rule
      (second_positions 1 (length o.first.rule.heads) (length o.second.rule.heads) o.partners) terms (right_state c)

-- the overlaps of a program are the critical pairs of its rules i ≤ j, rewritten, one to one, given by which heads are equated
-- with which
pub record OverlapsAreCriticalPairs (p : Program) : Type 1 where
  -- every critical pair is enumerated
  pub enumerated :
      (i j : ℕ) (r q : Rule) (js : List Joint) (c : CriticalPair) → get_elem? p.rules i ≡ some r
      → get_elem? p.rules j ≡ some q → i ≤ j → Critical (rewritten r) (rewritten q) js c
      → (n : ℕ) × (o : Overlap) × (get_elem? (overlaps p) n ≡ some o) × (o.first.number ≡ i) × (o.second.number ≡ j)
      × (joints_of o.partners ≡ js)
  -- what is enumerated is of rules i ≤ j and a critical pair, whose states are its sides
  pub ordered :
      (n : ℕ) (o : Overlap) → get_elem? (overlaps p) n ≡ some o
      → (get_elem? p.rules o.first.number ≡ some o.first.rule)
      × (get_elem? p.rules o.second.number ≡ some o.second.rule) × (o.first.number ≤ o.second.number)
  pub critical :
      (n : ℕ) (o : Overlap) → get_elem? (overlaps p) n ≡ some o
      → (c : CriticalPair) × Critical (rewritten o.first.rule) (rewritten o.second.rule) (joints_of o.partners) c
      × Sides o (joints_of o.partners) c
  -- a pairing that does not unify is no critical pair
  pub refused :
      (i j : Numbered) (n : ℕ) (ds : List ℕ) (c : CriticalPair)
      → get_elem? (pairings (length i.rule.heads) (length j.rule.heads)) n ≡ some ds → overlap_of i j ds ≡ none
      → Critical (rewritten i.rule) (rewritten j.rule) (joints_of ds) c → ⊥
  -- nothing is enumerated twice
  pub once :
      (m n : ℕ) (o u : Overlap) → get_elem? (overlaps p) m ≡ some o → get_elem? (overlaps p) n ≡ some u
      → o.first.number ≡ u.first.number → o.second.number ≡ u.second.number
      → joints_of o.partners ≡ joints_of u.partners → m ≡ n

-- demand 2 of a program: every state of a derivation of one of its goals represents a published state that the program rewritten
-- reaches from the goal's initial state, and whose goal store holds what has not entered; firing in it is Simplify there; the
-- overlaps are the critical pairs; and the run is by the order of choice
pub record Demand2 (p : Program) : Type 1 where
  pub groundwork : Groundwork
  pub represented :
      (g : Goal) (es : List Event) → is_goal_of p g ≡ true
      → (a : Published) × Reaches (rewritten_all p) (initial g) a
      × SameMultiset ◌≡◌ a.goals (map user (waiting g (derive p g es))) × Represents a (derive p g es).state
  pub firing :
      (g : Goal) (es : List Event) (a : Published) → is_goal_of p g ≡ true → Represents a (derive p g es).state
      → FiringIsSimplify p a (derive p g es).state
  pub overlaps : OverlapsAreCriticalPairs p
  pub runs : RunsByChoice p
