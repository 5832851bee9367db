-- Critical pairs, from document 000, definition 3.4: heads of one rule are equated with heads of another, and each rule leaves
-- its body and the heads of the other that are not equated.
--   Joint, Joining                   which heads are equated with which
--   joints_of, partners_of             the same, as for each head of the first rule its partner, and back
--   CriticalPair, pair_of, Critical   the tuple (Ḡ, B ∧ H'rest =#= B' ∧ Hrest, V), where the chosen heads can be equated
--   left_state, right_state            its two states (definition 3.5)
--   goal_terms, with_terms             what the rules' variables are in an overlap's goal, and have become in a state of it
-- Where this departs from the paper:
--   rules have no guards, so that Ḡ are the equations of the chosen heads alone;
--   the definition numbers heads by two permutations; here equated pairs stand in the order of the first rule's heads, so that a
--   choice is given once, and the heads that are left stand in their order;
--   rules share their letters, so the second is always renamed apart, where the paper's rules have disjoint variables;
--   trivial pairs (the paper's footnote) are critical pairs like any other;
--   a pair is of two rules in an order: which of the paper's pairs are taken, `OverlapsAreCriticalPairs` says.
-- Assumes nothing.
use Rattle.std.specs.Prelude.{ℕ, zero, suc, ◌+◌, ◌<◌, ◌≤◌, false, cond, List, [], ◌∷◌, ◌++◌, map, ◌≡◌, eqb, length}
use Rattle.std.proofs.Math.ListN.{get_elem?}
use Rattle.text.specs.Lists.{has, answers}
use Rattle.semantics.specs.Terms.{Term, var, Constraint, Equation, Rule, State, failed, live, map_terms, alphabet}
use Rattle.semantics.specs.Firing.{without}
use Rattle.semantics.specs.Derivations.{become}
use Rattle.semantics.specs.Overlaps.{appearing, numbered}
use Rattle.semantics.specs.Published.{Item, user, Published, Satisfiable, EquatedAll, renamed, body_items}

-- two heads that are equated, by their numbers from 0: one of the first rule and one of the second
pub record Joint : Type 0 where
  pub left : ℕ
  pub right : ℕ

abbrev pub lefts : List Joint → List ℕ
lefts js = map (λ j. j.left) js

abbrev pub rights : List Joint → List ℕ
rights js = map (λ j. j.right) js

-- joints of the first rule's heads from number k on, which are m, with the second rule's, which are n: in ascending order, and
-- no head twice
pub data Joints (m n : ℕ) : ℕ → List Joint → Type 0 where
  no_more : {k : ℕ} → Joints m n k []
  one_more :
      {k : ℕ} {j : Joint} {js : List Joint} → k ≤ j.left → j.left < m → j.right < n → has j.right (rights js) ≡ false
      → Joints m n (suc j.left) js → Joints m n k (j ∷ js)

-- a joining: heads to be equated, one pair or more
pub record Joining (m n : ℕ) (js : List Joint) : Type 0 where
  pub joints : Joints m n 0 js
  pub nonempty : js ≡ [] → ⊥

-- the joints of heads from number k on, each of which has its partner, counted from 1, or 0
unfoldable pub joints_from : ℕ → List ℕ → List Joint
joints_from k [] = []
joints_from k (zero ∷ ds) = joints_from (suc k) ds
joints_from k (suc d ∷ ds) = record { left = k; right = d } ∷ joints_from (suc k) ds

unfoldable pub joints_of : List ℕ → List Joint
joints_of ds = joints_from 0 ds

-- the partner of a head, counted from 1, or 0; and those of m heads from number k on
unfoldable pub partner_of : ℕ → List Joint → ℕ
partner_of k [] = 0
partner_of k (j ∷ js) = cond (eqb k j.left) (suc j.right) (partner_of k js)

unfoldable pub partners_from : ℕ → ℕ → List Joint → List ℕ
partners_from k zero js = []
partners_from k (suc m) js = partner_of k js ∷ partners_from (suc k) m js

unfoldable pub partners_of : ℕ → List Joint → List ℕ
partners_of m js = partners_from 0 m js

-- the constraints of these numbers
unfoldable pub picked : List Constraint → List ℕ → List Constraint
picked cs ns = answers (get_elem? cs) ns

-- the second rule's variables, renamed apart from the first's, and its heads
unfoldable pub shifted : ℕ → ℕ
shifted x = alphabet + x

unfoldable pub shifted_heads : Rule → List Constraint
shifted_heads q = map (map_terms (renamed shifted)) q.heads

-- a critical pair (Ḡ, B ∧ H'rest =#= B' ∧ Hrest, V)
pub record CriticalPair : Type 0 where
  pub condition : List Equation
  pub left : List Item
  pub right : List Item
  pub variables : List ℕ

-- the pair of two rules, a joining of their heads and the equations between these. V are the variables of all heads
unfoldable pub pair_of : Rule → Rule → List Joint → List Equation → CriticalPair
pair_of r q js es = record {
  condition = es;
  left = body_items (λ x. x) r ++ map user (without 0 (rights js) (shifted_heads q));
  right = body_items shifted q ++ map user (without 0 (lefts js) r.heads);
  variables = appearing [] (r.heads ++ shifted_heads q);
}

-- it is a critical pair if the chosen heads can be equated
pub data Critical (r q : Rule) (js : List Joint) : CriticalPair → Type 0 where
  critical :
      {es : List Equation} → Joining (length r.heads) (length q.heads) js
      → EquatedAll (picked r.heads (lefts js)) (picked (shifted_heads q) (rights js)) es → Satisfiable es
      → Critical r q js (pair_of r q js es)

-- the two states whose joinability is that of the pair
unfoldable pub left_state : CriticalPair → Published
left_state c = record { goals = c.left; user_store = []; built_in_store = c.condition; variables = c.variables }

unfoldable pub right_state : CriticalPair → Published
right_state c = record { goals = c.right; user_store = []; built_in_store = c.condition; variables = c.variables }

-- the heads of both rules, the equated ones once: all of the first rule's, and the second's that are not equated
unfoldable pub joined : Rule → Rule → List Joint → List Constraint
joined r q js = r.heads ++ without 0 (rights js) (shifted_heads q)

-- what variables are under a unifier, in the goal of constraints under it
unfoldable pub goal_terms : (Term → Term) → List Constraint → List ℕ → List Term
goal_terms σ cs vs = map (λ x. numbered (appearing [] (map (map_terms σ) cs)) (σ (var x))) vs

-- a state of a goal, with what these terms of the goal have become instead of what its variables have
unfoldable pub with_terms : List Term → State → State
with_terms ts failed = failed
with_terms ts (live next bound cs) = live next (map (become bound) ts) cs
