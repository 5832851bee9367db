-- Heads that are joined one after the other, all constraints kept under the unifier so far.
--   joined_terms    constraints under the unifier of two lists of terms
--   joined         constraints under the unifier of two of them
--   join_next       the same, for the next head and its partner
--   all_joined      all heads of two rules under the unifier of those that a list of partners joins
--   paired         the same, where no partner stands twice
--   goal_from       the goal of an overlap, from all heads so joined
-- Assumes nothing.
use Rattle.std.specs.Prelude.{ℕ, zero, suc, ◌+◌, cond, List, ◌++◌, map, length, take, drop}
use Rattle.std.proofs.Math.Option.{Option, none, some}
use Rattle.std.proofs.Math.ListN.{get_elem?}
use Rattle.text.specs.Lists.{bind, has}
use Rattle.semantics.specs.Terms.{Term, Constraint, Goal, map_terms}
use Rattle.semantics.specs.Solving.{solve}
use Rattle.semantics.specs.Overlaps.{is_one_to_one, equate_terms, equate, join_equations, unjoined_heads, goal_of}

-- constraints under the most general unifier of two lists of terms; none where these do not unify
unfoldable pub joined_terms : List Term → List Term → List Constraint → Option (List Constraint)
joined_terms ss ts cs = bind (equate_terms ss ts) (λ es. bind (solve es (λ t. t)) (λ σ. some (map (map_terms σ) cs)))

-- constraints under the most general unifier of two constraints; none where these do not unify
unfoldable pub joined : Constraint → Constraint → List Constraint → Option (List Constraint)
joined c d cs = bind (equate c d) (λ es. bind (solve es (λ t. t)) (λ σ. some (map (map_terms σ) cs)))

-- constraints, m of them the first rule's heads, with the next of these joined to partner d, where ds are the partners of those
-- before it; none where d is one of them, and where the two do not unify
unfoldable pub join_next : ℕ → List ℕ → ℕ → List Constraint → Option (List Constraint)
join_next m ds zero cs = some cs
join_next m ds (suc d) cs =
    cond (has (suc d) ds) none (bind (get_elem? cs (length ds)) (λ h. bind (get_elem? cs (m + d)) (λ g. joined h g cs)))

-- the heads hs of the first rule and then gs of the second, under the most general unifier of those that ds joins; none where
-- these do not unify
unfoldable pub all_joined : List Constraint → List ℕ → List Constraint → Option (List Constraint)
all_joined hs ds gs =
    bind (join_equations hs ds gs) (λ es. bind (solve es (λ t. t)) (λ σ. some (map (map_terms σ) (hs ++ gs))))

-- the same, where the partners join heads one to one
unfoldable pub paired : List Constraint → List ℕ → List Constraint → Option (List Constraint)
paired hs ds gs = cond (is_one_to_one ds) (all_joined hs ds gs) none

-- the goal of an overlap, from all heads under the unifier, m of them the first rule's
unfoldable pub goal_from : ℕ → List ℕ → List Constraint → Goal
goal_from m ds cs = goal_of (take m cs ++ unjoined_heads 1 (drop m cs) ds)
