-- Firing a rule at positions that fit.
--   without      the constraints at other positions, in their order
--   fired        the state after firing under an assignment of the rule's variables
--   fire_at       firing at stated positions, where the rule fits there
-- Assumes nothing.
use Rattle.std.specs.Prelude.{ℕ, suc, ◌+◌, cond, List, [], ◌∷◌, ◌++◌, map, drop}
use Rattle.std.proofs.Math.Option.{Option, none, some}
use Rattle.text.specs.Lists.{onward, bind, has}
use Rattle.semantics.specs.Terms.{Term, con, var, Constraint, Rule, State, failed, live, map_terms, map_sides}
use Rattle.semantics.specs.Terms.{alphabet}
use Rattle.semantics.specs.Matching.{Assignment, unassigned, match_at}
use Rattle.semantics.specs.Solving.{solve}

-- the constraints, the first at position p, that stand at none of the positions ps
unfoldable pub without : ℕ → List ℕ → List Constraint → List Constraint
without p ps [] = []
without p ps (c ∷ cs) = cond (has p ps) (without (suc p) ps cs) (c ∷ without (suc p) ps cs)

-- a term of a rule's body: a variable of no head becomes new, the same one wherever the rule has it
unfoldable pub instance : ℕ → Assignment → Term → Term
instance next θ (con c) = con c
instance next θ (var x) = onward (θ x) (var (next + x)) (λ t. t)

-- the state after its equations: the solution is put in throughout, or the state has failed
unfoldable pub settle : Option (Term → Term) → ℕ → List Term → List Constraint → State
settle none next bound cs = failed
settle (some σ) next bound cs = live next (map σ bound) (map (map_terms σ) cs)

-- the state after firing a rule at positions: the constraints at those of the kept heads, which come first, stay where they are;
-- those at the others are removed, the rest keeps its order, the body is appended in written order, and the equations are solved
unfoldable pub fired : Rule → List ℕ → Assignment → ℕ → List Term → List Constraint → State
fired r ps θ next bound cs =
    settle (solve (map (map_sides (instance next θ)) r.equations) (λ t. t)) (next + alphabet) bound
    (without 0 (drop r.kept ps) cs ++ map (map_terms (instance next θ)) r.body)

-- firing at stated positions; none where the rule does not fit there, and in a failed state
unfoldable pub fire_at : Rule → List ℕ → State → Option State
fire_at r ps failed = none
fire_at r ps (live next bound cs) = bind (match_at r.heads ps cs [] unassigned) (λ θ. some (fired r ps θ next bound cs))
