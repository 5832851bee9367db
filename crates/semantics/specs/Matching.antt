-- A rule fits at positions: its heads become the constraints there by replacing rule variables only.
--   Assignment, extend      what the rule variables have been replaced by so far
--   match_constraint         one head against one constraint
--   match_at                 the heads, in written order, against the constraints at distinct positions
-- Assumes nothing.
use Rattle.std.specs.Prelude.{ℕ, cond, List, [], ◌∷◌, ◌++◌, eqb}
use Rattle.std.proofs.Math.Option.{Option, none, some}
use Rattle.std.proofs.Math.ListN.{get_elem?}
use Rattle.text.specs.Lists.{onward, bind, has}
use Rattle.semantics.specs.Terms.{Term, con, var, Constraint, same_term}

-- what each rule variable is replaced by, as far as that is settled
abbrev pub Assignment : Type 0
Assignment = ℕ → Option Term

-- nothing is settled
unfoldable pub unassigned : Assignment
unassigned x = none

-- the same, with x replaced by t
unfoldable pub extend : ℕ → Term → Assignment → Assignment
extend x t θ y = cond (eqb x y) (some t) (θ y)

-- the assignment under which a head's term is t: a constant is only itself, and a variable is always the same
unfoldable pub match_term : Term → Term → Assignment → Option Assignment
match_term (con c) t θ = cond (same_term (con c) t) (some θ) none
match_term (var x) t θ = onward (θ x) (some (extend x t θ)) (λ u. cond (same_term u t) (some θ) none)

-- the same for lists of terms, from the left; none if their lengths differ
unfoldable pub match_terms : List Term → List Term → Assignment → Option Assignment
match_terms [] [] θ = some θ
match_terms [] (t ∷ ts) θ = none
match_terms (h ∷ hs) [] θ = none
match_terms (h ∷ hs) (t ∷ ts) θ = bind (match_term h t θ) (match_terms hs ts)

-- the assignment under which a head is the constraint
unfoldable pub match_constraint : Constraint → Constraint → Assignment → Option Assignment
match_constraint h c θ = cond (eqb h.symbol c.symbol) (match_terms h.terms c.terms θ) none

-- the assignment under which the heads are the constraints at the positions (document 01: places), counted from 0; none if
-- there is none, if there are more or fewer positions than heads, or if a position stands twice or is already chosen
unfoldable pub match_at : List Constraint → List ℕ → List Constraint → List ℕ → Assignment → Option Assignment
match_at [] [] cs chosen θ = some θ
match_at [] (p ∷ ps) cs chosen θ = none
match_at (h ∷ hs) [] cs chosen θ = none
match_at (h ∷ hs) (p ∷ ps) cs chosen θ =
    cond (has p chosen) none
    (bind (get_elem? cs p) (λ c. bind (match_constraint h c θ) (match_at hs ps cs (chosen ++ (p ∷ [])))))
