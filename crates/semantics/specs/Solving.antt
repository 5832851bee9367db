-- Equations between flat terms, solved by substitution.
--   replace      one variable by a term
--   unify        one equation: of two variables the one with the smaller number stays
--   solve        equations one after the other
-- Assumes nothing.
use Rattle.std.specs.Prelude.{ℕ, cond, List, [], ◌∷◌, leb, eqb}
use Rattle.std.proofs.Math.Option.{Option, none, some}
use Rattle.text.specs.Lists.{bind}
use Rattle.semantics.specs.Terms.{Term, con, var, Equation}

-- a term with the variable x replaced by t
unfoldable pub replace : ℕ → Term → Term → Term
replace x t (con c) = con c
replace x t (var y) = cond (eqb x y) t (var y)

-- the substitution that makes two terms equal; none for two different constants, which are never equal
unfoldable pub unify : Term → Term → Option (Term → Term)
unify (con a) (con b) = cond (eqb a b) (some (λ t. t)) none
unify (con a) (var y) = some (replace y (con a))
unify (var x) (con b) = some (replace x (con b))
unify (var x) (var y) = cond (leb x y) (some (replace y (var x))) (some (replace x (var y)))

-- the substitution that σ and then the equations under it amount to; none where two different constants are equated
unfoldable pub solve : List Equation → (Term → Term) → Option (Term → Term)
solve [] σ = some σ
solve (e ∷ es) σ = bind (unify (σ e.left) (σ e.right)) (λ τ. solve es (λ t. τ (σ t)))
