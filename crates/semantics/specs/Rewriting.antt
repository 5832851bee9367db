-- A rule that keeps constraints, rewritten as one that removes them and puts them back (document 02: its kept facts written on
-- both sides).
--   whole_body, rewritten     a rule's body with its kept heads; the rule with them on both sides
--   rewritten_all             a program with all its rules rewritten
--   Reordered                states that are equal but for the order of their constraints
-- Assumes nothing.
use Rattle.std.specs.Prelude.{ℕ, List, ◌++◌, map, ◌≡◌}
use Rattle.semantics.specs.Terms.{Term, Constraint, Rule, Program, State, failed, live, kept_heads}
use Rattle.semantics.specs.Variants.{SameMultiset}

-- what stands after a firing for the constraints that were matched: those that are kept, and the body
abbrev pub whole_body : Rule → List Constraint
whole_body r = kept_heads r ++ r.body

-- the same rule with its kept heads on both sides; it keeps nothing
abbrev pub rewritten : Rule → Rule
rewritten r = record { name = r.name; kept = 0; heads = r.heads; body = whole_body r; equations = r.equations }

-- the same program with all its rules so
abbrev pub rewritten_all : Program → Program
rewritten_all p = record { symbols = p.symbols; rules = map rewritten p.rules }

-- two states with the same constraints in any order, and all else alike
pub data Reordered : State → State → Type 0 where
  both_failed : Reordered failed failed
  reordered :
      {next : ℕ} {bound : List Term} {cs ds : List Constraint} → SameMultiset ◌≡◌ cs ds
      → Reordered (live next bound cs) (live next bound ds)
