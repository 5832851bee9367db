-- Rules that have a head symbol in common: others have no overlap.
--   symbols_of, head_symbols     the symbols of constraints, and of a rule's heads
--   is_shared                   whether two lists have a number in common
-- Assumes nothing.
use Rattle.std.specs.Prelude.{ℕ, Bool, false, ◌||◌, List, [], ◌∷◌, map}
use Rattle.text.specs.Lists.{has}
use Rattle.semantics.specs.Terms.{Constraint}
use Rattle.tables.specs.Rows.{rule_of_row}

-- the symbols of constraints
unfoldable pub symbols_of : List Constraint → List ℕ
symbols_of cs = map (λ c. c.symbol) cs

-- the symbols of a rule's heads, from its row
unfoldable pub head_symbols : List ℕ → List ℕ
head_symbols row = symbols_of (rule_of_row [] row).heads

-- whether two lists have a number in common
unfoldable pub is_shared : List ℕ → List ℕ → Bool
is_shared [] ys = false
is_shared (x ∷ xs) ys = has x ys || is_shared xs ys
