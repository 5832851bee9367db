-- Two tables by symbol, in cells.
--   tallied, Tallied             a table as a tally, and one that equals a fresh count
--   Raisable, Raised, Lowered    the tally after constraints came, and after some went
--   Exchangeable, Exchanged      the tally after a rule has fired
--   has_symbol, is_concerned       whether a symbol stands in a list; whether one of the heads came since, by the other table
--   Marked                       that table after constraints came
-- Assumes nothing.
use Rattle.std.specs.Prelude.{ℕ, ◌+◌, ◌-◌, ◌*◌, ◌≤◌, Bool, true, false, cond, ◌||◌, List, [], ◌∷◌, ◌≡◌, eqb, ltb, length, get_or}
use Rattle.text.specs.Lists.{every}
use Rattle.semantics.specs.Terms.{Constraint}
use Rattle.semantics.specs.Tally.{Tally, tally_of, exchanged}
use Rattle.tables.specs.Layout.{max_symbols, constraint_size, row_size, kept_cell, heads_cell, body_cell}
use Rattle.tables.specs.Cells.{cell_constraints, is_low}
use Rattle.tables.specs.Rows.{rule_of_row}

-- a table as a tally: cell s has the number of symbol s; of symbols behind its end there are none
unfoldable pub tallied : List ℕ → Tally
tallied table s = get_or table s 0

-- a table of all symbols that equals a fresh count
pub record Tallied (table : List ℕ) (cs : List Constraint) : Type 0 where
  pub size : length table ≡ max_symbols
  pub counts : (s : ℕ) → tallied table s ≡ tally_of cs s

-- what raising asks: n constraints of five cells each, a table that has their symbols, and room in its cells
pub record Raisable (cells : List ℕ) (n : ℕ) (table : List ℕ) : Type 0 where
  pub cells-size : length cells ≡ constraint_size * n
  pub low : every is_low (cell_constraints cells) ≡ true
  pub size : length table ≡ max_symbols
  pub room : (s : ℕ) → tallied table s + n ≤ 65000

-- the tally after these constraints came
pub record Raised (cs : List Constraint) (table table' : List ℕ) : Type 0 where
  pub raised : (s : ℕ) → tallied table' s ≡ tallied table s + tally_of cs s

-- the tally after these constraints went
pub record Lowered (cs : List Constraint) (table table' : List ℕ) : Type 0 where
  pub lowered : (s : ℕ) → tallied table' s ≡ tallied table s - tally_of cs s

-- what a firing asks: the row of a rule, a table that has the symbols of its body, and room in its cells
pub record Exchangeable (row table : List ℕ) : Type 0 where
  pub size : length row ≡ row_size
  pub heads-few : get_or row heads_cell 0 ≤ 4
  pub kept-few : get_or row kept_cell 0 ≤ get_or row heads_cell 0
  pub body-few : get_or row body_cell 0 ≤ 6
  pub body-low : every is_low (rule_of_row [] row).body ≡ true
  pub table-size : length table ≡ max_symbols
  pub room : (s : ℕ) → tallied table s ≤ 60000

-- the tally after the rule of a row has fired
pub record Exchanged (row table table' : List ℕ) : Type 0 where
  pub same : (s : ℕ) → tallied table' s ≡ exchanged (rule_of_row [] row) (tallied table) s

-- whether a constraint of the symbol stands in a list
unfoldable pub has_symbol : ℕ → List Constraint → Bool
has_symbol s [] = false
has_symbol s (h ∷ hs) = eqb h.symbol s || has_symbol s hs

-- whether a firing after v brought a symbol of the heads; of a symbol behind the table's end, the last one may have
unfoldable pub is_concerned : List ℕ → ℕ → ℕ → List Constraint → Bool
is_concerned last whole v [] = false
is_concerned last whole v (h ∷ hs) = ltb v (get_or last h.symbol whole) || is_concerned last whole v hs

-- when each symbol last came, after these constraints came, as far as the table goes
pub record Marked (last : List ℕ) (cs : List Constraint) (whole : ℕ) (last' : List ℕ) : Type 0 where
  pub marked : (s : ℕ) → get_or last' s whole ≡ cond (has_symbol s cs) whole (get_or last s whole)
