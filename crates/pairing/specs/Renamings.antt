-- The renaming of a comparison, in two tables, and the partners that are used, in marks.
--   Graph, Marks               what the tables and the marks stand for
--   Joined                     a function on renamings, done on tables
--   cleared                    a table with the partners of some columns forgotten
--   made_in                    the columns where partners were made
--   Linked, RowsLinked         what pairing two terms and two constraints promises
--   Rows                       two constraints whose terms lie below the length of the tables
-- Assumes nothing.
use Rattle.std.specs.Prelude.{ℕ, ◌+◌, Bool, true, false, cond, not, ◌&&◌, List, [], ◌∷◌, ◌≡◌, eqb, length, get_or, set, drop}
use Rattle.std.specs.Prelude.{Option, is_some, unwrap_or, Result, Ok, Err, is_ok}
use Rattle.std.proofs.Math.Option as maybe
use Rattle.text.specs.Lists.{has}
use Rattle.semantics.specs.Variants.{Pair, are_partners, are_paired, pair_term, pair_terms}
use Rattle.tables.specs.Cells.{cell_term, cell_terms}
use Rattle.colours.specs.Bounds.{Below}

-- two tables that stand for a list of partners: the cell of a variable has its partner's cell, and 0 where it has none
pub record Graph (forth back : List ℕ) (ps : List Pair) : Type 0 where
  pub partners : (x y : ℕ) → are_partners x y ps ≡ eqb (get_or forth (x + 256) 0) (y + 256)
  pub paired : (x y : ℕ) → are_paired x y ps ≡ not (eqb (get_or forth (x + 256) 0) 0 && eqb (get_or back (y + 256) 0) 0)

-- marks that stand for a list of used positions
pub record Marks (used : List Bool) (us : List ℕ) : Type 0 where
  pub marked : (j : ℕ) → get_or used j false ≡ has j us

-- a function on renamings, done on tables that stand for one: whether it has a result, for which the tables stand then
pub record Joined (fits : Bool) (f : List Pair → maybe.Option (List Pair)) (forth back forth' back' : List ℕ) : Type 0 where
  pub joined :
      (ps : List Pair) → Graph forth back ps → fits ≡ true → (qs : List Pair) × (f ps ≡ maybe.some qs) × Graph forth' back' qs
  pub apart : (ps : List Pair) → Graph forth back ps → fits ≡ false → f ps ≡ maybe.none

-- a table with 0 at the cells of those columns where partners were made
unfoldable pub cleared : List Bool → List ℕ → List ℕ → List ℕ
cleared [] xs table = table
cleared (b ∷ bs) [] table = table
cleared (b ∷ bs) (x ∷ xs) table = cond b (set (cleared bs xs table) x 0) (cleared bs xs table)

-- two terms are paired or cannot be made equal, and the tables without what was made are as before
pub record Linked (x y : ℕ) (link : Option Bool) (forth back forth' back' : List ℕ) : Type 0 where
  pub same : Joined (is_some link) (pair_term (cell_term x) (cell_term y)) forth back forth' back'
  pub forth-back : cond (unwrap_or link false) (set forth' x 0) forth' ≡ forth
  pub back-back : cond (unwrap_or link false) (set back' y 0) back' ≡ back

-- two constraints of five cells, whose terms lie below the length of the tables
pub record Rows (a b forth back : List ℕ) : Type 0 where
  pub left-size : length a ≡ 5
  pub right-size : length b ≡ 5
  pub left : Below (length forth) (drop 1 a)
  pub right : Below (length back) (drop 1 b)

-- the columns of two constraints where partners were made, whether or not their terms can be made equal
abbrev pub made_in : Result (List Bool) (List Bool) → List Bool
made_in (Ok fresh) = fresh
made_in (Err fresh) = fresh

-- the terms of two constraints are paired or cannot be made equal, and the tables without what was made are as before
pub record RowsLinked (a b : List ℕ) (links : Result (List Bool) (List Bool)) (forth back forth' back' : List ℕ) : Type 0 where
  pub same : Joined (is_ok links) (pair_terms (cell_terms (drop 1 a)) (cell_terms (drop 1 b))) forth back forth' back'
  pub size : length (made_in links) ≡ 4
  pub forth-back : cleared (made_in links) (drop 1 a) forth' ≡ forth
  pub back-back : cleared (made_in links) (drop 1 b) back' ≡ back
