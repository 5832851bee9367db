-- Placing constraints and trying their partners, on cells.
--   attempted, placed      the definition's two steps, of cells
--   Placing                what they ask
--   Unpaired, Paired       one constraint that cannot be placed, and one that is
--   PairedAt               what placing one constraint promises
--   Tried                  what they promise
-- Assumes nothing.
use Rattle.std.specs.Prelude.{ℕ, ◌*◌, Bool, true, false, cond, List, [], ◌∷◌, ◌++◌, ◌≡◌, length, get_or, set, take, drop}
use Rattle.std.specs.Prelude.{Option, Some, None}
use Rattle.text.specs.Lists.{onward, has}
use Rattle.semantics.specs.Variants.{Pair, pair_constraint, place}
use Rattle.tables.specs.Cells.{cell_constraints}
use Rattle.tables.specs.Cells.{row_constraint}
use Rattle.pairing.specs.Renamings.{Graph, Marks, cleared}
use Rattle.colours.specs.Bounds.{TermsBelow}

-- whether the first of the constraints a can be the one at position j of b, the others being placed behind it
unfoldable pub attempted : List ℕ → List ℕ → ℕ → List ℕ → List Pair → Bool
attempted a b j us ps =
    cond (has j us) false
    (onward (pair_constraint (row_constraint (take 5 a)) (row_constraint (take 5 (drop (5 * j) b))) ps) false
    (place (cell_constraints (drop 5 a)) (cell_constraints b) (us ++ (j ∷ []))))

-- whether the constraints a can all be placed among b
unfoldable pub placed : List ℕ → List ℕ → List ℕ → List Pair → Bool
placed a b us ps = place (cell_constraints a) (cell_constraints b) us ps

-- a mark for each constraint of b, and an entry of the tables for each term
pub record Placing (a b : List ℕ) (used : List Bool) (forth back : List ℕ) : Type 0 where
  pub partners : length b ≡ 5 * length used
  pub left : TermsBelow (length forth) a
  pub right : TermsBelow (length back) b

-- the first of the constraints a cannot be the one at position j, and all is as it was
pub record Unpaired (a b : List ℕ) (j : ℕ) (used : List Bool) (forth back : List ℕ)
    (used' : List Bool) (forth' back' : List ℕ) : Type 0 where
  pub apart : (us : List ℕ) (ps : List Pair) → Marks used us → Graph forth back ps → attempted a b j us ps ≡ false
  pub kept : (used' ≡ used) × (forth' ≡ forth) × (back' ≡ back)

-- it is the one at position j, which is marked: the others answer for all, and the tables without what was made are as before
pub record Paired (fresh : List Bool) (a b : List ℕ) (j : ℕ) (used : List Bool) (forth back : List ℕ)
    (used' : List Bool) (forth' back' : List ℕ) : Type 0 where
  pub free : get_or used j false ≡ false
  pub marked : used' ≡ set used j true
  pub on :
      (us : List ℕ) (ps : List Pair) → Marks used us → Graph forth back ps
      → (qs : List Pair) × Graph forth' back' qs × (attempted a b j us ps ≡ placed (drop 5 a) b (us ++ (j ∷ [])) qs)
  pub size : length fresh ≡ 4
  pub forth-back : cleared fresh (drop 1 (take 5 a)) forth' ≡ forth
  pub back-back : cleared fresh (drop 1 (take 5 (drop (5 * j) b))) back' ≡ back

-- one or the other: the result is the columns where partners were made
abbrev pub PairedAt : Option (List Bool) → List ℕ → List ℕ → ℕ → List Bool → List ℕ → List ℕ → List Bool → List ℕ → List ℕ
    → Type 0
PairedAt None a b j used forth back used' forth' back' = Unpaired a b j used forth back used' forth' back'
PairedAt (Some fresh) a b j used forth back used' forth' back' = Paired fresh a b j used forth back used' forth' back'

-- the answer is the definition's for the positions and the renaming that marks and tables stand for, and false leaves them
-- as they
-- were
pub record Tried (r : Bool) (answer : List ℕ → List Pair → Bool)
    (used : List Bool) (forth back : List ℕ) (used' : List Bool) (forth' back' : List ℕ) : Type 0 where
  pub same : (us : List ℕ) (ps : List Pair) → Marks used us → Graph forth back ps → r ≡ answer us ps
  pub kept : r ≡ false → (used' ≡ used) × (forth' ≡ forth) × (back' ≡ back)
