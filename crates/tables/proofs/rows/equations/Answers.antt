-- `equations` meets its contract: the cells stand where the rule has its equations, of which eight cells hold no more than four.
-- Assumes nothing.
use Rattle.std.proofs.Common.{ℕ, List, [], ◌≡◌, ◌+◌, ◌-◌, ◌*◌, ◌≤◌, ◌<◌, ◌∙◌, min, sym, ⊎_elim, length, get_or, take, drop, arith, length-drop}
use lib.Seq.{take_all}
use Rattle.tables.specs.Cells.{cell_equations}
use Rattle.tables.specs.Rows.{rule_of_row}
use Rattle.tables.proofs.CellLaws.{le-or-lt}
use Rattle.tables.proofs.rows.equations.Goals as goal

-- eight cells hold no more than four equations, whatever the count
take-four : (k : ℕ) (l : List ℕ) → length l ≡ 8 → take (2 * min k 4) l ≡ take (2 * k) l
take-four k l e = ⊎_elim many few (le-or-lt 4 k)
  where
    many : 4 ≤ k → take (2 * min k 4) l ≡ take (2 * k) l
    many h = take_all (2 * min k 4) l (omega arith) ∙ sym (take_all (2 * k) l (omega arith))

    few : k < 4 → take (2 * min k 4) l ≡ take (2 * k) l
    few h = let same : 2 * min k 4 ≡ 2 * k = omega arith in rw same

these-are : (row : List ℕ) (n : ℕ) → length row ≡ 64 → n ≡ min (get_or row 5 0) 4
    → cell_equations (take (56 + 2 * n - 56) (drop 56 row)) ≡ (rule_of_row [] row).equations
unfolding rule_of_row
these-are row n size e =
    let k : 56 + 2 * n - 56 ≡ 2 * min (get_or row 5 0) 4 = omega arith in
    rw (k, take-four (get_or row 5 0) (drop 56 row) (omega (arith, length-drop 56 row)))

pub returns-clause-same : goal.returns-clause-same
returns-clause-same c = these-are _ _ c.requires c.at_most_four.ensures
