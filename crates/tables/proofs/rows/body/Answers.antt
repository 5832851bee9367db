-- `body` meets its contract: the cells stand where the rule has its body. Assumes nothing.
use Rattle.std.proofs.Common.{ℕ, List, [], ◌≡◌, ◌+◌, ◌-◌, ◌*◌, get_or, take, drop, arith}
use Rattle.tables.specs.Cells.{cell_constraints}
use Rattle.tables.specs.Rows.{rule_of_row}
use Rattle.tables.proofs.rows.body.Goals as goal

these-are : (row : List ℕ) (n : ℕ) → n ≡ get_or row 4 0
    → cell_constraints (take (26 + 5 * n - 26) (drop 26 row)) ≡ (rule_of_row [] row).body
unfolding rule_of_row
these-are row n e = let k : 26 + 5 * n - 26 ≡ 5 * get_or row 4 0 = omega arith in rw k

pub returns-clause-same : goal.returns-clause-same
returns-clause-same c = these-are _ _ c.wide.ensures.0
