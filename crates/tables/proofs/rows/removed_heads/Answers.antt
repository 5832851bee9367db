-- `removed_heads` meets its contract: the cells behind those of the kept heads. Assumes nothing.
use Rattle.std.proofs.Common.{ℕ, List, [], ◌≡◌, ◌-◌, ◌*◌, ◌∙◌, ap, sym, length, get_or, take, drop, arith, length-drop}
use lib.Seq.{take_all}
use Rattle.semantics.specs.Terms.{removed_heads}
use Rattle.tables.specs.Rows.{rule_of_row}
use Rattle.tables.specs.Cells.{cell_constraints}
use Rattle.tables.proofs.CellLaws.{constraints-drop}
use Rattle.tables.proofs.rows.removed_heads.Goals as goal

behind-kept : (k : ℕ) (row hs : List ℕ) → k ≡ get_or row 1 0 → cell_constraints hs ≡ (rule_of_row [] row).heads
    → cell_constraints (take (length hs - 5 * k) (drop (5 * k) hs)) ≡ removed_heads (rule_of_row [] row)
unfolding removed_heads rule_of_row
behind-kept k row hs e same =
    ap cell_constraints (take_all (length hs - 5 * k) (drop (5 * k) hs) (omega (arith, length-drop (5 * k) hs)))
    ∙ rw e (sym (constraints-drop (get_or row 1 0) hs) ∙ ap (drop (get_or row 1 0)) same)

pub returns-clause-same : goal.returns-clause-same
returns-clause-same c = behind-kept _ _ _ c.wide-kept.ensures.0 c.heads.ensures.same
