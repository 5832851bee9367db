-- `is_wanted` meets its contract: the symbol, the first term and the second.
-- Assumes nothing.
use Rattle.std.proofs.Common.{◌∙◌, sym, ne_eqb}
use Rattle.fitting.proofs.WantedLaws.{wanted-other, wanted-first, wanted-second, no_answer}
use Rattle.fitting.proofs.matching.is_wanted.Goals as goal
use Rattle.fitting.proofs.matching.is_wanted.Goals.{then-symbol-cells, else-symbol-cells}

pub returns-then-agrees : goal.returns-then-agrees
returns-then-agrees c =
    elim c.if-symbol-cells.branch [
      | then-symbol-cells w ↦ wanted-second _ _ _ _ _ w.if-symbol-cells.true _ w.agrees.ensures
          (sym w.value-is ∙ c.if-agrees.true) _ c.agrees-then-agrees.ensures
      | else-symbol-cells w ↦ no_answer
          (sym c.if-agrees.true ∙ w.value-is ∙ ne_eqb _ _ w.if-symbol-cells.false)
    ]

pub returns-else-agrees : goal.returns-else-agrees
returns-else-agrees c =
    elim c.if-symbol-cells.branch [
      | then-symbol-cells w ↦ c.if-agrees.false ∙ wanted-first _ _ _ _ _ w.if-symbol-cells.true _ w.agrees.ensures
          (sym w.value-is ∙ c.if-agrees.false)
      | else-symbol-cells w ↦ c.if-agrees.false ∙ wanted-other _ _ _ _ _ w.if-symbol-cells.false
    ]
