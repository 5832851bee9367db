-- `numerals::naming::constant` meets its contract: only a numeral is not always its own name.
-- Assumes nothing.
use mathlib.Core.Path.{sym, ◌∙◌}
use native.Mathlib.Omega.{arith}
use Rattle.numerals.proofs.NumeralLaws.{own-other}
use Rattle.numerals.proofs.naming.constant.Goals as goal

pub returns-then-is_numeral : goal.returns-then-is_numeral
returns-then-is_numeral c =
    let numeral = c.is_numeral in
    let (named, few) = c.without_zeros.ensures in
    (λ f h e. named f h (sym (numeral.ensures f h e) ∙ c.if-is_numeral.true) e, few)

pub returns : goal.returns
returns c =
    let numeral = c.is_numeral in
    (λ f h e. own-other f _ h e (sym (numeral.ensures f h e) ∙ c.if-is_numeral.false), omega arith)
