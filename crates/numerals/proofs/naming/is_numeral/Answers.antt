-- `numerals::naming::is_numeral` meets its contract: no byte of a numeral has the bit of letters.
-- Assumes nothing.
use Rattle.numerals.proofs.NumeralLaws.{numeral-bits}
use Rattle.numerals.proofs.naming.is_numeral.Goals as goal

pub returns : goal.returns
returns c = λ f h e. numeral-bits f _ h e
