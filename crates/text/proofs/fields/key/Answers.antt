-- `text::fields::key` meets its contract: the key by what is known of a field. Assumes nothing.
use native.Mathlib.Omega.{arith}
use Rattle.text.proofs.Passing.{key-letter, key-capital, key-long, key-name}
use Rattle.text.proofs.fields.key.Goals as goal

pub returns-then-size-eq1 : goal.returns-then-size-eq1
returns-then-size-eq1 c f p = search key-letter

pub returns-then-capital : goal.returns-then-capital
returns-then-capital c f p = search key-capital

pub returns-then-size-gt8 : goal.returns-then-size-gt8
returns-then-size-gt8 c f p = key-long f _ _ _ p (omega arith)

pub returns : goal.returns
returns c f p = key-name f _ _ _ p c.if-capital.false (omega arith)
