-- `listing::writing::put_byte` meets its contract. Assumes nothing.
use native.Mathlib.Omega.{arith}
use Rattle.listing.proofs.WriteLaws.{wrote-byte, wrote-over}
use Rattle.listing.proofs.writing.put_byte.Goals as goal

pub overflow_add-result : goal.overflow_add-result
overflow_add-result c = omega (arith, c.requires.few)

pub returns-then-out-at : goal.returns-then-out-at
returns-then-out-at c = wrote-over _ _ _ c.if-out-at.true

pub returns : goal.returns
returns c = search wrote-byte
