-- `listing::writing::copy` meets its contract: the bytes before an index are written. Assumes nothing.
use Rattle.std.proofs.Common.{drop}
use Rattle.listing.proofs.WriteLaws.{Writing}
use Rattle.listing.proofs.writing.copy.Given as goal

abbrev pub invariant-loop-byte : goal.invariant-loop-byte
invariant-loop-byte l = Writing l.part l.at l.initial.out l.out l.end (drop l.byte-index l.part)
