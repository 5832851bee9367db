-- `listing::writing::copy` meets its contract: the bytes before an index are written. Assumes nothing.
use Rattle.listing.proofs.WriteLaws.{writing_start}
use Rattle.listing.proofs.LineLaws.{copy-count, copy-next, copy-end}
use Rattle.listing.proofs.writing.copy.Goals as goal

pub loop-byte-init : goal.loop-byte-init
loop-byte-init c = writing_start _ _ _

pub put_byte-end-requires : goal.put_byte-end-requires
put_byte-end-requires c = search copy-count

pub loop-byte-preserved : goal.loop-byte-preserved
loop-byte-preserved c = search copy-next

pub returns : goal.returns
returns c = search copy-end
