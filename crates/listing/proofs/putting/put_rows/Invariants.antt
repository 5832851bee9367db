-- `listing::putting::put_rows` meets its contract: the lines of the rows passed are written. Assumes nothing.
use Rattle.std.proofs.Common.{◌≡◌}
use Rattle.std.specs.Slice.Iter.{chunks_exact_rest, chunks_exact_size}
use Rattle.listing.specs.Ends.{named}
use Rattle.listing.proofs.WriteLaws.{Writing}
use Rattle.listing.proofs.LineLaws.{rows_of}
use Rattle.listing.proofs.putting.put_rows.Given as goal

abbrev pub invariant-loop-row : goal.invariant-loop-row
invariant-loop-row l =
    let naming = named l.names in
    let lines = rows_of naming l.names.letters.now l.mark.line l.mark.variables in
    (chunks_exact_size l.row-iterator ≡ 5) × Writing (lines l.cells) l.at l.initial.out l.out l.end (lines (chunks_exact_rest l.row-iterator))
