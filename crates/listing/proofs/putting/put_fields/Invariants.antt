-- `listing::putting::put_fields` meets its contract: the fields before an index are written. Assumes nothing.
use Rattle.std.proofs.Common.{map}
use Rattle.listing.specs.Listing.{fields_behind}
use Rattle.listing.specs.Ends.{named, cell_shown}
use Rattle.listing.proofs.WriteLaws.{Writing}
use Rattle.listing.proofs.LineLaws.{fields_from}
use Rattle.listing.proofs.putting.put_fields.Given as goal

abbrev pub invariant-loop-cell : goal.invariant-loop-cell
invariant-loop-cell l =
    let field = cell_shown (named l.names) l.names.letters.now l.n in
    Writing (fields_behind (map field l.cells)) l.at l.initial.out l.out l.end (fields_from field l.cells l.cell-index)
