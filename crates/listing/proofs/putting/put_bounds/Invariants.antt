-- `listing::putting::put_bounds` meets its contract: the lines before i are written. Assumes nothing.
use Rattle.std.proofs.Common.{map, length}
use Rattle.tables.specs.Cells.{cell_term}
use Rattle.listing.specs.Listing.{variable_name, bound_lines}
use Rattle.listing.specs.Ends.{named, placed}
use Rattle.listing.proofs.WriteLaws.{Writing}
use Rattle.listing.proofs.LineLaws.{bounds_from}
use Rattle.listing.proofs.putting.put_bounds.Given as goal

abbrev pub invariant-loop-i : goal.invariant-loop-i
invariant-loop-i l =
    let naming = named l.names in
    let whole = bound_lines naming (placed l.names.letters.now (length l.bound)) (variable_name l.names.letters.now) 0 (map cell_term l.bound) in
    Writing whole l.at l.initial.out l.out l.end (bounds_from naming l.names.letters.now l.bound l.i)
