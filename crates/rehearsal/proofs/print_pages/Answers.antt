-- `rehearsal::print_pages` meets its contract: the pages that were written are within the output. Assumes nothing.
use Rattle.std.proofs.Common.{arith, sym}
use Rattle.std.proofs.lemmas.List.{length-take-le}
use Rattle.answers.proofs.CheckLaws.{told-within}
use Rattle.rehearsal.proofs.print_pages.Goals as goal

pub slice_bounds-out-end : goal.slice_bounds-out-end
slice_bounds-out-end g c = omega (arith, told-within c.pages.ensures.0 c.in-Ok.is c.length.ensures)

pub slice_bounds-print_bytes-end : goal.slice_bounds-print_bytes-end
slice_bounds-print_bytes-end g c = sym (length-take-le _ _ (told-within c.pages.ensures.0 c.in-Ok.is c.length.ensures))
