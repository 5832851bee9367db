-- Opens every definition of this crate at once: a proof that says `unfolding opened` computes with all of them.
-- Assumes nothing.
use Prim.Native.Nat.{ℕ}
use Rattle.text.specs.Fields.{decimal_from, decimal}
use Rattle.listing.specs.Listing.{fields_behind, line_of, naming_of, term_shown, constraint_shown}
use Rattle.listing.specs.Listing.{constraint_lines, numbered_as, variable_name, place_name, unbound, bound_lines, state_listing}
use Rattle.listing.specs.Listing.{end_listing}
use Rattle.listing.specs.Writing.{laid, listed_in, listed_over, ample}
use Rattle.listing.specs.Ends.{placed, cell_shown, bound_line, live_bytes, numbered_end, end_bytes, max_bound, max_cells}

-- a name to say on an `unfolding` line
unfoldable pub opened : ℕ
unfolding decimal_from decimal fields_behind line_of naming_of term_shown constraint_shown constraint_lines numbered_as variable_name
    place_name unbound bound_lines state_listing end_listing laid listed_in listed_over ample placed cell_shown bound_line
    live_bytes numbered_end end_bytes max_bound max_cells
opened = 0
