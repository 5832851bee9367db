-- The listing of a final state in cells: what its functions show, ask and promise.
--   named            the name of each symbol and constant
--   placed           the name of a variable that is numbered by its place
--   cell_shown        a cell as a field
--   bound_line        a goal variable's line
--   live_bytes        the first line, the A and the S lines of a state whose variables are numbered
--   numbered_end      the listing of an end whose variables are numbered
--   end_bytes         the listing of a final state
--   Listable, EndNumbered, Writable     what listing a final state, numbering its variables and writing it ask and promise
--   Ample            an output that every listing of so many goal variables and cells fits
-- Assumes nothing.
use Rattle.std.specs.Prelude.{is_some, unwrap_or, ℕ, ◌≤◌, ◌<◌, Bool, true, cond, List, [], ◌∷◌, ◌++◌, map, ◌≡◌, length}
use Rattle.text.specs.Bytes.{ascii}
use Rattle.text.specs.Fields.{decimal}
use Rattle.tables.specs.Cells.{cell_term, cell_constraints, state_of}
use Rattle.tables.specs.Names.{name_in}
use Rattle.tables.specs.Numbers.{Renumberable, Renumbered}
use Rattle.listing.specs.Listing.{Naming, line_of, term_shown, constraint_lines, variable_name, place_name, bound_lines}
use Rattle.listing.specs.Listing.{end_listing}
use Rattle.listing.specs.Writing.{Countable, ample}
use Rattle.listing.specs.declared.End.{End}
use Rattle.listing.specs.declared.Names.{Names}

-- the name of each symbol and constant, by the texts and places that things are shown by
abbrev pub named : Names → Naming
named names = name_in names.program.now names.goal.now names.places.now

-- the name of the variable of a number, where each is its place in the order and the first n are the goal's
unfoldable pub placed : List ℕ → ℕ → ℕ → List ℕ
placed letters n = place_name (variable_name letters) n

-- a cell as a field
unfoldable pub cell_shown : Naming → List ℕ → ℕ → ℕ → List ℕ
cell_shown naming letters n x = term_shown naming (placed letters n) (cell_term x)

-- the line of goal variable i of n, which became a cell
unfoldable pub bound_line : Naming → List ℕ → ℕ → ℕ → ℕ → List ℕ
bound_line naming letters n i x = line_of (ascii "A") (variable_name letters i ∷ cell_shown naming letters n x ∷ [])

-- the first line, and the A and S lines, of a state whose variables are numbered
unfoldable pub live_bytes : Naming → List ℕ → List ℕ → List ℕ → ℕ → List ℕ
live_bytes naming letters bound cells firings =
    line_of (ascii "END") (decimal firings ∷ [])
    ++ (bound_lines naming (placed letters (length bound)) (variable_name letters) 0 (map cell_term bound)
    ++ constraint_lines (ascii "S") naming (placed letters (length bound)) (cell_constraints cells))

-- the listing of an end whose variables, if it lives, are numbered
unfoldable pub numbered_end : Naming → List ℕ → List ℕ → List ℕ → End → List ℕ
numbered_end naming letters bound cells e =
    cond (is_some e.next) (live_bytes naming letters bound cells e.firings) (line_of (ascii "FAILED") (decimal e.firings ∷ []))

-- the listing of a final state: its names are parts of the two texts
unfoldable pub end_bytes : List ℕ → List ℕ → List ℕ → List ℕ → List ℕ → List ℕ → End → List ℕ
end_bytes program goal places letters bound cells e =
    end_listing (name_in program goal places) (variable_name letters)
    (record { state = state_of (is_some e.next) (unwrap_or e.next 0) bound cells; firings = e.firings })

-- what listing a final state asks: where it lives, an entry for each variable's number, and that each goal variable became a
-- constant or a goal variable
pub record Listable (alive : Bool) (next : ℕ) (bound cells : List ℕ) : Type 0 where
  pub few : next ≤ 13340
  pub live : alive ≡ true → Renumberable next bound cells

-- what numbering its variables promises, of n goal variables: where it lives, each is its place in the order
pub record EndNumbered (alive : Bool) (n : ℕ) (cells cells' : List ℕ) (count : ℕ) : Type 0 where
  pub live : alive ≡ true → Renumbered n cells cells' count

-- what writing an end asks: that it can be counted
pub record Writable (naming : Naming) (letters bound cells : List ℕ) (e : End) : Type 0 where
  pub counted : Countable 0 (numbered_end naming letters bound cells e)
  pub few : is_some e.next ≡ true → length bound < 65536

-- the goal variables and the cells up to which every listing fits an ample output
unfoldable pub max_bound : ℕ
max_bound = 28

unfoldable pub max_cells : ℕ
max_cells = 2590

-- an output that is ample for every listing of so many goal variables and cells
pub record Ample (room variables cells : ℕ) : Type 0 where
  pub wide : ample ≤ room
  pub few-bound : variables ≤ max_bound
  pub few-cells : cells ≤ max_cells
