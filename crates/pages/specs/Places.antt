-- A place in a listing from which rows are left: what the writer's cursor means.
--   rows_from       the rows of what is left of a listing, which may continue a line
--   NextRow        the next row, and where the row behind it starts
--   RowsPut        lines with 58 rows put into an output, and where the next row starts
-- Assumes nothing.
use Rattle.std.specs.Prelude.{ℕ, suc, ◌≤◌, ◌<◌, Bool, cond, List, [], ◌∷◌, ◌++◌, map, ◌≡◌, length, take, drop}
use Rattle.text.specs.Cursors.{before}
use Rattle.text.specs.Splits.{part}
use Rattle.listing.specs.Writing.{Writes}
use Rattle.pages.specs.Pages.{pieces, indented, rows}
use Rattle.pages.specs.declared.Row.{Row}
use Rattle.pages.specs.declared.Place.{Place}

-- what stands before a row's bytes: two spaces where they continue a line
unfoldable pub indent : Bool → List ℕ
indent inside = cond inside (32 ∷ 32 ∷ []) []

-- how many bytes of a line a row holds
unfoldable pub width : Bool → ℕ
width inside = cond inside 38 40

-- the rows of a line's bytes, of which the first may continue the line
unfoldable pub rows_within : Bool → List ℕ → List (List ℕ)
rows_within inside line =
    (indent inside ++ take (width inside) line) ∷ map indented (pieces 38 (drop (width inside) line))

-- the rows of what is left of a listing: of its first line, which may be continued, and of the lines behind it
unfoldable pub rows_from : Bool → List ℕ → List (List ℕ)
rows_from inside [] = []
rows_from inside (b ∷ s) =
    let n = before 10 (b ∷ s) in
    rows_within inside (take n (b ∷ s)) ++ rows (drop (suc n) (b ∷ s))

-- the row that starts at a place of a listing: its bytes end, and the next row starts; behind the listing there are none
pub record NextRow (listing : List ℕ) (at : ℕ) (inside : Bool) (r : Row) : Type 0 where
  pub begun : at ≤ r.end
  pub ended : r.end ≤ r.next
  pub within : r.next ≤ length listing
  pub ahead : at < length listing → at < r.next
  pub here :
      at < length listing
      → rows_from inside (drop at listing)
      ≡ (indent inside ++ part listing at r.end) ∷ rows_from r.inside (drop r.next listing)

-- lines of a page put into an output from a place on, with the next 58 rows of a listing, and where the row behind them starts
pub record RowsPut (bytes listing : List ℕ) (at : ℕ) (inside : Bool) (from : ℕ) (before after : List ℕ) (r : Place)
    : Type 0 where
  pub wrote : Writes bytes from before after r.end
  pub left : rows_from r.inside (drop r.at listing) ≡ drop 58 (rows_from inside (drop at listing))
  pub within : r.at ≤ length listing
  pub ahead : at < length listing → at < r.at
