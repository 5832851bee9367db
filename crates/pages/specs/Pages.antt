-- The pages of a listing, and the listing of its pages (document 02, W6).
--   page_line          a line of a page: 40 columns and a line feed
--   rows_of, rows      the rows that a line takes on pages, and those of a listing
--   page_of            a page: 60 lines, 58 of them for rows
--   pages_of           the pages of a listing
--   read_back          the listing that pages hold
-- Assumes nothing.
use Rattle.std.specs.Prelude.{ℕ, zero, suc, ◌-◌, cond, List, [], ◌∷◌, ◌++◌, map, eqb, length, take, drop}
use Rattle.std.proofs.Math.Option.{Option, none, some}
use Rattle.text.specs.Lists.{same_bytes, gather, answers}
use Rattle.text.specs.Lines.{Line, lines}
use Rattle.text.specs.Fields.{decimal}
use Rattle.text.specs.Keys.{word}

-- n spaces
unfoldable pub spaces : ℕ → List ℕ
spaces zero = []
spaces (suc n) = 32 ∷ spaces n

-- bytes with spaces behind them, up to n columns
unfoldable pub filled : ℕ → List ℕ → List ℕ
filled n bytes = bytes ++ spaces (n - length bytes)

-- a line of a page: 40 columns and a line feed
unfoldable pub page_line : List ℕ → List ℕ
page_line bytes = filled 40 bytes ++ (10 ∷ [])

-- a list cut into pieces of n elements, at most `fuel` of them
abbrev pub pieces_from {ℓ} : {A : Type ℓ} → ℕ → ℕ → List A → List (List A)
pieces_from zero n l = []
pieces_from (suc fuel) n [] = []
pieces_from (suc fuel) n (x ∷ l) = take n (x ∷ l) ∷ pieces_from fuel n (drop n (x ∷ l))

-- a list cut into pieces of n elements; the last has what is left
abbrev pub pieces {ℓ} : {A : Type ℓ} → ℕ → List A → List (List A)
pieces n l = pieces_from (length l) n l

-- the row of bytes that continue a line: they stand behind two spaces
unfoldable pub indented : List ℕ → List ℕ
indented bytes = 32 ∷ 32 ∷ bytes

-- the rows of a line: its first 40 bytes, then 38 at a time
unfoldable pub rows_of : List ℕ → List (List ℕ)
rows_of line = take 40 line ∷ map indented (pieces 38 (drop 40 line))

-- the rows of a listing: those of its lines
unfoldable pub rows : List ℕ → List (List ℕ)
rows listing = gather (λ (l : Line). rows_of l.bytes) (lines listing)

-- n lines of a page: the rows, and blank lines where there are no more
unfoldable pub row_lines : ℕ → List (List ℕ) → List ℕ
row_lines zero rs = []
row_lines (suc n) [] = page_line [] ++ row_lines n []
row_lines (suc n) (r ∷ rs) = page_line r ++ row_lines n rs

-- a number at the right of 4 columns
unfoldable pub aligned : ℕ → List ℕ
aligned n = spaces (4 - length (decimal n)) ++ decimal n

-- line 1 of page n: the listing's first field at the left, and n in the last 4 columns
unfoldable pub head_line : List ℕ → ℕ → List ℕ
head_line first n = page_line (filled 36 first ++ aligned n)

-- page n: line 1, a blank line, and 58 lines with rows
unfoldable pub page_of : List ℕ → ℕ → List (List ℕ) → List ℕ
page_of first n rs = head_line first n ++ (page_line [] ++ row_lines 58 rs)

-- pages from number n on, each with its rows
unfoldable pub pages_from : List ℕ → ℕ → List (List (List ℕ)) → List ℕ
pages_from first n [] = []
pages_from first n (rs ∷ more) = page_of first n rs ++ pages_from first (suc n) more

-- the pages of a listing, counted from 1, with 58 rows each
unfoldable pub pages_of : List ℕ → List ℕ
pages_of listing = pages_from (word listing 0) 1 (pieces 58 (rows listing))

-- how many pages a listing takes
unfoldable pub page_count : List ℕ → ℕ
page_count listing = length (pieces 58 (rows listing))

-- the bytes of a page
unfoldable pub page_size : ℕ
page_size = 2460

-- the pages that every listing of a check fits (`pages-few` in replies)
unfoldable pub max_pages : ℕ
max_pages = 17

-- a byte in front of bytes, unless it is a space and they are none
unfoldable pub unless_padding : ℕ → List ℕ → List ℕ
unless_padding b [] = cond (eqb b 32) [] (b ∷ [])
unless_padding b (c ∷ bytes) = b ∷ c ∷ bytes

-- bytes without the spaces at their end
unfoldable pub unfilled : List ℕ → List ℕ
unfilled [] = []
unfilled (b ∷ bytes) = unless_padding b (unfilled bytes)

-- a line without its padding; none where it is blank
unfoldable pub unless_blank : List ℕ → Option (List ℕ)
unless_blank [] = none
unless_blank (b ∷ bytes) = some (b ∷ bytes)

-- the rows on pages: lines 1 and 2 of each page are dropped, and so are padding and blank lines
unfoldable pub rows_on : List ℕ → List (List ℕ)
rows_on bytes = answers (λ (l : Line). unless_blank (unfilled l.bytes)) (gather (drop 2) (pieces 60 (lines bytes)))

-- the rows behind a first one: those that begin with two spaces continue the line before, the others begin a line
unfoldable pub behind_row : List (List ℕ) → List ℕ
behind_row [] = 10 ∷ []
behind_row (r ∷ rs) =
    cond (same_bytes (take 2 r) (32 ∷ 32 ∷ [])) (drop 2 r ++ behind_row rs) (10 ∷ (r ++ behind_row rs))

-- rows joined to lines
unfoldable pub joined : List (List ℕ) → List ℕ
joined [] = []
joined (r ∷ rs) = r ++ behind_row rs

-- the listing that pages hold
unfoldable pub read_back : List ℕ → List ℕ
read_back bytes = joined (rows_on bytes)
