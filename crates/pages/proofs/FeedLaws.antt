-- Nothing that stands in a line of a page holds a line feed.
--   filled-feedless, head-feedless     bytes with spaces behind them, line 1
--   rows-feedless     the rows of a plain line
--   pages-lines       so the lines of pages are what stands in them, filled to 40 columns
-- Assumes nothing.
use Prim.Native.Nat.{ℕ, zero, suc, ◌+◌, ◌-◌, ◌/◌, ◌%◌}
use native.Mathlib.Omega.{arith}
use mathlib.Core.Bool.{Bool, true, false, cond, ◌||◌}
use mathlib.Core.List.{List, [], ◌∷◌, map, map-map}
use mathlib.Core.Path.{◌≡◌, refl, ap, ◌∙◌}
use borrow.Author.Tests.{ne_eqb}
use lib.Dec.{ltb, eqb}
use lib.ListN.{length, take, drop}
use Rattle.text.specs.Lists.{every}
use Rattle.text.specs.Lines.{Line, lines}
use Rattle.text.specs.Fields.{decimal_from, decimal}
use Rattle.text.specs.Keys.{word_length, word}
use Rattle.text.proofs.ListLaws.{every-both, every_take, every_drop, every_map, every-gather}
use Rattle.pages.specs.Pages.{spaces, filled, pieces, indented, rows_of, rows, aligned, pages_of}
use Rattle.pages.proofs.Lined.{is_plain_line, Lined}
use Rattle.pages.proofs.PieceLaws.{every-pieces}
use Rattle.pages.proofs.LineLaws.{feedless, whole, lines-ended, plain-feedless, rows_are}
use Rattle.pages.proofs.Contents.{head_of, contents_from, pages-contents, contents-all, page-lines}

spaces-feedless : (n : ℕ) → feedless (spaces n) ≡ true
unfolding spaces
spaces-feedless zero = refl
spaces-feedless (suc n) = spaces-feedless n

-- bytes with spaces behind them
pub filled-feedless : (n : ℕ) (bytes : List ℕ) → feedless bytes ≡ true → feedless (filled n bytes) ≡ true
unfolding filled
filled-feedless n bytes h = every-both _ bytes (spaces (n - length bytes)) h (spaces-feedless (n - length bytes))

-- the digits of a number
digits-feedless : (f n : ℕ) (behind : List ℕ) → feedless behind ≡ true → feedless (decimal_from f n behind) ≡ true
unfolding decimal_from
digits-feedless zero n behind h = h
digits-feedless (suc f) n behind h =
    go (ltb n 10)
    (digits-feedless f (n / 10) ((48 + n % 10) ∷ behind) (rw (ne_eqb (48 + n % 10) 10 (λ e. omega (arith, e))) h))
  where
    go : (t : Bool) → feedless (decimal_from f (n / 10) ((48 + n % 10) ∷ behind)) ≡ true
        → feedless (cond t ((48 + n) ∷ behind) (decimal_from f (n / 10) ((48 + n % 10) ∷ behind))) ≡ true
    go true more = rw (ne_eqb (48 + n) 10 (λ e. omega (arith, e))) h
    go false more = more

-- the bytes before the first comma or line feed
front-feedless : (s : List ℕ) → feedless (take (word_length s) s) ≡ true
unfolding word_length
front-feedless [] = refl
front-feedless (b ∷ s) = go (eqb b 44) (eqb b 10) refl (front-feedless s)
  where
    go : (comma feed : Bool) → eqb b 10 ≡ feed → feedless (take (word_length s) s) ≡ true
        → feedless (take (cond (comma || feed) 0 (suc (word_length s))) (b ∷ s)) ≡ true
    go true feed e more = refl
    go false true e more = refl
    go false false e more = rw e more

-- line 1 of a page
pub head-feedless : (listing : List ℕ) (n : ℕ) → feedless (head_of (word listing 0) n) ≡ true
unfolding head_of aligned word decimal
head-feedless listing n =
    every-both _ (filled 36 (word listing 0)) (aligned n) (filled-feedless 36 (word listing 0) (front-feedless listing))
    (every-both _ (spaces (4 - length (decimal n))) (decimal n) (spaces-feedless (4 - length (decimal n)))
    (digits-feedless (suc n) n [] refl))

-- the rows of a plain line
pub rows-feedless : (line : List ℕ) → is_plain_line line ≡ true → every feedless (rows_of line) ≡ true
unfolding rows_of indented
rows-feedless line h =
    let bytes = plain-feedless line h in
    let others : every feedless (map indented (pieces 38 (drop 40 line))) ≡ true =
    every_map feedless feedless indented (pieces 38 (drop 40 line)) (λ p. λ e. e)
    (every-pieces _ (length (drop 40 line)) 38 (drop 40 line) (every_drop _ 40 line bytes)) in
    rw (every_take _ 40 line bytes, others)

-- a line of pages, by what stands in it
abbrev pub shown : List ℕ → Line
shown bytes = whole (filled 40 bytes)

-- what stands in the lines of the pages of a listing
abbrev pub contents_of : List ℕ → List (List ℕ)
contents_of listing = contents_from (word listing 0) 1 (pieces 58 (rows listing))

-- the lines of the pages of a listing made of plain lines
pub pages-lines : {listing : List ℕ} {k : ℕ} → Lined listing k → lines (pages_of listing) ≡ map shown (contents_of listing)
unfolding pages_of
pages-lines {listing} l =
    let clear : every feedless (rows listing) ≡ true =
    rw (rows_are l) (every-gather is_plain_line feedless rows_of l.parts rows-feedless l.plain) in
    let all : every feedless (contents_of listing) ≡ true =
    contents-all feedless (word listing 0) 1 (pieces 58 (rows listing)) refl (λ n. λ low. head-feedless listing n)
    (every-pieces feedless (length (rows listing)) 58 (rows listing) clear) in
    let ends : every feedless (map (filled 40) (contents_of listing)) ≡ true =
    every_map feedless feedless (filled 40) (contents_of listing) (filled-feedless 40) all in
    ap lines (pages-contents (word listing 0) 1 (pieces 58 (rows listing)) ∙ page-lines (contents_of listing))
    ∙ lines-ended (map (filled 40) (contents_of listing)) ends
    ∙ map-map whole (filled 40) (contents_of listing)
