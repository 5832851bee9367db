-- How large pages are.
--   pages-counted     how many pages there are at most, by their rows
--   pages-size        each has 2,460 bytes
--   pages-exact       and 60 lines of exactly 40 columns
-- Assumes nothing.
use Prim.Native.Nat.{ℕ, zero, suc, ◌-◌, ◌*◌, ◌≤◌}
use native.Mathlib.Omega.{arith}
use mathlib.Core.Bool.{Bool, true, ◌&&◌}
use mathlib.Core.List.{List, [], ◌∷◌, ◌++◌, map}
use mathlib.Core.Path.{◌≡◌, refl, ap, ◌∙◌}
use borrow.Author.Tests.{leb-true, le-leb, eq-eqb}
use lib.Dec.{leb, eqb}
use lib.ListN.{length, take, drop, length-append, length-take, length-map}
use Rattle.text.specs.Lists.{every, gather}
use Rattle.text.specs.Lines.{Line, lines}
use Rattle.text.specs.Fields.{decimal}
use Rattle.text.specs.Keys.{word}
use Rattle.text.proofs.Bools.{and-true}
use Rattle.text.proofs.ListLaws.{every-always, every_map, every-gather}
use Rattle.listing.proofs.SizeLaws.{tens, digits-few}
use Rattle.pages.specs.Pages.{spaces, filled, page_line, pieces_from, pieces, indented, rows_of, rows, aligned}
use Rattle.pages.specs.Pages.{pages_of, page_count, page_size}
use Rattle.pages.proofs.Lined.{Lined}
use Rattle.pages.proofs.PieceLaws.{pieces-few, every-pieces}
use Rattle.pages.proofs.Contents.{head_of, pages-contents, contents-size, contents-all}
use Rattle.pages.proofs.FeedLaws.{shown, contents_of, pages-lines}

-- as many pages as hold the rows are enough
pub pages-counted : (listing : List ℕ) (n : ℕ) → length (rows listing) ≤ 58 * n → page_count listing ≤ n
unfolding page_count
pages-counted listing n h = pieces-few 58 n (rows listing) (omega arith) h

-- bytes that fit n columns
abbrev fits : ℕ → List ℕ → Bool
fits n bytes = leb (length bytes) n

pub spaces-size : (n : ℕ) → length (spaces n) ≡ n
unfolding spaces
spaces-size zero = refl
spaces-size (suc n) = ap suc (spaces-size n)

-- such bytes are filled to n columns
filled-size : (n : ℕ) (bytes : List ℕ) → length bytes ≤ n → length (filled n bytes) ≡ n
unfolding filled
filled-size n bytes h =
    omega (arith, length-append bytes (spaces (n - length bytes)), spaces-size (n - length bytes))

-- a number up to 9999 has at most four digits
four-digits : (n : ℕ) → n ≤ 9999 → length (decimal n) ≤ 4
unfolding tens
four-digits n h = digits-few 3 n (omega arith)

-- line 1 of a page
head-fits : (first : List ℕ) (n : ℕ) → length first ≤ 36 → n ≤ 9999 → fits 40 (head_of first n) ≡ true
unfolding head_of aligned
head-fits first n h k =
    le-leb (length (filled 36 first ++ aligned n)) 40
    (omega (
      arith,
      length-append (filled 36 first) (aligned n),
      filled-size 36 first h,
      length-append (spaces (4 - length (decimal n))) (decimal n),
      spaces-size (4 - length (decimal n)),
      four-digits n k,
    ))

-- pieces of n elements
pieces-fit : (k n : ℕ) (l : List ℕ) → every (fits n) (pieces_from k n l) ≡ true
pieces-fit zero n l = refl
pieces-fit (suc k) n [] = refl
pieces-fit (suc k) n (x ∷ l) =
    rw (
      le-leb (length (take n (x ∷ l))) n (omega (arith, length-take n (x ∷ l))),
      pieces-fit k n (drop n (x ∷ l)),
    )

-- the rows of a line, and of a listing
line-fits : (line : List ℕ) → every (fits 40) (rows_of line) ≡ true
unfolding rows_of indented
line-fits line =
    let others : every (fits 40) (map indented (pieces 38 (drop 40 line))) ≡ true =
    every_map (fits 38) (fits 40) indented (pieces 38 (drop 40 line))
    (λ p. λ e. le-leb (length (indented p)) 40 (omega (arith, leb-true (length p) 38 e)))
    (pieces-fit (length (drop 40 line)) 38 (drop 40 line)) in
    rw (le-leb (length (take 40 line)) 40 (omega (arith, length-take 40 line)), others)

rows_fit : (listing : List ℕ) → every (fits 40) (rows listing) ≡ true
unfolding rows
rows_fit listing =
    every-gather (λ (l : Line). true) (fits 40) (λ (l : Line). rows_of l.bytes) (lines listing) (λ l. λ e. line-fits l.bytes)
    (every-always (λ (l : Line). true) (lines listing) (λ l. refl))

-- what stands in the lines of pages
contents-fit : (listing : List ℕ) → length (word listing 0) ≤ 36 → page_count listing ≤ 9999
    → every (fits 40) (contents_of listing) ≡ true
unfolding page_count
contents-fit listing h k =
    contents-all (fits 40) (word listing 0) 1 (pieces 58 (rows listing)) refl
    (λ n. λ low. head-fits (word listing 0) n h (omega arith))
    (every-pieces (fits 40) (length (rows listing)) 58 (rows listing) (rows_fit listing))

lines-size : (cs : List (List ℕ)) → every (fits 40) cs ≡ true → length (gather page_line cs) ≡ 41 * length cs
unfolding page_line
lines-size [] h = refl
lines-size (c ∷ cs) h =
    let (first, rest) = and-true (fits 40 c) (every (fits 40) cs) h in
    omega (
      arith,
      length-append (filled 40 c ++ (10 ∷ [])) (gather page_line cs),
      length-append (filled 40 c) (10 ∷ []),
      filled-size 40 c (leb-true (length c) 40 first),
      lines-size cs rest,
    )

-- the bytes of pages
pub pages-size : (listing : List ℕ) → length (word listing 0) ≤ 36 → page_count listing ≤ 9999
    → length (pages_of listing) ≡ page_size * page_count listing
unfolding pages_of page_count page_size
pages-size listing h k =
    let ps = pieces 58 (rows listing) in
    omega (
      arith,
      ap length (pages-contents (word listing 0) 1 ps),
      lines-size (contents_of listing) (contents-fit listing h k),
      contents-size (word listing 0) 1 ps,
    )

-- pages have 60 lines of exactly 40 columns, each with its line feed
pub pages-exact : {listing : List ℕ} {k : ℕ} → Lined listing k → length (word listing 0) ≤ 36 → page_count listing ≤ 9999
    → (length (lines (pages_of listing)) ≡ 60 * page_count listing)
    × (every (λ (l : Line). eqb (length l.bytes) 40 && l.ended) (lines (pages_of listing)) ≡ true)
unfolding page_count
pages-exact {listing} l h k =
    let counted : length (lines (pages_of listing)) ≡ 60 * length (pieces 58 (rows listing)) =
    ap length (pages-lines l)
    ∙ length-map (contents_of listing) shown
    ∙ contents-size (word listing 0) 1 (pieces 58 (rows listing)) in
    let columns : every (λ (l : Line). eqb (length l.bytes) 40 && l.ended) (lines (pages_of listing)) ≡ true =
    ap (every (λ (l : Line). eqb (length l.bytes) 40 && l.ended)) (pages-lines l)
    ∙ every_map (fits 40) (λ (l : Line). eqb (length l.bytes) 40 && l.ended) shown (contents_of listing)
    (λ c. λ e. rw (eq-eqb (length (filled 40 c)) 40 (filled-size 40 c (leb-true (length c) 40 e)))) (contents-fit listing h k) in
    (counted, columns)
