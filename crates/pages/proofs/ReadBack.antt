-- The pages of a listing of plain lines hold this listing: it can be read back from them.
--   rows_back             the rows on pages are the rows of the listing
--   lines-back            rows of plain lines join to these lines
--   read-back-lined       so what is read back is the listing
-- Assumes nothing.
use Prim.Native.Nat.{ℕ, zero, suc, ◌-◌, ◌≤◌, ◌<◌}
use native.Mathlib.Omega.{arith}
use mathlib.Core.Bool.{Bool, true, false, not}
use mathlib.Core.List.{List, [], ◌∷◌, ◌++◌, map, append_assoc, map-append}
use mathlib.Core.Option.{Option, none, some}
use mathlib.Core.Path.{◌≡◌, refl, sym, ap, ap₂, ◌∙◌}
use borrow.Author.Tests.{not-true}
use lib.Dec.{eqb}
use lib.ListN.{length, take, drop, length-drop, take-append-drop, length-map}
use lib.Seq.{take-nil, take-take, take_at, drop_at}
use Rattle.text.specs.Lists.{every, gather, answers}
use Rattle.text.specs.Lines.{Line}
use Rattle.text.specs.Keys.{word}
use Rattle.text.proofs.Bools.{never, and-true}
use Rattle.text.proofs.ListLaws.{every_take, every_drop, every-gather, answers-append, answers-map}
use Rattle.pages.specs.Pages.{spaces, filled, pieces_from, pieces, indented, rows_of, rows, pages_of}
use Rattle.pages.specs.Pages.{unless_padding, unfilled, unless_blank, rows_on, behind_row, joined, read_back}
use Rattle.pages.proofs.Lined.{is_mark, is_plain_line, ended, Lined}
use Rattle.pages.proofs.PieceLaws.{pieces-cons, pieces-joined}
use Rattle.pages.proofs.LineLaws.{plain-marks, rows_are}
use Rattle.pages.proofs.Contents.{padded, contents, contents_from, page-size}
use Rattle.pages.proofs.FeedLaws.{shown, pages-lines}

-- bytes that do not end with a space, at least one
unfoldable pub is_solid : List ℕ → Bool
is_solid [] = false
is_solid (b ∷ []) = not (eqb b 32)
is_solid (b ∷ c ∷ s) = is_solid (c ∷ s)

unfilled-spaces : (n : ℕ) → unfilled (spaces n) ≡ []
unfolding spaces unfilled unless_padding
unfilled-spaces zero = refl
unfilled-spaces (suc n) = rw (unfilled-spaces n)

-- spaces behind such bytes are taken off again
unfilled-solid : (r : List ℕ) (n : ℕ) → is_solid r ≡ true → unfilled (r ++ spaces n) ≡ r
unfolding is_solid unfilled unless_padding
unfilled-solid [] n h = absurd (never (sym h))
unfilled-solid (b ∷ []) n h = rw (unfilled-spaces n, not-true (eqb b 32) h)
unfilled-solid (b ∷ c ∷ s) n h = ap (unless_padding b) (unfilled-solid (c ∷ s) n h)

-- what is read from a line of a page, and by what stands in it
abbrev read : Line → Option (List ℕ)
read line = unless_blank (unfilled line.bytes)

abbrev read_line : List ℕ → Option (List ℕ)
read_line bytes = read (shown bytes)

read-blank : read_line [] ≡ none
unfolding filled unless_blank
read-blank = rw (unfilled-spaces 40)

some-solid : (r : List ℕ) → is_solid r ≡ true → unless_blank r ≡ some r
unfolding unless_blank is_solid
some-solid [] h = absurd (never (sym h))
some-solid (b ∷ s) h = refl

read-row : (r : List ℕ) → is_solid r ≡ true → read_line r ≡ some r
unfolding filled
read-row r h = ap unless_blank (unfilled-solid r (40 - length r) h) ∙ some-solid r h

read-padded : (n : ℕ) (rs : List (List ℕ)) → every is_solid rs ≡ true → answers read_line (padded n rs) ≡ take n rs
unfolding padded
read-padded zero rs h = refl
read-padded (suc n) [] h = rw read-blank (read-padded n [] h ∙ take-nil n)
read-padded (suc n) (r ∷ rs) h =
    let (first, rest) = and-true (is_solid r) (every is_solid rs) h in
    rw (read-row r first) (ap (λ (l : List (List ℕ)). r ∷ l) (read-padded n rs rest))

-- the rows on pages that were cut from rows
read-pieces : (k : ℕ) (rs : List (List ℕ)) → length rs ≤ k → every is_solid rs ≡ true
    → answers read_line (gather (padded 58) (pieces_from k 58 rs)) ≡ rs
read-pieces zero [] low h = refl
read-pieces zero (r ∷ rs) low h = absurd (omega arith)
read-pieces (suc k) [] low h = refl
read-pieces (suc k) (r ∷ rs) low h =
    let all = r ∷ rs in
    let here : answers read_line (padded 58 (take 58 all)) ≡ take 58 all =
    read-padded 58 (take 58 all) (every_take is_solid 58 all h) ∙ take-take 58 58 all (omega arith) in
    let more = read-pieces k (drop 58 all) (omega (arith, length-drop 58 all)) (every_drop is_solid 58 all h) in
    answers-append read_line (padded 58 (take 58 all)) (gather (padded 58) (pieces_from k 58 (drop 58 all)))
    ∙ ap₂ (λ (a b : List (List ℕ)). a ++ b) here more
    ∙ take-append-drop 58 all

-- a list of n elements in front of others is the first piece
pieces-front : {A : Type 0} (n : ℕ) (a b : List A) → 0 < n → length a ≡ n → pieces n (a ++ b) ≡ a ∷ pieces n b
pieces-front n [] b p e = absurd (omega arith)
pieces-front n (x ∷ a) b p e =
    pieces-cons n x (a ++ b) p
    ∙ ap₂ (λ (h t : List _). h ∷ pieces n t) (take_at (x ∷ a) b n e) (drop_at (x ∷ a) b n e)

-- lines 1 and 2 of each page dropped
page-rows : (first : List ℕ) (n : ℕ) (ps : List (List (List ℕ)))
    → gather (drop 2) (pieces 60 (map shown (contents_from first n ps))) ≡ map shown (gather (padded 58) ps)
page-rows first n [] = refl
page-rows first n (rs ∷ more) =
    let page = map shown (contents first n rs) in
    let others = map shown (contents_from first (suc n) more) in
    ap (λ (l : List Line). gather (drop 2) (pieces 60 l))
    (map-append shown (contents first n rs) (contents_from first (suc n) more))
    ∙ ap (gather (drop 2))
    (pieces-front 60 page others (omega arith) (length-map (contents first n rs) shown ∙ page-size first n rs))
    ∙ ap (λ (l : List Line). map shown (padded 58 rs) ++ l) (page-rows first (suc n) more)
    ∙ sym (map-append shown (padded 58 rs) (gather (padded 58) more))

-- the rows of a plain line do not end with a space
marks-solid : (b : ℕ) (s : List ℕ) → every is_mark (b ∷ s) ≡ true → is_solid (b ∷ s) ≡ true
unfolding is_solid is_mark
marks-solid b [] h =
    (and-true (not (eqb b 32)) (not (eqb b 10)) (and-true (is_mark b) true h).0).0
marks-solid b (c ∷ s) h = marks-solid c s (and-true (is_mark b) (every is_mark (c ∷ s)) h).1

pieces-solid : (k : ℕ) (l : List ℕ) → every is_mark l ≡ true → every is_solid (map indented (pieces_from k 38 l)) ≡ true
unfolding is_solid indented
pieces-solid zero l h = refl
pieces-solid (suc k) [] h = refl
pieces-solid (suc k) (x ∷ l) h =
    rw (
      marks-solid x (take 37 l) (every_take is_mark 38 (x ∷ l) h),
      pieces-solid k (drop 38 (x ∷ l)) (every_drop is_mark 38 (x ∷ l) h),
    )

rows-solid : (line : List ℕ) → is_plain_line line ≡ true → every is_solid (rows_of line) ≡ true
unfolding is_plain_line rows_of
rows-solid [] h = absurd (never (sym h))
rows-solid (b ∷ s) h =
    let marks = plain-marks (b ∷ s) h in
    let behind = drop 40 (b ∷ s) in
    rw (
      marks-solid b (take 39 s) (every_take is_mark 40 (b ∷ s) marks),
      pieces-solid (length behind) behind (every_drop is_mark 40 (b ∷ s) marks),
    )

-- the rows on the pages of a listing are the rows of the listing
pub rows_back : {listing : List ℕ} {k : ℕ} → Lined listing k → rows_on (pages_of listing) ≡ rows listing
unfolding rows_on
rows_back {listing} l =
    let solid : every is_solid (rows listing) ≡ true =
    rw (rows_are l) (every-gather is_plain_line is_solid rows_of l.parts rows-solid l.plain) in
    let pages = pieces 58 (rows listing) in
    ap (λ (ls : List Line). answers read (gather (drop 2) (pieces 60 ls))) (pages-lines l)
    ∙ ap (answers read) (page-rows (word listing 0) 1 pages)
    ∙ answers-map read shown (gather (padded 58) pages)
    ∙ read-pieces (length (rows listing)) (rows listing) (omega arith) solid

-- rows that continue a line
rows_on_lem : (ps rest : List (List ℕ)) → behind_row (map indented ps ++ rest) ≡ gather (λ p. p) ps ++ behind_row rest
unfolding behind_row indented
rows_on_lem [] rest = refl
rows_on_lem (p ∷ ps) rest =
    ap (λ (l : List ℕ). p ++ l) (rows_on_lem ps rest) ∙ sym (append_assoc p (gather (λ p. p) ps) (behind_row rest))

-- the rows of a line in front of others
line-back : (line : List ℕ) (rest : List (List ℕ)) (bytes : List ℕ) → behind_row rest ≡ 10 ∷ bytes
    → take 40 line ++ behind_row (map indented (pieces 38 (drop 40 line)) ++ rest) ≡ ended line ++ bytes
unfolding ended
line-back line rest bytes h =
    let ps = pieces 38 (drop 40 line) in
    ap (λ (l : List ℕ). take 40 line ++ l)
    (rows_on_lem ps rest ∙ ap₂ (λ (a b : List ℕ). a ++ b) (pieces-joined 38 (drop 40 line) (omega arith)) h)
    ∙ sym (append_assoc (take 40 line) (drop 40 line) (10 ∷ bytes))
    ∙ ap (λ (l : List ℕ). l ++ (10 ∷ bytes)) (take-append-drop 40 line)
    ∙ sym (append_assoc line (10 ∷ []) bytes)

-- the rows of plain lines behind a row: the first of them begins a line
behind-back : (ls : List (List ℕ)) → every is_plain_line ls ≡ true → behind_row (gather rows_of ls) ≡ 10 ∷ gather ended ls
unfolding behind_row rows_of is_plain_line is_mark
behind-back [] h = refl
behind-back ([] ∷ ls) h = absurd (never (sym h))
behind-back ((b ∷ s) ∷ ls) h =
    let (plain, rest) = and-true (is_plain_line (b ∷ s)) (every is_plain_line ls) h in
    let mark = (and-true (is_mark b) (every is_mark s) (plain-marks (b ∷ s) plain)).0 in
    let space = not-true (eqb b 32) (and-true (not (eqb b 32)) (not (eqb b 10)) mark).0 in
    rw space
    (ap (λ (l : List ℕ). 10 ∷ l) (line-back (b ∷ s) (gather rows_of ls) (gather ended ls) (behind-back ls rest)))

-- rows of plain lines join to these lines
pub lines-back : (ls : List (List ℕ)) → every is_plain_line ls ≡ true → joined (gather rows_of ls) ≡ gather ended ls
unfolding joined rows_of
lines-back [] h = refl
lines-back (line ∷ ls) h =
    let (plain, rest) = and-true (is_plain_line line) (every is_plain_line ls) h in
    line-back line (gather rows_of ls) (gather ended ls) (behind-back ls rest)

-- what the pages of a listing of plain lines hold is the listing
pub read-back-lined : {listing : List ℕ} {k : ℕ} → Lined listing k → read_back (pages_of listing) ≡ listing
unfolding read_back
read-back-lined l = ap joined (rows_back l ∙ rows_are l) ∙ lines-back l.parts l.plain ∙ l.cut
