-- Laws of the lines and pages that the writers put one behind the other: what each leaves to count, and what it adds.
--   fill-…         spaces up to a place: none, those that fit, those that do not
--   indent-…       what stands before a row's bytes
--   margin-…, aligned-…     a number at the right of 4 columns, and how many spaces stand before it
--   line-…         a line of a page
--   head-…         line 1 of a page
--   Rowing, rowing-…     58 lines with rows, one line on
--   page-…         a page
--   Paging, paging-…     the pages of a listing, one page on
--   pages-count, pages-ample     all of them can be counted, and fit an ample output
-- Assumes nothing.
use mathlib.Core.Path.{◌≡◌, refl, sym, ap, ◌∙◌}
use mathlib.Core.Bool.{Bool, true, false}
use mathlib.Core.List.{List, [], ◌∷◌, ◌++◌}
use Prim.Native.Nat.{ℕ, zero, suc, ◌+◌, ◌-◌, ◌*◌, ◌/◌, ◌≤◌, ◌<◌, min}
use native.Mathlib.Decide.{dec_lt}
use native.Mathlib.Nat.{not-suc-le-zero}
use native.Mathlib.Numerals.{add-one}
use native.Mathlib.Omega.{arith}
use lib.ListN.{length, take, drop, replicate, length-append, length-take, length-drop}
use lib.Seq.{drop-drop}
use Rattle.text.specs.Fields.{decimal}
use Rattle.text.specs.Keys.{word}
use Rattle.text.specs.Splits.{part}
use Rattle.text.proofs.Decimals.{decimal-low, decimal-high}
use Rattle.listing.specs.Writing.{Countable, Writes}
use Rattle.listing.proofs.WriteLaws.{wrote_none, wrote-part, wrote-past, wrote_then, wrote-is, part_from, part_back, wrote-behind, size-behind}
use Rattle.listing.proofs.WriteLaws.{count-front, count-first, count_next}
use Rattle.listing.proofs.WriteLaws.{Writing, writing_start, writing-first, writing-room, writing-line, writing-end}
use Rattle.pages.specs.Pages.{spaces, filled, page_line, pieces, row_lines, aligned, head_line, page_of, pages_from, pages_of}
use Rattle.pages.specs.Pages.{page_size, max_pages}
use Rattle.pages.specs.Places.{indent, rows_from, NextRow, RowsPut}
use Rattle.pages.specs.declared.Row.{Row}
use Rattle.pages.specs.declared.Place.{Place}
use Rattle.pages.proofs.PieceLaws.{pieces-cons, row_lines-take}
use Rattle.pages.proofs.SizeLaws.{spaces-size}
use Rattle.pages.proofs.PlaceLaws.{rows_whole, rows_none, rows_left}

-- spaces are so many of one byte
spaces-are : (n : ℕ) → spaces n ≡ replicate n 32
unfolding spaces
spaces-are zero = refl
spaces-are (suc n) = ap (λ (l : List ℕ). 32 ∷ l) (spaces-are n)

-- no spaces, spaces that fit, and spaces that do not
pub fill-none : (o : List ℕ) (from to : ℕ) → to ≤ from → Writes (spaces (to - from)) from o o from
unfolding spaces
fill-none o from to h = let none : to - from ≡ 0 = omega arith in rw none (wrote_none o from)

pub fill-part : {o now : List ℕ} (from to : ℕ) → from < to → to ≤ length o
    → now ≡ replicate (length (take (to - from) (drop from o))) 32
    → Writes (spaces (to - from)) from o (take from o ++ (now ++ drop (to - from) (drop from o))) to
fill-part {o} {now} from to h k e =
    let size : length (take (to - from) (drop from o)) ≡ to - from =
    omega (arith, length-take (to - from) (drop from o), length-drop from o) in
    let same : now ≡ spaces (to - from) = e ∙ ap (λ (n : ℕ). replicate n 32) size ∙ sym (spaces-are (to - from)) in
    wrote-part from to (omega (arith, spaces-size (to - from))) same

pub fill-past : (o : List ℕ) (from to : ℕ) → from < to → length o < to → Writes (spaces (to - from)) from o o to
fill-past o from to h k = wrote-past (spaces (to - from)) o from to (omega (arith, spaces-size (to - from))) k

-- spaces up to a place that is reached
pub fill_end : {whole o p : List ℕ} {from end : ℕ} (to : ℕ) → Writing whole from o p end (spaces (to - end)) → to ≤ end
    → Writes whole from o p end
unfolding spaces
fill_end {end = end} to w h = writing-end w (ap spaces (let z : to - end ≡ 0 = omega arith in z))

-- what stands before a row's bytes
pub indent-put : {inside : Bool} {end : ℕ} {o p : List ℕ} → inside ≡ true → Writes (32 ∷ 32 ∷ []) 0 o p end
    → Writes (indent inside) 0 o p end
unfolding indent
indent-put e w = rw e w

pub indent-none : {inside : Bool} (o : List ℕ) → inside ≡ false → Writes (indent inside) 0 o o 0
unfolding indent
indent-none o e = rw e (wrote_none o 0)

-- how many spaces stand before a number
digit-one : (n : ℕ) → n < 10 → length (decimal n) ≡ 1
digit-one n h = ap length (decimal-low n h)

digit-more : (n : ℕ) → 10 ≤ n → length (decimal n) ≡ length (decimal (n / 10)) + 1
digit-more n h = ap length (decimal-high n h) ∙ length-append (decimal (n / 10)) _

digit-some : (n : ℕ) → 0 < length (decimal n)
digit-some n = elim (dec_lt n 10) [
  | yes h ↦ omega (arith, digit-one n h)
  | no h ↦ omega (arith, digit-more n (omega arith))
]

module _ (n : ℕ) where
  pub margin-one : n < 10 → 3 ≡ 4 - length (decimal n)
  margin-one h = omega (arith, digit-one n h)

  pub margin-two : 10 ≤ n → n < 100 → 2 ≡ 4 - length (decimal n)
  margin-two h k = omega (arith, digit-more n h, digit-one (n / 10) (omega arith))

  pub margin-three : 100 ≤ n → n < 1000 → 1 ≡ 4 - length (decimal n)
  margin-three h k =
      omega (
        arith,
        digit-more n (omega arith),
        digit-more (n / 10) (omega arith),
        digit-one (n / 10 / 10) (omega arith),
      )

  pub margin-more : 1000 ≤ n → 0 ≡ 4 - length (decimal n)
  margin-more h =
      omega (
        arith,
        digit-more n (omega arith),
        digit-more (n / 10) (omega arith),
        digit-more (n / 10 / 10) (omega arith),
        digit-some (n / 10 / 10 / 10),
      )

-- a number at the right of 4 columns, behind m spaces
module _ (n at : ℕ) {m : ℕ} (e : m ≡ 4 - length (decimal n)) where
  pub aligned-room : Countable at (aligned n) → at + m < 18446744073709551616
  unfolding aligned
  aligned-room c =
      omega (arith, c.few, spaces-size (4 - length (decimal n)), length-append (spaces (4 - length (decimal n))) (decimal n))

  margin-is : (at + m) - at ≡ 4 - length (decimal n)
  margin-is = omega arith

  pub aligned-count : {o p : List ℕ} {digits : ℕ} → Countable at (aligned n) → Writes (spaces ((at + m) - at)) at o p digits
      → Countable digits (decimal n)
  unfolding aligned
  aligned-count c w = count_next c (wrote-is (ap spaces margin-is) w)

  pub aligned-wrote : {o p q : List ℕ} {digits end : ℕ} → Writes (spaces ((at + m) - at)) at o p digits
      → Writes (decimal n) digits p q end → length p ≡ length o → Writes (aligned n) at o q end
  unfolding aligned
  aligned-wrote w v k = wrote_then (wrote-is (ap spaces margin-is) w) v k

-- bytes and the spaces behind them
filled-long : (n : ℕ) (bytes : List ℕ) → n ≤ length (filled n bytes)
unfolding filled
filled-long n bytes =
    omega (arith, length-append bytes (spaces (n - length bytes)), spaces-size (n - length bytes))

filled-wrote : (n : ℕ) {bytes o p q : List ℕ} {end more : ℕ} → Writes bytes 0 o p end
    → Writes (spaces (n - end)) end p q more → length p ≡ length o → Writes (filled n bytes) 0 o q more
unfolding filled
filled-wrote n {bytes} {end = end} w v k =
    let same : n - end ≡ n - length bytes = omega (arith, w.counted) in
    wrote_then w (wrote-is (ap spaces same) v) k

-- a line of a page: what it leaves to count
module _ (bytes : List ℕ) (c : Countable 0 (page_line bytes)) where
  pub line-bytes : Countable 0 bytes
  unfolding page_line filled
  line-bytes = count-first _ (count-first _ c)

  pub line-feed : {o p q : List ℕ} {end feed : ℕ} → Writes bytes 0 o p end → Writes (spaces (40 - end)) end p q feed
      → length p ≡ length o → Countable feed (10 ∷ [])
  unfolding page_line
  line-feed w v k = count_next c (filled-wrote 40 w v k)

-- and what it adds, if it is filled up to 40 columns
pub line_wrote : (to : ℕ) {bytes o p q r : List ℕ} {end feed last : ℕ} → Writes bytes 0 o p end
    → Writes (spaces (to - end)) end p q feed → to ≡ 40 → Writes (10 ∷ []) feed q r last → length p ≡ length o
    → length q ≡ length p → Writes (page_line bytes) 0 o r last
unfolding page_line
line_wrote to {end = end} w v e u k l =
    wrote_then (filled-wrote 40 w (wrote-is (ap (λ (n : ℕ). spaces (n - end)) e) v) k) u (l ∙ k)

-- line 1 of a page: a field, filled up to 36 columns, and the page's number
module _ (first : List ℕ) (n : ℕ) (c : Countable 0 (head_line first n)) where
  pub head-field : Countable 0 first
  unfolding head_line filled
  head-field = count-first _ (count-first _ (line-bytes _ c))

  pub head-number : {o p q : List ℕ} {field start : ℕ} → Writes first 0 o p field
      → Writes (spaces (36 - field)) field p q start → length p ≡ length o → Countable start (aligned n)
  unfolding head_line
  head-number w v k = count_next (line-bytes _ c) (filled-wrote 36 w v k)

pub head-wrote : (n : ℕ) {first o p q r : List ℕ} {field start digits : ℕ} → Writes first 0 o p field
    → Writes (spaces (36 - field)) field p q start → Writes (aligned n) start q r digits → length p ≡ length o
    → length q ≡ length p → Writes (filled 36 first ++ aligned n) 0 o r digits
head-wrote n w v u k l = wrote_then (filled-wrote 36 w v k) u (l ∙ k)

-- the line of the row at a place; behind the listing's end it is blank
blank-row : (inside : Bool) → page_line [] ≡ page_line (indent inside ++ [])
unfolding page_line filled spaces indent
blank-row true = refl
blank-row false = refl

module _ {s : List ℕ} {at : ℕ} {inside : Bool} {r : Row} (begun : at ≤ length s) (next : NextRow s at inside r) where
  row_line : (k : ℕ)
      → row_lines (suc k) (rows_from inside (drop at s))
      ≡ page_line (indent inside ++ part s at r.end) ++ row_lines k (rows_from r.inside (drop r.next s))
  unfolding row_lines
  row_line k = elim (dec_lt at (length s)) [
    | yes h ↦ rw (next.here h)
    | no h ↦
        let here : rows_from inside (drop at s) ≡ [] = rows_none inside s at (omega arith) in
        let there : rows_from r.inside (drop r.next s) ≡ [] =
        rows_none r.inside s r.next (omega (arith, next.begun, next.ended)) in
        let none : r.end - at ≡ 0 = omega (arith, next.ended, next.within) in
        rw (here, there, none) (ap (λ (l : List ℕ). l ++ row_lines k []) (blank-row inside))
  ]

  row-behind : rows_from r.inside (drop r.next s) ≡ drop 1 (rows_from inside (drop at s))
  row-behind = elim (dec_lt at (length s)) [
    | yes h ↦ rw (next.here h)
    | no h ↦
        let here : rows_from inside (drop at s) ≡ [] = rows_none inside s at (omega arith) in
        let there : rows_from r.inside (drop r.next s) ≡ [] =
        rows_none r.inside s r.next (omega (arith, next.begun, next.ended)) in
        rw (here, there)
  ]

-- of 58 lines with rows i are written
pub record Rowing (s : List ℕ) (start : ℕ) (continued : Bool) (from : ℕ) (before now : List ℕ) (end at : ℕ) (inside : Bool)
    (i : ℕ) : Type 0 where
  pub few : i ≤ 58
  pub writing :
      Writing (row_lines 58 (rows_from continued (drop start s))) from before now end
      (row_lines (58 - i) (rows_from inside (drop at s)))
  pub left : rows_from inside (drop at s) ≡ drop i (rows_from continued (drop start s))
  pub begun : start ≤ at
  pub within : at ≤ length s
  pub ahead : 0 < i → start < length s → start < at

pub rowing_start : (s : List ℕ) (start : ℕ) (continued : Bool) (from : ℕ) (o : List ℕ) → start ≤ length s
    → Rowing s start continued from o o from start continued 0
rowing_start s start continued from o h =
    record {
      few = omega arith;
      writing = writing_start _ from o;
      left = refl;
      begun = omega arith;
      within = h;
      ahead = λ k. absurd (not-suc-le-zero k);
    }

module _ {s o p : List ℕ} {start from end at i : ℕ} {continued inside : Bool} {r : Row}
    (w : Rowing s start continued from o p end at inside i) (next : NextRow s at inside r) where
  rowing-line : i < 58
      → row_lines (58 - i) (rows_from inside (drop at s))
      ≡ page_line (indent inside ++ part s at r.end) ++ row_lines (58 - (i + 1)) (rows_from r.inside (drop r.next s))
  rowing-line h =
      let step : 58 - i ≡ suc (58 - (i + 1)) = omega arith in
      rw step (row_line w.within next (58 - (i + 1)))

  -- the next line can be counted, and so can the place behind it
  module _ (h : i < 58) (c : Countable from (row_lines 58 (rows_from continued (drop start s)))) where
    pub rowing-count : Countable 0 (page_line (indent inside ++ part s at r.end))
    rowing-count = count-front (writing-first _ (rowing-line h) c w.writing)

    pub rowing-room : {x y : List ℕ} {size : ℕ} → Writes (page_line (indent inside ++ part s at r.end)) 0 x y size
        → end + size < 18446744073709551616
    rowing-room v = writing-room _ (rowing-line h) c w.writing v

  -- and it is one more
  pub rowing-next : {line : List ℕ} {size : ℕ} (begin : ℕ) → i < 58 → begin ≡ min end (length p)
      → Writes (page_line (indent inside ++ part s at r.end)) 0 (part_from begin p) line size
      → length line ≡ length (part_from begin p)
      → Rowing s start continued from o (part_back begin p line) (end + size) r.next r.inside (i + 1)
  rowing-next begin h b v k =
      record {
        few = omega arith;
        writing = writing-line begin _ (rowing-line h) w.writing b v k;
        left = row-behind w.within next ∙ ap (drop 1) w.left ∙ drop-drop 1 i (rows_from continued (drop start s));
        begun = omega (arith, w.begun, next.begun, next.ended);
        within = next.within;
        ahead = λ z l. go l (dec_lt at (length s));
      }
    where
      go : start < length s → Dec (at < length s) → start < r.next
      go l (yes k) = omega (arith, w.begun, next.ahead k)
      go l (no k) = omega (arith, w.within, next.begun, next.ended)

-- all 58 are
pub rowing-end : {s o p : List ℕ} {start from end at i : ℕ} {continued inside : Bool}
    → Rowing s start continued from o p end at inside i → 58 ≤ i
    → RowsPut (row_lines 58 (rows_from continued (drop start s))) s start continued from o p
    (record { end = end; at = at; inside = inside })
unfolding row_lines
rowing-end {s} {start = start} {at = at} {i = i} {continued = continued} {inside = inside} w h =
    let none : 58 - i ≡ 0 = omega arith in
    let all : i ≡ 58 = omega (arith, w.few) in
    record {
      wrote = writing-end w.writing (ap (λ (k : ℕ). row_lines k (rows_from inside (drop at s))) none);
      left = w.left ∙ ap (λ (k : ℕ). drop k (rows_from continued (drop start s))) all;
      within = w.within;
      ahead = w.ahead (omega arith);
    }

-- a page: its first line, a blank one, and lines with rows
module _ (first : List ℕ) (number : ℕ) (rs : List (List ℕ)) (c : Countable 0 (page_of first number rs)) where
  pub page-head : Countable 0 (head_line first number)
  unfolding page_of
  page-head = count-first _ c

  module _ {o p : List ℕ} {blank : ℕ} (w : Writes (head_line first number) 0 o p blank) where
    pub page-blank : Countable 0 (page_line (indent false ++ []))
    unfolding page_of indent
    page-blank = count-front (count-first _ (count_next c w))

    pub page-rows : {x y : List ℕ} {size : ℕ} → Writes (page_line (indent false ++ [])) 0 x y size
        → Countable (blank + size) (row_lines 58 rs)
    unfolding page_of indent
    page-rows v =
        record { few = omega (arith, (count_next c w).few, v.counted, length-append (page_line []) (row_lines 58 rs)) }

    pub page-room : {x y : List ℕ} {size : ℕ} → Writes (page_line (indent false ++ [])) 0 x y size
        → blank + size < 18446744073709551616
    page-room v = omega (arith, (page-rows v).few)

pub page-put : (first : List ℕ) (number from : ℕ) {s o p line r : List ℕ} {blank size at : ℕ} {inside : Bool} {place : Place}
    → Writes (head_line first number) 0 o p blank → from ≡ min blank (length p)
    → Writes (page_line (indent false ++ [])) 0 (part_from from p) line size
    → RowsPut (row_lines 58 (rows_from inside (drop at s))) s at inside (blank + size) (part_back from p line) r place
    → length p ≡ length o → length line ≡ length (part_from from p)
    → RowsPut (page_of first number (rows_from inside (drop at s))) s at inside 0 o r place
unfolding page_of indent
page-put first number from {p = p} {line = line} w b v u k l =
    record {
      wrote = wrote_then w (wrote_then (wrote-behind from b v) u.wrote (size-behind from p line l)) k;
      left = u.left;
      within = u.within;
      ahead = u.ahead;
    }

page-long : (first : List ℕ) (n : ℕ) (rs : List (List ℕ)) → 2 ≤ length (page_of first n rs)
unfolding page_of head_line page_line
page-long first n rs =
    omega (
      arith,
      length-append (head_line first n) (page_line [] ++ row_lines 58 rs),
      length-append (filled 40 (filled 36 first ++ aligned n)) (10 ∷ []),
      filled-long 40 (filled 36 first ++ aligned n),
    )

-- a page is left where a row is left
page-cons : (first : List ℕ) (n : ℕ) (rs : List (List ℕ)) → 0 < length rs
    → pages_from first n (pieces 58 rs) ≡ page_of first n rs ++ pages_from first (suc n) (pieces 58 (drop 58 rs))
unfolding pages_from page_of
page-cons first n [] h = absurd (not-suc-le-zero h)
page-cons first n (r ∷ rs) h =
    ap (pages_from first n) (pieces-cons 58 r rs (omega arith))
    ∙ ap (λ (l : List ℕ). (head_line first n ++ (page_line [] ++ l)) ++ pages_from first (suc n) (pieces 58 (drop 58 (r ∷ rs))))
    (row_lines-take 58 (r ∷ rs))

-- of the pages of a listing those before a number are written
pub record Paging (s before now : List ℕ) (end at : ℕ) (inside : Bool) (number : ℕ) : Type 0 where
  pub writing :
      Writing (pages_of s) 0 before now end (pages_from (word s 0) number (pieces 58 (rows_from inside (drop at s))))
  pub within : at ≤ length s
  pub few : number ≤ end + 1

pub paging-start : (s o : List ℕ) → Paging s o o 0 0 false 1
unfolding pages_of
paging-start s o =
    record {
      writing = rw (rows_whole s) (writing_start (pages_of s) 0 o);
      within = omega arith;
      few = omega arith;
    }

module _ {s o p first : List ℕ} {end at number : ℕ} {inside : Bool} (w : Paging s o p end at inside number)
    (f : first ≡ word s 0) (h : at < length s) where
  paging-page :
      pages_from (word s 0) number (pieces 58 (rows_from inside (drop at s)))
      ≡ page_of first number (rows_from inside (drop at s))
      ++ pages_from (word s 0) (suc number) (pieces 58 (drop 58 (rows_from inside (drop at s))))
  paging-page = rw f (page-cons (word s 0) number (rows_from inside (drop at s)) (rows_left inside s at h))

  paging-first : Countable 0 (pages_of s) → Countable end (page_of first number (rows_from inside (drop at s)))
  paging-first c = writing-first _ paging-page c w.writing

  -- the next page can be counted, and so can its number and the place behind it
  module _ (c : Countable 0 (pages_of s)) where
    pub paging-count : Countable 0 (page_of first number (rows_from inside (drop at s)))
    paging-count = count-front (paging-first c)

    pub paging-number : number + 1 < 18446744073709551616
    paging-number = omega (arith, w.few, (paging-first c).few, page-long first number (rows_from inside (drop at s)))

    pub paging-room : {x y : List ℕ} {size : ℕ} → Writes (page_of first number (rows_from inside (drop at s))) 0 x y size
        → end + size < 18446744073709551616
    paging-room v = writing-room _ paging-page c w.writing v

  -- and it is one more
  pub paging-next : {page : List ℕ} {place : Place} (from : ℕ) → from ≡ min end (length p)
      → RowsPut (page_of first number (rows_from inside (drop at s))) s at inside 0 (part_from from p) page place
      → length page ≡ length (part_from from p)
      → Paging s o (part_back from p page) (end + place.end) place.at place.inside (number + 1)
  paging-next from b v k =
      record {
        writing = rw (add-one number, v.left) (writing-line from _ paging-page w.writing b v.wrote k);
        within = v.within;
        few = omega (arith, w.few, v.wrote.counted, page-long first number (rows_from inside (drop at s)));
      }

-- all are
pub paging-end : {s o p : List ℕ} {end at number : ℕ} {inside : Bool} → Paging s o p end at inside number → length s ≤ at
    → Writes (pages_of s) 0 o p end
unfolding pages_from
paging-end {s} {at = at} {number = number} {inside = inside} w h =
    writing-end w.writing (ap (λ (rs : List (List ℕ)). pages_from (word s 0) number (pieces 58 rs)) (rows_none inside s at h))

-- the pages of a listing of a check can be counted, and fit an ample output
module _ (s : List ℕ) (few : length (pages_of s) ≤ max_pages * page_size) where
  pub pages-count : Countable 0 (pages_of s)
  unfolding max_pages page_size
  pages-count = record { few = omega arith }

  pub pages-ample : {room : ℕ} → 41820 ≤ room → length (pages_of s) ≤ room
  unfolding max_pages page_size
  pages-ample h = omega arith
