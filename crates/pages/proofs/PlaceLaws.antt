-- Laws of the rows of a listing from a place on, as the writer's cursor meets them.
--   feed-…                     where a line ends, sought from a place on
--   rows_none, rows_left       no row is left behind the listing's end, and one before it
--   rows_whole                 the rows from the beginning of a line are those of the lines
--   row_cut, row-ended, row_last     the row at a place: cut where the line is longer, up to its line feed, up to the end
-- Assumes nothing.
use Rattle.std.specs.Prelude.{Option, MatchOption}
use Rattle.std.specs.Option.{unwrap_or}
use Rattle.std.specs.List.{AllWithin, HoldsAt}
use Rattle.std.proofs.lemmas.Iterator.{index_from_first}
use mathlib.Core.Path.{◌≡◌, refl, sym, ap, ◌∙◌}
use mathlib.Core.Bool.{Bool, true, false}
use mathlib.Core.List.{List, [], ◌∷◌, ◌++◌, map}
use Prim.Native.Nat.{ℕ, zero, suc, ◌+◌, ◌-◌, ◌≤◌, ◌<◌}
use native.Mathlib.Decide.{ℕ_discrete}
use native.Mathlib.Nat.{not-suc-le-zero, zero-add}
use native.Mathlib.Numerals.{add-one}
use native.Mathlib.Omega.{arith}
use lib.ListN.{length, take, drop, length-take, length-drop, drop_of_length-le}
use lib.Seq.{drop-drop, take-take, take_all, length-take-le}
use Rattle.text.specs.Cursors.{before}
use Rattle.text.specs.Lines.{Line, lines}
use Rattle.text.specs.Lists.{gather}
use Rattle.text.specs.Splits.{line_end}
use Rattle.text.proofs.Laws.{drop-take}
use Rattle.text.proofs.LineLaws.{before-is, before-not, lines_from}
use Rattle.pages.specs.Pages.{pieces, indented, rows_of, rows}
use Rattle.pages.specs.Places.{indent, width, rows_within, rows_from, NextRow}
use Rattle.pages.proofs.PieceLaws.{pieces-cons}

-- what stands before the first x, within a list and behind some of it
before-within : (x : ℕ) (s : List ℕ) → before x s ≤ length s
unfolding before
before-within x [] = omega arith
before-within x (b ∷ s) = elim (ℕ_discrete b x) [
  | yes e ↦ rw (before-is x b s e) (omega arith)
  | no e ↦ rw (before-not x b s e) (omega (arith, before-within x s))
]

before-behind : (k x : ℕ) (s : List ℕ) → k ≤ before x s → k + before x (drop k s) ≡ before x s
unfolding before
before-behind zero x s h = zero-add (before x s)
before-behind (suc k) x [] h = absurd (not-suc-le-zero h)
before-behind (suc k) x (b ∷ s) h = go (before-behind k x s)
  where
    go : (k ≤ before x s → k + before x (drop k s) ≡ before x s) → suc k + before x (drop k s) ≡ before x (b ∷ s)
    go more = elim (ℕ_discrete b x) [
      | yes e ↦ absurd (omega (arith, h, before-is x b s e))
      | no e ↦ omega (arith, before-not x b s e, more (omega (arith, h, before-not x b s e)))
    ]

-- what is left of a listing, as it is lent, and its first line feed
abbrev left : List ℕ → ℕ → List ℕ
left s at = take (length s - at) (drop at s)

pub feed-first : (s : List ℕ) (at : ℕ) (r : Option ℕ)
    → MatchOption r (AllWithin (λ (x : ℕ). x ≡ 10 → ⊥) (left s at) 0 (length (left s at)))
    (λ i. (i < length (left s at)) × HoldsAt (λ (x : ℕ). x ≡ 10) (left s at) i
    × AllWithin (λ (x : ℕ). x ≡ 10 → ⊥) (left s at) 0 i)
    → at + unwrap_or r (length (left s at)) ≡ line_end s at
unfolding before line_end
feed-first s at r h =
    let all : left s at ≡ drop at s = take_all (length s - at) (drop at s) (omega (arith, length-drop at s)) in
    let first : before 10 (left s at) ≡ unwrap_or r (length (left s at)) =
    index_from_first (before 10) (λ (x : ℕ). x ≡ 10) (λ (x : ℕ). x ≡ 10 → ⊥) refl (λ x xs e. before-is 10 x xs e)
    (λ x xs e. before-not 10 x xs e ∙ sym (add-one (before 10 xs))) (left s at) r h in
    ap (λ (n : ℕ). at + n) (sym first ∙ ap (before 10) all)

-- a line ends within the listing, and not before a place of it
feed-within : (s : List ℕ) (at : ℕ) → at ≤ length s → line_end s at ≤ length s
unfolding line_end
feed-within s at h = omega (arith, before-within 10 (drop at s), length-drop at s)

pub feed-behind : (s : List ℕ) (at feed : ℕ) → feed ≡ line_end s at → at ≤ feed
unfolding line_end
feed-behind s at feed e = omega arith

-- the rows of what is left: those of its first line, then those behind its line feed
rows-some : (inside : Bool) (s : List ℕ) → 0 < length s
    → rows_from inside s ≡ rows_within inside (take (before 10 s) s) ++ rows (drop (suc (before 10 s)) s)
unfolding rows_from
rows-some inside [] h = absurd (not-suc-le-zero h)
rows-some inside (b ∷ s) h = refl

-- no row is left behind the listing's end
pub rows_none : (inside : Bool) (s : List ℕ) (at : ℕ) → length s ≤ at → rows_from inside (drop at s) ≡ []
unfolding rows_from
rows_none inside s at h = rw (drop_of_length-le s h)

-- the rows from the beginning of a line are those of the lines
pub rows_whole : (s : List ℕ) → rows_from false s ≡ rows s
unfolding rows_from rows lines rows_of rows_within indent width
rows_whole [] = refl
rows_whole (b ∷ s) = sym (ap (gather (λ (l : Line). rows_of l.bytes)) (lines_from (b ∷ s) (omega arith)))

-- a row has room for bytes
width_some : (inside : Bool) → 0 < width inside
unfolding width
width_some true = omega arith
width_some false = omega arith

-- a line's rows: its bytes up to the first row's width, and the rest of the line
within-cut : (inside : Bool) (line : List ℕ) → width inside < length line
    → rows_within inside line ≡ (indent inside ++ take (width inside) line) ∷ rows_within true (drop (width inside) line)
unfolding rows_within indent width indented
within-cut inside line h =
    let rest : List ℕ = drop (width inside) line in
    let more : pieces 38 rest ≡ take 38 rest ∷ pieces 38 (drop 38 rest) =
    pieces-some rest (omega (arith, length-drop (width inside) line)) in
    ap (λ (ps : List (List ℕ)). (indent inside ++ take (width inside) line) ∷ map indented ps) more
  where
    pieces-some : (l : List ℕ) → 0 < length l → pieces 38 l ≡ take 38 l ∷ pieces 38 (drop 38 l)
    pieces-some [] k = absurd (not-suc-le-zero k)
    pieces-some (b ∷ l) k = pieces-cons 38 b l (omega arith)

within_all : (inside : Bool) (line : List ℕ) → length line ≤ width inside
    → rows_within inside line ≡ (indent inside ++ line) ∷ []
unfolding rows_within
within_all inside line h = rw (take_all (width inside) line h, drop_of_length-le line h)

-- the first row of what is left
module _ (inside : Bool) (s : List ℕ) where
  cut-row : width inside < before 10 s
      → rows_from inside s ≡ (indent inside ++ take (width inside) s) ∷ rows_from true (drop (width inside) s)
  cut-row h =
      let n : ℕ = before 10 s in
      let w : ℕ = width inside in
      let line : List ℕ = take n s in
      let left : w + before 10 (drop w s) ≡ n = before-behind w 10 s (omega arith) in
      let all : length line ≡ n = length-take-le n s (before-within 10 s) in
      let front : take w line ≡ take w s = take-take w n s (omega arith) in
      let rest : n - w ≡ before 10 (drop w s) = omega arith in
      let back : drop w line ≡ take (before 10 (drop w s)) (drop w s) =
      drop-take w n s (omega arith) ∙ ap (λ (k : ℕ). take k (drop w s)) rest in
      let behind : drop (suc n) s ≡ drop (suc (before 10 (drop w s))) (drop w s) =
      sym (drop-drop (suc (before 10 (drop w s))) w s
      ∙ ap (λ (k : ℕ). drop k s) (let z : w + suc (before 10 (drop w s)) ≡ suc n = omega arith in z)) in
      let some : 0 < length (drop w s) = omega (arith, length-drop w s, before-within 10 s) in
      rows-some inside s (omega (arith, before-within 10 s))
      ∙ ap (λ (rs : List (List ℕ)). rs ++ rows (drop (suc n) s)) (within-cut inside line (omega arith))
      ∙ rw (front, back, behind)
      (ap (λ (rs : List (List ℕ)). (indent inside ++ take w s) ∷ rs) (sym (rows-some true (drop w s) some)))

  last_row : before 10 s ≤ width inside → 0 < length s
      → rows_from inside s ≡ (indent inside ++ take (before 10 s) s) ∷ rows_from false (drop (suc (before 10 s)) s)
  last_row h k =
      let line : List ℕ = take (before 10 s) s in
      rows-some inside s k
      ∙ rw (within_all inside line (omega (arith, length-take (before 10 s) s)), rows_whole (drop (suc (before 10 s)) s))

-- there is one where bytes are left
pub rows_left : (inside : Bool) (s : List ℕ) (at : ℕ) → at < length s → 0 < length (rows_from inside (drop at s))
unfolding rows_within
rows_left inside s at h = rw (rows-some inside (drop at s) (omega (arith, length-drop at s))) (omega arith)

-- the row at a place of a listing, whose line ends at `feed`
module _ (s : List ℕ) (at : ℕ) (inside : Bool) {feed most : ℕ} (begun : at ≤ length s) (e : feed ≡ line_end s at)
    (f : most ≡ width inside) where
  -- it is cut where the line is longer
  pub row_cut : most < feed - at → NextRow s at inside (record { end = at + most; next = at + most; inside = true })
  unfolding line_end
  row_cut h =
      let longer : width inside < before 10 (drop at s) = omega arith in
      let all : at + most ≤ length s = omega (arith, feed-within s at begun) in
      let size : at + most - at ≡ width inside = omega arith in
      let back : drop (width inside) (drop at s) ≡ drop (at + most) s =
      drop-drop (width inside) at s ∙ ap (λ (k : ℕ). drop (at + k) s) (sym f) in
      record {
        begun = omega arith;
        ended = omega arith;
        within = all;
        ahead = λ k. omega (arith, width_some inside);
        here = λ k. rw (size, sym back) (cut-row inside (drop at s) longer);
      }

  -- it goes up to its line feed
  pub row-ended : feed - at ≤ most → feed < length s
      → NextRow s at inside (record { end = feed; next = feed + 1; inside = false })
  unfolding line_end
  row-ended h k =
      let n : ℕ = before 10 (drop at s) in
      let size : feed - at ≡ n = omega arith in
      let back : drop (suc n) (drop at s) ≡ drop (feed + 1) s =
      drop-drop (suc n) at s ∙ ap (λ (k : ℕ). drop k s) (let z : at + suc n ≡ feed + 1 = omega arith in z) in
      record {
        begun = omega arith;
        ended = omega arith;
        within = omega arith;
        ahead = λ l. omega arith;
        here = λ l. rw (size, sym back) (last_row inside (drop at s) (omega arith) (omega (arith, length-drop at s)));
      }

  -- or up to the listing's end
  pub row_last : feed - at ≤ most → length s ≤ feed
      → NextRow s at inside (record { end = feed; next = feed; inside = false })
  unfolding line_end
  row_last h k =
      let n : ℕ = before 10 (drop at s) in
      let size : feed - at ≡ n = omega arith in
      let back : rows_from false (drop (suc n) (drop at s)) ≡ rows_from false (drop feed s) =
      ap (rows_from false) (drop-drop (suc n) at s) ∙ rows_none false s (at + suc n) (omega arith)
      ∙ sym (rows_none false s feed k) in
      record {
        begun = omega arith;
        ended = omega arith;
        within = omega (arith, feed-within s at begun);
        ahead = λ l. omega arith;
        here = λ l. rw (size, sym back) (last_row inside (drop at s) (omega arith) (omega (arith, length-drop at s)));
      }
