-- The lines of text that is made of lines, each with its line feed.
--   feedless, whole          bytes without a line feed, and the line that they are with one behind them
--   lines-ended              the lines of such a text
--   plain-marks, plain-feedless     the bytes of a plain line
--   rows_are, rows-lined     the rows of a listing made of plain lines, and how many they are
-- Assumes nothing.
use Prim.Native.Nat.{ℕ, ◌≤◌}
use mathlib.Core.Bool.{Bool, true, not}
use mathlib.Core.List.{List, [], ◌∷◌, ◌++◌, map, append_assoc}
use mathlib.Core.Path.{◌≡◌, refl, sym, ap, ◌∙◌}
use borrow.Author.Tests.{not-true}
use lib.Dec.{eqb}
use lib.ListN.{length}
use Rattle.text.specs.Lists.{every, gather}
use Rattle.text.specs.Lines.{Line, in_first_line, lines}
use Rattle.text.proofs.Bools.{and-true}
use Rattle.text.proofs.ListLaws.{every-weaker, gather-map}
use Rattle.pages.specs.Pages.{rows_of, rows}
use Rattle.pages.proofs.Lined.{is_mark, is_plain_line, ended, Lined}

-- whether a byte is no line feed, and whether bytes hold none
abbrev pub no_feed : ℕ → Bool
no_feed b = not (eqb b 10)

abbrev pub feedless : List ℕ → Bool
feedless bytes = every no_feed bytes

-- a line that had its line feed
abbrev pub whole : List ℕ → Line
whole bytes = record { bytes = bytes; ended = true }

first-line : (l s : List ℕ) → feedless l ≡ true → lines (l ++ (10 ∷ s)) ≡ whole l ∷ lines s
unfolding lines in_first_line
first-line [] s h = refl
first-line (b ∷ l) s h =
    let (first, rest) = and-true (no_feed b) (feedless l) h in
    rw (not-true (eqb b 10) first, first-line l s rest)

-- the lines of lines that hold no line feed, each with one behind it
pub lines-ended : (ls : List (List ℕ)) → every feedless ls ≡ true → lines (gather ended ls) ≡ map whole ls
unfolding lines ended
lines-ended [] h = refl
lines-ended (l ∷ ls) h =
    let (first, rest) = and-true (feedless l) (every feedless ls) h in
    ap lines (append_assoc l (10 ∷ []) (gather ended ls))
    ∙ first-line l (gather ended ls) first
    ∙ ap (λ (m : List Line). whole l ∷ m) (lines-ended ls rest)

-- the bytes of a plain line; it holds no line feed
pub plain-marks : (line : List ℕ) → is_plain_line line ≡ true → every is_mark line ≡ true
unfolding is_plain_line
plain-marks line h = (and-true (not (eqb (length line) 0)) (every is_mark line) h).1

pub plain-feedless : (line : List ℕ) → is_plain_line line ≡ true → feedless line ≡ true
unfolding is_mark
plain-feedless line h =
    every-weaker is_mark no_feed line (λ b. λ e. (and-true (not (eqb b 32)) (no_feed b) e).1) (plain-marks line h)

-- the rows of a listing made of plain lines are those of these lines
pub rows_are : {listing : List ℕ} {k : ℕ} (l : Lined listing k) → rows listing ≡ gather rows_of l.parts
unfolding rows
rows_are l =
    let feeds : every feedless l.parts ≡ true = every-weaker is_plain_line feedless l.parts plain-feedless l.plain in
    ap (λ (bytes : List ℕ). gather (λ (line : Line). rows_of line.bytes) (lines bytes)) (sym l.cut)
    ∙ ap (λ (ls : List Line). gather (λ (line : Line). rows_of line.bytes) ls) (lines-ended l.parts feeds)
    ∙ gather-map (λ (line : Line). rows_of line.bytes) whole l.parts

-- and so they are at most as many as was counted
pub rows-lined : {listing : List ℕ} {k : ℕ} → Lined listing k → length (rows listing) ≤ k
rows-lined l = rw (rows_are l) l.few
