-- How many bytes a listing has at most.
--   digits-few, decimal-short, number_short, machine-digits     the digits of a number
--   line-few, rows_few, bounds-few     lines of fields that have at most 8 bytes each
--   place-all        the name of a variable of an end
--   cells-few          the lines of constraints in cells
--   end-few, end-writable     the listing of an end, which can be counted where it fails or has at most 65,000 cells
--   end-ample          and which fits an ample output
-- Assumes nothing.
use Rattle.std.specs.Prelude.{is_some, unwrap_or}
use mathlib.Core.Path.{◌≡◌, refl, sym}
use mathlib.Core.Bool.{Bool, true, false, cond}
use mathlib.Core.List.{List, [], ◌∷◌, ◌++◌, map}
use mathlib.Core.Logic.{⊎_elim}
use Prim.Native.Nat.{ℕ, zero, suc, ◌+◌, ◌-◌, ◌*◌, ◌/◌, ◌%◌, ◌≤◌, ◌<◌}
use native.Mathlib.Omega.{arith}
use lib.Dec.{ltb, eqb}
use lib.ListN.{length, get_or, length-append, length-map}
use borrow.Author.Tests.{ltb-true, ltb-false}
use Rattle.text.specs.Bytes.{ascii}
use Rattle.text.specs.Fields.{decimal}
use Rattle.semantics.specs.Terms.{Term, Constraint}
use Rattle.semantics.proofs.Configurations.{All, also}
use Rattle.semantics.proofs.Configurations as C
use Rattle.semantics.proofs.Multisets.{all_map, all-mono}
use Rattle.tables.specs.Cells.{cell_term, cell_terms, cell_constraints}
use Rattle.tables.proofs.CellLaws.{cell-low, cell-high, le-or-lt}
use Rattle.listing.specs.Listing.{Naming, fields_behind, line_of, term_shown, constraint_shown, constraint_lines}
use Rattle.listing.specs.Listing.{numbered_as, variable_name, place_name, bound_lines}
use Rattle.listing.specs.Writing.{ample}
use Rattle.listing.specs.Ends.{placed, live_bytes, numbered_end, Writable, max_cells, max_bound, Ample}
use Rattle.listing.specs.declared.End.{End}
use Rattle.text.proofs.Decimals.{decimal-low, decimal-high}
use Rattle.listing.proofs.EndLaws.{numbered-live, numbered-failed}

-- at most 8 bytes
abbrev pub Short : List ℕ → Type 0
Short f = length f ≤ 8

-- ten to some power
unfoldable pub tens : ℕ → ℕ
tens zero = 1
tens (suc k) = 10 * tens k

-- a number below ten to the power k + 1 has at most k + 1 digits
pub digits-few : (k n : ℕ) → n < tens (suc k) → length (decimal n) ≤ suc k
unfolding tens
digits-few zero n h = rw (decimal-low n h) (omega arith)
digits-few (suc k) n h = go (ltb n 10) refl (digits-few k (n / 10))
  where
    go : (t : Bool) → ltb n 10 ≡ t → (n / 10 < 10 * tens k → length (decimal (n / 10)) ≤ suc k)
        → length (decimal n) ≤ suc (suc k)
    go true e again = rw (decimal-low n (ltb-true n 10 e)) (omega arith)
    go false e again =
        rw (decimal-high n (ltb-false n 10 e))
        (omega (arith, length-append (decimal (n / 10)) ((48 + n % 10) ∷ []), again (omega arith)))

pub decimal-short : (n : ℕ) → n < 100000000 → Short (decimal n)
unfolding tens
decimal-short n h = digits-few 7 n h

-- one of the machine's numbers has at most 20
pub machine-digits : (n : ℕ) → n < 18446744073709551616 → length (decimal n) ≤ 20
unfolding tens
machine-digits n h = digits-few 19 n (omega arith)

-- a variable by a letter and its number
pub number_short : (letter x : ℕ) → x < 9999999 → Short (numbered_as (letter ∷ []) x)
unfolding numbered_as tens
number_short letter x h = omega (arith, digits-few 6 (suc x) (omega arith))

-- a line of short fields behind its first
behind-few : (fs : List (List ℕ)) → All Short fs → length (fields_behind fs) ≤ 9 * length fs + 1
unfolding fields_behind
behind-few [] C.none = omega arith
behind-few (f ∷ fs) (also h all) = omega (arith, length-append f (fields_behind fs), behind-few fs all)

pub line-few : (first : List ℕ) (fs : List (List ℕ)) → All Short fs
    → length (line_of first fs) ≤ length first + (9 * length fs + 1)
unfolding line_of
line-few first fs all = omega (arith, length-append first (fields_behind fs), behind-few fs all)

-- lines, where all names are short
module _ (naming : Naming) (shown : ℕ → List ℕ) (names : (n : ℕ) → Short (naming n)) where
  -- a term that is shown short, and a constraint of at most 4 of them
  abbrev pub ShortTerm : Term → Type 0
  ShortTerm t = Short (term_shown naming shown t)

  abbrev pub ShortRow : Constraint → Type 0
  ShortRow c = (length c.terms ≤ 4) × All ShortTerm c.terms

  row-few : (first : List ℕ) (c : Constraint) → length first ≤ 1 → ShortRow c
      → length (line_of first (constraint_shown naming shown c)) ≤ 47
  unfolding constraint_shown
  row-few first c one (few, short) =
      let terms = map (term_shown naming shown) c.terms in
      omega (
        arith,
        length-map c.terms (term_shown naming shown),
        line-few first (naming c.symbol ∷ terms) (also (names c.symbol) (all_map _ short)),
      )

  pub rows_few : (first : List ℕ) (cs : List Constraint) → length first ≤ 1 → All ShortRow cs
      → length (constraint_lines first naming shown cs) ≤ 47 * length cs
  unfolding constraint_lines
  rows_few first [] one short = omega arith
  rows_few first (c ∷ cs) one (also h short) =
      omega (
        arith,
        length-append (line_of first (constraint_shown naming shown c)) (constraint_lines first naming shown cs),
        row-few first c one h,
        rows_few first cs one short,
      )

  pub bounds-few : (variable : ℕ → List ℕ) (x : ℕ) (ts : List Term) → ((y : ℕ) → y < x + length ts → Short (variable y))
      → All ShortTerm ts → length (bound_lines naming shown variable x ts) ≤ 20 * length ts
  unfolding bound_lines ascii
  bounds-few variable x [] short all = omega arith
  bounds-few variable x (t ∷ ts) short (also h all) =
      let fields = variable x ∷ term_shown naming shown t ∷ [] in
      omega (
        arith,
        length-append (line_of (ascii "A") fields) (bound_lines naming shown variable (suc x) ts),
        line-few (ascii "A") fields (also (short x (omega arith)) (also h C.none)),
        bounds-few variable (suc x) ts (λ y k. short y (omega arith)) all,
      )

-- cells that the machine holds in 16 bits
abbrev pub Cells : List ℕ → Type 0
Cells cells = (i : ℕ) → i < length cells → get_or cells i 0 < 65536

cells-all : (l : List ℕ) → Cells l → All (λ (x : ℕ). x < 65536) l
cells-all [] h = C.none
cells-all (x ∷ l) h = also (h 0 (omega arith)) (cells-all l (λ i k. h (suc i) (omega arith)))

-- the name of a goal variable
variable-short : (letters : List ℕ) (x : ℕ) → x < 65536 → Short (variable_name letters x)
unfolding variable_name ascii
variable-short letters x h = go (ltb x (length letters))
  where
    go : (t : Bool) → Short (cond t (get_or letters x 0 ∷ []) (numbered_as (86 ∷ []) x))
    go true = omega arith
    go false = number_short 86 x (omega arith)

-- what holds of the name of a variable of an end: of a goal variable's own, and of every U number
pub place-all :
    (P : List ℕ → Type 0) (variable : ℕ → List ℕ) (n x : ℕ) → (x < n → P (variable x))
    → ((i : ℕ) → i ≤ x → P (numbered_as (85 ∷ []) i)) → P (place_name variable n x)
unfolding place_name ascii
place-all P variable n x own other = go (ltb x n) refl
  where
    go : (t : Bool) → ltb x n ≡ t → P (cond t (variable x) (numbered_as (85 ∷ []) (x - n)))
    go true e = own (ltb-true x n e)
    go false e = other (x - n) (omega arith)

placed-short : (letters : List ℕ) (n x : ℕ) → x < 65536 → Short (placed letters n x)
unfolding placed
placed-short letters n x h =
    place-all Short (variable_name letters) n x (λ l. variable-short letters x h) (λ i k. number_short 85 i (omega arith))

module _ (naming : Naming) (names : (n : ℕ) → Short (naming n)) (letters : List ℕ) (n : ℕ) where
  abbrev shown : ℕ → List ℕ
  shown = placed letters n

  term-short : (x : ℕ) → x < 65536 → Short (term_shown naming shown (cell_term x))
  unfolding term_shown
  term-short x h =
      ⊎_elim (λ high. rw (cell-high x high) (placed-short letters n (x - 256) (omega arith)))
      (λ low. rw (cell-low x low) (names x)) (le-or-lt 256 x)

  terms-short : (l : List ℕ) → All (λ (x : ℕ). x < 65536) l
      → (length (cell_terms l) ≤ length l) × All (ShortTerm naming shown names) (cell_terms l)
  unfolding cell_terms
  terms-short [] C.none = (omega arith, C.none)
  terms-short (x ∷ l) (also h all) = go (eqb x 0) (terms-short l all)
    where
      go : (b : Bool) → (length (cell_terms l) ≤ length l) × All (ShortTerm naming shown names) (cell_terms l)
          → (length (cond b [] (cell_term x ∷ cell_terms l)) ≤ suc (length l))
          × All (ShortTerm naming shown names) (cond b [] (cell_term x ∷ cell_terms l))
      go true more = (omega arith, C.none)
      go false (few, more) = (omega (arith, few), also (term-short x h) more)

  rows_short : (l : List ℕ) → All (λ (x : ℕ). x < 65536) l
      → (5 * length (cell_constraints l) ≤ length l) × All (ShortRow naming shown names) (cell_constraints l)
  unfolding cell_constraints
  rows_short [] h = (omega arith, C.none)
  rows_short (k ∷ []) h = (omega arith, C.none)
  rows_short (k ∷ a ∷ []) h = (omega arith, C.none)
  rows_short (k ∷ a ∷ b ∷ []) h = (omega arith, C.none)
  rows_short (k ∷ a ∷ b ∷ c ∷ []) h = (omega arith, C.none)
  rows_short (k ∷ a ∷ b ∷ c ∷ d ∷ l) (also _ (also ha (also hb (also hc (also hd h))))) =
      let terms = terms-short (a ∷ b ∷ c ∷ d ∷ []) (also ha (also hb (also hc (also hd C.none)))) in
      let (few, more) = rows_short l h in
      (omega (arith, few), also terms more)

  -- the lines of constraints in cells
  pub cells-few : (line : ℕ) (cells : List ℕ) → Cells cells
      → length (constraint_lines (line ∷ []) naming shown (cell_constraints cells)) ≤ 10 * length cells
  cells-few line cells h =
      let (few, short) = rows_short cells (cells-all cells h) in
      omega (arith, few, rows_few naming shown names (line ∷ []) (cell_constraints cells) (omega arith) short)

-- the listing of an end
module _ (naming : Naming) (names : (n : ℕ) → Short (naming n)) (letters bound cells : List ℕ) (b : Cells bound)
    (c : Cells cells) where
  live-few : (f : ℕ) → length bound < 65536 → f < 18446744073709551616
      → length (live_bytes naming letters bound cells f) ≤ 25 + (20 * length bound + 10 * length cells)
  unfolding live_bytes line_of fields_behind ascii
  live-few f h k =
      let shown = placed letters (length bound) in
      let bounds = bound_lines naming shown (variable_name letters) 0 (map cell_term bound) in
      let rows = constraint_lines (83 ∷ []) naming shown (cell_constraints cells) in
      let terms = all_map cell_term (all-mono (λ x l. term-short naming names letters (length bound) x l) (cells-all bound b)) in
      omega (
        arith,
        length-append (decimal f ++ (10 ∷ [])) (bounds ++ rows),
        length-append (decimal f) (10 ∷ []),
        length-append bounds rows,
        length-map bound cell_term,
        machine-digits f k,
        bounds-few naming shown names (variable_name letters) 0 (map cell_term bound)
            (λ y l. variable-short letters y (omega (arith, length-map bound cell_term))) terms,
        cells-few naming names letters (length bound) 83 cells c,
      )

  pub end-few : (e : End) (m n : ℕ) → m < 65536 → (is_some e.next ≡ true → (length bound ≤ m) × (length cells ≤ n))
      → e.firings < 18446744073709551616 → length (numbered_end naming letters bound cells e) ≤ 28 + (20 * m + 10 * n)
  end-few e m n low h k = go (is_some e.next) refl
    where
      go : (t : Bool) → is_some e.next ≡ t → length (numbered_end naming letters bound cells e) ≤ 28 + (20 * m + 10 * n)
      go true l =
          rw (sym (numbered-live naming letters bound cells e l))
          (omega (arith, (h l).0, (h l).1, live-few e.firings (omega (arith, (h l).0)) k))
      go false l =
          rw (sym (numbered-failed naming letters bound cells e l))
          (omega (arith, machine-digits e.firings k, length-append (decimal e.firings) (10 ∷ [])))

  -- so that it can be counted
  pub end-writable : (e : End) → (is_some e.next ≡ true → length bound + length cells ≤ 65000) → e.firings < 18446744073709551616
      → Writable naming letters bound cells e
  end-writable e h k =
      let few = end-few e 65000 65000 (omega arith) (λ l. (omega (arith, h l), omega (arith, h l))) k in
      record { counted = record { few = omega (arith, few) }; few = λ l. omega (arith, h l) }

  -- and fits an ample output
  pub end-ample : (e : End) {room : ℕ} → Ample room (length bound) (length cells) → e.firings < 18446744073709551616
      → length (numbered_end naming letters bound cells e) ≤ room
  unfolding ample max_bound max_cells
  end-ample e a k =
      let few = end-few e 28 2590 (omega arith) (λ l. (a.few-bound, a.few-cells)) k in
      omega (arith, a.wide, few)
