-- Laws of the pieces that the writers put one behind the other: what each leaves to count, and what it adds.
--   copy-…         a part of a text, byte by byte
--   digit-…        decimal digits
--   head-…         a word, a number and the line feed
--   lettered-…, unlettered-…     a goal variable's name
--   own-…, other-…     a variable by its place in the order of an end
--   name-…, place-…    a cell
--   fields-…       fields behind commas, and the line feed
--   row-…, rows-…  a constraint's line, and a line for each constraint
--   bound-…, bounds-…      an A line, and a line for each goal variable
-- Assumes nothing.
use mathlib.Core.Path.{◌≡◌, refl, sym, ap, ◌∙◌}
use mathlib.Core.List.{List, [], ◌∷◌, ◌++◌, append_assoc, map}
use Prim.Native.Nat.{ℕ, suc, ◌+◌, ◌-◌, ◌/◌, ◌%◌, ◌≤◌, ◌<◌}
use native.Mathlib.Omega.{arith}
use native.Mathlib.Numerals.{add-one}
use borrow.Author.Tests.{lt-ltb, le-ltb}
use lib.ListN.{length, take, drop, get_or, length-drop, drop_of_length-le}
use lib.Seq.{drop-cons, take_all}
use Rattle.text.specs.Bytes.{ascii}
use Rattle.text.specs.Fields.{decimal}
use Rattle.tables.specs.Cells.{cell_term, cell_terms, cell_constraints, row_constraint}
use Rattle.tables.specs.Numbers.{used_cells}
use Rattle.tables.proofs.CellLaws.{cell-low, cell-high, constraints-short}
use Rattle.tables.proofs.NumberLaws.{used-terms}
use Rattle.listing.specs.Listing.{Naming, fields_behind, line_of, term_shown, constraint_shown, constraint_lines}
use Rattle.listing.specs.Listing.{numbered_as, variable_name, place_name, bound_lines}
use Rattle.listing.specs.Writing.{Countable, Writes}
use Rattle.listing.specs.Ends.{placed, cell_shown, bound_line}
use Rattle.text.proofs.Decimals.{decimal-low, decimal-high}
use Rattle.listing.proofs.WriteLaws.{wrote_then, wrote-is, count-is, count-first, count_next}
use Rattle.listing.proofs.WriteLaws.{Writing, writing-count, writing-next, writing-end}
use Rattle.listing.proofs.WriteLaws.{writing-last}

-- a part of a text, one byte on
module _ {part o p : List ℕ} {at end : ℕ} (i : ℕ) (w : Writing part at o p end (drop i part)) where
  pub copy-count : i < length part → Countable at part → Countable end (get_or part i 0 ∷ [])
  copy-count h c = count-first (drop (suc i) part) (count-is (drop-cons part i 0 h) (writing-count c w))

  pub copy-next : {q : List ℕ} {more : ℕ} → i < length part → Writes (get_or part i 0 ∷ []) end p q more → length q ≡ length p
      → Writing part at o q more (drop (i + 1) part)
  copy-next h v k = rw (add-one i) (writing-next (drop (suc i) part) (drop-cons part i 0 h) w v k)

  pub copy-end : length part ≤ i → Writes part at o p end
  copy-end h = writing-end w (drop_of_length-le part h)

-- a number below ten is one digit, any other the digits of its tenth and one more
module _ (n : ℕ) {at : ℕ} (c : Countable at (decimal n)) where
  pub digit-count : n < 10 → Countable at ((48 + n) ∷ [])
  digit-count h = count-is (decimal-low n h) c

  pub tenth-count : 10 ≤ n → Countable at (decimal (n / 10))
  tenth-count h = count-first ((48 + n % 10) ∷ []) (count-is (decimal-high n h) c)

  pub last-count : {o p : List ℕ} {m : ℕ} → 10 ≤ n → Writes (decimal (n / 10)) at o p m → Countable m ((48 + n % 10) ∷ [])
  last-count h w = count_next (count-is (decimal-high n h) c) w

pub digit-wrote : (n : ℕ) {at end : ℕ} {o p : List ℕ} → n < 10 → Writes ((48 + n) ∷ []) at o p end → Writes (decimal n) at o p end
digit-wrote n h w = wrote-is (sym (decimal-low n h)) w

pub digits-wrote : (n : ℕ) {at m end : ℕ} {o p q : List ℕ} → 10 ≤ n → Writes (decimal (n / 10)) at o p m
    → Writes ((48 + n % 10) ∷ []) m p q end → length p ≡ length o → Writes (decimal n) at o q end
digits-wrote n h w v k = wrote-is (sym (decimal-high n h)) (wrote_then w v k)

-- a goal variable's name: with its letter, and without
module _ (letters : List ℕ) (x : ℕ) where
  lettered : x < length letters → variable_name letters x ≡ get_or letters x 0 ∷ []
  unfolding variable_name
  lettered h = rw (lt-ltb x (length letters) h)

  unlettered : length letters ≤ x → variable_name letters x ≡ (86 ∷ []) ++ decimal (suc x)
  unfolding variable_name numbered_as ascii
  unlettered h = rw (le-ltb x (length letters) h)

  pub lettered-count : {at b : ℕ} → x < length letters → Countable at (variable_name letters x) → Countable at (b ∷ [])
  lettered-count h c = record { few = omega (arith, (count-is (lettered h) c).few) }

  pub lettered-wrote : {at end : ℕ} {o p : List ℕ} → x < length letters → Writes (get_or letters x 0 ∷ []) at o p end
      → Writes (variable_name letters x) at o p end
  lettered-wrote h w = wrote-is (sym (lettered h)) w

  pub unlettered-count : {at : ℕ} → length letters ≤ x → Countable at (variable_name letters x) → Countable at (86 ∷ [])
  unlettered-count h c = count-first (decimal (suc x)) (count-is (unlettered h) c)

  pub unlettered-next : {at m : ℕ} {o p : List ℕ} → length letters ≤ x → Countable at (variable_name letters x)
      → Writes (86 ∷ []) at o p m → Countable m (decimal (x + 1))
  unlettered-next h c w = rw (add-one x) (count_next (count-is (unlettered h) c) w)

  pub unlettered-wrote : {at m end : ℕ} {o p q : List ℕ} → length letters ≤ x → Writes (86 ∷ []) at o p m
      → Writes (decimal (x + 1)) m p q end → length p ≡ length o → Writes (variable_name letters x) at o q end
  unlettered-wrote h w v k = wrote-is (sym (unlettered h)) (wrote_then w (rw (add-one x) at v) k)

-- a variable by its place: one of the goal's, and any other
module _ (letters : List ℕ) (n x : ℕ) where
  own_is : x < n → placed letters n x ≡ variable_name letters x
  unfolding placed place_name
  own_is h = rw (lt-ltb x n h)

  other-is : n ≤ x → placed letters n x ≡ (85 ∷ []) ++ decimal (suc (x - n))
  unfolding placed place_name numbered_as ascii
  other-is h = rw (le-ltb x n h)

  pub own-count : {at : ℕ} → x < n → Countable at (placed letters n x) → Countable at (variable_name letters x)
  own-count h c = count-is (own_is h) c

  pub own-wrote : {at end : ℕ} {o p : List ℕ} → x < n → Writes (variable_name letters x) at o p end
      → Writes (placed letters n x) at o p end
  own-wrote h w = wrote-is (sym (own_is h)) w

  pub other-count : {at : ℕ} → n ≤ x → Countable at (placed letters n x) → Countable at (85 ∷ [])
  other-count h c = count-first (decimal (suc (x - n))) (count-is (other-is h) c)

  pub other-next : {at m : ℕ} {o p : List ℕ} → n ≤ x → Countable at (placed letters n x) → Writes (85 ∷ []) at o p m
      → Countable m (decimal (x - n + 1))
  other-next h c w = rw (add-one (x - n)) (count_next (count-is (other-is h) c) w)

  pub other-wrote : {at m end : ℕ} (k : ℕ) {o p q : List ℕ} → n ≤ x → Writes (85 ∷ []) at o p m → Writes (decimal k) m p q end
      → k ≡ x - n + 1 → length p ≡ length o → Writes (placed letters n x) at o q end
  other-wrote k h w v e l = wrote-is (sym (other-is h)) (wrote_then w (rw (e, add-one (x - n)) at v) l)

-- a cell that is a constant, and one that is a variable
module _ (naming : Naming) (letters : List ℕ) (n x : ℕ) where
  cell-name : x < 256 → cell_shown naming letters n x ≡ naming x
  unfolding cell_shown term_shown
  cell-name h = rw (cell-low x h)

  cell-place : 256 ≤ x → cell_shown naming letters n x ≡ placed letters n (x - 256)
  unfolding cell_shown term_shown
  cell-place h = rw (cell-high x h)

  pub name-count : {at : ℕ} {s : List ℕ} (k : ℕ) → x < 256 → k ≡ x → s ≡ naming k
      → Countable at (cell_shown naming letters n x) → Countable at s
  name-count k h e f c = count-is (cell-name h ∙ sym (f ∙ ap naming e)) c

  pub name-wrote : {at end : ℕ} {s o p : List ℕ} (k : ℕ) → x < 256 → k ≡ x → s ≡ naming k → Writes s at o p end
      → Writes (cell_shown naming letters n x) at o p end
  name-wrote k h e f w = wrote-is (f ∙ ap naming e ∙ sym (cell-name h)) w

  pub place-count : {at : ℕ} (y : ℕ) → 256 ≤ x → y ≡ x - 256 → Countable at (cell_shown naming letters n x)
      → Countable at (placed letters n y)
  place-count y h e c = count-is (cell-place h ∙ sym (ap (placed letters n) e)) c

  pub place-wrote : {at end : ℕ} {o p : List ℕ} (y : ℕ) → 256 ≤ x → y ≡ x - 256 → Writes (placed letters n y) at o p end
      → Writes (cell_shown naming letters n x) at o p end
  place-wrote y h e w = wrote-is (ap (placed letters n) e ∙ sym (cell-place h)) w

-- fields, one cell on
abbrev pub fields_from : (ℕ → List ℕ) → List ℕ → ℕ → List ℕ
fields_from field cells i = fields_behind (map field (drop i cells))

module _ (field : ℕ → List ℕ) (cells : List ℕ) {o p : List ℕ} {at end : ℕ} (i : ℕ)
    (w : Writing (fields_behind (map field cells)) at o p end (fields_from field cells i)) where
  here : i < length cells → fields_from field cells i ≡ (44 ∷ []) ++ (field (get_or cells i 0) ++ fields_from field cells (suc i))
  unfolding fields_behind
  here h = rw (drop-cons cells i 0 h)

  last : length cells ≤ i → fields_from field cells i ≡ 10 ∷ []
  unfolding fields_behind
  last h = rw (drop_of_length-le cells h)

  pub comma-count : i < length cells → Countable at (fields_behind (map field cells)) → Countable end (44 ∷ [])
  comma-count h c =
      count-first (field (get_or cells i 0) ++ fields_from field cells (suc i)) (count-is (here h) (writing-count c w))

  pub field-count : {q : List ℕ} {m : ℕ} → i < length cells → Countable at (fields_behind (map field cells))
      → Writes (44 ∷ []) end p q m → Countable m (field (get_or cells i 0))
  field-count h c v =
      count-first (fields_from field cells (suc i)) (count_next (count-is (here h) (writing-count c w)) v)

  pub fields-next : {q r : List ℕ} {m n : ℕ} → i < length cells → Writes (44 ∷ []) end p q m
      → Writes (field (get_or cells i 0)) m q r n → length q ≡ length p → length r ≡ length q
      → Writing (fields_behind (map field cells)) at o r n (fields_from field cells (i + 1))
  fields-next h v u k l =
      rw (add-one i)
      (writing-next (fields_from field cells (suc i))
      (here h ∙ sym (append_assoc (44 ∷ []) (field (get_or cells i 0)) (fields_from field cells (suc i)))) w (wrote_then v u k)
      (l ∙ k))

  pub feed-count : {b : ℕ} → length cells ≤ i → Countable at (fields_behind (map field cells)) → Countable end (b ∷ [])
  feed-count h c = record { few = omega (arith, (count-is (last h) (writing-count c w)).few) }

  pub fields-wrote : {q : List ℕ} {n : ℕ} → length cells ≤ i → Writes (10 ∷ []) end p q n
      → Writes (fields_behind (map field cells)) at o q n
  fields-wrote h v = writing-last w (wrote-is (sym (last h)) v)

-- a constraint's line: its letter, a comma, its symbol's name and its terms
module _ (naming : Naming) (letters : List ℕ) (line variables : ℕ) (row : List ℕ) where
  abbrev row_line : List ℕ
  row_line = line_of (line ∷ []) (constraint_shown naming (placed letters variables) (row_constraint row))

  -- the terms as they are lent, n of them being used
  abbrev lent : ℕ → List ℕ
  lent n = take ((1 + n) - 1) (drop 1 row)

  terms-lent : (n : ℕ) → n ≡ used_cells (take (length row - 1) (drop 1 row))
      → map (term_shown naming (placed letters variables)) (cell_terms (drop 1 row))
      ≡ map (cell_shown naming letters variables) (lent n)
  unfolding cell_shown
  terms-lent n e =
      let all : take (length row - 1) (drop 1 row) ≡ drop 1 row =
      take_all (length row - 1) (drop 1 row) (omega (arith, length-drop 1 row)) in
      let same : n ≡ used_cells (drop 1 row) = rw all at e in
      let few : (1 + n) - 1 ≡ n = omega arith in
      rw (few, same) (ap (map (term_shown naming (placed letters variables))) (used-terms (drop 1 row)) ∙ shown (take
      (used_cells (drop 1 row)) (drop 1 row)))
    where
      shown : (l : List ℕ)
          → map (term_shown naming (placed letters variables)) (map cell_term l) ≡ map (cell_shown naming letters variables) l
      shown [] = refl
      shown (x ∷ l) = ap (λ (r : List (List ℕ)). cell_shown naming letters variables x ∷ r) (shown l)

  row-pieces : (n : ℕ) → n ≡ used_cells (take (length row - 1) (drop 1 row))
      → row_line
      ≡ (line ∷ []) ++ ((44 ∷ []) ++ (naming (get_or row 0 0) ++ fields_behind (map (cell_shown naming letters variables) (lent n))))
  unfolding line_of constraint_shown fields_behind row_constraint
  row-pieces n e = rw (terms-lent n e)

  -- its first three pieces, counted and written, whatever its terms
  pub line-count : {at : ℕ} → Countable at row_line → Countable at (line ∷ [])
  line-count c = count-first _ (count-is (row-pieces _ refl) c)

  pub line-comma : {at m : ℕ} {o p : List ℕ} → Countable at row_line → Writes (line ∷ []) at o p m → Countable m (44 ∷ [])
  line-comma c w = count-first _ (count_next (count-is (row-pieces _ refl) c) w)

  pub line-name : {at m n : ℕ} {o p q s : List ℕ} (k : ℕ) → Countable at row_line → k ≡ get_or row 0 0 → s ≡ naming k
      → Writes (line ∷ []) at o p m → Writes (44 ∷ []) m p q n → Countable n s
  line-name k c e f w v = count-is (sym (f ∙ ap naming e)) (count-first _ (count_next (count_next (count-is
      (row-pieces _ refl) c) w) v))

  pub line-fields : {at m n l : ℕ} {o p q r s : List ℕ} (k u : ℕ) → Countable at row_line → k ≡ get_or row 0 0 → s ≡ naming k
      → Writes (line ∷ []) at o p m → Writes (44 ∷ []) m p q n → Writes s n q r l
      → u ≡ used_cells (take (length row - 1) (drop 1 row))
      → Countable l (fields_behind (map (cell_shown naming letters variables) (lent u)))
  line-fields k u c e f w v x g =
      count_next (count_next (count_next (count-is (row-pieces u g) c) w) v) (wrote-is (f ∙ ap naming e) x)

  pub line_wrote : {at m n l end : ℕ} {o p q r s t : List ℕ} (k u : ℕ) → k ≡ get_or row 0 0 → s ≡ naming k
      → Writes (line ∷ []) at o p m → Writes (44 ∷ []) m p q n → Writes s n q r l
      → u ≡ used_cells (take (length row - 1) (drop 1 row))
      → Writes (fields_behind (map (cell_shown naming letters variables) (lent u))) l r t end
      → length p ≡ length o → length q ≡ length p → length r ≡ length q → Writes row_line at o t end
  line_wrote k u e f w v x g y h i j =
      wrote-is (sym (row-pieces u g)) (wrote_then w (wrote_then v (wrote_then (wrote-is (f ∙ ap naming e) x) y j) i) h)

-- the constraints of a row of five cells and those behind it
constraints-row : (row behind : List ℕ) → length row ≡ 5
    → cell_constraints (row ++ behind) ≡ row_constraint row ∷ cell_constraints behind
unfolding cell_constraints row_constraint
constraints-row (k ∷ a ∷ b ∷ c ∷ d ∷ []) behind h = refl
constraints-row [] behind h = absurd (omega arith)
constraints-row (k ∷ []) behind h = absurd (omega arith)
constraints-row (k ∷ a ∷ []) behind h = absurd (omega arith)
constraints-row (k ∷ a ∷ b ∷ []) behind h = absurd (omega arith)
constraints-row (k ∷ a ∷ b ∷ c ∷ []) behind h = absurd (omega arith)
constraints-row (k ∷ a ∷ b ∷ c ∷ d ∷ e ∷ row) behind h = absurd (omega arith)

-- a line for each constraint in cells: that of a row of five, and those behind it
abbrev pub rows_of : Naming → List ℕ → ℕ → ℕ → List ℕ → List ℕ
rows_of naming letters line variables cells =
    constraint_lines (line ∷ []) naming (placed letters variables) (cell_constraints cells)

module _ (naming : Naming) (letters : List ℕ) (line variables : ℕ) where
  pub rows-here : (cells row behind : List ℕ) → cells ≡ row ++ behind → length row ≡ 5
      → rows_of naming letters line variables cells
      ≡ line_of (line ∷ []) (constraint_shown naming (placed letters variables) (row_constraint row))
      ++ rows_of naming letters line variables behind
  unfolding constraint_lines
  rows-here cells row behind e h = rw (e, constraints-row row behind h)

  pub rows-done : (cells : List ℕ) → length cells < 5 → rows_of naming letters line variables cells ≡ []
  unfolding constraint_lines
  rows-done cells h = rw (constraints-short cells 0 h)

-- a goal variable's line: the letter A, its name, what it became, and the line feed
module _ (naming : Naming) (letters : List ℕ) (n i x : ℕ) where
  bound-pieces : bound_line naming letters n i x
      ≡ (65 ∷ 44 ∷ []) ++ (variable_name letters i ++ ((44 ∷ []) ++ (cell_shown naming letters n x ++ (10 ∷ []))))
  unfolding bound_line line_of fields_behind ascii
  bound-pieces = refl

  module _ (c : Countable 0 (bound_line naming letters n i x)) where
    pub bound-front : Countable 0 (65 ∷ 44 ∷ [])
    bound-front = count-first _ (count-is bound-pieces c)

    module _ {o p : List ℕ} {m : ℕ} (w : Writes (65 ∷ 44 ∷ []) 0 o p m) where
      pub bound-name : Countable m (variable_name letters i)
      bound-name = count-first _ (count_next (count-is bound-pieces c) w)

      module _ {q : List ℕ} {k : ℕ} (v : Writes (variable_name letters i) m p q k) where
        pub bound-comma : Countable k (44 ∷ [])
        bound-comma = count-first _ (count_next (count_next (count-is bound-pieces c) w) v)

        pub bound-cell : {r : List ℕ} {l : ℕ} → Writes (44 ∷ []) k q r l → Countable l (cell_shown naming letters n x)
        bound-cell u = count-first _ (count_next (count_next (count_next (count-is bound-pieces c) w) v) u)

        pub bound-feed : {r s : List ℕ} {l end : ℕ} → Writes (44 ∷ []) k q r l → Writes (cell_shown naming letters n x) l r s end
            → Countable end (10 ∷ [])
        bound-feed u t = count_next (count_next (count_next (count_next (count-is bound-pieces c) w) v) u) t

  pub bound-wrote : {o p q r s t : List ℕ} {m k l j end : ℕ} → Writes (65 ∷ 44 ∷ []) 0 o p m
      → Writes (variable_name letters i) m p q k → Writes (44 ∷ []) k q r l → Writes (cell_shown naming letters n x) l r s j
      → Writes (10 ∷ []) j s t end → length p ≡ length o → length q ≡ length p → length r ≡ length q → length s ≡ length r
      → Writes (bound_line naming letters n i x) 0 o t end
  bound-wrote w v u y z e f g h =
      wrote-is (sym bound-pieces) (wrote_then w (wrote_then v (wrote_then u (wrote_then y z h) g) f) e)

-- a line for each goal variable, from i on: its line, and those behind it
abbrev pub bounds_from : Naming → List ℕ → List ℕ → ℕ → List ℕ
bounds_from naming letters bound i =
    bound_lines naming (placed letters (length bound)) (variable_name letters) i (map cell_term (drop i bound))

module _ (naming : Naming) (letters bound : List ℕ) (i : ℕ) where
  pub bounds-here : i < length bound
      → bounds_from naming letters bound i
      ≡ bound_line naming letters (length bound) i (get_or bound i 0) ++ bounds_from naming letters bound (i + 1)
  unfolding bound_lines bound_line cell_shown
  bounds-here h = rw (add-one i, drop-cons bound i 0 h)

  pub bounds-done : length bound ≤ i → bounds_from naming letters bound i ≡ []
  unfolding bound_lines
  bounds-done h = rw (drop_of_length-le bound h)
