-- Constraints whose terms are numbered and rewritten one after the other.
--   Passing, passing-…        the loop over a row, up to its first 0
--   PassingRows, rows-…       the loop over constraints
-- A variable that has appeared keeps its number, so that each term has its last number at once. Assumes nothing.
use mathlib.Core.Path.{◌≡◌, refl, sym, ap, subst, ◌∙◌}
use mathlib.Core.Bool.{true}
use mathlib.Core.List.{List, [], ◌∷◌, ◌++◌, map, map-append, append_assoc, append-nil}
use Prim.Native.Nat.{ℕ, suc, ◌+◌, ◌-◌, ◌*◌, ◌≤◌, ◌<◌}
use native.Mathlib.Omega.{arith}
use native.Mathlib.Numerals.{add-one}
use borrow.Author.Tests.{ne_eqb, ltb-true}
use lib.Dec.{ltb}
use lib.ListN.{length, take, drop, get_or, set, length-append, length-set, length-drop, take-append-drop, drop_of_length-le}
use lib.Seq.{drop-cons, drop-drop, drop-set-lt, take-suc, take-suc-set, take_at, drop_at, length-take-le}
use Rattle.text.specs.Lists.{every}
use Rattle.semantics.specs.Terms.{Term, Constraint, map_terms, is_below}
use Rattle.semantics.specs.Overlaps.{appearing_in, appearing, numbered}
use Rattle.text.proofs.Bools.{and-true}
use Rattle.tables.specs.Cells.{cell_term, cell_terms, cell_constraints, is_low}
use Rattle.tables.specs.Numbers.{Numbering, Numbered, RowNumbered, RowsNumbered, renumbered_cell, is_within}
use Rattle.tables.proofs.CellLaws.{cell-high, terms-none, terms-more, constraints-short}
use Rattle.tables.proofs.NumberLaws.{Reaching, appearing-step, reach-more, reach-end}
use Rattle.tables.proofs.Appearing.{var_in, in-terms, index_in, index_on, numbered-by, numbered-all}
use Rattle.tables.proofs.Renumbering.{kept, placed}

-- after i cells of a row: the terms passed stand there under the whole order, and the others as they were
pub record Passing (start : List ℕ) (before : ℕ) (given table row : List ℕ) (seen i : ℕ) : Type 0 where
  pub within : i ≤ length row
  pub few : seen ≤ before + i
  pub size : length table ≡ length start
  pub row-size : length row ≡ length given
  pub left : every (is_below (length start)) (cell_terms (drop i row)) ≡ true
  pub passed : List Term
  pub all : cell_terms given ≡ passed ++ cell_terms (drop i row)
  pub reach :
      (order : List ℕ) → Numbering order start before
      → Reaching (appearing_in order (cell_terms given)) table seen (cell_terms (drop i row))
  pub same :
      (order : List ℕ) → Numbering order start before → (tail : List ℕ)
      → cell_terms (take i row ++ tail) ≡ map (numbered (appearing_in order (cell_terms given))) passed ++ cell_terms tail

pub passing-start : (start : List ℕ) (before : ℕ) (row : List ℕ)
    → every (is_below (length start)) (cell_terms row) ≡ true → Passing start before row start row before 0
passing-start start before row h =
    record {
      within = omega arith;
      few = omega arith;
      size = refl;
      row-size = refl;
      left = h;
      passed = [];
      all = refl;
      reach = λ order n. record { order = order; numbering = n; reaches = refl };
      same = λ order n tail. refl;
    }

module _ (start : List ℕ) (before : ℕ) (given table row : List ℕ) (seen i : ℕ)
    (w : Passing start before given table row seen i) where
  -- no term is left
  done : cell_terms (drop i row) ≡ [] → RowNumbered given row start table before seen
  done e =
      let terms : cell_terms given ≡ w.passed =
      w.all ∙ ap (λ (l : List Term). w.passed ++ l) e ∙ append-nil w.passed in
      record {
        next = λ order n. reach-end e (w.reach order n);
        few = omega (arith, w.few, w.within, w.row-size);
        same = λ order n.
            let new = numbered (appearing_in order (cell_terms given)) in
            ap cell_terms (sym (take-append-drop i row)) ∙ w.same order n (drop i row)
            ∙ ap (λ (l : List Term). map new w.passed ++ l) e ∙ append-nil (map new w.passed) ∙ ap (map new) (sym terms);
      }

  pub passing-zero : i < length row → get_or row i 0 ≡ 0 → RowNumbered given row start table before seen
  passing-zero l e = done (terms-none row i l e)

  pub passing-end : length row ≤ i → RowNumbered given row start table before seen
  unfolding cell_terms
  passing-end l = done (rw (drop_of_length-le row {i = i} l))

  module _ (l : i < length row) (used : get_or row i 0 ≡ 0 → ⊥) where
    abbrev term : Term
    term = cell_term (get_or row i 0)

    abbrev later : List Term
    later = cell_terms (drop (suc i) row)

    here : cell_terms (drop i row) ≡ term ∷ later
    here = terms-more row i l used

    parts : (is_below (length start) term ≡ true) × (every (is_below (length start)) later ≡ true)
    parts = and-true (is_below (length start) term) (every (is_below (length start)) later) (rw here at w.left)

    -- the variable has its entry
    pub passing-inside : 256 ≤ get_or row i 0 → get_or row i 0 - 256 < length table
    unfolding is_below
    passing-inside h =
        let low : ltb (get_or row i 0 - 256) (length start) ≡ true = rw (cell-high (get_or row i 0) h) at parts.0 in
        omega (arith, ltb-true (get_or row i 0 - 256) (length start) low, w.size)

    module _ (after : List ℕ) (count y : ℕ) (n : Numbered term table after seen count)
        (e : y ≡ renumbered_cell after (get_or row i 0)) where
      module _ (order : List ℕ) (m : Numbering order start before) where
        -- the order with this term
        abbrev now : List ℕ
        now = appearing_in (w.reach order m).order (term ∷ [])

        numbering : Numbering now after count
        numbering = n.next (w.reach order m).order (w.reach order m).numbering

        appeared : var_in now term ≡ true
        appeared = (and-true (var_in now term) true (in-terms (term ∷ []) (w.reach order m).order)).0

        leads : appearing_in now later ≡ appearing_in order (cell_terms given)
        leads =
            appearing-step (w.reach order m).order term later
            ∙ ap (appearing_in (w.reach order m).order) (sym here) ∙ (w.reach order m).reaches

        -- its new cell
        new_term : cell_term y ≡ numbered (appearing_in order (cell_terms given)) term
        new_term =
            ap cell_term e ∙ placed now after count numbering (get_or row i 0) appeared
            ∙ sym (numbered-by now (appearing_in now later) term (index_in later now) appeared)
            ∙ ap (λ (o : List ℕ). numbered o term) leads

        new-used : y ≡ 0 → ⊥
        new-used z = kept now after count numbering (get_or row i 0) used (sym e ∙ z)

        more-terms : (tail : List ℕ) → cell_terms (y ∷ tail) ≡ cell_term y ∷ cell_terms tail
        unfolding cell_terms
        more-terms tail = rw (ne_eqb y 0 new-used)

        one_more : (tail : List ℕ)
            → cell_terms (take (suc i) (set row i y) ++ tail)
            ≡ map (numbered (appearing_in order (cell_terms given))) (w.passed ++ (term ∷ [])) ++ cell_terms tail
        one_more tail =
            let new = numbered (appearing_in order (cell_terms given)) in
            ap (λ (r : List ℕ). cell_terms (r ++ tail)) (take-suc-set row i y l)
            ∙ ap cell_terms (append_assoc (take i row) (y ∷ []) tail)
            ∙ w.same order m (y ∷ tail)
            ∙ ap (λ (r : List Term). map new w.passed ++ r) (more-terms tail ∙ ap (λ (t : Term). t ∷ cell_terms tail) new_term)
            ∙ sym (append_assoc (map new w.passed) (new term ∷ []) (cell_terms tail))
            ∙ ap (λ (r : List Term). r ++ cell_terms tail) (sym (map-append new w.passed (term ∷ [])))

      pub passing-next : length after ≡ length table → Passing start before given after (set row i y) count (i + 1)
      passing-next s =
          let behind : drop (suc i) (set row i y) ≡ drop (suc i) row = drop-set-lt (suc i) row i y (omega arith) in
          rw (add-one i) (record {
            within = omega (arith, length-set row i y);
            few = omega (arith, n.few, w.few);
            size = s ∙ w.size;
            row-size = length-set row i y ∙ w.row-size;
            left = rw behind parts.1;
            passed = w.passed ++ (term ∷ []);
            all = rw behind (w.all ∙ ap (λ (r : List Term). w.passed ++ r) here ∙ sym (append_assoc w.passed (term ∷ [])
                later));
            reach = λ order m. rw behind (reach-more term later here n (w.reach order m));
            same = one_more;
          })

-- the same for constraints
pub record ReachingRows (whole table : List ℕ) (seen : ℕ) (left : List Constraint) : Type 0 where
  pub order : List ℕ
  pub numbering : Numbering order table seen
  pub reaches : appearing order left ≡ whole

pub record PassingRows (start : List ℕ) (before : ℕ) (given table cells : List ℕ) (seen i : ℕ) : Type 0 where
  pub few : seen ≤ before + 4 * i
  pub within : 5 * i ≤ length cells
  pub size : length table ≡ length start
  pub cells-size : length cells ≡ length given
  pub left : every (is_within (length start)) (cell_constraints (drop (5 * i) cells)) ≡ true
  pub passed : List Constraint
  pub all : cell_constraints given ≡ passed ++ cell_constraints (drop (5 * i) cells)
  pub reach :
      (order : List ℕ) → Numbering order start before
      → ReachingRows (appearing order (cell_constraints given)) table seen (cell_constraints (drop (5 * i) cells))
  pub same :
      (order : List ℕ) → Numbering order start before → (tail : List ℕ)
      → cell_constraints (take (5 * i) cells ++ tail)
      ≡ map (map_terms (numbered (appearing order (cell_constraints given)))) passed ++ cell_constraints tail

pub rows_start : (start : List ℕ) (before : ℕ) (cells : List ℕ)
    → every (is_within (length start)) (cell_constraints cells) ≡ true → PassingRows start before cells start cells before 0
rows_start start before cells h =
    record {
      few = omega arith;
      within = omega arith;
      size = refl;
      cells-size = refl;
      left = h;
      passed = [];
      all = refl;
      reach = λ order n. record { order = order; numbering = n; reaches = refl };
      same = λ order n tail. refl;
    }

-- a constraint of a symbol and four cells
abbrev row_with : ℕ → List ℕ → Constraint
row_with k cells = record { symbol = k; terms = cell_terms cells }

row_first : (k : ℕ) (g tail : List ℕ) → length g ≡ 4 → cell_constraints ((k ∷ g) ++ tail) ≡ row_with k g ∷ cell_constraints tail
unfolding cell_constraints
row_first k [] tail h = absurd (omega arith)
row_first k (a ∷ []) tail h = absurd (omega arith)
row_first k (a ∷ b ∷ []) tail h = absurd (omega arith)
row_first k (a ∷ b ∷ c ∷ []) tail h = absurd (omega arith)
row_first k (a ∷ b ∷ c ∷ d ∷ []) tail h = refl
row_first k (a ∷ b ∷ c ∷ d ∷ e ∷ g) tail h = absurd (omega arith)

-- the terms of the constraint at place i, as they are lent, and all cells when those have come back
abbrev pub lent_terms : List ℕ → ℕ → List ℕ
lent_terms cells i = take (((5 * i + 1) + 4) - (5 * i + 1)) (drop (5 * i + 1) cells)

abbrev pub returned : List ℕ → ℕ → List ℕ → List ℕ
returned cells i g = take (5 * i + 1) cells ++ (g ++ drop (((5 * i + 1) + 4) - (5 * i + 1)) (drop (5 * i + 1) cells))

module _ (cells : List ℕ) (i : ℕ) (l : 5 * i + 5 ≤ length cells) where
  abbrev symbol : ℕ
  symbol = get_or cells (5 * i) 0

  abbrev rest : List ℕ
  rest = drop (5 * suc i) cells

  four : ((5 * i + 1) + 4) - (5 * i + 1) ≡ 4
  four = omega arith

  rest-is : drop (((5 * i + 1) + 4) - (5 * i + 1)) (drop (5 * i + 1) cells) ≡ rest
  rest-is =
      let e : (5 * i + 1) + 4 ≡ 5 * suc i = omega arith in
      rw four (drop-drop 4 (5 * i + 1) cells ∙ ap (λ (k : ℕ). drop k cells) e)

  pub lent-size : length (lent_terms cells i) ≡ 4
  lent-size = rw four (length-take-le 4 (drop (5 * i + 1) cells) (omega (arith, length-drop (5 * i + 1) cells)))

  split : drop (5 * i) cells ≡ (symbol ∷ lent_terms cells i) ++ rest
  split =
      let one : suc (5 * i) ≡ 5 * i + 1 = omega arith in
      drop-cons cells (5 * i) 0 (omega arith)
      ∙ ap (λ (k : ℕ). symbol ∷ drop k cells) one
      ∙ ap (λ (r : List ℕ). symbol ∷ r)
      (sym (take-append-drop (((5 * i + 1) + 4) - (5 * i + 1)) (drop (5 * i + 1) cells))
      ∙ ap (λ (r : List ℕ). lent_terms cells i ++ r) rest-is)

  here-row : cell_constraints (drop (5 * i) cells) ≡ row_with symbol (lent_terms cells i) ∷ cell_constraints rest
  here-row = ap cell_constraints split ∙ row_first symbol (lent_terms cells i) rest lent-size

  module _ (g : List ℕ) (s : length g ≡ 4) where
    back : returned cells i g ≡ (take (5 * i) cells ++ (symbol ∷ g)) ++ rest
    back =
        let one : 5 * i + 1 ≡ suc (5 * i) = omega arith in
        ap (λ (r : List ℕ). take (5 * i + 1) cells ++ (g ++ r)) rest-is
        ∙ ap (λ (k : ℕ). take k cells ++ (g ++ rest)) one
        ∙ ap (λ (r : List ℕ). r ++ (g ++ rest)) (take-suc cells (5 * i) 0 (omega arith))
        ∙ append_assoc (take (5 * i) cells) (symbol ∷ []) (g ++ rest)
        ∙ sym (append_assoc (take (5 * i) cells) (symbol ∷ g) rest)

    front-size : length (take (5 * i) cells ++ (symbol ∷ g)) ≡ 5 * suc i
    front-size =
        omega (arith, length-append (take (5 * i) cells) (symbol ∷ g), length-take-le (5 * i) cells (omega arith))

    front : take (5 * suc i) (returned cells i g) ≡ take (5 * i) cells ++ (symbol ∷ g)
    front = rw back (take_at (take (5 * i) cells ++ (symbol ∷ g)) rest (5 * suc i) front-size)

    behind-row : drop (5 * suc i) (returned cells i g) ≡ rest
    behind-row = rw back (drop_at (take (5 * i) cells ++ (symbol ∷ g)) rest (5 * suc i) front-size)

    back-size : length (returned cells i g) ≡ length cells
    back-size =
        rw back (omega (
          arith,
          length-append (take (5 * i) cells ++ (symbol ∷ g)) rest,
          front-size,
          length-drop (5 * suc i) cells,
        ))

module _ (start : List ℕ) (before : ℕ) (given table cells : List ℕ) (seen i : ℕ)
    (w : PassingRows start before given table cells seen i) where
  module _ (l : 5 * i + 5 ≤ length cells) where
    abbrev this : Constraint
    this = row_with (symbol cells i l) (lent_terms cells i)

    abbrev others : List Constraint
    others = cell_constraints (rest cells i l)

    row-parts : (is_within (length start) this ≡ true) × (every (is_within (length start)) others ≡ true)
    row-parts =
        and-true (is_within (length start) this) (every (is_within (length start)) others) (rw (here-row cells i l) at w.left)

    pub rows-asked : every (is_below (length table)) (cell_terms (lent_terms cells i)) ≡ true
    unfolding is_within
    rows-asked =
        rw w.size (and-true (is_low this) (every (is_below (length start)) (cell_terms (lent_terms cells i)))
        row-parts.0).1

    module _ (g after : List ℕ) (count : ℕ) (n : RowNumbered (lent_terms cells i) g table after seen count)
        (s : length g ≡ length (lent_terms cells i)) where
      size-four : length g ≡ 4
      size-four = s ∙ lent-size cells i l

      module _ (order : List ℕ) (m : Numbering order start before) where
        abbrev then : List ℕ
        then = appearing_in (w.reach order m).order (cell_terms (lent_terms cells i))

        leads-on : appearing then others ≡ appearing order (cell_constraints given)
        unfolding appearing
        leads-on = ap (appearing (w.reach order m).order) (sym (here-row cells i l)) ∙ (w.reach order m).reaches

        new_row : row_with (symbol cells i l) g ≡ map_terms (numbered (appearing order (cell_constraints given))) this
        unfolding map_terms
        new_row =
            ap (λ (ts : List Term). record { symbol = symbol cells i l; terms = ts })
            (n.same (w.reach order m).order (w.reach order m).numbering
            ∙ sym (numbered-all then (appearing then others) (cell_terms (lent_terms cells i)) (index_on others then)
            (in-terms (cell_terms (lent_terms cells i)) (w.reach order m).order))
            ∙ ap (λ (o : List ℕ). map (numbered o) (cell_terms (lent_terms cells i))) leads-on)

        one-row-more : (tail : List ℕ)
            → cell_constraints (take (5 * suc i) (returned cells i g) ++ tail)
            ≡ map (map_terms (numbered (appearing order (cell_constraints given)))) (w.passed ++ (this ∷ []))
            ++ cell_constraints tail
        one-row-more tail =
            let new = map_terms (numbered (appearing order (cell_constraints given))) in
            ap (λ (r : List ℕ). cell_constraints (r ++ tail)) (front cells i l g size-four)
            ∙ ap cell_constraints (append_assoc (take (5 * i) cells) (symbol cells i l ∷ g) tail)
            ∙ w.same order m ((symbol cells i l ∷ g) ++ tail)
            ∙ ap (λ (r : List Constraint). map new w.passed ++ r)
            (row_first (symbol cells i l) g tail size-four ∙ ap (λ (c : Constraint). c ∷ cell_constraints tail) new_row)
            ∙ sym (append_assoc (map new w.passed) (new this ∷ []) (cell_constraints tail))
            ∙ ap (λ (r : List Constraint). r ++ cell_constraints tail) (sym (map-append new w.passed (this ∷ [])))

      pub rows_next : length after ≡ length table → PassingRows start before given after (returned cells i g) count (i + 1)
      rows_next t =
          let behind : drop (5 * suc i) (returned cells i g) ≡ rest cells i l = behind-row cells i l g size-four in
          rw (add-one i) (record {
            few = omega (arith, n.few, w.few, lent-size cells i l);
            within = omega (arith, back-size cells i l g size-four);
            size = t ∙ w.size;
            cells-size = back-size cells i l g size-four ∙ w.cells-size;
            left = rw behind row-parts.1;
            passed = w.passed ++ (this ∷ []);
            all = rw behind (w.all ∙ ap (λ (r : List Constraint). w.passed ++ r) (here-row cells i l)
                ∙ sym (append_assoc w.passed (this ∷ []) others));
            reach = λ order m. rw behind (record {
              order = then order m;
              numbering = n.next (w.reach order m).order (w.reach order m).numbering;
              reaches = leads-on order m;
            });
            same = one-row-more;
          })

  pub rows_end : length cells < 5 * i + 5 → RowsNumbered given cells start table before seen
  unfolding appearing
  rows_end l =
      let none_left : cell_constraints (drop (5 * i) cells) ≡ [] = constraints-short cells i l in
      let rows : cell_constraints given ≡ w.passed =
      w.all ∙ ap (λ (r : List Constraint). w.passed ++ r) none_left ∙ append-nil w.passed in
      record {
        next = λ order n.
            let r = w.reach order n in
            let same : r.order ≡ appearing order (cell_constraints given) =
            ap (appearing r.order) (sym none_left) ∙ r.reaches in
            subst (λ (o : List ℕ). Numbering o table seen) same r.numbering;
        same = λ order n.
            let new = map_terms (numbered (appearing order (cell_constraints given))) in
            ap cell_constraints (sym (take-append-drop (5 * i) cells)) ∙ w.same order n (drop (5 * i) cells)
            ∙ ap (λ (r : List Constraint). map new w.passed ++ r) none_left ∙ append-nil (map new w.passed)
            ∙ ap (map new) (sym rows);
      }
