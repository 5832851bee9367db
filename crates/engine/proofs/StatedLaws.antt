-- Matching and firing at stated positions, on cells as on constraints: one law for each way that the code goes.
--   Matching, matching-start, …     the heads so far, at their positions
--   stated-rests, stated-moves      a firing, where the rule fits and where it does not
-- Assumes nothing.
use Prim.Native.Nat.{ℕ, suc, ◌+◌, ◌*◌, ◌≤◌, ◌<◌}
use native.Mathlib.Omega.{arith}
use native.Mathlib.Numerals.{add-one}
use mathlib.Core.Bool.{Bool, true, false, cond}
use mathlib.Core.List.{List, [], ◌∷◌, ◌++◌}
use mathlib.Core.Option.{Option, none, some}
use mathlib.Core.Path.{◌≡◌, refl, sym, ap, ◌∙◌}
use lib.ListN.{length, get_or, get_elem?, take, drop, replicate, drop_of_length-le}
use lib.Seq.{drop-cons, get_or-take, length-take-le, take-suc, take_all}
use Rattle.text.specs.Lists.{bind, has, every}
use Rattle.semantics.specs.Terms.{Constraint}
use Rattle.semantics.specs.Matching.{Assignment, unassigned, match_constraint, match_at}
use Rattle.semantics.specs.Firing.{without, fire_at}
use Rattle.tables.specs.Cells.{cell_constraints, row_constraint}
use Rattle.tables.specs.Rows.{rule_of_row}
use Rattle.fitting.specs.Cells.{assigned, fit_of, Rows, Matched}
use Rattle.fitting.specs.Positions.{is_lettered, Row}
use Rattle.engine.specs.States.{Removed, Equated, Fired}
use Rattle.engine.specs.Runs.{store_of}
use Rattle.engine.specs.Stated.{stated_at, match_row, fire_row, Stated, FiredFrom}
use Rattle.tables.proofs.CellLaws.{every_first, every_rest, constraints-at, element-row, element-none}
use Rattle.fitting.proofs.PartLaws.{behind}
use Rattle.fitting.proofs.SearchLaws.{cond-none, cond-bind, lent, five, lent-size}
use Rattle.fitting.proofs.ChooseLaws.{zeros-unassigned}
use Rattle.engine.proofs.RuleLaws.{removed_at, removed-lent, left-equated, left-fired}
use Rattle.engine.proofs.FiredLaws.{fired-lighter, fired-low}
use Rattle.engine.proofs.StepLaws.{no_way, no_way_back}

-- the heads from number h on, under the bindings so far, give the answer for all of them
pub record Matching (heads : List ℕ) (n : ℕ) (cells : List ℕ) (m : ℕ) (positions bindings : List ℕ) (h : ℕ)
    (answer : Option Assignment) : Type 0 where
  pub heads-size : length heads ≡ 5 * n
  pub few : n ≤ 4
  pub cells-size : length cells ≡ 5 * m
  pub positions-size : length positions ≡ 4
  pub size : length bindings ≡ 26
  pub letters : every is_lettered (cell_constraints (drop (5 * h) heads)) ≡ true
  pub same :
      match_at (cell_constraints (drop (5 * h) heads)) (drop h (take n positions)) (cell_constraints cells) (take h positions)
      (assigned bindings) ≡ answer

pub matching-start :
    (row heads positions cells bindings : List ℕ) (m n : ℕ) → Row row → length positions ≡ 4 → length cells ≡ 5 * m
    → length bindings ≡ 26 → n ≡ get_or row 3 0 → length heads ≡ 5 * get_or row 3 0
    → cell_constraints heads ≡ (rule_of_row [] row).heads
    → Matching heads n cells m positions bindings 0 (match_row row positions cells bindings)
unfolding match_row
matching-start row heads positions cells bindings m n r p k b e size same =
    record {
      heads-size = size ∙ omega arith;
      few = omega (arith, r.heads-few);
      cells-size = k;
      positions-size = p;
      size = b;
      letters = rw same r.heads;
      same = rw (same, e);
    }

module _ (heads : List ℕ) (n : ℕ) (cells : List ℕ) (m : ℕ) (positions bindings : List ℕ) (h : ℕ) (answer : Option Assignment)
    (w : Matching heads n cells m positions bindings h answer) where
  placed-size : length (take n positions) ≡ n
  placed-size = length-take-le n positions (omega (arith, w.few, w.positions-size))

  -- all heads fit
  pub matching-end : n ≤ h → Matched true bindings answer
  unfolding match_at fit_of cell_constraints
  matching-end l =
      record {
        same = rw (
          drop_of_length-le heads {i = 5 * h} (omega (arith, w.heads-size)),
          drop_of_length-le (take n positions) {i = h} (omega (arith, placed-size)),
        ) at w.same;
        size = w.size;
      }

  module _ (l : h < n) where
    -- the next head, and its position
    abbrev head : Constraint
    head = row_constraint (take 5 (drop (5 * h) heads))

    abbrev p : ℕ
    p = get_or positions h 0

    heads-here : cell_constraints (drop (5 * h) heads) ≡ head ∷ cell_constraints (drop (5 * suc h) heads)
    heads-here = constraints-at heads h (omega (arith, w.heads-size))

    positions-here : drop h (take n positions) ≡ p ∷ drop (suc h) (take n positions)
    positions-here = drop-cons (take n positions) h 0 (omega (arith, placed-size)) ∙ rw (get_or-take n positions h 0 l)

    -- how the later heads go on
    abbrev later : Assignment → Option Assignment
    later =
        match_at (cell_constraints (drop (5 * suc h) heads)) (drop (suc h) (take n positions)) (cell_constraints cells)
        (take h positions ++ (p ∷ []))

    here :
        cond (has p (take h positions)) none
        (bind (get_elem? (cell_constraints cells) p) (λ c. bind (match_constraint head c (assigned bindings)) later)) ≡ answer
    unfolding match_at
    here = rw (heads-here, positions-here) at w.same

    -- there is no constraint at the position
    pub matching-away : m ≤ p → Matched false bindings answer
    unfolding fit_of
    matching-away k =
        record {
          same = rw (element-none cells p (omega (arith, w.cells-size)), cond-none (has p (take h positions))) at here;
          size = w.size;
        }

    module _ (k : p < m) where
      -- what the match there asks
      pub matching-rows : Rows (lent heads h) (lent cells p) bindings
      unfolding is_lettered
      matching-rows =
          record {
            head-size = lent-size heads h (omega (arith, w.heads-size));
            constraint-size = lent-size cells p (omega (arith, w.cells-size));
            bindings-size = w.size;
            letters = rw (five h) (every_first is_lettered head (cell_constraints (drop (5 * suc h) heads))
                (rw heads-here at w.letters));
          }

      module _ (f : Bool) (b : List ℕ)
          (given : Matched f b (cond (has p (take h positions)) none
          (match_constraint (row_constraint (lent heads h)) (row_constraint (lent cells p)) (assigned bindings)))) where
        abbrev this : Constraint
        this = row_constraint (take 5 (drop (5 * p) cells))

        t : Matched f b (cond (has p (take h positions)) none (match_constraint head this (assigned bindings)))
        t = rw (five h, five p) at given

        tried : bind (cond (has p (take h positions)) none (match_constraint head this (assigned bindings))) later ≡ answer
        tried =
            sym (cond-bind (has p (take h positions)) (match_constraint head this (assigned bindings)) later)
            ∙ rw (element-row cells p (omega (arith, w.cells-size))) at here

        -- the head does not fit there, or an earlier head has the position
        pub matching-misfit : f ≡ false → Matched false b answer
        unfolding fit_of
        matching-misfit z = record { same = rw (← t.same, z) at tried; size = t.size }

        -- it fits
        pub matching-fits : f ≡ true → Matching heads n cells m positions b (h + 1) answer
        unfolding fit_of
        matching-fits z =
            rw (add-one h) (record {
              heads-size = w.heads-size;
              few = w.few;
              cells-size = w.cells-size;
              positions-size = w.positions-size;
              size = t.size;
              letters = every_rest is_lettered head (cell_constraints (drop (5 * suc h) heads)) (rw heads-here at w.letters);
              same = rw (take-suc positions h 0 (omega (arith, w.positions-size, w.few))) (rw (← t.same, z) at tried);
            })

-- bindings of no variable
abbrev unsettled : List ℕ
unsettled = replicate 26 0

module _ (row positions : List ℕ) (next : ℕ) (goal : List ℕ) (m : ℕ) (cells : List ℕ)
    (s : Stated row positions next goal m cells) where
  all : take (5 * m) goal ≡ goal
  all = take_all (5 * m) goal (omega (arith, s.size))

  module _ (f : Bool) (b : List ℕ) (given : Matched f b (match_row row positions goal unsettled)) where
    matched : (name : List ℕ)
        → match_at (rule_of_row name row).heads (stated_at row positions) (cell_constraints goal) [] unassigned ≡ fit_of f b
    unfolding match_row rule_of_row
    matched name = rw (← zeros-unassigned) (sym given.same)

    -- the rule does not fit there, and the goal has entered
    pub stated-rests :
        (bound c : List ℕ) → f ≡ false → take (length goal) c ≡ goal
        → FiredFrom row positions next bound goal m bound c false true 0
    unfolding fire_row fire_at fit_of store_of
    stated-rests bound c z e =
        record {
          rests = λ y. (refl, ap cell_constraints (rw s.size at e), λ name. rw (matched name, z));
          moves = λ y. no_way y;
          lighter = λ y. no_way y;
          low = λ y. no_way y;
          few = omega arith;
        }

    module _ (z : f ≡ true) (h k : ℕ) (heads : h ≡ get_or row 3 0) (kept : k ≡ get_or row 1 0) where
      module _ (c : List ℕ) (n : ℕ) (size : length c ≡ length cells)
          (copied : Removed m (behind k (take h positions)) goal c n) where
        left : cell_constraints (take (5 * n) c) ≡ without 0 (removed_at row positions) (cell_constraints (take (5 * m) goal))
        left = rw (all, ← removed-lent row positions h k heads kept) copied.same

        -- what the rest of the firing asks
        pub stated-completes : Equated row b next (take (5 * n) c) × (5 * n + 30 ≤ length c)
        stated-completes = (
          left-equated row positions b next goal m c n copied.few left
              (record { given = s.given; bindings-size = given.size; room = s.room; low = rw all s.low }),
          omega (arith, copied.few, s.space),
        )

        -- the rule has fired
        pub stated-moves :
            (bound bound' cells' : List ℕ) (alive : Bool) (count : ℕ)
            → Fired row [] b next bound c n bound' cells' alive count
            → FiredFrom row positions next bound goal m bound' cells' true alive count
        unfolding fire_row fire_at fit_of store_of
        stated-moves bound bound' cells' alive count rest =
            let done : Fired row positions b next bound goal m bound' cells' alive count =
            left-fired row positions b next goal m c n copied.few left bound bound' cells' alive count rest in
            record {
              rests = λ y. no_way_back y;
              moves = λ y name. rw (matched name, z) (ap some (sym (rw all at (done.same name))));
              lighter = λ y v lw.
                  rw all at (fired-lighter row positions b next bound goal m bound' cells' alive count done v
                  (rw all (matched [] ∙ rw z)) lw);
              low = λ y.
                  fired-low row positions b next bound goal m bound' cells' alive count done s.given (rw all s.low);
              few = done.few;
            }
