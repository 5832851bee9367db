-- Laws of a G line, of all lines of a goal, and of its text.
--   line-other-form, line_refused, line_read    a line, by the test that decides it
--   LinesSoFar, lines-..                        the lines, as far as they are read
--   goal-..                                     a goal's text
-- Assumes nothing.
use mathlib.Core.Path.{◌≡◌, refl, sym, ap, ap₂, ◌∙◌}
use mathlib.Core.Bool.{Bool, true, false, not}
use mathlib.Core.List.{List, [], ◌∷◌, ◌++◌, map}
use Prim.Native.Nat.{ℕ, suc, ◌+◌, ◌*◌, ◌≤◌, ◌<◌}
use native.Mathlib.Numerals.{add-one}
use native.Mathlib.Omega.{arith}
use borrow.Author.Tests.{lt-ltb, le-ltb, leb-false}
use lib.Dec.{leb, ltb}
use lib.ListN.{length, take, drop, get_or, length-map, length-drop}
use lib.Seq.{paste, take-length, take-paste, length-paste, length-take-le}
use Rattle.std.specs.Prelude.{Result, Ok, Err}
use Rattle.faults.specs.Faults.{fault_at}
use Rattle.faults.specs.declared.Fault.{Fault}
use Rattle.faults.specs.declared.Fault.TheVariants.{TextTooLong, LineFaulty, FormMisplaced, GoalTooHeavy}
use Rattle.faults.specs.declared.FaultAt.{FaultAt}
use Rattle.text.specs.Lists.{index_of}
use Rattle.text.specs.Lines.{lines}
use Rattle.text.specs.Fields.{fields}
use Rattle.text.specs.Keys.{key_of}
use Rattle.text.specs.Splits.{line_from, Holds, SplitAt}
use Rattle.text.specs.declared.fields.Fields.{Fields}
use Rattle.text.proofs.LineLaws.{fields-some}
use Rattle.text.proofs.SplitLaws.{lines_at, lines_split, lines-done, line-fine}
use Rattle.semantics.specs.Terms.{Term, Constraint, Symbol, weight}
use Rattle.syntax.specs.Answers.{Answer, accepted, refuse_if, and_then}
use Rattle.syntax.specs.Forms.{form_of, field_at, constants_after, term_of, letter_number}
use Rattle.syntax.specs.Programs.{Found}
use Rattle.syntax.specs.Goals.{GoalDraft, GoalReading, letters_after, read_constraint_of_goal, is_goal_form, read_goal_fields}
use Rattle.syntax.specs.Goals.{read_goal_line, read_goal_lines, read_goal}
use Rattle.syntax.proofs.Tabled.{name-most}
use Rattle.tables.specs.Layout.{goal_place}
use Rattle.tables.specs.Cells.{cell_terms, row_constraint, cell_constraints}
use Rattle.tables.specs.Rows.{symbols_of, constants_of, letters_of}
use Rattle.tables.specs.Names.{Placed}
use Rattle.tables.proofs.CellLaws.{constraints-length}
use Rattle.lines.specs.declared.ConstraintRead.{ConstraintRead}
use Rattle.lines.specs.Read.{Outside, constraint_answer, CellsMean, ConstraintIn}
use Rattle.lines.proofs.Held.{key-at}
use Rattle.lines.proofs.HeadLaws.{symbols-same}
use Rattle.lines.proofs.TermLaws.{outside-same, outside_trans, constants-length}
use Rattle.lines.proofs.ConstraintLaws.{line_other}
use Rattle.lines.proofs.Weighing.{constraints-append, five-is}
use Rattle.lines.proofs.Spelling.{spelled-goal}
use Rattle.goals.specs.declared.GoalCounts.{GoalCounts}
use Rattle.goals.specs.declared.RowRead.{RowRead}
use Rattle.goals.specs.ReadGoal.{with_letters, numbered_cell, RowIn, Room, GoalFits, goal_draft_of, goal_line_answer}
use Rattle.goals.specs.ReadGoal.{GoalLineIn, goal_lines_answer, GoalLinesIn, goal_reading_of, goal_answer}
use Rattle.goals.specs.ReadGoal.{GoalIn}
use Rattle.goals.proofs.GoalLetters.{letters-length, letters-after, cells-numbered}

-- symbols do not change with constants
pub symbols-outside : (names names' symbols : List ℕ) (k : ℕ) → Outside names names' → length symbols ≡ 2 * k
    → length symbols ≤ 64
    → symbols_of names' symbols k ≡ symbols_of names symbols k
symbols-outside names names' symbols k o size few =
    symbols-same names symbols k names' (λ i h. o.symbols i (omega (arith, h)))

-- a line, by the test that decides it
module _ (f : Fields) (s : GoalCounts) (symbols names places cells letters : List ℕ) (b : Bool)
    (goal : (g : List ℕ) → get_or f.keys 0 0 ≡ key_of g → b ≡ is_goal_form (form_of g)) where
  abbrev d : GoalDraft
  d = goal_draft_of names cells letters s

  first-form : (fs : List (List ℕ)) → Holds fs f → 0 < length fs → b ≡ is_goal_form (form_of (field_at 0 fs))
  unfolding field_at
  first-form fs h some = goal (get_or fs 0 []) (key-at fs f.keys h.keyed 0 some (omega arith))

  pub line-other-form : not b ≡ true
      → GoalLineIn f s symbols names places cells letters names places cells letters (Err FormMisplaced)
  unfolding goal_line_answer read_goal_fields
  line-other-form e =
      record {
        answers = λ fs n k h some size. rw (← first-form fs h some, e);
        fits = tt;
        outside = outside-same names;
        places-size = refl;
        cells-size = refl;
        letters-size = refl;
        keeps = record { keeps = λ program g fs h z p. p };
      }

  module _ (e : not b ≡ false) (fit : GoalFits letters s) (room : Room symbols names places cells letters) (names' places' :
      List ℕ)
      (r : Result ConstraintRead Fault)
      (c : ConstraintIn f (leb 64 s.constraints) goal_place s.constants symbols names places names' places' r) where
    draft-length : length (cell_constraints (take (5 * s.constraints) cells)) ≡ s.constraints
    draft-length =
        constraints-length s.constraints (take (5 * s.constraints) cells)
        (length-take-le (5 * s.constraints) cells (omega (arith, room.cells-size, fit.few)))

    -- the letters after the line, and the number that a letter has
    module _ (fs : List (List ℕ)) where
      abbrev after : List (List ℕ)
      after = letters_after (drop 2 fs) (letters_of letters s.letters)

      abbrev variable : List ℕ → ℕ
      variable g = index_of g after

      abbrev onto : Found → Answer GoalDraft
      onto x = accepted (record {
        constraints = cell_constraints (take (5 * s.constraints) cells) ++ (x.constraint ∷ []);
        letters = after;
        constants = x.constants;
      })

      abbrev renumbered : Found → Answer Found
      renumbered x = accepted (record {
        constraint = record { symbol = x.constraint.symbol; terms = map (term_of variable x.constants) (drop 2 fs) };
        constants = x.constants;
      })

      via : (n k : ℕ) → Holds fs f → 0 < length fs → length symbols ≡ 2 * k
          → and_then (and_then (constraint_answer names' n r) renumbered) onto ≡ read_goal_fields (symbols_of names symbols k) n fs d
      unfolding read_goal_fields read_constraint_of_goal goal_draft_of
      via n k h some size =
          rw (← first-form fs h some, e, draft-length)
          (ap (λ (a : Answer Found). and_then (and_then a renumbered) onto) (c.answers fs n k h size)
          ∙ sym (ap (λ (a : Answer Found). and_then a onto)
          (line_other (leb 64 s.constraints) (symbols_of names symbols k) letter_number variable (constants_of names
          s.constants) n fs)))

    pub line_refused : (x : Fault) → r ≡ Err x → GoalLineIn f s symbols names places cells letters names' places' cells letters (Err x)
    unfolding goal_line_answer
    line_refused x z =
        record {
          answers = λ fs n k h some size.
              ap (λ (a : Answer Found). and_then (and_then a (renumbered fs)) (onto fs)) (sym (ap (constraint_answer names' n) z))
              ∙ via fs n k h some size;
          fits = tt;
          outside = c.outside;
          places-size = c.sized;
          cells-size = refl;
          letters-size = refl;
          keeps = c.keeps;
        }

    module _ (got : ConstraintRead) (z : r ≡ Ok got) where
      few-after : got.count ≤ 64
      few-after = rw z at c.few

      pub line-room : s.constraints < 64
      line-room = leb-false 64 s.constraints (rw z at c.room)

      module _ (letters' : List ℕ) (row : RowRead) (w : RowIn got.cells s.letters letters letters' row) where
        row-size : length row.cells ≡ 5
        row-size =
            ap length w.numbered
            ∙ ap suc (length-map (drop 1 got.cells) (numbered_cell (letters_of letters' row.count))
            ∙ omega (arith, length-drop 1 got.cells, (rw z at c.size)))

        pub line-fits : 5 * s.constraints + length row.cells ≤ length cells
        line-fits = omega (arith, row-size, room.cells-size, line-room)

        module _ (cells' : List ℕ) (stored : cells' ≡ paste cells (5 * s.constraints) row.cells (length row.cells)) where
          abbrev next : GoalCounts
          next = record { constraints = s.constraints + 1; letters = row.count; constants = got.count }

          -- the cells of all constraints
          taken : take (5 * (s.constraints + 1)) cells' ≡ take (5 * s.constraints) cells ++ row.cells
          taken =
              ap₂ (λ (i : ℕ) (l : List ℕ). take i l)
              (let y : 5 * (s.constraints + 1) ≡ 5 * s.constraints + length row.cells = omega (arith, row-size) in y) stored
              ∙ take-paste cells (5 * s.constraints) row.cells (length row.cells) (omega (arith, line-fits)) (omega arith)
              ∙ ap (λ (l : List ℕ). take (5 * s.constraints) cells ++ l) (take-length row.cells)

          constraints-are : cell_constraints (take (5 * (s.constraints + 1)) cells')
              ≡ cell_constraints (take (5 * s.constraints) cells) ++ (row_constraint row.cells ∷ [])
          constraints-are =
              ap cell_constraints taken
              ∙ constraints-append s.constraints (take (5 * s.constraints) cells) row.cells
              (length-take-le (5 * s.constraints) cells (omega (arith, line-fits)))
              ∙ ap (λ (l : List Constraint). cell_constraints (take (5 * s.constraints) cells) ++ l) (five-is row.cells
              row-size)

          module _ (fs : List (List ℕ)) (k : ℕ) (h : Holds fs f) (size : length symbols ≡ 2 * k) where
            means : CellsMean (drop 2 fs) (constants_of names s.constants) names' got
            means = rw z at (c.flat fs k h size)

            abbrev cs : List (List ℕ)
            cs = constants_after (drop 2 fs) (constants_of names s.constants)

            few : (g : List ℕ) → index_of g cs < 192
            few g = omega (
              arith,
              name-most g cs,
              ap length (sym means.after),
              constants-length names' got.count,
              few-after,
            )

            letters-are : letters_of letters' row.count ≡ after fs
            letters-are =
                w.lettered ∙ ap (λ (l : List ℕ). with_letters l (letters_of letters s.letters)) means.cells
                ∙ letters-after 4 cs (drop 2 fs) (letters_of letters s.letters) means.few few means.terms

            terms-are : cell_terms (map (numbered_cell (letters_of letters' row.count)) (drop 1 got.cells))
                ≡ map (term_of (variable fs) (constants_of names' got.count)) (drop 2 fs)
            terms-are =
                ap₂ (λ (l : List (List ℕ)) (x : List ℕ). cell_terms (map (numbered_cell l) x)) letters-are means.cells
                ∙ cells-numbered 4 cs (drop 2 fs) (after fs) means.few few means.terms
                ∙ ap (λ (l : List (List ℕ)). map (term_of (variable fs) l) (drop 2 fs)) (sym means.after)

            constraint-is : row_constraint row.cells
                ≡ record {
                  symbol = (row_constraint got.cells).symbol;
                  terms = map (term_of (variable fs) (constants_of names' got.count)) (drop 2 fs);
                }
            unfolding row_constraint
            constraint-is =
                rw w.numbered
                (ap (λ (ts : List Term). record { symbol = get_or got.cells 0 0; terms = ts }) terms-are)

            draft-is : goal_draft_of names' cells' letters' next
                ≡ record {
                  constraints = cell_constraints (take (5 * s.constraints) cells) ++ (record {
                    symbol = (row_constraint got.cells).symbol;
                    terms = map (term_of (variable fs) (constants_of names' got.count)) (drop 2 fs);
                  } ∷ []);
                  letters = after fs;
                  constants = constants_of names' got.count;
                }
            unfolding goal_draft_of
            draft-is = rw (constraints-are, letters-are, constraint-is)

          pub line_read : GoalLineIn f s symbols names places cells letters names' places' cells' letters' (Ok next)
          unfolding goal_line_answer
          line_read =
              record {
                answers = λ fs n k h some size.
                    ap accepted (draft-is fs k h size)
                    ∙ ap (λ (a : Answer Found). and_then (and_then a (renumbered fs)) (onto fs)) (sym (ap (constraint_answer names' n) z))
                    ∙ via fs n k h some size;
                fits = record { few = omega (arith, line-room); few-constants = few-after; lettered = w.fits };
                outside = c.outside;
                places-size = c.sized;
                cells-size = ap length stored
                    ∙ length-paste cells (5 * s.constraints) row.cells (length row.cells) line-fits (omega arith);
                letters-size = w.size;
                keeps = c.keeps;
              }

-- the lines of a goal, as far as they are read
pub record LinesSoFar (goal symbols names₀ places₀ : List ℕ) (c : ℕ) (names places cells letters : List ℕ) (at n : ℕ) (s :
    GoalCounts)
    : Type 0 where
  pub within : at ≤ length goal
  pub numbered : n ≤ at + 1
  pub fits : GoalFits letters s
  pub outside : Outside names₀ names
  pub room : Room symbols names places cells letters
  pub left :
      (k : ℕ) → length symbols ≡ 2 * k
      → read_goal_lines (symbols_of names₀ symbols k) n (goal_draft_of names cells letters s) (lines (drop at goal))
      ≡ read_goal_lines (symbols_of names₀ symbols k) 1 (record { constraints = []; letters = []; constants = constants_of names₀ c })
      (lines goal)
  pub placed : (program : List ℕ) → Placed program goal names₀ places₀ → Placed program goal names places

pub lines_start :
    (goal symbols names places : List ℕ) (c : ℕ) (cells letters : List ℕ) → Room symbols names places cells letters → c ≤ 64
    → LinesSoFar goal symbols names places c names places cells letters 0 1
    (record { constraints = 0; letters = 0; constants = c })
unfolding goal_draft_of letters_of cell_constraints
lines_start goal symbols names places c cells letters room few =
    record {
      within = omega arith;
      numbered = omega arith;
      fits = record {
        few = omega arith;
        few-constants = few;
        lettered = record {
          few = omega arith;
          capital = λ i h. absurd (omega arith);
          distinct = λ i j h l. absurd (omega arith);
        };
      };
      outside = outside-same names;
      room = room;
      left = λ k size. refl;
      placed = λ program d. d;
    }

module _ (goal symbols names₀ places₀ : List ℕ) (c : ℕ) (names places cells letters : List ℕ) (at n : ℕ) (s : GoalCounts)
    (w : LinesSoFar goal symbols names₀ places₀ c names places cells letters at n s) where
  pub lines_end : length goal ≤ at → GoalLinesIn goal symbols names₀ places₀ c names places cells letters (Ok s)
  unfolding goal_lines_answer read_goal_lines
  lines_end h =
      record {
        answers = λ k size.
            ap (read_goal_lines (symbols_of names₀ symbols k) n (goal_draft_of names cells letters s)) (sym (lines-done goal at h))
            ∙ w.left k size;
        fits = w.fits;
        outside = w.outside;
        placed = w.placed;
        room = w.room;
      }

  module _ (h : at < length goal) (f : Fields) (split : SplitAt goal at f) where
    -- a line that is faulty
    pub lines-faulty : f.faulty ≡ true → GoalLinesIn goal symbols names₀ places₀ c names places cells letters (Err (fault_at LineFaulty n))
    unfolding goal_lines_answer read_goal_lines read_goal_line
    lines-faulty e =
        record {
          answers = λ k size.
              sym (ap (read_goal_lines (symbols_of names₀ symbols k) n (goal_draft_of names cells letters s)) (lines_at goal at h)
              ∙ rw (sym split.faulty ∙ e) refl) ∙ w.left k size;
          fits = tt;
          outside = w.outside;
          placed = w.placed;
          room = w.room;
        }

    module _ (fine : f.faulty ≡ false) where
      abbrev line-fields : List (List ℕ)
      line-fields = fields (line_from goal at).bytes

      line-is : (S : List Symbol)
          → read_goal_lines S n (goal_draft_of names cells letters s) (lines (drop at goal))
          ≡ and_then (read_goal_fields S n line-fields (goal_draft_of names cells letters s))
          (λ e. read_goal_lines S (suc n) e (lines (drop (f.end + 1) goal)))
      unfolding read_goal_lines read_goal_line
      line-is S = rw (lines_split goal at f split h fine, line-fine goal at f split fine)

      module _ (names' places' cells' letters' : List ℕ) (r : Result GoalCounts Fault)
          (g : GoalLineIn f s symbols names places cells letters names' places' cells' letters' r) where
        answered : (k : ℕ) → length symbols ≡ 2 * k
            → and_then (goal_line_answer names' cells' letters' n r)
            (λ e. read_goal_lines (symbols_of names₀ symbols k) (suc n) e (lines (drop (f.end + 1) goal)))
            ≡ read_goal_lines (symbols_of names₀ symbols k) 1 (record {
              constraints = [];
              letters = [];
              constants = constants_of
                  names₀ c;
            })
            (lines goal)
        answered k size =
            let S = symbols_of names₀ symbols k in
            let same : symbols_of names symbols k ≡ S = symbols-outside names₀ names symbols k w.outside size
            w.room.few-symbols in
            ap (λ (a : Answer GoalDraft). and_then a (λ e. read_goal_lines S (suc n) e (lines (drop (f.end + 1) goal))))
            (g.answers line-fields n k (split.holds fine) (fields-some (line_from goal at).bytes) size
            ∙ ap (λ (l : List Symbol). read_goal_fields l n line-fields (goal_draft_of names cells letters s)) same)
            ∙ sym (line-is S) ∙ w.left k size

        placed_on : (program : List ℕ) → Placed program goal names₀ places₀ → Placed program goal names' places'
        placed_on program p =
            g.keeps.keeps program goal line-fields (split.holds fine)
            (spelled-goal line-fields f program goal (split.stands fine)) (w.placed program p)

        room-on : Room symbols names' places' cells' letters'
        room-on =
            record {
              few-symbols = w.room.few-symbols;
              names-size = g.outside.size ∙ w.room.names-size;
              places-size = g.places-size ∙ w.room.places-size;
              cells-size = omega (arith, g.cells-size, w.room.cells-size);
              letters-size = g.letters-size ∙ w.room.letters-size;
            }

        pub lines-refused : (x : Fault) → r ≡ Err x
            → GoalLinesIn goal symbols names₀ places₀ c names' places' cells' letters' (Err (fault_at x n))
        unfolding goal_lines_answer goal_line_answer
        lines-refused x e =
            record {
              answers = λ k size. rw e at (answered k size);
              fits = tt;
              outside = outside_trans w.outside g.outside;
              placed = placed_on;
              room = room-on;
            }

        pub lines_next : (next : GoalCounts) → r ≡ Ok next
            → LinesSoFar goal symbols names₀ places₀ c names' places' cells' letters' (f.end + 1) (n + 1) next
        unfolding goal_line_answer
        lines_next next e =
            record {
              within = omega (arith, split.inside fine);
              numbered = omega (arith, w.numbered, split.begun fine);
              fits = rw e at g.fits;
              outside = outside_trans w.outside g.outside;
              room = room-on;
              left = λ k size. rw (add-one n) (rw e at (answered k size));
              placed = placed_on;
            }

-- a goal's text, by what decides it
pub goal-long :
    (goal symbols names places : List ℕ) (c : ℕ) (cells letters : List ℕ) → 16384 < length goal
    → Room symbols names places cells letters → GoalIn goal symbols names places c names places cells letters (Err (fault_at TextTooLong 0))
unfolding goal_answer read_goal
goal-long goal symbols names places c cells letters h room =
    record {
      answers = λ k size. rw (lt-ltb 16384 (length goal) h);
      fits = tt;
      outside = outside-same names;
      placed = λ program d. d;
      room = room;
    }

-- the counts behind all lines, where none is refused
pub counts-fit :
    {goal symbols names places : List ℕ} {c : ℕ} {names' places' cells' letters' : List ℕ} {r : Result GoalCounts FaultAt} (s : GoalCounts)
    → r ≡ Ok s → GoalLinesIn goal symbols names places c names' places' cells' letters' r → GoalFits letters' s
counts-fit s e g = rw e at g.fits

module _ (goal symbols names places : List ℕ) (c : ℕ) (names' places' cells' letters' : List ℕ) (h : length goal ≤ 16384) (r
    : Result GoalCounts FaultAt)
    (g : GoalLinesIn goal symbols names places c names' places' cells' letters' r) where
  abbrev checked : List Symbol → GoalDraft → Answer GoalReading
  checked S d =
      refuse_if (ltb 512 (weight S d.constraints)) 10 0
      (accepted
      (record {
        goal = record { variables = length d.letters; constraints = d.constraints };
        letters = d.letters;
        constants = d.constants;
      }))

  short : (k : ℕ) → length symbols ≡ 2 * k
      → read_goal (symbols_of names symbols k) (constants_of names c) goal
      ≡ and_then (goal_lines_answer names' cells' letters' r) (checked (symbols_of names symbols k))
  unfolding read_goal
  short k size = rw (le-ltb 16384 (length goal) h, g.answers k size)

  pub goal-lines : (at : FaultAt) → r ≡ Err at
      → GoalIn goal symbols names places c names' places' cells' letters' (Err at)
  unfolding goal_answer goal_lines_answer
  goal-lines at e =
      record {
        answers = λ k size. sym (rw e at (short k size));
        fits = tt;
        outside = g.outside;
        placed = g.placed;
        room = g.room;
      }

  module _ (s : GoalCounts) (e : r ≡ Ok s) (x : ℕ)
      (q : (names : List ℕ) (k : ℕ) → length symbols ≡ 2 * k
      → x ≡ weight (symbols_of names symbols k) (cell_constraints (take (5 * s.constraints) cells'))) where
    weighed : (k : ℕ) → length symbols ≡ 2 * k
        → read_goal (symbols_of names symbols k) (constants_of names c) goal
        ≡ refuse_if (ltb 512 x) 10 0 (accepted (goal_reading_of names' cells' letters' s))
    unfolding goal_lines_answer goal_draft_of goal_reading_of
    weighed k size =
        rw e at (short k size)
        ∙ rw (← q names k size, letters-length letters' s.letters) refl

    pub goal-heavy : 512 < x → GoalIn goal symbols names places c names' places' cells' letters' (Err (fault_at GoalTooHeavy 0))
    unfolding goal_answer
    goal-heavy z =
        record {
          answers = λ k size. sym (weighed k size ∙ rw (lt-ltb 512 x z) refl);
          fits = tt;
          outside = g.outside;
          placed = g.placed;
          room = g.room;
        }

    pub goal-read : x ≤ 512 → GoalIn goal symbols names places c names' places' cells' letters' (Ok s)
    unfolding goal_answer
    goal-read z =
        record {
          answers = λ k size. sym (weighed k size ∙ rw (le-ltb 512 x z) refl);
          fits = counts-fit s e g;
          outside = g.outside;
          placed = g.placed;
          room = g.room;
        }
