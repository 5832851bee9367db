-- Laws of J, H, B and E lines: their answers from what is found of the line, and the draft with the last rule changed.
--   draft-used, draft-grown    a draft over the used part of the symbols, and with its last rule changed
--   adds-..                    an H or B line
--   kept-refused, kept_next    a J line, by what is found of it as an H line
--   sides-..                   an E line
-- Assumes nothing.
use mathlib.Core.Path.{◌≡◌, refl, sym, ap, ap₂, ◌∙◌}
use mathlib.Core.Bool.{Bool, true, false, not, ◌&&◌}
use mathlib.Core.List.{List, [], ◌∷◌, map}
use Prim.Native.Nat.{ℕ, zero, suc, ◌+◌, ◌-◌, ◌*◌, ◌≤◌, ◌<◌}
use native.Mathlib.Numerals.{add-one}
use native.Mathlib.Omega.{arith}
use borrow.Author.Tests.{leb-false, le-leb, lt-leb, lt-ltb, le-ltb, ne_eqb, eq-eqb}
use lib.Dec.{leb, eqb}
use lib.ListN.{length, take, drop, get_or, set}
use lib.Seq.{paste, paste-zero, get_or-take}
use Rattle.std.specs.Prelude.{Result, Ok, Err}
use Rattle.faults.specs.Faults.{number_of}
use Rattle.faults.specs.declared.Fault.{Fault}
use Rattle.faults.specs.declared.Fault.TheVariants.{FieldsFaulty, LimitPassed}
use Rattle.text.specs.Lists.{every, index_of}
use Rattle.text.specs.Fields.{is_term}
use Rattle.text.specs.Constants.{constant_name}
use Rattle.text.specs.Splits.{Holds}
use Rattle.text.specs.declared.fields.Fields.{Fields}
use Rattle.text.proofs.Bools.{and-true}
use Rattle.semantics.specs.Terms.{Constraint, Symbol, Rule}
use Rattle.syntax.specs.Answers.{Answer, refused, accepted, and_then}
use Rattle.syntax.specs.Forms.{kept_form, head_form, equation_form, field_at, constants_after, term_of, letter_number, is_equation_faulty}
use Rattle.syntax.specs.Programs.{RuleRead, Draft, Found, constraint_line, on_last, last_rule, with_kept, with_head, with_equation}
use Rattle.syntax.specs.Programs.{with_rule, read_constraint, read_equation, read_form}
use Rattle.syntax.proofs.WellFormed.{or-neither, not-false}
use Rattle.syntax.proofs.Tabled.{tabled-same, name-most}
use Rattle.tables.specs.Layout.{first_rule}
use Rattle.tables.specs.Cells.{cell_term, row_constraint}
use Rattle.tables.specs.Rows.{symbol_of, symbols_of, constants_of, row_of}
use Rattle.lines.specs.declared.ConstraintRead.{ConstraintRead}
use Rattle.lines.specs.declared.TermsRead.{TermsRead}
use Rattle.lines.specs.Read.{Outside, KeepsPlaces, term_cell, padded, constraint_answer, Passed, TermsMean, TermsIn, ConstraintIn}
use Rattle.lines.proofs.HeadLaws.{symbols-same}
use Rattle.lines.proofs.TermCells.{cell-term}
use Rattle.lines.proofs.TermLaws.{constants-length}
use Rattle.programs.specs.declared.Stage.{Stage}
use Rattle.programs.specs.Read.{part_form, rules_read, draft_of, line_answer, RowFits, Sound, Kept, AddsIn, head_gained}
use Rattle.programs.proofs.Drafts.{row-cell, kept_same}
use Rattle.programs.proofs.Grown.{grown, grown-length, cell-counted, other-count, rules-grown, sound-grown, sides-grown}
use Rattle.programs.proofs.Grown.{constraints_in, with_constraint, constraint-grown, last-constraints, last-sides}
use Rattle.programs.proofs.Grown.{with_one_kept, kept-grown}

-- the symbols of a table, from its used part
pub symbols-used : (names symbols : List ℕ) (k : ℕ) → symbols_of names (take (2 * k) symbols) k ≡ symbols_of names symbols k
unfolding symbols_of symbol_of
symbols-used names symbols k =
    tabled-same (symbol_of names (take (2 * k) symbols)) (symbol_of names symbols) k
    (λ i h. rw (get_or-take (2 * k) symbols (2 * i) 0 (omega arith), get_or-take (2 * k) symbols (2 * i + 1) 0 (omega arith)))

-- what a line keeps, from what it does to the constants
kept-outside : (f : Fields) (names places names' places' : List ℕ) → Outside names names' → length places' ≡ length places
    → KeepsPlaces 0 f names places names' places' → Kept f names places names' places'
kept-outside f names places names' places' o e k = record { names-size = o.size; places-size = e; keeps = k }

-- the draft where the table's last rule is changed
draft-grown :
    (names symbols rules names' rules' : List ℕ) (s : Stage) (i count : ℕ) (f : Rule → Rule) → s.symbols ≤ 32 → s.rules ≡ suc i
    → Outside names names' → rules_read names' rules' (suc i) ≡ on_last f (rules_read names rules (suc i))
    → draft_of names' symbols rules' (record { section = s.section; symbols = s.symbols; rules = s.rules; constants = count })
    ≡ with_rule f (constants_of names' count) (draft_of names symbols rules s)
unfolding draft_of with_rule
draft-grown names symbols rules names' rules' s i count f few q o p =
    rw (q, p, symbols-same names symbols s.symbols names' (λ j h. o.symbols j (omega (arith, h, few))))

read-part : (w : ℕ) → w ≤ 1 → (n : ℕ) (fs : List (List ℕ)) (d : Draft)
    → read_form (part_form w) n fs d
    ≡ read_constraint (length (constraints_in w (last_rule d.rules))) (4 + 2 * w) (with_constraint w) n fs d
unfolding read_form part_form
read-part zero p n fs d = refl
read-part (suc zero) p n fs d = refl
read-part (suc (suc w)) p n fs d = absurd (omega arith)

-- the draft where one more head of the last rule is kept
abbrev one_kept : Draft → Answer Draft
one_kept d = accepted (with_rule with_one_kept d.constants d)

-- a J line is an H line whose head is kept
kept-last : (c : Constraint) (rs : List RuleRead) → on_last (with_kept c) rs ≡ on_last with_one_kept (on_last (with_head c) rs)
unfolding on_last with_kept with_head with_one_kept
kept-last c [] = refl
kept-last c (r ∷ []) = refl
kept-last c (r ∷ q ∷ []) = refl
kept-last c (r ∷ q ∷ p ∷ rs) = ap (λ (l : List RuleRead). r ∷ l) (kept-last c (q ∷ p ∷ rs))

read_kept : (n : ℕ) (fs : List (List ℕ)) (d : Draft) → and_then (read_form head_form n fs d) one_kept ≡ read_form kept_form n fs d
unfolding read_form read_constraint with_rule
read_kept n fs d = go (constraint_line (leb 4 (length (last_rule d.rules).heads)) d.symbols letter_number d.constants n fs)
  where
    go : (a : Answer Found)
        → and_then (and_then a (λ x. accepted (with_rule (with_head x.constraint) x.constants d))) one_kept
        ≡ and_then a (λ x. accepted (with_rule (with_kept x.constraint) x.constants d))
    go (refused x l) = refl
    go (accepted x) = rw (kept-last x.constraint d.rules) refl

few-constraints : (row : List ℕ) (w : ℕ) → w ≤ 1 → RowFits row → get_or row (3 + w) 0 ≤ 4 + 2 * w
few-constraints row zero p fits = fits.heads
few-constraints row (suc zero) p fits = fits.body
few-constraints row (suc (suc w)) p fits = absurd (omega arith)

-- number 4 of an E line
pub sides-few : (fs : List (List ℕ)) → (length fs ≡ 3 → ⊥) → is_equation_faulty fs ≡ true
unfolding is_equation_faulty
sides-few fs h = rw (ne_eqb (length fs) 3 h)

pub sides-shape : (fs : List (List ℕ)) → length fs ≡ 3 → is_equation_faulty fs ≡ not (every is_term (drop 1 fs))
unfolding is_equation_faulty
sides-shape fs h = rw (eq-eqb (length fs) 3 h)

-- two terms as cells
two-sides :
    (cs fs : List (List ℕ)) (cells : List ℕ) → length fs ≡ 3 → every is_term (drop 1 fs) ≡ true
    → cells ≡ padded 4 (map (term_cell cs) (drop 1 fs)) → ((g : List ℕ) → index_of g cs < 192)
    → (cell_term (get_or cells 0 0) ≡ term_of letter_number cs (field_at 1 fs))
    × (cell_term (get_or cells 1 0) ≡ term_of letter_number cs (field_at 2 fs))
unfolding field_at padded
two-sides cs [] cells h t e few = absurd (omega arith)
two-sides cs (x ∷ []) cells h t e few = absurd (omega arith)
two-sides cs (x ∷ y ∷ []) cells h t e few = absurd (omega arith)
two-sides cs (x ∷ y ∷ z ∷ []) cells h t e few =
    let (p, more) = and-true (is_term y) (is_term z && true) t in
    let (q, _) = and-true (is_term z) true more in (
      ap (λ (l : List ℕ). cell_term (get_or l 0 0)) e ∙ cell-term cs y p (few (constant_name y)),
      ap (λ (l : List ℕ). cell_term (get_or l 1 0)) e ∙ cell-term cs z q (few (constant_name z)),
    )
two-sides cs (x ∷ y ∷ z ∷ w ∷ fs) cells h t e few = absurd (omega arith)

module _ (f : Fields) (s : Stage) (names places rules : List ℕ) (size : length rules ≡ 2048) (sound : Sound rules s)
    (begun : 0 < s.rules) where
  abbrev i : ℕ
  i = s.rules - 1

  q : s.rules ≡ suc i
  q = omega (arith, begun)

  room : 64 * i + 64 ≤ length rules
  room = omega (arith, size, sound.few-rules, begun)

  fits : RowFits (row_of rules i)
  fits = sound.rows i (omega (arith, begun))

  few-heads : get_or rules (64 * i + 3) 0 ≤ 4
  few-heads = omega (arith, row-cell rules i 3 (omega arith), fits.heads)

  few-body : get_or rules (64 * i + 4) 0 ≤ 6
  few-body = omega (arith, row-cell rules i 4 (omega arith), fits.body)

  few-sides : get_or rules (64 * i + 5) 0 ≤ 4
  few-sides = omega (arith, row-cell rules i 5 (omega arith), fits.equations)

  abbrev next : ℕ → Stage
  next count = record { section = s.section; symbols = s.symbols; rules = s.rules; constants = count }

  -- an H or B line, by what is found of it
  module _ (w h : ℕ) (p : w ≤ 1) (e : h ≡ get_or rules (64 * i + (3 + w)) 0) (used names' places' : List ℕ)
      (sized : length used ≡ 2 * s.symbols) (r : Result ConstraintRead Fault)
      (full : Bool) (found : ConstraintIn f full 0 s.constants used names places names' places' r)
      (Full-is : full ≡ leb (4 + 2 * w) h) where
    c : ConstraintIn f (leb (4 + 2 * w) h) 0 s.constants used names places names' places' r
    c = rw Full-is at found

    pub adds-few : h ≤ 4 + 2 * w
    adds-few = omega (arith, e, row-cell rules i (3 + w) (omega arith), few-constraints (row_of rules i) w p fits)

    abbrev added : Draft → Found → Answer Draft
    added d x = accepted (with_rule (with_constraint w x.constraint) x.constants d)

    via : (fs : List (List ℕ)) (symbols : List ℕ) (n : ℕ) → Holds fs f → take (2 * s.symbols) symbols ≡ used
        → and_then (constraint_answer names' n r) (added (draft_of names symbols rules s))
        ≡ read_form (part_form w) n fs (draft_of names symbols rules s)
    unfolding draft_of read_constraint
    via fs symbols n hold u =
        let d = draft_of names symbols rules s in
        let same : symbols_of names used s.symbols ≡ symbols_of names symbols s.symbols =
        ap (λ (l : List ℕ). symbols_of names l s.symbols) (sym u) ∙ symbols-used names symbols s.symbols in
        let count : length (constraints_in w (last_rule (rules_read names rules s.rules))) ≡ h =
        ap (λ (m : ℕ). length (constraints_in w (last_rule (rules_read names rules m)))) q
        ∙ last-constraints names rules i room w h p e adds-few in
        ap (λ (a : Answer Found). and_then a (added d)) (c.answers fs n s.symbols hold sized)
        ∙ ap₂ (λ (m : ℕ) (l : List Symbol). and_then (constraint_line (leb (4 + 2 * w) m) l letter_number
        (constants_of names s.constants) n fs) (added d)) (sym count) same
        ∙ sym (read-part w p n fs d)

    pub adds-refused : (x : Fault) → r ≡ Err x
        → AddsIn (part_form w) f s used names places rules names' places' rules (Err x)
    unfolding line_answer
    adds-refused x z =
        record {
          answers = λ fs symbols n hold u.
              ap (λ (a : Answer Found). and_then a (added (draft_of names symbols rules s)))
              (sym (ap (constraint_answer names' n) z))
              ∙ via fs symbols n hold u;
          sound = tt;
          kept = kept-outside f names places names' places' c.outside c.sized c.keeps;
          size = refl;
        }

    module _ (got : ConstraintRead) (z : r ≡ Ok got) where
      cells-five : length got.cells ≡ 5
      cells-five = rw z at c.size

      few-after : got.count ≤ 64
      few-after = rw z at c.few

      pub adds-room : h < 4 + 2 * w
      adds-room = leb-false (4 + 2 * w) h (rw z at c.room)

      pub adds_fit : (64 * i + (6 + 20 * w + 5 * h) + length got.cells ≤ length rules)
          × (64 * i + (3 + w) < 64 * i + (6 + 20 * w + 5 * h)) × (get_or rules (64 * i + (3 + w)) 0 < 65535)
      adds_fit = (omega (arith, room, cells-five, adds-room), omega arith, omega (arith, e, adds-room))

      pub adds-next : (rules' : List ℕ)
          → rules' ≡ set (paste rules (64 * i + (6 + 20 * w + 5 * h)) got.cells (length got.cells)) (64 * i + (3 + w))
          (suc (get_or rules (64 * i + (3 + w)) 0))
          → AddsIn (part_form w) f s used names places rules names' places' rules' (Ok (next got.count))
      unfolding line_answer
      adds-next rules' g =
          let at : ℕ = 6 + 20 * w + 5 * h in
          let less : h < 4 + 2 * w = adds-room in
          let five : length got.cells ≡ 5 = cells-five in
          let grow : rules' ≡ grown rules i (3 + w) at h got.cells room (omega arith) (omega arith) (omega arith) =
          g ∙ ap (λ (v : ℕ). set (paste rules (64 * i + at) got.cells (length got.cells)) (64 * i + (3 + w)) (suc v)) (sym e) in
          record {
            answers = λ fs symbols n hold u.
                ap accepted (draft-grown names symbols rules names' rules' s i got.count (with_constraint w (row_constraint
                got.cells))
                sound.few-symbols q c.outside
                (ap (λ (l : List ℕ). rules_read names' l (suc i)) grow
                ∙ rules-grown rules i (3 + w) at h got.cells room (omega arith) (omega arith) (omega arith) names names'
                (with_constraint w (row_constraint got.cells)) (λ j k. c.outside.rules (first_rule + j) (omega arith))
                (λ y. omega (arith, y))
                (constraint-grown names rules i room h got.cells five few-heads w p e less)))
                ∙ ap (λ (a : Answer Found). and_then a (added (draft_of names symbols rules s))) (sym (ap (constraint_answer names' n) z))
                ∙ via fs symbols n hold u;
            sound = (
              rw grow (sound-grown rules i (3 + w) at h got.cells room (omega arith) (omega arith) (omega arith) s
                  got.count
                  q sound few-after e (λ y. omega (arith, y)) (λ y. omega (arith, y)) (λ y. omega (arith, y))
                  (λ y. omega (arith, y))),
              λ _. begun,
            );
            kept = kept-outside f names places names' places' c.outside c.sized c.keeps;
            size = ap length grow ∙ grown-length rules i (3 + w) at h got.cells room (omega arith) (omega arith) (omega arith);
          }

      -- a head that is added is not kept
      pub adds-gained : (rules' : List ℕ)
          → rules' ≡ set (paste rules (64 * i + (6 + 20 * w + 5 * h)) got.cells (length got.cells)) (64 * i + (3 + w))
          (suc (get_or rules (64 * i + (3 + w)) 0))
          → head_gained w s rules' (Ok (next got.count))
      adds-gained rules' g =
          let at : ℕ = 6 + 20 * w + 5 * h in
          let less : h < 4 + 2 * w = adds-room in
          let five : length got.cells ≡ 5 = cells-five in
          let grow : rules' ≡ grown rules i (3 + w) at h got.cells room (omega arith) (omega arith) (omega arith) =
          g ∙ ap (λ (v : ℕ). set (paste rules (64 * i + at) got.cells (length got.cells)) (64 * i + (3 + w)) (suc v)) (sym e) in
          let kept : get_or rules' (64 * i + 1) 0 ≡ get_or rules (64 * i + 1) 0 =
          ap (λ (l : List ℕ). get_or l (64 * i + 1) 0) grow
          ∙ other-count rules i (3 + w) at h got.cells room (omega arith) (omega arith) (omega arith) 1 (omega arith)
          (λ z. omega (arith, z)) in
          let heads : get_or rules' (64 * i + (3 + w)) 0 ≡ suc h =
          ap (λ (l : List ℕ). get_or l (64 * i + (3 + w)) 0) grow
          ∙ cell-counted rules i (3 + w) at h got.cells room (omega arith) (omega arith) (omega arith) in (
            refl,
            λ first. (let same : get_or rules (64 * i + (3 + w)) 0 ≡ get_or rules (64 * i + 3) 0 =
                ap (λ (v : ℕ). get_or rules (64 * i + (3 + v)) 0) first in
                let more : get_or rules' (64 * i + (3 + w)) 0 ≡ get_or rules' (64 * i + 3) 0 =
                ap (λ (v : ℕ). get_or rules' (64 * i + (3 + v)) 0) first in
                omega (
                  arith,
                  kept,
                  heads,
                  same,
                  more,
                  e,
                  fits.kept,
                  row-cell rules i 1 (omega arith),
                  row-cell rules i 3 (omega arith),
                  row-cell rules' i 1 (omega arith),
                  row-cell rules' i 3 (omega arith),
                )),
          )

  -- a J line, by what is found of it as an H line
  module _ (used names' places' rules' : List ℕ) (r : Result Stage Fault)
      (c : AddsIn head_form f s used names places rules names' places' rules' r) where
    pub kept-refused : (x : Fault) → r ≡ Err x
        → AddsIn kept_form f s used names places rules names' places' rules' (Err x)
    unfolding line_answer
    kept-refused x z =
        let d : AddsIn head_form f s used names places rules names' places' rules' (Err x) = rw z at c in
        record {
          answers = λ fs symbols n hold u.
              ap (λ (a : Answer Draft). and_then a one_kept) (d.answers fs symbols n hold u)
              ∙ read_kept n fs (draft_of names symbols rules s);
          sound = tt;
          kept = d.kept;
          size = d.size;
        }

    module _ (t : Stage) (z : r ≡ Ok t) (gained : head_gained 0 s rules' r) where
      abbrev k : ℕ
      k = get_or rules' (64 * i + 1) 0

      as-head : AddsIn head_form f s used names places rules names' places' rules' (Ok t)
      as-head = rw z at c

      gains : head_gained 0 s rules' (Ok t)
      gains = rw z at gained

      same-rules : t.rules ≡ suc i
      same-rules = gains.0 ∙ q

      kept-room : 64 * i + 64 ≤ length rules'
      kept-room = omega (arith, room, as-head.size)

      pub kept_small : k < get_or rules' (64 * i + 3) 0
      kept_small =
          omega (arith, gains.1 refl, row-cell rules' i 1 (omega arith), row-cell rules' i 3 (omega arith))

      pub kept_next : (rules'' : List ℕ) → rules'' ≡ set rules' (64 * i + 1) (k + 1)
          → AddsIn kept_form f s used names places rules names' places' rules'' (Ok t)
      unfolding line_answer draft_of
      kept_next rules'' g =
          let grow : rules'' ≡ grown rules' i 1 6 k [] kept-room (omega arith) (omega arith) (omega arith) =
          g ∙ ap₂ (λ (l : List ℕ) (v : ℕ). set l (64 * i + 1) v) (paste-zero rules' (64 * i + 6) []) (add-one k) in
          let same : Outside names' names' = record { size = refl; symbols = λ j h. refl; rules = λ j h. refl } in
          record {
            answers = λ fs symbols n hold u.
                ap accepted (draft-grown names' symbols rules' names' rules'' t i t.constants with_one_kept
                as-head.sound.0.few-symbols same-rules same
                (ap (λ (l : List ℕ). rules_read names' l (suc i)) grow
                ∙ rules-grown rules' i 1 6 k [] kept-room (omega arith) (omega arith) (omega arith) names' names' with_one_kept
                (λ j h. refl) (λ y. omega (arith, y)) (kept-grown names' rules' i kept-room k refl)))
                ∙ ap (λ (a : Answer Draft). and_then a one_kept) (as-head.answers fs symbols n hold u)
                ∙ read_kept n fs (draft_of names symbols rules s);
            sound = (
              rw grow (sound-grown rules' i 1 6 k [] kept-room (omega arith) (omega arith) (omega arith) t t.constants
                  same-rules as-head.sound.0 as-head.sound.0.few-constants refl (λ y. kept_small)
                  (λ y. omega (arith, y)) (λ y. omega (arith, y)) (λ y. omega (arith, y))),
              as-head.sound.1,
            );
            kept = as-head.kept;
            size = ap length grow
                ∙ grown-length rules' i 1 6 k [] kept-room (omega arith) (omega arith) (omega arith) ∙ as-head.size;
          }

  -- an E line, by the test that decides it
  module _ (used : List ℕ) where
    sides-refused : (x : Fault) (names' places' : List ℕ)
        → ((fs : List (List ℕ)) (symbols : List ℕ) (n : ℕ) → Holds fs f
        → refused (number_of x) n ≡ read_form equation_form n fs (draft_of names symbols rules s))
        → Kept f names places names' places'
        → AddsIn equation_form f s used names places rules names' places' rules (Err x)
    unfolding line_answer
    sides-refused x names' places' g k = record {
      answers = λ fs symbols n h u. g fs symbols n h;
      sound = tt;
      kept = k;
      size = refl;
    }

    pub sides-faulty : ((fs : List (List ℕ)) → Holds fs f → true ≡ is_equation_faulty fs)
        → AddsIn equation_form f s used names places rules names places rules (Err FieldsFaulty)
    unfolding read_form read_equation
    sides-faulty g = sides-refused FieldsFaulty names places (λ fs symbols n h. rw (← g fs h)) (kept_same f names places)

    module _ (fine : (fs : List (List ℕ)) → Holds fs f → false ≡ is_equation_faulty fs) (three : f.count ≡ 3) (h : ℕ)
        (e : h ≡ get_or rules (64 * i + 5) 0) where
      sides-count : length (last_rule (rules_read names rules s.rules)).equations ≡ h
      sides-count =
          ap (λ (m : ℕ). length (last_rule (rules_read names rules m)).equations) q
          ∙ last-sides names rules i room h e (omega (arith, e, few-sides))

      pub sides-full : 4 ≤ h → AddsIn equation_form f s used names places rules names places rules (Err LimitPassed)
      unfolding read_form read_equation draft_of
      sides-full k =
          sides-refused LimitPassed names places (λ fs symbols n hold. rw (← fine fs hold, sides-count, le-leb 4 h k)) (kept_same f
          names places)

      module _ (k : h < 4) (names' places' : List ℕ) (r : Result TermsRead Fault)
          (c : TermsIn f 1 0 s.constants names places names' places' r) where
        terms : (fs : List (List ℕ)) → Holds fs f → every is_term (drop 1 fs) ≡ true
        unfolding is_equation_faulty
        terms fs hold =
            not-false _ (or-neither (not (eqb (length fs) 3)) (not (every is_term (drop 1 fs))) (sym (fine fs hold))).1

        abbrev after : List (List ℕ) → List (List ℕ)
        after fs = constants_after (drop 1 fs) (constants_of names s.constants)

        pub sides-many : (x : Fault) → r ≡ Err x
            → AddsIn equation_form f s used names places rules names' places' rules (Err x)
        unfolding read_form read_equation draft_of
        sides-many x z =
            sides-refused x names' places'
            (λ fs symbols n hold.
            (let passed : Passed (after fs) x = rw z at (c.means fs hold (terms fs hold)) in
            ap (λ (y : Fault). refused (number_of y) n) passed.fault
            ∙ rw (
              ← fine fs hold,
              sides-count,
              lt-leb 4 h k,
              lt-ltb 64 (length (after fs)) passed.many,
            ) refl))
            (kept-outside f names places names' places' c.outside c.sized c.keeps)

        module _ (t : TermsRead) (z : r ≡ Ok t) where
          few-later : t.count ≤ 64
          few-later = rw z at c.few

          means : (fs : List (List ℕ)) → Holds fs f → TermsMean (drop 1 fs) (constants_of names s.constants) names' t
          means fs hold = rw z at (c.means fs hold (terms fs hold))

          abbrev a : ℕ
          a = get_or t.cells 0 0

          abbrev b : ℕ
          b = get_or t.cells 1 0

          -- the cells of the two sides, and what they stand for
          module _ (fs : List (List ℕ)) (hold : Holds fs f) where
            size-after : length (after fs) ≤ 64
            size-after = omega (
              arith,
              ap length (sym ((means fs hold).after)),
              constants-length names' t.count,
              few-later,
            )

            sides-are : (cell_term a ≡ term_of letter_number (after fs) (field_at 1 fs)) × (cell_term b ≡ term_of letter_number
                (after fs) (field_at 2 fs))
            sides-are =
                two-sides (after fs) fs t.cells (omega (arith, hold.counted, three)) (terms fs hold)
                ((means fs hold).cells) (λ g. omega (arith, name-most g (after fs), size-after))

            sides-read : (symbols : List ℕ) (n : ℕ)
                → accepted (with_rule (with_equation (record { left = cell_term a; right = cell_term b })) (constants_of names'
                t.count)
                (draft_of names symbols rules s))
                ≡ read_form equation_form n fs (draft_of names symbols rules s)
            unfolding read_form read_equation draft_of
            sides-read symbols n =
                rw (
                  ← fine fs hold,
                  sides-count,
                  lt-leb 4 h k,
                  le-ltb 64 (length (after fs)) size-after,
                  sides-are.0,
                  sides-are.1,
                  (means fs hold).after,
                )

          pub sides-next : (rules' : List ℕ)
              → rules' ≡ set (paste rules (64 * i + (56 + 2 * h)) (a ∷ b ∷ []) 2) (64 * i + 5) (suc (get_or rules (64 * i + 5) 0))
              → AddsIn equation_form f s used names places rules names' places' rules' (Ok (next t.count))
          unfolding line_answer
          sides-next rules' g =
              let at : ℕ = 56 + 2 * h in
              let vs : List ℕ = a ∷ b ∷ [] in
              let add : Rule → Rule = with_equation (record { left = cell_term a; right = cell_term b }) in
              let grow : rules' ≡ grown rules i 5 at h vs room (omega arith) (omega arith) (omega arith) =
              g ∙ ap (λ (v : ℕ). set (paste rules (64 * i + at) vs 2) (64 * i + 5) (suc v)) (sym e) in
              record {
                answers = λ fs symbols n hold u.
                    ap accepted (draft-grown names symbols rules names' rules' s i t.count add sound.few-symbols q
                    c.outside
                    (ap (λ (l : List ℕ). rules_read names' l (suc i)) grow
                    ∙ rules-grown rules i 5 at h vs room (omega arith) (omega arith) (omega arith) names names' add
                    (λ j y. c.outside.rules (first_rule + j) (omega arith)) (λ y. omega (arith, y))
                    (sides-grown names rules i room h a b e k few-heads few-body)))
                    ∙ sides-read fs hold symbols n;
                sound = (
                  rw grow (sound-grown rules i 5 at h vs room (omega arith) (omega arith) (omega arith) s t.count
                      q sound few-later e (λ y. omega (arith, y)) (λ y. omega (arith, y)) (λ y. omega (arith, y))
                      (λ y. omega (arith, y))),
                  λ _. begun,
                );
                kept = kept-outside f names places names' places' c.outside c.sized c.keeps;
                size = ap length grow ∙ grown-length rules i 5 at h vs room (omega arith) (omega arith) (omega arith);
              }
