-- Laws of a line by its form and its section, of all lines, and of a program's text.
--   line-placeless, line-symbol, line-rule, line-adds, line-none    a line, by what decides it
--   begun-.., first-section                 where a line of a form stands
--   LinesSoFar, lines-..                  the lines of a text, as far as they are read
--   program-..                            a program's text
-- Assumes nothing.
use mathlib.Core.Path.{◌≡◌, refl, sym, ap, ap₂, ◌∙◌}
use mathlib.Core.Bool.{true, false}
use mathlib.Core.List.{List, [], map}
use mathlib.Core.Option.{Option, none, some}
use Prim.Native.Nat.{ℕ, suc, ◌+◌, ◌-◌, ◌*◌, ◌≤◌, ◌<◌}
use native.Mathlib.Numerals.{add-one}
use native.Mathlib.Omega.{arith}
use borrow.Author.Tests.{lt-ltb, le-ltb}
use lib.ListN.{length, take, drop, get_or, length-take}
use lib.Seq.{take-take, length-take-le}
use Rattle.std.specs.Prelude.{Option as Perhaps, Some, None, Result, Ok, Err}
use Rattle.faults.specs.Faults.{fault_at}
use Rattle.faults.specs.declared.Fault.{Fault}
use Rattle.faults.specs.declared.Fault.TheVariants.{TextTooLong, LineFaulty, FormMisplaced}
use Rattle.faults.specs.declared.FaultAt.{FaultAt}
use Rattle.text.specs.Lists.{onward}
use Rattle.text.specs.Lines.{Line, lines}
use Rattle.text.specs.Fields.{fields}
use Rattle.text.specs.Keys.{key_of}
use Rattle.text.specs.Splits.{line_from, Holds, SplitAt}
use Rattle.text.specs.declared.fields.Fields.{Fields}
use Rattle.text.proofs.Laws.{drop-take}
use Rattle.text.proofs.LineLaws.{fields-some}
use Rattle.text.proofs.SplitLaws.{lines_at, lines_split, lines-done, line-fine}
use Rattle.semantics.specs.Terms.{Symbol, Rule}
use Rattle.syntax.specs.Answers.{Answer, refused, accepted, and_then}
use Rattle.syntax.specs.Forms.{Form, symbol_form, rule_form, kept_form, head_form, body_form, equation_form, goal_form, no_form, form_of}
use Rattle.syntax.specs.Forms.{Section, in_symbols, in_kept, in_heads, in_body, in_equations, section_after, field_at}
use Rattle.syntax.specs.Programs.{RuleRead, Draft, Reading, blank, in_section, read_form, read_fields, read_line, read_lines}
use Rattle.syntax.specs.Programs.{check_rules, read_program}
use Rattle.syntax.proofs.Tabled.{tabled-same, map-tabled}
use Rattle.tables.specs.Rows.{symbols_of, constants_of, row_of, rule_of, rules_of}
use Rattle.tables.specs.Names.{Placed}
use Rattle.lines.specs.declared.Section.{Section as CodeSection}
use Rattle.lines.specs.declared.Section.TheVariants.{Symbols, Kept, Heads, Body, Equations}
use Rattle.lines.specs.Read.{section_meant, section_answer}
use Rattle.lines.proofs.Held.{key-at}
use Rattle.lines.proofs.Spelling.{spelled-program}
use Rattle.programs.specs.declared.Stage.{Stage}
use Rattle.programs.specs.declared.Counts.{Counts}
use Rattle.programs.specs.Read.{rule_read, rules_read, draft_of, line_answer, RowsFit, Sound, Begun, Room, SymbolIn}
use Rattle.programs.specs.Read.{RuleIn, AddsIn, LineIn, lines_answer, LinesIn, rules_answer, RulesIn, reading_of}
use Rattle.programs.specs.Read.{program_answer, program_fits, ProgramIn}
use Rattle.programs.proofs.Drafts.{kept_same}
use Rattle.programs.proofs.AddLaws.{symbols-used}

-- a K line leads to the section of symbols
symbols-only : (w v : Section) → section_after symbol_form w ≡ some v → v ≡ in_symbols
unfolding section_after
symbols-only in_symbols v z = cc
symbols-only in_kept v z = cc
symbols-only in_heads v z = cc
symbols-only in_body v z = cc
symbols-only in_equations v z = cc

section-first : (p : CodeSection) → section_meant p ≡ in_symbols → p ≡ Symbols
unfolding section_meant
section-first Symbols e = refl
section-first Kept e = cc
section-first Heads e = cc
section-first Body e = cc
section-first Equations e = cc

-- where a line of a form leads, if it may stand there
module _ (form : Form) (o : Perhaps CodeSection) (q : CodeSection) (led : section_answer o ≡ section_after form (section_meant q))
    (p : CodeSection) (l : o ≡ Some p) where
  leads : some (section_meant p) ≡ section_after form (section_meant q)
  leads = rw l at led

  pub first-section : form ≡ symbol_form → p ≡ Symbols
  first-section e = section-first p (symbols-only (section_meant q) (section_meant p) (sym (rw e at leads)))

  begun : section_after form in_symbols ≡ none → q ≡ Symbols → ⊥
  unfolding section_meant
  begun x z =
      let n : some (section_meant p) ≡ none = leads ∙ ap (λ (y : CodeSection). section_after form (section_meant y)) z ∙ x in
      cc

  pub begun_kept : form ≡ kept_form → q ≡ Symbols → ⊥
  unfolding section_after
  begun_kept e = begun (rw e)

  pub begun-head : form ≡ head_form → q ≡ Symbols → ⊥
  unfolding section_after
  begun-head e = begun (rw e)

  pub begun-body : form ≡ body_form → q ≡ Symbols → ⊥
  unfolding section_after
  begun-body e = begun (rw e)

  pub begun-equation : form ≡ equation_form → q ≡ Symbols → ⊥
  unfolding section_after
  begun-equation e = begun (rw e)

-- counts do not depend on the section
pub sound-moved : (rules : List ℕ) (s : Stage) (p : CodeSection) → Sound rules s
    → Sound rules (record { section = p; symbols = s.symbols; rules = s.rules; constants = s.constants })
sound-moved rules s p d =
    record { few-symbols = d.few-symbols; few-rules = d.few-rules; few-constants = d.few-constants; rows = d.rows }

-- a line of a form that leads to a section
module _ (f : Fields) (n : ℕ) (s : Stage) (names places symbols rules : List ℕ) (form : Form)
    (o : Perhaps CodeSection) (formed : (g : List ℕ) → get_or f.keys 0 0 ≡ key_of g → form ≡ form_of g)
    (led : section_answer o ≡ section_after form (section_meant s.section)) where
  first-form : (fs : List (List ℕ)) → Holds fs f → 0 < length fs → form ≡ form_of (field_at 0 fs)
  unfolding field_at
  first-form fs h some-field = formed (get_or fs 0 []) (key-at fs f.keys h.keyed 0 some-field (omega arith))

  onward-is : (fs : List (List ℕ)) (d : Draft) → Holds fs f → 0 < length fs → d.section ≡ section_meant s.section
      → read_fields n fs d
      ≡ onward (section_after form (section_meant s.section)) (refused 3 n) (λ section. read_form form n fs (in_section section d))
  unfolding read_fields
  onward-is fs d h some-field e = rw (← first-form fs h some-field, e)

  -- a line that may not stand there
  pub line-placeless : o ≡ None → LineIn f n s names places symbols rules names places symbols rules (Err FormMisplaced)
  unfolding line_answer draft_of
  line-placeless l =
      record {
        answers = λ fs h some-field.
            sym (onward-is fs (draft_of names symbols rules s) h some-field refl
            ∙ ap (λ (o : Option Section). onward o (refused 3 n) (λ section. read_form form n fs (in_section section
            (draft_of names symbols rules s)))) (sym (rw l at led)));
        sound = tt;
        kept = kept_same f names places;
        symbols-size = refl;
        rules-size = refl;
      }

  module _ (p : CodeSection) (l : o ≡ Some p) where
    abbrev at : Stage
    at = record { section = p; symbols = s.symbols; rules = s.rules; constants = s.constants }

    moved : (fs : List (List ℕ)) → Holds fs f → 0 < length fs
        → read_form form n fs (draft_of names symbols rules at) ≡ read_fields n fs (draft_of names symbols rules s)
    unfolding draft_of in_section
    moved fs h some-field =
        sym (onward-is fs (draft_of names symbols rules s) h some-field refl
        ∙ ap (λ (o : Option Section). onward o (refused 3 n) (λ section. read_form form n fs (in_section section
        (draft_of names symbols rules s)))) (sym (rw l at led)))

    -- a form that no line of a program has
    pub line-none : ((fs : List (List ℕ)) (d : Draft) → read_form form n fs d ≡ refused 3 n)
        → LineIn f n s names places symbols rules names places symbols rules (Err FormMisplaced)
    unfolding line_answer
    line-none e =
        record {
          answers = λ fs h some-field. sym (e fs (draft_of names symbols rules at)) ∙ moved fs h some-field;
          sound = tt;
          kept = kept_same f names places;
          symbols-size = refl;
          rules-size = refl;
        }

    pub line-symbol : {names' places' symbols' : List ℕ} {r : Result Stage Fault} → form ≡ symbol_form → Sound rules s → Begun s
        → SymbolIn f at names places symbols names' places' symbols' r
        → LineIn f n s names places symbols rules names' places' symbols' rules r
    unfolding read_form
    line-symbol e d b c =
        record {
          answers = λ fs h some-field.
              c.answers fs rules n h
              ∙ ap (λ (x : Form). read_form x n fs (draft_of names symbols rules at)) (sym e) ∙ moved fs h some-field;
          sound = c.sound rules (sound-moved rules s p d) (λ z. absurd (z (first-section form o s.section led p l e)));
          kept = c.kept;
          symbols-size = c.size;
          rules-size = refl;
        }

    pub line-rule : {names' places' rules' : List ℕ} {r : Result Stage Fault} → form ≡ rule_form
        → RuleIn f n at names places rules names' places' rules' r
        → LineIn f n s names places symbols rules names' places' symbols rules' r
    unfolding read_form
    line-rule e c =
        record {
          answers = λ fs h some-field.
              c.answers fs symbols h
              ∙ ap (λ (x : Form). read_form x n fs (draft_of names symbols rules at)) (sym e) ∙ moved fs h some-field;
          sound = c.sound;
          kept = c.kept;
          symbols-size = refl;
          rules-size = c.size;
        }

    pub line-adds : {form' : Form} {names' places' rules' : List ℕ} {r : Result Stage Fault} → form ≡ form'
        → AddsIn form' f at (take (2 * s.symbols) symbols) names places rules names' places' rules' r
        → LineIn f n s names places symbols rules names' places' symbols rules' r
    line-adds e c =
        record {
          answers = λ fs h some-field.
              c.answers fs symbols n h refl
              ∙ ap (λ (x : Form). read_form x n fs (draft_of names symbols rules at)) (sym e) ∙ moved fs h some-field;
          sound = c.sound;
          kept = c.kept;
          symbols-size = refl;
          rules-size = c.size;
        }

pub goal-form : (n : ℕ) (fs : List (List ℕ)) (d : Draft) → read_form goal_form n fs d ≡ refused 3 n
unfolding read_form
goal-form n fs d = refl

pub no-form : (n : ℕ) (fs : List (List ℕ)) (d : Draft) → read_form no_form n fs d ≡ refused 3 n
unfolding read_form
no-form n fs d = refl

-- the lines of a text, as far as they are read
pub record LinesSoFar (text names₀ places₀ names places symbols rules : List ℕ) (at n : ℕ) (s : Stage) : Type 0 where
  pub within : at ≤ length text
  pub short : length text ≤ 16384
  pub numbered : n ≤ at + 1
  pub sound : Sound rules s
  pub started : Begun s
  pub room : Room names places symbols rules
  pub left : read_lines n (draft_of names symbols rules s) (lines (drop at text)) ≡ read_lines 1 blank (lines text)
  pub placed : (goal : List ℕ) → Placed text goal names₀ places₀ → Placed text goal names places

pub lines_start : (text names places symbols rules : List ℕ) → Room names places symbols rules → length text ≤ 16384
    → LinesSoFar text names places names places symbols rules 0 1
    (record { section = Symbols; symbols = 0; rules = 0; constants = 0 })
unfolding draft_of blank symbols_of rules_read constants_of section_meant
lines_start text names places symbols rules room short =
    record {
      within = omega arith;
      short = short;
      numbered = omega arith;
      sound = record {
        few-symbols = omega arith;
        few-rules = omega arith;
        few-constants = omega arith;
        rows = λ i h. absurd (omega arith);
      };
      started = λ h. absurd (h refl);
      room = room;
      left = refl;
      placed = λ goal d. d;
    }

module _ (text names₀ places₀ names places symbols rules : List ℕ) (at n : ℕ) (s : Stage)
    (w : LinesSoFar text names₀ places₀ names places symbols rules at n s) where
  pub lines_end : length text ≤ at → LinesIn text names₀ places₀ names places symbols rules (Ok s)
  unfolding lines_answer read_lines
  lines_end h =
      record {
        answers =
            ap (read_lines n (draft_of names symbols rules s)) (sym (lines-done text at h)) ∙ w.left;
        sound = w.sound;
        placed = w.placed;
        room = w.room;
      }

  module _ (h : at < length text) (f : Fields) (split : SplitAt text at f) where
    -- a line that is faulty
    pub lines-faulty : f.faulty ≡ true → LinesIn text names₀ places₀ names places symbols rules (Err (fault_at LineFaulty n))
    unfolding lines_answer read_lines read_line
    lines-faulty e =
        record {
          answers =
              sym (ap (λ (ls : List Line). read_lines n (draft_of names symbols rules s) ls) (lines_at text at h)
              ∙ rw (sym split.faulty ∙ e) refl) ∙ w.left;
          sound = tt;
          placed = w.placed;
          room = w.room;
        }

    module _ (fine : f.faulty ≡ false) where
      abbrev fs : List (List ℕ)
      fs = fields (line_from text at).bytes

      line-is : read_lines n (draft_of names symbols rules s) (lines (drop at text))
          ≡ and_then (read_fields n fs (draft_of names symbols rules s)) (λ e. read_lines (suc n) e (lines (drop (f.end + 1) text)))
      unfolding read_lines read_line
      line-is = rw (lines_split text at f split h fine, line-fine text at f split fine)

      module _ (names' places' symbols' rules' : List ℕ) (r : Result Stage Fault)
          (c : LineIn f n s names places symbols rules names' places' symbols' rules' r) where
        answered : and_then (line_answer names' symbols' rules' n r) (λ e. read_lines (suc n) e (lines (drop (f.end + 1) text)))
            ≡ read_lines 1 blank (lines text)
        answered =
            ap (λ (a : Answer Draft). and_then a (λ e. read_lines (suc n) e (lines (drop (f.end + 1) text))))
            (c.answers fs (split.holds fine) (fields-some (line_from text at).bytes))
            ∙ sym line-is ∙ w.left

        placed_on : (goal : List ℕ) → Placed text goal names₀ places₀ → Placed text goal names' places'
        placed_on goal d =
            c.kept.keeps.keeps text goal fs (split.holds fine)
            (spelled-program fs f text goal (split.stands fine) w.short) (w.placed goal d)

        room-on : Room names' places' symbols' rules'
        room-on =
            record {
              names-size = c.kept.names-size ∙ w.room.names-size;
              places-size = c.kept.places-size ∙ w.room.places-size;
              symbols-size = c.symbols-size ∙ w.room.symbols-size;
              rules-size = c.rules-size ∙ w.room.rules-size;
            }

        pub lines-refused : (x : Fault) → r ≡ Err x
            → LinesIn text names₀ places₀ names' places' symbols' rules' (Err (fault_at x n))
        unfolding lines_answer line_answer
        lines-refused x e = record { answers = rw e at answered; sound = tt; placed = placed_on; room = room-on }

        pub lines_next : (next : Stage) → r ≡ Ok next
            → LinesSoFar text names₀ places₀ names' places' symbols' rules' (f.end + 1) (n + 1) next
        unfolding line_answer
        lines_next next e =
            let after : Sound rules' next × Begun next = rw e at c.sound in
            record {
              within = omega (arith, split.inside fine);
              short = w.short;
              numbered = omega (arith, w.numbered, split.begun fine);
              sound = after.0;
              started = after.1;
              room = room-on;
              left = rw (add-one n) (rw e at answered);
              placed = placed_on;
            }

-- the counts behind all lines, where none is refused
pub stage-sound :
    {text names places names' places' symbols' rules' : List ℕ} {r : Result Stage FaultAt} (s : Stage) → r ≡ Ok s
    → LinesIn text names places names' places' symbols' rules' r → Sound rules' s
stage-sound s e c = rw e at c.sound

-- a row of the used part of a table
row-used : (rules : List ℕ) (i n : ℕ) → i < n → row_of (take (64 * n) rules) i ≡ row_of rules i
row-used rules i n h =
    ap (take 64) (drop-take (64 * i) (64 * n) rules (omega arith))
    ∙ take-take 64 (64 * n - 64 * i) (drop (64 * i) rules) (omega arith)

-- and each of them fits
pub used-fit : (rules : List ℕ) (s : Stage) → Sound rules s → RowsFit (take (64 * s.rules) rules)
used-fit rules s d i h =
    let inside : i < s.rules = omega (arith, length-take (64 * s.rules) rules) in
    rw (row-used rules i s.rules inside) (d.rows i inside)

pub used-short : (n : ℕ) (l : List ℕ) → length l ≡ 2048 → length (take n l) ≤ 2048
used-short n l h = omega (arith, length-take n l)

-- a program's text, by what decides it
pub program-long : (text names places symbols rules : List ℕ) → 16384 < length text → Room names places symbols rules
    → ProgramIn text names places names places symbols rules (Err (fault_at TextTooLong 0))
unfolding program_answer read_program
program-long text names places symbols rules h room =
    record { answers = rw (lt-ltb 16384 (length text) h); fits = tt; placed = λ goal d. d; room = room }

module _ (text names places names' places' symbols' rules' : List ℕ) where
  module _ (h : length text ≤ 16384) (r : Result Stage FaultAt) (c : LinesIn text names places names' places' symbols' rules' r) where
    abbrev reading : Draft → Reading
    reading d = record {
      program = record { symbols = d.symbols; rules = map (λ q. q.rule) d.rules };
      constants =
          d.constants;
    }

    short : read_program text
        ≡ and_then (lines_answer names' symbols' rules' r) (λ d. check_rules d.symbols d.rules (accepted (reading d)))
    unfolding read_program
    short = rw (le-ltb 16384 (length text) h, c.answers)

    pub program-lines : (at : FaultAt) → r ≡ Err at → ProgramIn text names places names' places' symbols' rules' (Err at)
    unfolding program_answer lines_answer
    program-lines at e = record { answers = sym (rw e at short); fits = tt; placed = c.placed; room = c.room }

    module _ (s : Stage) (e : r ≡ Ok s) (q : Result (Unit {0}) FaultAt)
        (g : RulesIn (take (2 * s.symbols) symbols') (take (64 * s.rules) rules') q) where
      abbrev counts : Counts
      counts = record { symbols = s.symbols; rules = s.rules; constants = s.constants }

      sound : Sound rules' s
      sound = stage-sound s e c

      -- the rules of the used part are those of the table
      rules-used : rules_read names' (take (64 * s.rules) rules') s.rules ≡ rules_read names' rules' s.rules
      unfolding rules_read rule_read rule_of
      rules-used =
          tabled-same (rule_read names' (take (64 * s.rules) rules')) (rule_read names' rules') s.rules
          (λ i l. rw (row-used rules' i s.rules l))

      rules-are : map (λ x. x.rule) (rules_read names' rules' s.rules) ≡ rules_of names' rules' s.rules
      unfolding rules_read rule_read rules_of
      rules-are = map-tabled (λ (x : RuleRead). x.rule) (rule_read names' rules') s.rules

      checked : rules_answer q (accepted (reading_of names' symbols' rules' counts)) ≡ read_program text
      unfolding lines_answer draft_of reading_of
      checked =
          let S = symbols_of names' symbols' s.symbols in
          g.answers names' s.symbols s.rules (accepted (reading_of names' symbols' rules' counts))
          (length-take-le (2 * s.symbols) symbols' (omega (arith, c.room.symbols-size, sound.few-symbols)))
          (length-take-le (64 * s.rules) rules' (omega (arith, c.room.rules-size, sound.few-rules)))
          ∙ ap₂ (λ (l : List Symbol) (m : List RuleRead). check_rules l m (accepted (reading_of names' symbols' rules' counts)))
          (symbols-used names' symbols' s.symbols) rules-used
          ∙ ap (λ (rs : List Rule). check_rules S (rules_read names' rules' s.rules)
          (accepted (record { program = record { symbols = S; rules = rs }; constants = constants_of names' s.constants })))
          (sym rules-are)
          ∙ sym (rw e at short)

      fits : program_fits rules' (Ok counts)
      fits =
          record {
            few-symbols = sound.few-symbols;
            few-rules = sound.few-rules;
            few-constants = sound.few-constants;
            rows = sound.rows;
          }

      pub program-rules : (at : FaultAt) → q ≡ Err at → ProgramIn text names places names' places' symbols' rules' (Err at)
      unfolding program_answer rules_answer
      program-rules at z = record { answers = rw z at checked; fits = tt; placed = c.placed; room = c.room }

      pub program-read : (u : Unit {0}) → q ≡ Ok u → ProgramIn text names places names' places' symbols' rules' (Ok counts)
      unfolding program_answer rules_answer
      program-read u z = record { answers = rw z at checked; fits = fits; placed = c.placed; room = c.room }
