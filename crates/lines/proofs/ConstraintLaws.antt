-- Laws of an H, B or G line: numbers 4, 6 and 7, by the test that decides it.
--   constraint-refused       the line is refused for its form or its symbol
--   constraint-full          there are as many constraints as there may be
--   constraint-many          the constants pass the limit
--   constraint-read          the constraint
--   line_other               a line whose variables have other numbers
-- Assumes nothing.
use mathlib.Core.Path.{◌≡◌, refl, sym, ap, ap₂, ◌∙◌}
use mathlib.Core.Bool.{Bool, true, false, ◌||◌}
use mathlib.Core.List.{List, [], ◌∷◌, map}
use Prim.Native.Nat.{ℕ, zero, suc, ◌*◌, ◌≤◌, ◌<◌}
use native.Mathlib.Omega.{arith}
use borrow.Author.Tests.{lt-ltb, le-ltb}
use lib.Dec.{ltb}
use lib.ListN.{length, take, drop, get_or, length-drop}
use Rattle.std.specs.Prelude.{Result, Ok, Err}
use Rattle.faults.specs.Faults.{number_of}
use Rattle.faults.specs.declared.Fault.{Fault}
use Rattle.faults.specs.declared.Fault.TheVariants.{LimitPassed}
use Rattle.text.specs.Lists.{every}
use Rattle.text.specs.Fields.{is_term}
use Rattle.text.specs.Splits.{Holds}
use Rattle.text.specs.declared.fields.Fields.{Fields}
use Rattle.semantics.specs.Terms.{Symbol, Term}
use Rattle.syntax.specs.Answers.{Answer, refused, accepted, refuse_if, and_then}
use Rattle.syntax.specs.Forms.{field_at, constants_after, term_of, letter_number, is_constraint_faulty, symbol_number, is_undeclared}
use Rattle.syntax.specs.Forms.{constraint_of}
use Rattle.syntax.specs.Programs.{Found, constraint_line}
use Rattle.syntax.proofs.Tabled.{name-most}
use Rattle.tables.specs.Cells.{cell_terms, row_constraint}
use Rattle.tables.specs.Rows.{symbols_of, constants_of}
use Rattle.lines.specs.declared.TermsRead.{TermsRead}
use Rattle.lines.specs.Read.{constraint_head, head_answer}
use Rattle.lines.specs.Read.{Passed, TermsMean, TermsIn, ConstraintIn}
use Rattle.lines.proofs.Held.{fine-terms}
use Rattle.lines.proofs.HeadLaws.{symbols-front}
use Rattle.lines.proofs.TermCells.{padded-terms}
use Rattle.lines.proofs.TermLaws.{outside-same, constants-length}

-- a line, once its symbol is found
abbrev behind : Bool → (List ℕ → ℕ) → List (List ℕ) → ℕ → List (List ℕ) → ℕ → Answer Found
behind full variable constants n fs s =
    refuse_if (full || ltb 64 (length (constants_after (drop 2 fs) constants))) 7 n
    (accepted
    (record {
      constraint = record { symbol = s; terms = map (term_of variable (constants_after (drop 2 fs) constants)) (drop 2 fs) };
      constants = constants_after (drop 2 fs) constants;
    }))

line-parts :
    (full : Bool) (symbols : List Symbol) (variable : List ℕ → ℕ) (constants : List (List ℕ)) (n : ℕ) (fs : List (List ℕ))
    → constraint_line full symbols variable constants n fs
    ≡ and_then (constraint_head symbols n fs) (behind full variable constants n fs)
unfolding constraint_line constraint_head constraint_of
line-parts full symbols variable constants n fs =
    go (is_constraint_faulty fs) (is_undeclared symbols fs) (behind full variable constants n fs (symbol_number symbols (field_at
    1 fs)))
  where
    go : (a b : Bool) (more : Answer Found)
        → refuse_if a 4 n (refuse_if b 6 n (behind full variable constants n fs (symbol_number symbols (field_at 1 fs))))
        ≡ and_then (refuse_if a 4 n (refuse_if b 6 n (accepted (symbol_number symbols (field_at 1 fs)))))
        (behind full variable constants n fs)
    go true b more = refl
    go false true more = refl
    go false false more = refl

-- a line whose symbol is found is of the right form
head-fine : (symbols : List Symbol) (n s : ℕ) (fs : List (List ℕ)) → accepted s ≡ constraint_head symbols n fs
    → is_constraint_faulty fs ≡ false
unfolding constraint_head
head-fine symbols n s fs e = go (is_constraint_faulty fs) e
  where
    go : (a : Bool)
        → accepted s ≡ refuse_if a 4 n (refuse_if (is_undeclared symbols fs) 6 n (accepted (symbol_number symbols (field_at 1 fs))))
        → a ≡ false
    go true q = absurd (let z : ◌≡◌ {A = ℕ} 0 1 = cc in omega arith)
    go false q = refl

four-cells : (l : List ℕ) → length l ≡ 4 → get_or l 0 0 ∷ get_or l 1 0 ∷ get_or l 2 0 ∷ get_or l 3 0 ∷ [] ≡ l
four-cells [] h = absurd (omega arith)
four-cells (a ∷ []) h = absurd (omega arith)
four-cells (a ∷ b ∷ []) h = absurd (omega arith)
four-cells (a ∷ b ∷ c ∷ []) h = absurd (omega arith)
four-cells (a ∷ b ∷ c ∷ d ∷ []) h = refl
four-cells (a ∷ b ∷ c ∷ d ∷ e ∷ l) h = absurd (omega arith)

five-low : (l : List ℕ) (s : ℕ) → s < 282 → ((i : ℕ) → get_or l i 0 < 282)
    → (i : ℕ) → get_or (s ∷ get_or l 0 0 ∷ get_or l 1 0 ∷ get_or l 2 0 ∷ get_or l 3 0 ∷ []) i 0 < 282
five-low l s h k zero = h
five-low l s h k (suc zero) = k 0
five-low l s h k (suc (suc zero)) = k 1
five-low l s h k (suc (suc (suc zero))) = k 2
five-low l s h k (suc (suc (suc (suc zero)))) = k 3
five-low l s h k (suc (suc (suc (suc (suc i))))) = omega arith

module _ (f : Fields) (full : Bool) (base count : ℕ) (symbols names places : List ℕ) (few : length symbols ≤ 64)
    (head : Result ℕ Fault)
    (answer :
    (fs : List (List ℕ)) (n k : ℕ) → Holds fs f → length symbols ≡ 2 * k
    → head_answer n head ≡ constraint_head (symbols_of (take 64 names) symbols k) n fs) where
  -- the same over the whole table
  told : (fs : List (List ℕ)) (n k : ℕ) → Holds fs f → length symbols ≡ 2 * k
      → head_answer n head ≡ constraint_head (symbols_of names symbols k) n fs
  told fs n k h e =
      answer fs n k h e ∙ ap (λ (s : List Symbol). constraint_head s n fs) (symbols-front names symbols k 64 (omega arith))

  -- the line is refused for its form or its symbol
  pub constraint-refused : (x : Fault) → head ≡ Err x → ConstraintIn f full base count symbols names places names places (Err x)
  constraint-refused x q =
      record {
        few = tt;
        room = tt;
        size = tt;
        low = tt;
        sized = refl;
        outside = outside-same names;
        answers = λ fs n k h e.
            ap (λ (a : Answer ℕ). and_then a (behind full letter_number (constants_of names count) n fs))
            (rw q at (told fs n k h e))
            ∙ sym (line-parts full (symbols_of names symbols k) letter_number (constants_of names count) n fs);
        flat = λ fs k h e. tt;
        keeps = record { keeps = λ program goal fs h s d. d };
      }

  module _ (s : ℕ) (q : head ≡ Ok s) where
    found : (fs : List (List ℕ)) (n k : ℕ) → Holds fs f → length symbols ≡ 2 * k
        → accepted s ≡ constraint_head (symbols_of names symbols k) n fs
    found fs n k h e = rw q at (told fs n k h e)

    onward : (fs : List (List ℕ)) (n k : ℕ) → Holds fs f → length symbols ≡ 2 * k
        → constraint_line full (symbols_of names symbols k) letter_number (constants_of names count) n fs
        ≡ behind full letter_number (constants_of names count) n fs s
    onward fs n k h e =
        line-parts full (symbols_of names symbols k) letter_number (constants_of names count) n fs
        ∙ sym (ap (λ (a : Answer ℕ). and_then a (behind full letter_number (constants_of names count) n fs)) (found fs n k h e))

    terms : (fs : List (List ℕ)) (k : ℕ) → Holds fs f → length symbols ≡ 2 * k → every is_term (drop 2 fs) ≡ true
    terms fs k h e = fine-terms fs (head-fine (symbols_of names symbols k) 0 s fs (found fs 0 k h e))

    -- there are as many constraints as there may be
    pub constraint-full : full ≡ true → ConstraintIn f full base count symbols names places names places (Err LimitPassed)
    constraint-full t =
        record {
          few = tt;
          room = tt;
          size = tt;
          low = tt;
          sized = refl;
          outside = outside-same names;
          answers = λ fs n k h e.
              sym (onward fs n k h e
              ∙ ap (λ (b : Bool). behind b letter_number (constants_of names count) n fs s) t);
          flat = λ fs k h e. tt;
          keeps = record { keeps = λ program goal fs h z d. d };
        }

    module _ (names' places' : List ℕ) (r : Result TermsRead Fault) (u : TermsIn f 2 base count names places names' places' r)
        (least : full ≡ false) where
      -- the constants pass the limit
      pub constraint-many : (x : Fault) → r ≡ Err x
          → ConstraintIn f full base count symbols names places names' places' (Err x)
      constraint-many x z =
          record {
            few = tt;
            room = tt;
            size = tt;
            low = tt;
            sized = u.sized;
            outside = u.outside;
            answers = λ fs n k h e.
                (let passed : Passed (constants_after (drop 2 fs) (constants_of names count)) x =
                rw z at (u.means fs h (terms fs k h e)) in
                ap (λ (y : Fault). refused (number_of y) n) passed.fault
                ∙ sym (onward fs n k h e
                ∙ rw (least, lt-ltb 64 (length (constants_after (drop 2 fs) (constants_of names count))) passed.many) refl));
            flat = λ fs k h e. tt;
            keeps = u.keeps;
          }

      -- the constraint
      pub constraint-read : (t : TermsRead) → r ≡ Ok t → f.count ≤ 6 → 2 * s < length symbols
          → ConstraintIn f full base count symbols names places names' places'
          (Ok (record {
            count = t.count;
            cells = s ∷ get_or t.cells 0 0 ∷ get_or t.cells 1 0 ∷ get_or t.cells 2 0 ∷ get_or t.cells 3 0 ∷ [];
          }))
      unfolding row_constraint
      constraint-read t z six low =
          let within : t.count ≤ 64 = rw z at u.few in
          let size-four : length t.cells ≡ 4 = rw z at u.size in
          let means : (fs : List (List ℕ)) (k : ℕ) → Holds fs f → length symbols ≡ 2 * k
          → TermsMean (drop 2 fs) (constants_of names count) names' t =
          λ fs k h e. rw z at (u.means fs h (terms fs k h e)) in
          record {
            few = within;
            room = least;
            size = refl;
            low = five-low t.cells s (omega arith) (rw z at u.low);
            sized = u.sized;
            outside = u.outside;
            answers = λ fs n k h e. (let means = means fs k h e in
                let after : List (List ℕ) = constants_after (drop 2 fs) (constants_of names count) in
                let size : length after ≡ t.count = ap length (sym means.after) ∙ constants-length names' t.count in
                let cells : cell_terms (get_or t.cells 0 0 ∷ get_or t.cells 1 0 ∷ get_or t.cells 2 0 ∷ get_or t.cells 3 0 ∷ [])
                ≡ map (term_of letter_number after) (drop 2 fs) =
                ap cell_terms (four-cells t.cells size-four ∙ means.cells)
                ∙ padded-terms 4 after (drop 2 fs) (omega (arith, length-drop 2 fs, h.counted))
                (λ g. omega (arith, name-most g after, size, within)) (terms fs k h e) in
                ap₂ (λ (ts : List Term) (cs : List (List ℕ)).
                accepted (record { constraint = record { symbol = s; terms = ts }; constants = cs })) cells means.after
                ∙ sym (onward fs n k h e ∙ rw (least, le-ltb 64 (length after) (omega (arith, size, within))) refl));
            flat = λ fs k h e. (let means = means fs k h e in
                record {
                  terms = terms fs k h e;
                  few = omega (arith, length-drop 2 fs, h.counted);
                  after = means.after;
                  cells = four-cells t.cells size-four ∙ means.cells;
                });
            keeps = u.keeps;
          }

-- what is found of a line, with other numbers for its variables
abbrev other : (List ℕ → ℕ) → List (List ℕ) → Found → Answer Found
other w fs x =
    accepted (record {
      constraint = record { symbol = x.constraint.symbol; terms = map (term_of w x.constants) (drop 2 fs) };
      constants = x.constants;
    })

-- a line whose variables have other numbers
pub line_other :
    (full : Bool) (symbols : List Symbol) (v w : List ℕ → ℕ) (constants : List (List ℕ)) (n : ℕ) (fs : List (List ℕ))
    → constraint_line full symbols w constants n fs
    ≡ and_then (constraint_line full symbols v constants n fs)
    (λ x. accepted (record {
      constraint = record { symbol = x.constraint.symbol; terms = map (term_of w x.constants) (drop 2 fs) };
      constants = x.constants;
    }))
line_other full symbols v w constants n fs =
    line-parts full symbols w constants n fs ∙ go (constraint_head symbols n fs)
    ∙ sym (ap (λ (a : Answer Found). and_then a (other w fs)) (line-parts full symbols v constants n fs))
  where
    more : (s : ℕ) (b : Bool)
        → refuse_if b 7 n (accepted (record {
          constraint = record { symbol = s; terms = map (term_of w (constants_after (drop 2 fs) constants)) (drop 2 fs) };
          constants = constants_after (drop 2 fs) constants;
        }))
        ≡ and_then (refuse_if b 7 n (accepted (record {
          constraint = record { symbol = s; terms = map (term_of v (constants_after (drop 2 fs) constants)) (drop 2 fs) };
          constants = constants_after (drop 2 fs) constants;
        }))) (other w fs)
    more s true = refl
    more s false = refl

    go : (h : Answer ℕ)
        → and_then h (behind full w constants n fs) ≡ and_then (and_then h (behind full v constants n fs)) (other w fs)
    go (refused x m) = refl
    go (accepted s) = more s (full || ltb 64 (length (constants_after (drop 2 fs) constants)))
