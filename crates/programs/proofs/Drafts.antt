-- Laws of the tables as a K or an R line changes them.
--   row-cell                          the rows of a table of rules
--   rules-named, constants-named      tables whose names agree
--   symbols-more, rules-more          one symbol more, one rule more
--   held-symbol, held-rule            number 4 of a K and of an R line, by the keys
--   symbol-.., rule-..                a K and an R line, by the test that decides it
-- Assumes nothing.
use mathlib.Core.Path.{◌≡◌, refl, sym, ap, ap₂, ◌∙◌}
use mathlib.Core.Bool.{true, false, not, ◌&&◌, ◌||◌}
use mathlib.Core.List.{List, [], ◌∷◌, ◌++◌, map}
use Prim.Native.Nat.{ℕ, suc, ◌+◌, ◌-◌, ◌*◌, ◌≤◌, ◌<◌}
use native.Mathlib.Nat.{add-zero, zero-add}
use native.Mathlib.Numerals.{add-one}
use native.Mathlib.Decide.{dec_le, dec_lt}
use native.Mathlib.Omega.{arith}
use borrow.Author.Tests.{eqb-true, lt-ltb, le-ltb, lt-leb, le-leb, eq-eqb, ne_eqb}
use lib.Dec.{leb, ltb, eqb}
use lib.ListN.{length, take, drop, get_or, set, length-set, length-map}
use lib.Seq.{paste, get_or-take, get_or-drop, get_or-set_same, get_or-set_other}
use Rattle.std.specs.Prelude.{Ok, Err}
use Rattle.faults.specs.Faults.{number_of as fault_number}
use Rattle.faults.specs.declared.Fault.{Fault}
use Rattle.faults.specs.declared.Fault.TheVariants.{FieldsFaulty, NameRepeated, LimitPassed}
use Rattle.text.specs.Bytes.{between}
use Rattle.text.specs.Lists.{index_from, index_of, is_known, tabled}
use Rattle.text.specs.Fields.{is_name, is_number_in, value_of}
use Rattle.text.specs.Keys.{key_of, spell, number_of}
use Rattle.text.specs.Splits.{Holds}
use Rattle.text.specs.declared.fields.Fields.{Fields}
use Rattle.text.proofs.Laws.{tabled-length}
use Rattle.text.proofs.Keys.{name-key, spell-key}
use Rattle.text.proofs.Numbers.{number-key, value-key}
use Rattle.semantics.specs.Terms.{Symbol}
use Rattle.syntax.specs.Answers.{refused, accepted}
use Rattle.syntax.specs.Forms.{field_at, first_constant, is_symbol_faulty, is_rule_faulty}
use Rattle.syntax.specs.Programs.{RuleRead, read_symbol, read_rule}
use Rattle.syntax.proofs.WellFormed.{or-neither, not-false}
use Rattle.syntax.proofs.Tabled.{tabled-same, map-tabled}
use Rattle.tables.specs.Layout.{max_names, first_rule}
use Rattle.tables.specs.Cells.{cell_constraints, cell_equations}
use Rattle.tables.specs.Rows.{name_of, symbol_of, symbols_of, constants_of, rule_of_row, row_of, rule_of}
use Rattle.tables.specs.Names.{placed_at}
use Rattle.lines.specs.Read.{Lent}
use Rattle.lines.proofs.Held.{key-at}
use Rattle.lines.proofs.HeadLaws.{symbols-length, symbol-names, symbols-same}
use Rattle.lines.proofs.Named.{Wide, named-index, placed-set}
use Rattle.programs.specs.declared.Stage.{Stage}
use Rattle.programs.specs.Read.{rule_read, rules_read, draft_of, line_answer, RowFits, Sound, Kept, SymbolIn, RuleIn}
use Rattle.programs.proofs.Pasted.{cut-before, at_before, at_in, new-length}

-- a cell of a row
pub row-cell : (cells : List ℕ) (i j : ℕ) → j < 64 → get_or (row_of cells i) j 0 ≡ get_or cells (64 * i + j) 0
row-cell cells i j h = get_or-take 64 (drop (64 * i) cells) j 0 h ∙ get_or-drop (64 * i) cells j 0

-- tables whose names agree
pub rules-named : (names names' rules : List ℕ) (n : ℕ) → ((i : ℕ) → i < n
    → get_or names' (first_rule + i) 0 ≡ get_or names (first_rule + i) 0)
    → rules_read names' rules n ≡ rules_read names rules n
unfolding rules_read rule_read rule_of name_of
rules-named names names' rules n h = tabled-same (rule_read names' rules) (rule_read names rules) n (λ i l. rw (h i l))

pub constants-named : (names names' : List ℕ) (n : ℕ) → ((i : ℕ) → i < n
    → get_or names' (first_constant + i) 0 ≡ get_or names (first_constant + i) 0)
    → constants_of names' n ≡ constants_of names n
unfolding constants_of name_of
constants-named names names' n h =
    tabled-same (λ i. spell (get_or names' (first_constant + i) 0)) (λ i. spell (get_or names (first_constant + i) 0)) n
    (λ i l. ap spell (h i l))

pub rules-length : (names rules : List ℕ) (n : ℕ) → length (rules_read names rules n) ≡ n
unfolding rules_read
rules-length names rules n = tabled-length (rule_read names rules) n

rule-names : (names rules : List ℕ) (n : ℕ)
    → map (λ r. r.rule.name) (rules_read names rules n) ≡ tabled (λ i. name_of names (first_rule + i)) n
unfolding rules_read rule_read rule_of rule_of_row
rule-names names rules n = map-tabled (λ (r : RuleRead). r.rule.name) (rule_read names rules) n

-- one symbol more
module _ (names symbols : List ℕ) (n key r w : ℕ) (room : 2 * n + 2 ≤ length symbols) (named : n < length names) where
  abbrev more : List ℕ
  more = paste symbols (2 * n) (r ∷ w ∷ []) 2

  kept : (i : ℕ) → i < n → symbol_of (set names n key) more i ≡ symbol_of names symbols i
  unfolding symbol_of name_of
  kept i h =
      let same : (j : ℕ) → j < 2 * n → get_or more j 0 ≡ get_or symbols j 0 = at_before symbols (2 * n) (r ∷ w ∷ []) room in
      rw (
        get_or-set_other names n i key 0 (λ q. omega (arith, h, q)),
        same (2 * i) (omega (arith, h)),
        same (2 * i + 1) (omega (arith, h)),
      )

  newest : symbol_of (set names n key) more n ≡ record { name = spell key; arity = r; weight = w }
  unfolding symbol_of name_of
  newest =
      rw (
        get_or-set_same names n key 0 named,
        ap (λ (j : ℕ). get_or more j 0) (sym (add-zero (2 * n))) ∙ at_in symbols (2 * n) (r ∷ w ∷ []) room 0 (omega arith),
        at_in symbols (2 * n) (r ∷ w ∷ []) room 1 (omega arith),
      )

  pub symbols-more : symbols_of (set names n key) more (suc n)
      ≡ symbols_of names symbols n ++ (record { name = spell key; arity = r; weight = w } ∷ [])
  unfolding symbols_of
  symbols-more =
      ap₂ (λ (xs : List Symbol) (x : Symbol). xs ++ (x ∷ []))
      (tabled-same (symbol_of (set names n key) more) (symbol_of names symbols) n kept) newest

-- one rule more, with nothing in it
module _ (names rules : List ℕ) (n key line : ℕ) (room : 64 * n + 64 ≤ length rules) (named : first_rule + n < length names) where
  abbrev pub fresh : List ℕ
  fresh = 0 ∷ 0 ∷ line ∷ 0 ∷ 0 ∷ 0 ∷ []

  abbrev pub with-rule : List ℕ
  with-rule = paste rules (64 * n) fresh 6

  fresh-cell : (j : ℕ) → j < 6 → get_or (row_of with-rule n) j 0 ≡ get_or fresh j 0
  fresh-cell j h = row-cell with-rule n j (omega (arith, h)) ∙ at_in rules (64 * n) fresh (omega arith) j h

  pub row_before : (i : ℕ) → i < n → row_of with-rule i ≡ row_of rules i
  row_before i h = cut-before rules (64 * n) fresh (omega arith) (64 * i) 64 (omega (arith, h))

  rule-kept : (i : ℕ) → i < n → rule_read (set names (first_rule + n) key) with-rule i ≡ rule_read names rules i
  unfolding rule_read rule_of name_of
  rule-kept i h =
      rw (row_before i h, get_or-set_other names (first_rule + n) (first_rule + i) key 0 (λ q. omega (arith, h, q)))

  rule-newest : rule_read (set names (first_rule + n) key) with-rule n
      ≡ record { rule = record { name = spell key; kept = 0; heads = []; body = []; equations = [] }; line = line }
  unfolding rule_read rule_of rule_of_row name_of cell_constraints cell_equations
  rule-newest =
      rw (
        get_or-set_same names (first_rule + n) key 0 named,
        fresh-cell 1 (omega arith),
        fresh-cell 2 (omega arith),
        fresh-cell 3 (omega arith),
        fresh-cell 4 (omega arith),
        fresh-cell 5 (omega arith),
      )

  pub rules-more : rules_read (set names (first_rule + n) key) with-rule (suc n)
      ≡ rules_read names rules n
      ++ (record { rule = record { name = spell key; kept = 0; heads = []; body = []; equations = [] }; line = line } ∷ [])
  unfolding rules_read
  rules-more =
      ap₂ (λ (xs : List RuleRead) (x : RuleRead). xs ++ (x ∷ []))
      (tabled-same (rule_read (set names (first_rule + n) key) with-rule) (rule_read names rules) n rule-kept) rule-newest

  pub fresh-fits : RowFits (row_of with-rule n)
  fresh-fits =
      record {
        kept = omega (arith, fresh-cell 1 (omega arith), fresh-cell 3 (omega arith));
        heads = omega (arith, fresh-cell 3 (omega arith));
        body = omega (arith, fresh-cell 4 (omega arith));
        equations = omega (arith, fresh-cell 5 (omega arith));
      }

-- a line that changes neither names nor places
pub kept_same : (f : Fields) (names places : List ℕ) → Kept f names places names places
kept_same f names places =
    record { names-size = refl; places-size = refl; keeps = record { keeps = λ program goal fs h s d. d } }

-- a line that stores the name in its second field, at its start
pub kept_set :
    (f : Fields) (names places : List ℕ) (n key start : ℕ) → Lent f 0 names places → n < max_names → key ≡ get_or f.keys 1 0
    → start ≡ get_or f.starts 1 0
    → ((fs : List (List ℕ)) → Holds fs f → (1 < length fs) × (is_name (field_at 1 fs) ≡ true))
    → Kept f names places (set names n key) (set places n start)
unfolding field_at
kept_set f names places n key start lent low keyed stood good =
    record {
      names-size = length-set names n key;
      places-size = length-set places n start;
      keeps = record {
        keeps = λ program goal fs h s d.
            (let (inside, named) = good fs h in
            let key-is : key ≡ key_of (get_or fs 1 []) = keyed ∙ key-at fs f.keys h.keyed 1 inside (omega arith) in
            placed-set program goal names places n key start lent.names-size lent.places-size low
            (ap (placed_at program goal) (stood ∙ sym (zero-add (get_or f.starts 1 0)))
            ∙ s.each 1 (omega arith) inside named ∙ sym (ap spell key-is ∙ spell-key (get_or fs 1 []) named))
            d);
      };
    }

-- tests turned round
turned : (a b : ℕ) → not (leb b a) ≡ ltb a b
turned a b = elim (dec_le b a) [
  | yes h ↦ rw (le-leb b a h, le-ltb a b h)
  | no h ↦ rw (lt-leb b a (omega (arith, h)), lt-ltb a b (omega (arith, h)))
]

not-less : (a : ℕ) → not (ltb 27 a) ≡ ltb a 28
not-less a = elim (dec_le a 27) [
  | yes h ↦ rw (le-ltb 27 a h, lt-ltb a 28 (omega arith))
  | no h ↦ rw (lt-ltb 27 a (omega (arith, h)), le-ltb a 28 (omega (arith, h)))
]

-- number 4 of a K line, by the keys
module _ (fs : List (List ℕ)) (keys : List ℕ) (h : take (length fs) keys ≡ take 8 (map key_of fs)) where
  field-key : (i : ℕ) → i < length fs → i < 8 → key_of (field_at i fs) ≡ get_or keys i 0
  unfolding field_at
  field-key i a b = sym (key-at fs keys h i a b)

  pub symbol-few : (length fs ≡ 4 → ⊥) → is_symbol_faulty fs ≡ true
  unfolding is_symbol_faulty
  symbol-few q = rw (ne_eqb (length fs) 4 q)

  module _ (four : length fs ≡ 4) where
    key : (i : ℕ) → i < 4 → key_of (field_at i fs) ≡ get_or keys i 0
    key i b = field-key i (omega arith) (omega arith)

    symbol-shape : is_symbol_faulty fs
        ≡ (not (ltb 27 (get_or keys 1 0)) || not (between 0 4 (number_of (get_or keys 2 0))) || not (between 1 31 (number_of (get_or
        keys 3 0))))
    unfolding is_symbol_faulty
    symbol-shape =
        rw (
          eq-eqb (length fs) 4 four,
          name-key (field_at 1 fs),
          number-key 0 4 (field_at 2 fs) (omega arith),
          number-key 1 31 (field_at 3 fs) (omega arith),
          key 1 (omega arith),
          key 2 (omega arith),
          key 3 (omega arith),
        )

    pub symbol-nameless : get_or keys 1 0 < 28 → is_symbol_faulty fs ≡ true
    symbol-nameless l = rw (symbol-shape, le-ltb 27 (get_or keys 1 0) (omega arith))

    module _ (l : 28 ≤ get_or keys 1 0) (a w : ℕ) (p : a ≡ number_of (get_or keys 2 0)) (q : w ≡ number_of (get_or keys 3 0)) where
      symbol-numbers : is_symbol_faulty fs ≡ (not (leb 0 a && leb a 4) || not (leb 1 w && leb w 31))
      unfolding between
      symbol-numbers = rw (symbol-shape, lt-ltb 27 (get_or keys 1 0) (omega arith), ← p, ← q)

      pub symbol-terms : 4 < a → is_symbol_faulty fs ≡ true
      symbol-terms z = rw (symbol-numbers, le-leb 0 a (omega arith), lt-leb a 4 z)

      pub symbol-light : a ≤ 4 → w < 1 → is_symbol_faulty fs ≡ true
      symbol-light y z = rw (symbol-numbers, le-leb 0 a (omega arith), le-leb a 4 y, lt-leb 1 w z)

      pub symbol-weighed : a ≤ 4 → 1 ≤ w → is_symbol_faulty fs ≡ ltb 31 w
      symbol-weighed y z =
          rw (symbol-numbers, le-leb 0 a (omega arith), le-leb a 4 y, le-leb 1 w z) (turned 31 w)

  -- number 4 of an R line, by the keys
  pub rule-few : (length fs ≡ 2 → ⊥) → is_rule_faulty fs ≡ true
  unfolding is_rule_faulty
  rule-few q = rw (ne_eqb (length fs) 2 q)

  pub rule-shape : length fs ≡ 2 → is_rule_faulty fs ≡ ltb (get_or keys 1 0) 28
  unfolding is_rule_faulty
  rule-shape two =
      rw (eq-eqb (length fs) 2 two, name-key (field_at 1 fs), field-key 1 (omega arith) (omega arith))
      (not-less (get_or keys 1 0))

-- what a K line of the right form says
record SymbolFine (fs : List (List ℕ)) : Type 0 where
  four : length fs ≡ 4
  named : is_name (field_at 1 fs) ≡ true
  arity : is_number_in 0 4 (field_at 2 fs) ≡ true
  weight : is_number_in 1 31 (field_at 3 fs) ≡ true

symbol-fine : (fs : List (List ℕ)) → is_symbol_faulty fs ≡ false → SymbolFine fs
unfolding is_symbol_faulty
symbol-fine fs fine =
    let a = not (eqb (length fs) 4) in
    let b = not (is_name (field_at 1 fs)) in
    let c = not (is_number_in 0 4 (field_at 2 fs)) in
    let d = not (is_number_in 1 31 (field_at 3 fs)) in
    let (abc, weight) = or-neither (a || b || c) d fine in
    let (ab, arity) = or-neither (a || b) c abc in
    let (count, name) = or-neither a b ab in
    record {
      four = eqb-true (length fs) 4 (not-false _ count);
      named = not-false _ name;
      arity = not-false _ arity;
      weight = not-false _ weight;
    }

-- what an R line of the right form says
record RuleFine (fs : List (List ℕ)) : Type 0 where
  two : length fs ≡ 2
  named : is_name (field_at 1 fs) ≡ true

rule-fine : (fs : List (List ℕ)) → is_rule_faulty fs ≡ false → RuleFine fs
unfolding is_rule_faulty
rule-fine fs fine =
    let (count, name) = or-neither (not (eqb (length fs) 2)) (not (is_name (field_at 1 fs))) fine in
    record { two = eqb-true (length fs) 2 (not-false _ count); named = not-false _ name }

-- a K line, by the test that decides it
module _ (f : Fields) (s : Stage) (names places symbols : List ℕ) (lent : Lent f 0 names places) where
  -- it is refused: what the tables hold stays
  symbol-refused : (x : Fault)
      → ((fs : List (List ℕ)) (rules : List ℕ) (n : ℕ) → Holds fs f
      → refused (fault_number x) n ≡ read_symbol n fs (draft_of names symbols rules s))
      → SymbolIn f s names places symbols names places symbols (Err x)
  unfolding line_answer
  symbol-refused x e =
      record { answers = e; sound = λ rules d b. tt; kept = kept_same f names places; size = refl }

  pub symbol-faulty : ((fs : List (List ℕ)) → Holds fs f → true ≡ is_symbol_faulty fs)
      → SymbolIn f s names places symbols names places symbols (Err FieldsFaulty)
  unfolding read_symbol
  symbol-faulty e = symbol-refused FieldsFaulty (λ fs rules n h. rw (← e fs h))

  module _ (fine : (fs : List (List ℕ)) → Holds fs f → false ≡ is_symbol_faulty fs) (w : Wide names) (k : ℕ)
      (q : k ≡ index_from (eqb (get_or f.keys 1 0)) 0 (take s.symbols names)) (few : s.symbols ≤ 32) where
    module _ (fs : List (List ℕ)) (h : Holds fs f) where
      formed : SymbolFine fs
      formed = symbol-fine fs (sym (fine fs h))

      key-is : (i : ℕ) → i < 4 → get_or f.keys i 0 ≡ key_of (field_at i fs)
      key-is i l = sym (field-key fs f.keys h.keyed i (omega (arith, formed.four)) (omega arith))

      known : is_known (field_at 1 fs) (map (λ t. t.name) (symbols_of names symbols s.symbols)) ≡ ltb k s.symbols
      unfolding is_known
      known =
          ap₂ ltb
          (ap (index_of (field_at 1 fs)) (symbol-names names symbols s.symbols)
          ∙ sym (named-index (field_at 1 fs) names 0 s.symbols formed.named w (omega (arith, lent.names-size)))
          ∙ ap (λ (x : ℕ). index_from (eqb x) 0 (take s.symbols names)) (sym (key-is 1 (omega arith))) ∙ sym q)
          (length-map (symbols_of names symbols s.symbols) (λ (t : Symbol). t.name) ∙ symbols-length names symbols
          s.symbols)

    pub symbol-repeated : k < s.symbols → SymbolIn f s names places symbols names places symbols (Err NameRepeated)
    unfolding read_symbol draft_of
    symbol-repeated l = symbol-refused NameRepeated (λ fs rules n h. rw (← fine fs h, known fs h, lt-ltb k s.symbols l))

    module _ (l : s.symbols ≤ k) where
      pub symbol-full : 32 ≤ s.symbols → SymbolIn f s names places symbols names places symbols (Err LimitPassed)
      unfolding read_symbol draft_of
      symbol-full g =
          symbol-refused LimitPassed (λ fs rules n h.
          rw (
            ← fine fs h,
            known fs h,
            le-ltb k s.symbols l,
            symbols-length names symbols s.symbols,
            le-leb 32
                s.symbols g,
          ))

      module _ (a v start : ℕ) (symbols' : List ℕ) (g : s.symbols < 32) (size : length symbols ≡ 128)
          (p : a ≡ number_of (get_or f.keys 2 0)) (r : v ≡ number_of (get_or f.keys 3 0)) (stood : start ≡ get_or f.starts 1 0)
          (stored : symbols' ≡ paste symbols (2 * s.symbols) (a ∷ v ∷ []) 2) where
        abbrev key₁ : ℕ
        key₁ = get_or f.keys 1 0

        abbrev next : Stage
        next = record { section = s.section; symbols = s.symbols + 1; rules = s.rules; constants = s.constants }

        draft-new : (fs : List (List ℕ)) (rules : List ℕ) (n : ℕ) → Holds fs f
            → accepted (draft_of (set names s.symbols key₁) symbols' rules next) ≡ read_symbol n fs (draft_of names symbols
            rules s)
        unfolding read_symbol draft_of
        draft-new fs rules n h =
            let spelled : spell key₁ ≡ field_at 1 fs =
            ap spell (key-is fs h 1 (omega arith)) ∙ spell-key (field_at 1 fs) (formed fs h).named in
            let arity : a ≡ value_of (field_at 2 fs) =
            p ∙ ap number_of (key-is fs h 2 (omega arith))
            ∙ sym (value-key 0 4 (field_at 2 fs) (omega arith) (formed fs h).arity) in
            let weight : v ≡ value_of (field_at 3 fs) =
            r ∙ ap number_of (key-is fs h 3 (omega arith))
            ∙ sym (value-key 1 31 (field_at 3 fs) (omega arith) (formed fs h).weight) in
            rw (
              ← fine fs h,
              known fs h,
              le-ltb k s.symbols l,
              symbols-length names symbols s.symbols,
              lt-leb 32 s.symbols g,
              stored,
              add-one s.symbols,
              symbols-more names symbols s.symbols key₁ a v (omega arith) (omega (arith, lent.names-size)),
              rules-named names (set names s.symbols key₁) rules s.rules
                  (λ i z. get_or-set_other names s.symbols (first_rule + i) key₁ 0 (λ y. omega (arith, y))),
              constants-named names (set names s.symbols key₁) s.constants
                  (λ i z. get_or-set_other names s.symbols (first_constant + i) key₁ 0 (λ y. omega (arith, y))),
              spelled,
              arity,
              weight,
            )

        pub symbol-new : SymbolIn f s names places symbols (set names s.symbols key₁) (set places s.symbols start) symbols'
            (Ok next)
        unfolding line_answer
        symbol-new =
            record {
              answers = draft-new;
              sound = λ rules d b. (
                record {
                  few-symbols = omega arith;
                  few-rules = d.few-rules;
                  few-constants = d.few-constants;
                  rows = d.rows;
                },
                b,
              );
              kept = kept_set f names places s.symbols key₁ start lent (omega arith) refl stood
                  (λ fs h. (omega (arith, (formed fs h).four), (formed fs h).named));
              size = ap length stored ∙ new-length symbols (2 * s.symbols) (a ∷ v ∷ []) (omega arith);
            }

-- an R line, by the test that decides it
module _ (f : Fields) (n : ℕ) (s : Stage) (names places rules : List ℕ) (lent : Lent f 0 names places) (d : Sound rules s) where
  rule-refused : (x : Fault)
      → ((fs : List (List ℕ)) (symbols : List ℕ) → Holds fs f → refused (fault_number x) n ≡ read_rule n fs (draft_of names symbols rules s))
      → RuleIn f n s names places rules names places rules (Err x)
  unfolding line_answer
  rule-refused x e = record { answers = e; sound = tt; kept = kept_same f names places; size = refl }

  pub rule-faulty : ((fs : List (List ℕ)) → Holds fs f → true ≡ is_rule_faulty fs)
      → RuleIn f n s names places rules names places rules (Err FieldsFaulty)
  unfolding read_rule
  rule-faulty e = rule-refused FieldsFaulty (λ fs symbols h. rw (← e fs h))

  module _ (fine : (fs : List (List ℕ)) → Holds fs f → false ≡ is_rule_faulty fs) (w : Wide names) (k : ℕ)
      (q : k ≡ index_from (eqb (get_or f.keys 1 0)) 0 (take (192 + s.rules - 192) (drop 192 names))) where
    module _ (fs : List (List ℕ)) (h : Holds fs f) where
      rule-formed : RuleFine fs
      rule-formed = rule-fine fs (sym (fine fs h))

      rule-key : get_or f.keys 1 0 ≡ key_of (field_at 1 fs)
      rule-key = sym (field-key fs f.keys h.keyed 1 (omega (arith, rule-formed.two)) (omega arith))

      rule-known : is_known (field_at 1 fs) (map (λ r. r.rule.name) (rules_read names rules s.rules)) ≡ ltb k s.rules
      unfolding is_known
      rule-known =
          let size : 192 + s.rules - 192 ≡ s.rules = omega arith in
          ap₂ ltb
          (ap (index_of (field_at 1 fs)) (rule-names names rules s.rules)
          ∙ sym (named-index (field_at 1 fs) names 192 s.rules rule-formed.named w
          (omega (arith, lent.names-size, d.few-rules)))
          ∙ ap₂ (λ (x m : ℕ). index_from (eqb x) 0 (take m (drop 192 names))) (sym rule-key) (sym size) ∙ sym q)
          (length-map (rules_read names rules s.rules) (λ (r : RuleRead). r.rule.name) ∙ rules-length names rules s.rules)

    pub rule-repeated : k < s.rules → RuleIn f n s names places rules names places rules (Err NameRepeated)
    unfolding read_rule draft_of
    rule-repeated l = rule-refused NameRepeated (λ fs symbols h. rw (← fine fs h, rule-known fs h, lt-ltb k s.rules l))

    module _ (l : s.rules ≤ k) where
      pub rule-full : 32 ≤ s.rules → RuleIn f n s names places rules names places rules (Err LimitPassed)
      unfolding read_rule draft_of
      rule-full g =
          rule-refused LimitPassed (λ fs symbols h.
          rw (← fine fs h, rule-known fs h, le-ltb k s.rules l, rules-length names rules s.rules, le-leb 32 s.rules g))

      module _ (start : ℕ) (rules' : List ℕ) (g : s.rules < 32) (size : length rules ≡ 2048)
          (stood : start ≡ get_or f.starts 1 0)
          (stored : rules' ≡ paste rules (64 * s.rules) (0 ∷ 0 ∷ n ∷ 0 ∷ 0 ∷ 0 ∷ []) 6) where
        abbrev rule-key₁ : ℕ
        rule-key₁ = get_or f.keys 1 0

        abbrev rule-next : Stage
        rule-next = record { section = s.section; symbols = s.symbols; rules = s.rules + 1; constants = s.constants }

        room : 64 * s.rules + 64 ≤ length rules
        room = omega arith

        named-room : first_rule + s.rules < length names
        named-room = omega (arith, lent.names-size)

        rule-draft : (fs : List (List ℕ)) (symbols : List ℕ) → Holds fs f
            → accepted (draft_of (set names (192 + s.rules) rule-key₁) symbols rules' rule-next)
            ≡ read_rule n fs (draft_of names symbols rules s)
        unfolding read_rule draft_of
        rule-draft fs symbols h =
            let spelled : spell rule-key₁ ≡ field_at 1 fs =
            ap spell (rule-key fs h) ∙ spell-key (field_at 1 fs) (rule-formed fs h).named in
            rw (
              ← fine fs h,
              rule-known fs h,
              le-ltb k s.rules l,
              rules-length names rules s.rules,
              lt-leb 32 s.rules g,
              stored,
              add-one s.rules,
              rules-more names rules s.rules rule-key₁ n room named-room,
              symbols-same names symbols s.symbols (set names (192 + s.rules) rule-key₁)
                  (λ i z. get_or-set_other names (192 + s.rules) i rule-key₁ 0 (λ y. omega (arith, y, z, d.few-symbols))),
              constants-named names (set names (192 + s.rules) rule-key₁) s.constants
                  (λ i z. get_or-set_other names (192 + s.rules) (first_constant + i) rule-key₁ 0
                  (λ y. omega (arith, y, z, d.few-constants))),
              spelled,
            )

        rule-rows : (i : ℕ) → i < suc s.rules → RowFits (row_of rules' i)
        rule-rows i z = rw stored (elim (dec_lt i s.rules) [
          | yes y ↦ rw (row_before names rules s.rules rule-key₁ n room named-room i y) (d.rows i y)
          | no y ↦
              let e : i ≡ s.rules = omega (arith, y) in
              rw e (fresh-fits names rules s.rules rule-key₁ n room named-room)
        ])

        pub rule-new : RuleIn f n s names places rules (set names (192 + s.rules) rule-key₁) (set places (192 + s.rules) start)
            rules' (Ok rule-next)
        unfolding line_answer
        rule-new =
            record {
              answers = rule-draft;
              sound = (
                record {
                  few-symbols = d.few-symbols;
                  few-rules = omega arith;
                  few-constants = d.few-constants;
                  rows = λ i z. rule-rows i (omega (arith, z));
                },
                λ _. omega arith,
              );
              kept = kept_set f names places (192 + s.rules) rule-key₁ start lent (omega arith) refl stood
                  (λ fs h. (omega (arith, (rule-formed fs h).two), (rule-formed fs h).named));
              size = ap length stored ∙ new-length rules (64 * s.rules) (0 ∷ 0 ∷ n ∷ 0 ∷ 0 ∷ 0 ∷ []) (omega arith);
            }
