-- Laws of one term, as the code goes by cases, and of the terms of a line, one field on.
--   term-letter, term-known, term-full, term-new    one term
--   Walk, walk_start, walk-next, walk-full, walk_end    the terms of a line, as far as they are read
-- Assumes nothing.
use mathlib.Core.Path.{◌≡◌, refl, sym, ap, ap₂, ◌∙◌}
use mathlib.Core.Bool.{true, false}
use Rattle.std.specs.Prelude.{Result, Ok, Err}
use mathlib.Core.List.{List, [], ◌∷◌, ◌++◌, map}
use Prim.Native.Nat.{ℕ, zero, suc, ◌+◌, ◌-◌, ◌≤◌, ◌<◌}
use native.Mathlib.Numerals.{add-one}
use native.Mathlib.Omega.{arith}
use borrow.Author.Tests.{lt-ltb, le-ltb}
use lib.Dec.{eqb}
use lib.ListN.{length, take, drop, get_or, set, length-append, length-map, length-set, length-drop, length-take, drop_of_length-le}
use lib.Seq.{drop-cons, take-suc, take_all, get_or-drop, get_or-set_same, get_or-set_other}
use Rattle.text.specs.Lists.{every, index_from, index_of, is_known, with_name}
use Rattle.text.specs.Fields.{is_name, is_term}
use Rattle.text.specs.Constants.{constant_name}
use Rattle.text.specs.Keys.{key_of, spell}
use Rattle.text.specs.Splits.{Holds}
use Rattle.text.specs.declared.fields.Fields.{Fields}
use Rattle.faults.specs.declared.Fault.{Fault}
use Rattle.faults.specs.declared.Fault.TheVariants.{LimitPassed}
use Rattle.numerals.specs.declared.Constant.{Constant}
use Rattle.numerals.specs.Numerals.{ConstantIn}
use Rattle.text.proofs.Laws.{tabled-length}
use Rattle.text.proofs.ConstantLaws.{constant-name}
use Rattle.text.proofs.Bools.{and-true}
use Rattle.syntax.specs.Forms.{constants_after, first_constant}
use Rattle.syntax.proofs.Vocabulary.{constants-more, constants-least}
use Rattle.syntax.proofs.Known.{same_refl}
use Rattle.syntax.proofs.Tabled.{tabled-same, map-append, name-second}
use Rattle.tables.specs.Layout.{max_names}
use Rattle.tables.specs.Rows.{name_of, constants_of}
use Rattle.tables.specs.Names.{placed_at}
use Rattle.lines.specs.declared.TermRead.{TermRead}
use Rattle.lines.specs.declared.TermsRead.{TermsRead}
use Rattle.lines.specs.Read.{term_cell, padded, Outside, Spelled, KeepsPlaces, Passed, TermMeans, term_means, TermIn, TermsIn}
use Rattle.text.proofs.Keys.{name-key, spell-key}
use Rattle.lines.proofs.Held.{key-at}
use Rattle.lines.proofs.Named.{Wide, named-index, placed-set}
use Rattle.lines.proofs.TermCells.{cell-later, one_known, padded-set}

pub constants-length : (names : List ℕ) (n : ℕ) → length (constants_of names n) ≡ n
unfolding constants_of
constants-length names n = tabled-length (λ (i : ℕ). name_of names (first_constant + i)) n

-- the same names
pub outside-same : (names : List ℕ) → Outside names names
outside-same names = record { size = refl; symbols = λ n h. refl; rules = λ n h. refl }

-- one constant more
module _ (names : List ℕ) (n key : ℕ) (room : first_constant + n < length names) where
  pub constants-set : constants_of (set names (first_constant + n) key) (suc n) ≡ constants_of names n ++ (spell key ∷ [])
  unfolding constants_of name_of
  constants-set =
      ap₂ (λ (l : List (List ℕ)) (k : ℕ). l ++ (spell k ∷ []))
      (tabled-same (λ i. spell (get_or (set names (first_constant + n) key) (first_constant + i) 0))
      (λ i. spell (get_or names (first_constant + i) 0)) n
      (λ i h. ap spell (get_or-set_other names (first_constant + n) (first_constant + i) key 0 (λ q. omega (arith, h, q)))))
      (get_or-set_same names (first_constant + n) key 0 room)

  pub outside_set : n < 128 → Outside names (set names (first_constant + n) key)
  outside_set few =
      record {
        size = length-set names (first_constant + n) key;
        symbols = λ m h. get_or-set_other names (first_constant + n) m key 0 (λ q. omega (arith, h, q));
        rules = λ m h. get_or-set_other names (first_constant + n) m key 0 (λ q. omega (arith, h, q));
      }

-- the constants after a field that is no name, one that is known, and one that is new
module _ (g : List ℕ) (cs : List (List ℕ)) where
  after-letter : is_name g ≡ false → constants_after (g ∷ []) cs ≡ cs
  unfolding constants_after
  after-letter e = rw e

  after-known : is_name g ≡ true → index_of (constant_name g) cs < length cs → constants_after (g ∷ []) cs ≡ cs
  unfolding constants_after with_name is_known
  after-known e h = rw (e, lt-ltb (index_of (constant_name g) cs) (length cs) h)

  after-new : is_name g ≡ true → length cs ≤ index_of (constant_name g) cs
      → constants_after (g ∷ []) cs ≡ cs ++ (constant_name g ∷ [])
  unfolding constants_after with_name is_known
  after-new e h = rw (e, le-ltb (index_of (constant_name g) cs) (length cs) h)

  letter-cell : is_name g ≡ false → term_cell cs g ≡ 254 + key_of g
  unfolding term_cell
  letter-cell e = rw e

  name-cell : is_name g ≡ true → term_cell cs g ≡ 64 + index_of (constant_name g) cs
  unfolding term_cell
  name-cell e = rw e

-- a new name's place is behind the others
index-one : (g : List ℕ) → index_of g (g ∷ []) ≡ 0
unfolding index_of
index-one g = rw (same_refl g)

index-last : (g : List ℕ) (cs : List (List ℕ)) → length cs ≤ index_of g cs → index_of g (cs ++ (g ∷ [])) ≡ length cs
index-last g cs h = name-second g cs (g ∷ []) h ∙ omega (arith, index-one g)

module _ (key place count : ℕ) (names places : List ℕ) (few : count ≤ 64) (a : length names ≡ max_names)
    (b : length places ≡ max_names) where
  pub term-letter : key < 28 → TermIn key place count names places names places (Ok (record { cell = 254 + key; count = count }))
  term-letter h =
      record {
        few = few;
        low = omega arith;
        sized = refl;
        outside = outside-same names;
        means = λ g e t. (let letter : is_name g ≡ false = name-key g ∙ le-ltb 27 (key_of g) (omega arith) in
            let same = after-letter g (constants_of names count) letter in
            record { after = sym same; cell = ap (λ (k : ℕ). 254 + k) e ∙ sym (letter-cell g _ letter) });
        keeps = λ program goal g _ _ d. d;
      }

  module _ (k : ℕ) (r : Constant) (h : 28 ≤ key) (w : Wide names)
      (Named-by : (f : List ℕ) → is_name f ≡ true → key ≡ key_of f → ConstantIn f r)
      (q : k ≡ index_from (eqb r.key) 0 (take (64 + count - 64) (drop 64 names))) where
    abbrev cs : List (List ℕ)
    cs = constants_of names count

    module _ (g : List ℕ) (e : key ≡ key_of g) where
      named : is_name g ≡ true
      named = name-key g ∙ lt-ltb 27 (key_of g) (omega arith)

      constant-in : ConstantIn g r
      constant-in = Named-by g named e

      -- the key is that of the name
      name-spelled : spell r.key ≡ constant_name g
      name-spelled = ap spell constant-in.keyed ∙ spell-key (constant_name g) (constant-name g named)

      placed : k ≡ index_of (constant_name g) cs
      unfolding constants_of
      placed =
          let size : 64 + count - 64 ≡ count = omega arith in
          q ∙ ap₂ (λ (x n : ℕ). index_from (eqb x) 0 (take n (drop 64 names))) constant-in.keyed size
          ∙ named-index (constant_name g) names 64 count (constant-name g named) w (omega arith)

      -- and the name stands behind the zeros
      name-stands : (program goal : List ℕ)
          → (is_name g ≡ true → (j : ℕ) → j < length g → placed_at program goal (place + j) ≡ drop j g)
          → placed_at program goal (place + r.zeros) ≡ spell r.key
      name-stands program goal p = p named r.zeros constant-in.few ∙ constant-in.named ∙ sym name-spelled

    pub term-known : k < count → TermIn key place count names places names places (Ok (record { cell = 64 + k; count = count }))
    term-known l =
        record {
          few = few;
          low = omega arith;
          sized = refl;
          outside = outside-same names;
          means = λ g e t. (let same = after-known g cs (named g e) (omega (arith, constants-length names count, placed g e)) in
              record {
                after = sym same;
                cell = ap (λ (i : ℕ). 64 + i) (placed g e) ∙ sym (rw same (name-cell g cs (named g e)));
              });
          keeps = λ program goal g _ _ d. d;
        }

    module _ (l : count ≤ k) where
      grown : (g : List ℕ) → key ≡ key_of g → constants_after (g ∷ []) cs ≡ cs ++ (constant_name g ∷ [])
      grown g e = after-new g cs (named g e) (omega (arith, constants-length names count, placed g e))

      pub term-full : 64 ≤ count → TermIn key place count names places names places (Err LimitPassed)
      term-full m =
          record {
            few = tt;
            low = tt;
            sized = refl;
            outside = outside-same names;
            means = λ g e t. record {
              fault = refl;
              many = omega (
                arith,
                ap length (grown g e),
                length-append cs (constant_name g ∷ []),
                constants-length names count,
              );
            };
            keeps = λ program goal g _ _ d. d;
          }

      pub term-new :
          count < 64
          → TermIn key place count names places (set names (64 + count) r.key) (set places (64 + count) (place + r.zeros))
          (Ok (record { cell = 64 + count; count = count + 1 }))
      term-new m =
          record {
            few = omega arith;
            low = omega arith;
            sized = length-set places (64 + count) (place + r.zeros);
            outside = outside_set names count r.key (omega arith) (omega arith);
            means = λ g e t. record {
              after = rw (add-one count)
                  (constants-set names count r.key (omega arith)
                  ∙ ap (λ (f : List ℕ). cs ++ (f ∷ [])) (name-spelled g e) ∙ sym (grown g e));
              cell =
                  sym (rw (grown g e) (name-cell g (cs ++ (constant_name g ∷ [])) (named g e)
                  ∙ ap (λ (i : ℕ). 64 + i)
                  (index-last (constant_name g) cs (omega (arith, constants-length names count, placed g e))
                  ∙ constants-length names count)));
            };
            keeps = λ program goal g e p d.
                placed-set program goal names places (64 + count) r.key (place + r.zeros) a b (omega arith)
                (name-stands g e program goal p) d;
          }

-- the terms of the fields from `from` on, read as far as field i
pub record SoFar (fs before : List (List ℕ)) (from : ℕ) (names cells : List ℕ) (n i : ℕ) : Type 0 where
  pub left : constants_after (drop i fs) (constants_of names n) ≡ constants_after (drop from fs) before
  pub terms : every is_term (drop i fs) ≡ true
  pub filled : cells ≡ padded 4 (map (term_cell (constants_after (drop from fs) before)) (take (i - from) (drop from fs)))

pub record Walk (f : Fields) (from base count : ℕ) (names₀ places₀ names places cells : List ℕ) (n i : ℕ) : Type 0 where
  pub begun : from ≤ i
  pub few : n ≤ 64
  pub size : length cells ≡ 4
  pub low : (j : ℕ) → get_or cells j 0 < 282
  pub names-size : length names ≡ max_names
  pub places-size : length places ≡ max_names
  pub sized : length places ≡ length places₀
  pub outside : Outside names₀ names
  pub passed :
      (fs : List (List ℕ)) → Holds fs f → every is_term (drop from fs) ≡ true
      → SoFar fs (constants_of names₀ count) from names cells n i
  pub keeps : KeepsPlaces base f names₀ places₀ names places

low-set : (cells : List ℕ) (i x : ℕ) → ((j : ℕ) → get_or cells j 0 < 282) → x < 282 → (j : ℕ) → get_or (set cells i x) j 0 < 282
low-set [] i x h k j = h j
low-set (y ∷ cells) zero x h k zero = k
low-set (y ∷ cells) zero x h k (suc j) = h (suc j)
low-set (y ∷ cells) (suc i) x h k zero = h 0
low-set (y ∷ cells) (suc i) x h k (suc j) = low-set cells i x (λ m. h (suc m)) k j

pub outside_trans : {a b c : List ℕ} → Outside a b → Outside b c → Outside a c
outside_trans p q =
    record {
      size = q.size ∙ p.size;
      symbols = λ n h. q.symbols n h ∙ p.symbols n h;
      rules = λ n h. q.rules n h ∙ p.rules n h;
    }

-- the constants after a field and those behind it
after-cons : (g : List ℕ) (gs before : List (List ℕ))
    → constants_after (g ∷ gs) before ≡ constants_after gs (constants_after (g ∷ []) before)
unfolding constants_after
after-cons g gs before = refl

after_none : (before : List (List ℕ)) → constants_after [] before ≡ before
unfolding constants_after
after_none before = refl

module _ (f : Fields) (from base count : ℕ) (names₀ places₀ : List ℕ) where
  pub walk_start :
      count ≤ 64 → length names₀ ≡ max_names → length places₀ ≡ max_names
      → Walk f from base count names₀ places₀ names₀ places₀ (0 ∷ 0 ∷ 0 ∷ 0 ∷ []) count from
  unfolding padded
  walk_start few a b =
      record {
        begun = omega arith;
        few = few;
        size = refl;
        low = zeros;
        names-size = a;
        places-size = b;
        sized = refl;
        outside = outside-same names₀;
        passed = λ fs h t. record {
          left = refl;
          terms = t;
          filled =
              ap (λ (m : ℕ). padded 4 (map (term_cell (constants_after (drop from fs) (constants_of names₀ count)))
              (take m (drop from fs))))
              (let z : 0 ≡ from - from = omega arith in z);
        };
        keeps = record { keeps = λ program goal fs h s d. d };
      }
    where
      zeros : (j : ℕ) → get_or (0 ∷ 0 ∷ 0 ∷ 0 ∷ []) j 0 < 282
      zeros zero = omega arith
      zeros (suc zero) = omega arith
      zeros (suc (suc zero)) = omega arith
      zeros (suc (suc (suc zero))) = omega arith
      zeros (suc (suc (suc (suc j)))) = omega arith

  module _ (names places cells : List ℕ) (n i : ℕ) (w : Walk f from base count names₀ places₀ names places cells n i)
    where
      pub walk_end : f.count ≤ i
          → TermsIn f from base count names₀ places₀ names places (Ok (record { count = n; cells = cells }))
      walk_end e =
          record {
            few = w.few;
            size = w.size;
            low = w.low;
            sized = w.sized;
            outside = w.outside;
            means = λ fs h t. (let p = w.passed fs h t in
                let out : length fs ≤ i = omega (arith, h.counted) in
                let done : length (drop from fs) ≤ i - from = omega (arith, length-drop from fs, w.begun) in
                record {
                  after =
                      sym (after_none (constants_of names n))
                      ∙ ap (λ (gs : List (List ℕ)). constants_after gs (constants_of names n)) (sym (drop_of_length-le fs out))
                      ∙ p.left;
                  cells = p.filled
                      ∙ ap (λ (gs : List (List ℕ)). padded 4 (map (term_cell (constants_after (drop from fs)
                      (constants_of names₀ count))) gs)) (take_all (i - from) (drop from fs) done);
                });
            keeps = w.keeps;
          }

      -- one field more
      module _ (key place : ℕ) (names' places' : List ℕ) (r : Result TermRead Fault) (lt : i < f.count) (room : f.count ≤ 8)
          (keyed : key ≡ get_or f.keys i 0) (stood : place ≡ base + get_or f.starts i 0)
          (t : TermIn key place n names places names' places' r) where
        module _ (fs : List (List ℕ)) (h : Holds fs f) where
          inside : i < length fs
          inside = omega (arith, h.counted)

          abbrev g : List ℕ
          g = get_or fs i []

          key-is : key ≡ key_of g
          key-is = keyed ∙ key-at fs f.keys h.keyed i inside (omega arith)

          split : drop i fs ≡ g ∷ drop (suc i) fs
          split = drop-cons fs i [] inside

          spelled : (program goal : List ℕ) → Spelled program goal base fs f → is_name g ≡ true → (j : ℕ) → j < length g
              → placed_at program goal (place + j) ≡ drop j g
          spelled program goal s named j more =
              ap (λ (at : ℕ). placed_at program goal (at + j)) stood ∙ s.rests i j (omega arith) inside named more

          module _ (u : every is_term (drop from fs) ≡ true) where
            abbrev p : SoFar fs (constants_of names₀ count) from names cells n i
            p = w.passed fs h u

            abbrev all : List (List ℕ)
            all = constants_after (drop from fs) (constants_of names₀ count)

            both : (is_term g ≡ true) × (every is_term (drop (suc i) fs) ≡ true)
            both = and-true (is_term g) (every is_term (drop (suc i) fs)) (rw split at p.terms)

            means : term_means g (constants_of names n) names' r
            means = t.means g key-is both.0

            -- the constants after the field, and then after the others
            onward : constants_after (drop (suc i) fs) (constants_after (g ∷ []) (constants_of names n)) ≡ all
            onward =
                sym (after-cons g (drop (suc i) fs) (constants_of names n))
                ∙ ap (λ (gs : List (List ℕ)). constants_after gs (constants_of names n)) (sym split) ∙ p.left

            pub step-full : (x : Fault) → r ≡ Err x → Passed all x
            step-full x z =
                let passed : Passed (constants_after (g ∷ []) (constants_of names n)) x = rw z at means in
                record {
                  fault = passed.fault;
                  many = omega (
                    arith,
                    passed.many,
                    constants-least (drop (suc i) fs) (constants_after (g ∷ []) (constants_of names n)),
                    ap length onward,
                  );
                }

            read : (v : TermRead) → r ≡ Ok v → TermMeans g (constants_of names n) names' v
            read v z = rw z at means

            cell-is : (v : TermRead) → r ≡ Ok v → v.cell ≡ term_cell all g
            cell-is v z =
                let (more, e) = constants-more (drop (suc i) fs) (constants_after (g ∷ []) (constants_of names n)) in
                (read v z).cell
                ∙ sym (ap (λ (cs : List (List ℕ)). term_cell cs g) (sym onward ∙ e)
                ∙ cell-later (constants_after (g ∷ []) (constants_of names n)) more g (one_known (constants_of names n) g))

            pub step-passed : (v : TermRead) → r ≡ Ok v → i < from + 4
                → SoFar fs (constants_of names₀ count) from names' (set cells (i - from) v.cell) v.count (suc i)
            step-passed v z near =
                let ds : List (List ℕ) = drop from fs in
                let passed : List ℕ = map (term_cell all) (take (i - from) ds) in
                let within : i - from < length ds = omega (arith, length-drop from fs, inside, w.begun) in
                let size : length passed ≡ i - from =
                length-map (take (i - from) ds) (term_cell all) ∙ length-take (i - from) ds ∙ omega arith in
                let at : get_or ds (i - from) [] ≡ g =
                get_or-drop from fs (i - from) [] ∙ ap (λ (j : ℕ). get_or fs j []) (let y : from + (i - from) ≡ i = omega (
                  arith,
                  w.begun,
                ) in y) in
                let next : suc i - from ≡ suc (i - from) = omega (arith, w.begun) in
                record {
                  left = ap (constants_after (drop (suc i) fs)) ((read v z).after) ∙ onward;
                  terms = both.1;
                  filled =
                      ap₂ (λ (l : List ℕ) (x : ℕ). set l (i - from) x) p.filled (cell-is v z)
                      ∙ ap (λ (m : ℕ). set (padded 4 passed) m (term_cell all g)) (sym size)
                      ∙ padded-set 4 passed (term_cell all g) (omega (arith, size, w.begun))
                      ∙ ap (padded 4)
                      (sym (map-append (term_cell all) (take (i - from) ds) (g ∷ []))
                      ∙ ap (map (term_cell all))
                      (ap (λ (x : List ℕ). take (i - from) ds ++ (x ∷ [])) (sym at) ∙ sym (take-suc ds (i - from) [] within)
                      ∙ ap (λ (m : ℕ). take m ds) (sym next)));
                }

        abbrev kept : KeepsPlaces base f names₀ places₀ names' places'
        kept = record {
          keeps = λ program goal fs h s d.
              t.keeps program goal (get_or fs i []) (key-is fs h) (spelled fs h program goal s)
              (w.keeps.keeps program goal fs h s d);
        }

        pub walk-full : (x : Fault) → r ≡ Err x → TermsIn f from base count names₀ places₀ names' places' (Err x)
        walk-full x z =
            record {
              few = tt;
              size = tt;
              low = tt;
              sized = t.sized ∙ w.sized;
              outside = outside_trans w.outside t.outside;
              means = λ fs h u. step-full fs h u x z;
              keeps = kept;
            }

        pub walk-next : (v : TermRead) → r ≡ Ok v → f.count ≤ from + 4
            → Walk f from base count names₀ places₀ names' places' (set cells (i - from) v.cell) v.count (suc i)
        walk-next v z near =
            record {
              begun = omega (arith, w.begun);
              few = rw z at t.few;
              size = length-set cells (i - from) v.cell ∙ w.size;
              low = low-set cells (i - from) v.cell w.low (rw z at t.low);
              names-size = t.outside.size ∙ w.names-size;
              places-size = t.sized ∙ w.places-size;
              sized = t.sized ∙ w.sized;
              outside = outside_trans w.outside t.outside;
              passed = λ fs h u. step-passed fs h u v z (omega arith);
              keeps = kept;
            }

-- fields that hold the same keys and starts
pub terms-held :
    (f : Fields) {from base count : ℕ} {names places names' places' : List ℕ} {r : Result TermsRead Fault}
    → TermsIn (record { faulty = false; end = 0; count = f.count; keys = f.keys; starts = f.starts }) from base count
    names places
    names' places' r
    → TermsIn f from base count names places names' places' r
terms-held f t =
    record {
      few = t.few;
      size = t.size;
      low = t.low;
      sized = t.sized;
      outside = t.outside;
      means = λ fs h. t.means fs (record { counted = h.counted; keyed = h.keyed });
      keeps = record {
        keeps = λ program goal fs h s.
            t.keeps.keeps program goal fs (record { counted = h.counted; keyed = h.keyed })
            (record { each = s.each; rests = s.rests });
      };
    }
