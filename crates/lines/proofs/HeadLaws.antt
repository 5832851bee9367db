-- Laws of the symbol of an H, B or G line: numbers 4 and 6.
--   symbols-length, symbol-at, symbols-front    the symbols of a table
--   head-faulty, head-unknown, head-other, head-found    the line, by the test that decides it
-- Assumes nothing.
use mathlib.Core.Path.{◌≡◌, sym, ap, ap₂, ◌∙◌}
use mathlib.Core.Bool.{true, false, not, ◌||◌}
use Rattle.std.specs.Prelude.{Ok, Err}
use mathlib.Core.List.{List, map}
use Prim.Native.Nat.{ℕ, ◌+◌, ◌*◌, ◌≤◌, ◌<◌, min}
use native.Mathlib.Nat.{zero-add}
use native.Mathlib.Omega.{arith}
use borrow.Author.Tests.{lt-ltb, le-ltb, eq-eqb, ne_eqb}
use lib.Dec.{eqb, ltb}
use lib.ListN.{length, take, drop, get_or, length-drop}
use lib.Seq.{get_or-take}
use Rattle.text.specs.Lists.{index_from, index_of, tabled}
use Rattle.text.specs.Fields.{is_name}
use Rattle.text.specs.Keys.{key_of}
use Rattle.text.proofs.Laws.{tabled-length, tabled-at}
use Rattle.semantics.specs.Terms.{Symbol, symbol_at, no_symbol}
use Rattle.syntax.specs.Forms.{field_at, is_constraint_faulty, symbol_number, is_undeclared}
use Rattle.syntax.proofs.Tabled.{tabled-same, map-tabled}
use Rattle.tables.specs.Rows.{name_of, symbol_of, symbols_of}
use Rattle.lines.specs.Read.{constraint_head, head_answer}
use Rattle.faults.specs.declared.Fault.TheVariants.{FieldsFaulty, SymbolUndeclared}
use Rattle.lines.proofs.Named.{Wide, named-index, index-take}

module _ (names symbols : List ℕ) (k : ℕ) where
  pub symbols-length : length (symbols_of names symbols k) ≡ k
  unfolding symbols_of
  symbols-length = tabled-length (symbol_of names symbols) k

  pub symbol-at : (s : ℕ) → s < k → symbol_at (symbols_of names symbols k) s ≡ symbol_of names symbols s
  unfolding symbols_of symbol_at
  symbol-at s h = tabled-at (symbol_of names symbols) k s no_symbol h

  -- the names of the symbols
  pub symbol-names : map (λ s. s.name) (symbols_of names symbols k) ≡ tabled (λ i. name_of names (0 + i)) k
  unfolding symbols_of symbol_of
  symbol-names =
      map-tabled (λ (s : Symbol). s.name) (symbol_of names symbols) k
      ∙ tabled-same (name_of names) (λ i. name_of names (0 + i)) k (λ i h. ap (name_of names) (sym (zero-add i)))

  -- names that agree on them
  pub symbols-same : (names' : List ℕ) → ((i : ℕ) → i < k → get_or names' i 0 ≡ get_or names i 0)
      → symbols_of names' symbols k ≡ symbols_of names symbols k
  unfolding symbols_of symbol_of name_of
  symbols-same names' h = tabled-same (symbol_of names' symbols) (symbol_of names symbols) k (λ i l. rw (h i l))

  pub symbols-front : (n : ℕ) → k ≤ n → symbols_of (take n names) symbols k ≡ symbols_of names symbols k
  symbols-front n h = symbols-same (take n names) (λ i l. get_or-take n names i 0 (omega arith))

-- number 4
pub head-faulty : (symbols : List Symbol) (n : ℕ) (fs : List (List ℕ)) → is_constraint_faulty fs ≡ true
    → head_answer n (Err FieldsFaulty) ≡ constraint_head symbols n fs
unfolding constraint_head
head-faulty symbols n fs e = rw e

-- number 6, by the place of the symbol's key among all keys
module _ (fs : List (List ℕ)) (names symbols : List ℕ) (n k s key : ℕ) (fine : is_constraint_faulty fs ≡ false)
    (w : Wide names) (size : length symbols ≡ 2 * k) (room : length symbols ≤ 2 * length names)
    (named : is_name (field_at 1 fs) ≡ true) (keyed : key ≡ key_of (field_at 1 fs)) (e : s ≡ index_from (eqb key) 0 names) where
  abbrev S : List Symbol
  S = symbols_of names symbols k

  number_is : symbol_number S (field_at 1 fs) ≡ min s k
  unfolding symbol_number
  number_is =
      ap (index_of (field_at 1 fs)) (symbol-names names symbols k)
      ∙ sym (named-index (field_at 1 fs) names 0 k named w (omega arith))
      ∙ ap (λ (x : ℕ). index_from (eqb x) 0 (take k names)) (sym keyed)
      ∙ index-take (eqb key) 0 k names (omega arith) ∙ ap₂ min (sym e) (zero-add k)

  tests : is_undeclared S fs ≡ (not (ltb (min s k) k) || not (eqb (length (drop 2 fs)) (symbol_at S (min s k)).arity))
  unfolding is_undeclared
  tests = rw (number_is, symbols-length names symbols k)

  pub head-unknown : length symbols ≤ 2 * s → head_answer n (Err SymbolUndeclared) ≡ constraint_head S n fs
  unfolding constraint_head
  head-unknown h = rw (fine, tests, le-ltb (min s k) k (omega arith))

  module _ (h : 2 * s < length symbols) where
    least : min s k ≡ s
    least = omega arith

    arity-is : (symbol_at S (min s k)).arity ≡ get_or symbols (2 * s) 0
    unfolding symbol_of
    arity-is = ap (λ (i : ℕ). (symbol_at S i).arity) least
        ∙ ap (λ (t : Symbol). t.arity) (symbol-at names symbols k s (omega arith))

    known : is_undeclared S fs ≡ not (eqb (length (drop 2 fs)) (get_or symbols (2 * s) 0))
    known = rw (tests, arity-is, lt-ltb (min s k) k (omega arith))

    pub head-other : 2 ≤ length fs → (get_or symbols (2 * s) 0 + 2 ≡ length fs → ⊥)
        → head_answer n (Err SymbolUndeclared) ≡ constraint_head S n fs
    unfolding constraint_head
    head-other two q =
        rw (fine, known, ne_eqb (length (drop 2 fs)) (get_or symbols (2 * s) 0) (λ z. q (omega (arith, z, length-drop 2 fs))))

    pub head-found : get_or symbols (2 * s) 0 + 2 ≡ length fs → head_answer n (Ok s) ≡ constraint_head S n fs
    unfolding constraint_head
    head-found q =
        rw (fine, known, eq-eqb (length (drop 2 fs)) (get_or symbols (2 * s) 0) (omega (arith, length-drop 2 fs)), number_is, least)
