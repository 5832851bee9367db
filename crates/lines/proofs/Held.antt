-- Laws of the fields that a line holds, by their keys.
--   key-at               the key of a field
--   terms-..             whether the fields from one on are terms
--   faulty-.., fine-..   number 4 of an H, B or G line, by the test that decides it
-- Assumes nothing.
use mathlib.Core.Path.{◌≡◌, refl, sym, ap, ◌∙◌}
use mathlib.Core.Bool.{Bool, true, false, not, ◌||◌}
use mathlib.Core.List.{List, [], map}
use Prim.Native.Nat.{ℕ, suc, ◌≤◌, ◌<◌}
use native.Mathlib.Omega.{arith}
use borrow.Author.Tests.{le-leb, lt-leb, lt-ltb, le-ltb}
use lib.Dec.{ltb}
use lib.ListN.{length, take, drop, get_or, drop_of_length-le}
use lib.Seq.{drop-cons}
use Rattle.text.specs.Bytes.{between}
use Rattle.text.specs.Lists.{every}
use Rattle.text.specs.Fields.{is_name, is_term}
use Rattle.text.specs.Keys.{key_of}
use Rattle.text.proofs.SplitLaws as split
use Rattle.text.proofs.ClassLaws.{between-true}
use Rattle.syntax.specs.Forms.{field_at, is_constraint_faulty}
use Rattle.syntax.proofs.WellFormed.{or-neither, not-false}
use Rattle.text.proofs.Keys.{name-key, term-key}

module _ (fs : List (List ℕ)) (keys : List ℕ) (h : take (length fs) keys ≡ take 8 (map key_of fs)) where
  -- the key of a field
  pub key-at : (i : ℕ) → i < length fs → i < 8 → get_or keys i 0 ≡ key_of (get_or fs i [])
  key-at i a b =
      split.key-at fs (record { faulty = false; end = 0; count = length fs; keys = keys; starts = [] }) i
      (record { counted = refl; keyed = h }) b a

  -- whether it is a name, whether it is a term
  pub name-at : (i : ℕ) → i < length fs → i < 8 → is_name (get_or fs i []) ≡ ltb 27 (get_or keys i 0)
  name-at i a b = name-key (get_or fs i []) ∙ ap (ltb 27) (sym (key-at i a b))

  pub term-at : (i : ℕ) → i < length fs → i < 8 → is_term (get_or fs i []) ≡ ltb 1 (get_or keys i 0)
  term-at i a b = term-key (get_or fs i []) ∙ ap (ltb 1) (sym (key-at i a b))

  -- whether the fields from one on are terms
  pub terms-fail : (i : ℕ) → i < length fs → i < 8 → get_or keys i 0 < 2 → every is_term (drop i fs) ≡ false
  terms-fail i a b k = rw (drop-cons fs i [] a, term-at i a b, le-ltb 1 (get_or keys i 0) (omega arith))

  pub terms-step : (i : ℕ) → i < length fs → i < 8 → 2 ≤ get_or keys i 0 → every is_term (drop i fs) ≡ every is_term (drop (suc i) fs)
  terms-step i a b k = rw (drop-cons fs i [] a, term-at i a b, lt-ltb 1 (get_or keys i 0) (omega arith))

  -- number 4 of an H, B or G line
  module _ (lo : 2 ≤ length fs) (hi : length fs ≤ 6) where
    shape : is_constraint_faulty fs ≡ (not (ltb 27 (get_or keys 1 0)) || not (every is_term (drop 2 fs)))
    unfolding is_constraint_faulty between field_at
    shape =
        rw (le-leb 2 (length fs) lo, le-leb (length fs) 6 hi, name-at 1 (omega arith) (omega arith))

    pub faulty-name : get_or keys 1 0 < 28 → is_constraint_faulty fs ≡ true
    faulty-name k = rw (shape, le-ltb 27 (get_or keys 1 0) (omega arith))

    pub faulty-terms : (t : Bool) → 28 ≤ get_or keys 1 0 → t ≡ every is_term (drop 2 fs) → is_constraint_faulty fs ≡ not t
    faulty-terms t k e = rw (shape, lt-ltb 27 (get_or keys 1 0) (omega arith), ← e)

pub terms-end : (fs : List (List ℕ)) (i : ℕ) → length fs ≤ i → every is_term (drop i fs) ≡ true
terms-end fs i h = rw (drop_of_length-le fs h)

pub faulty-few : (fs : List (List ℕ)) → length fs < 2 → is_constraint_faulty fs ≡ true
unfolding is_constraint_faulty between
faulty-few fs h = rw (lt-leb 2 (length fs) h)

pub faulty-many : (fs : List (List ℕ)) → 6 < length fs → is_constraint_faulty fs ≡ true
unfolding is_constraint_faulty between
faulty-many fs h = rw (le-leb 2 (length fs) (omega arith), lt-leb (length fs) 6 h)

-- the symbol's name of an H, B or G line of the right form
module _ (fs : List (List ℕ)) (fine : is_constraint_faulty fs ≡ false) where
  fine-parts : (not (between 2 6 (length fs)) || not (is_name (field_at 1 fs)) ≡ false) × (not (every is_term (drop 2 fs)) ≡ false)
  unfolding is_constraint_faulty
  fine-parts = or-neither (not (between 2 6 (length fs)) || not (is_name (field_at 1 fs))) (not (every is_term (drop 2 fs))) fine

  pub second-name : is_name (field_at 1 fs) ≡ true
  second-name =
      not-false _ (or-neither (not (between 2 6 (length fs))) (not (is_name (field_at 1 fs))) fine-parts.0).1

  pub fine-terms : every is_term (drop 2 fs) ≡ true
  fine-terms = not-false _ fine-parts.1

  pub fine-count : (2 ≤ length fs) × (length fs ≤ 6)
  fine-count =
      between-true 2 6 (length fs)
      (not-false _ (or-neither (not (between 2 6 (length fs))) (not (is_name (field_at 1 fs))) fine-parts.0).0)

  pub second_key : (keys : List ℕ) → take (length fs) keys ≡ take 8 (map key_of fs) → get_or keys 1 0 ≡ key_of (field_at 1 fs)
  unfolding field_at
  second_key keys h = key-at fs keys h 1 (omega (arith, fine-count.0)) (omega arith)
