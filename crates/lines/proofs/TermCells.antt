-- Laws of the terms of a line as cells.
--   cell-term, cell-used, cell-later       the cell of a term: what it stands for, and that later constants do not change it
--   padded-..                              cells with zeros behind them
--   Walk, walk-..                          the terms of a line, one field on
-- Assumes nothing.
use mathlib.Core.Path.{◌≡◌, refl, sym, ap, ap₂, ◌∙◌}
use mathlib.Core.Bool.{Bool, true, false, cond, ◌||◌}
use mathlib.Core.List.{List, [], ◌∷◌, ◌++◌, map}
use Prim.Native.Nat.{ℕ, zero, suc, ◌+◌, ◌-◌, ◌≤◌, ◌<◌}
use native.Mathlib.Omega.{arith}
use borrow.Author.Tests.{ne_eqb, leb-true, ltb-true}
use lib.Dec.{ltb, leb}
use lib.ListN.{length, get_or, set}
use Rattle.text.specs.Bytes.{between}
use Rattle.text.specs.Lists.{every, index_of, is_known}
use Rattle.text.specs.Fields.{is_name, is_variable, is_term}
use Rattle.text.specs.Constants.{constant_name}
use Rattle.text.specs.Keys.{key_of}
use Rattle.text.proofs.Bools.{and-true}
use Rattle.semantics.specs.Terms.{Term, con, var}
use Rattle.syntax.specs.Forms.{constants_after, first_constant, term_of, letter_number}
use Rattle.syntax.proofs.Known.{with-known}
use Rattle.syntax.proofs.Tabled.{name-first}
use Rattle.tables.specs.Cells.{cell_term, cell_terms}
use Rattle.tables.proofs.CellLaws.{cell-low, cell-high}
use Rattle.lines.specs.Read.{term_cell, padded}
use Rattle.text.proofs.Keys.{variable-key, letter-key}

-- a term that is no name is a letter, with a key from 2 to 27
module _ (f : List ℕ) (t : is_term f ≡ true) (n : is_name f ≡ false) where
  pub letter-is : is_variable f ≡ true
  unfolding is_term
  letter-is = sym (ap (λ (b : Bool). b || is_variable f) n) ∙ t

  pub letter-range : (2 ≤ key_of f) × (key_of f ≤ 27)
  unfolding between
  letter-range =
      let (a, b) = and-true (leb 2 (key_of f)) (leb (key_of f) 27) (sym (variable-key f) ∙ letter-is) in
      (leb-true 2 (key_of f) a, leb-true (key_of f) 27 b)

  letter-first : letter_number f ≡ key_of f - 2
  unfolding letter_number is_variable
  letter-first = go f letter-is (letter-key f letter-is)
    where
      go : (g : List ℕ) → is_variable g ≡ true → get_or g 0 0 ≡ key_of g + 63 → get_or g 0 65 - 65 ≡ key_of g - 2
      go [] e k = absurd (let z : ◌≡◌ {A = ℕ} 0 1 = cc in omega arith)
      go (b ∷ []) e k = omega arith
      go (b ∷ c ∷ s) e k = absurd (let z : ◌≡◌ {A = ℕ} 0 1 = cc in omega arith)

-- what the cell of a term stands for
module _ (cs : List (List ℕ)) (f : List ℕ) (t : is_term f ≡ true) where
  pub cell-term : index_of (constant_name f) cs < 192 → cell_term (term_cell cs f) ≡ term_of letter_number cs f
  unfolding term_cell term_of
  cell-term h = go (is_name f) refl
    where
      go : (b : Bool) → is_name f ≡ b
          → cell_term (cond b (first_constant + index_of (constant_name f) cs) (254 + key_of f))
          ≡ cond b (con (first_constant + index_of (constant_name f) cs)) (var (letter_number f))
      go true e = cell-low (first_constant + index_of (constant_name f) cs) (omega arith)
      go false e =
          let (a, b) = letter-range f t e in
          cell-high (254 + key_of f) (omega arith)
          ∙ ap var (let z : 254 + key_of f - 256 ≡ key_of f - 2 = omega arith in z ∙ sym (letter-first f t e))

  pub cell-used : term_cell cs f ≡ 0 → ⊥
  unfolding term_cell
  cell-used = go (is_name f)
    where
      go : (b : Bool) → cond b (first_constant + index_of (constant_name f) cs) (254 + key_of f) ≡ 0 → ⊥
      go true e = omega arith
      go false e = omega arith

-- later constants do not change the cell of a term whose name is known
pub cell-later : (cs more : List (List ℕ)) (f : List ℕ) → (is_name f ≡ true → is_known (constant_name f) cs ≡ true)
    → term_cell (cs ++ more) f ≡ term_cell cs f
unfolding term_cell is_known
cell-later cs more f h = go (is_name f) h
  where
    go : (b : Bool) → (b ≡ true → ltb (index_of (constant_name f) cs) (length cs) ≡ true)
        → cond b (first_constant + index_of (constant_name f) (cs ++ more)) (254 + key_of f)
        ≡ cond b (first_constant + index_of (constant_name f) cs) (254 + key_of f)
    go true k =
        ap (λ (p : ℕ). first_constant + p)
        (name-first (constant_name f) cs more (ltb-true (index_of (constant_name f) cs) (length cs) (k refl)))
    go false k = refl

-- a term's own name is known behind it
pub one_known : (cs : List (List ℕ)) (f : List ℕ) → is_name f ≡ true → is_known (constant_name f) (constants_after (f ∷ []) cs) ≡ true
unfolding constants_after
one_known cs f e = rw e (with-known (constant_name f) cs)

pub padded-set : (n : ℕ) (l : List ℕ) (x : ℕ) → length l < n → set (padded n l) (length l) x ≡ padded n (l ++ (x ∷ []))
unfolding padded
padded-set zero l x h = absurd (omega arith)
padded-set (suc n) [] x h = refl
padded-set (suc n) (y ∷ l) x h = ap (λ (k : List ℕ). y ∷ k) (padded-set n l x (omega arith))

padded-none : (n : ℕ) → cell_terms (padded n []) ≡ []
unfolding padded cell_terms
padded-none zero = refl
padded-none (suc n) = refl

pub padded-terms :
    (n : ℕ) (cs gs : List (List ℕ)) → length gs ≤ n → ((g : List ℕ) → index_of g cs < 192) → every is_term gs ≡ true
    → cell_terms (padded n (map (term_cell cs) gs)) ≡ map (term_of letter_number cs) gs
unfolding padded cell_terms
padded-terms n cs [] h few t = padded-none n
padded-terms zero cs (g ∷ gs) h few t = absurd (omega arith)
padded-terms (suc n) cs (g ∷ gs) h few t =
    let (a, b) = and-true (is_term g) (every is_term gs) t in
    rw (ne_eqb (term_cell cs g) 0 (cell-used cs g a))
    (ap₂ (λ (x : Term) (l : List Term). x ∷ l) (cell-term cs g a (few (constant_name g)))
    (padded-terms n cs gs (omega arith) few b))
