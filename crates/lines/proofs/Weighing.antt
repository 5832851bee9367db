-- Laws of the weight of constraints in cells, five to each.
--   constraints-append                        whole constraints in front of more cells
--   five-is                                   five cells are one constraint
--   weight-known, weight-none                 the weight of a symbol by the table
--   weight-step, weight-end                   the weight of the constraints from a place on, and from the next on
-- Assumes nothing.
use mathlib.Core.Path.{◌≡◌, refl, sym, ap, ap₂, ◌∙◌}
use mathlib.Core.List.{List, [], ◌∷◌, ◌++◌}
use Prim.Native.Nat.{ℕ, zero, suc, ◌+◌, ◌*◌, ◌≤◌, ◌<◌}
use native.Mathlib.Nat.{add-zero}
use native.Mathlib.Omega.{arith}
use lib.ListN.{length, drop, get_or, length-drop, get_or-eq_default}
use lib.Seq.{get_or-drop, drop-drop}
use Rattle.semantics.specs.Terms.{Symbol, Constraint, no_symbol, symbol_at, weight}
use Rattle.tables.specs.Cells.{cell_terms, row_constraint, cell_constraints}
use Rattle.tables.specs.Rows.{symbol_of, symbols_of}
use Rattle.lines.proofs.HeadLaws.{symbols-length, symbol-at}

pub constraints-append : (h : ℕ) (xs ys : List ℕ) → length xs ≡ 5 * h
    → cell_constraints (xs ++ ys) ≡ cell_constraints xs ++ cell_constraints ys
unfolding cell_constraints
constraints-append zero [] ys e = refl
constraints-append zero (x ∷ xs) ys e = absurd (omega arith)
constraints-append (suc h) [] ys e = absurd (omega arith)
constraints-append (suc h) (a ∷ []) ys e = absurd (omega arith)
constraints-append (suc h) (a ∷ b ∷ []) ys e = absurd (omega arith)
constraints-append (suc h) (a ∷ b ∷ c ∷ []) ys e = absurd (omega arith)
constraints-append (suc h) (a ∷ b ∷ c ∷ d ∷ []) ys e = absurd (omega arith)
constraints-append (suc h) (a ∷ b ∷ c ∷ d ∷ f ∷ xs) ys e =
    ap (λ (l : List Constraint). record { symbol = a; terms = cell_terms (b ∷ c ∷ d ∷ f ∷ []) } ∷ l)
    (constraints-append h xs ys (omega arith))

-- five cells are one constraint
pub five-is : (vs : List ℕ) → length vs ≡ 5 → cell_constraints vs ≡ row_constraint vs ∷ []
unfolding cell_constraints row_constraint
five-is [] h = absurd (omega arith)
five-is (k ∷ []) h = absurd (omega arith)
five-is (k ∷ a ∷ []) h = absurd (omega arith)
five-is (k ∷ a ∷ b ∷ []) h = absurd (omega arith)
five-is (k ∷ a ∷ b ∷ c ∷ []) h = absurd (omega arith)
five-is (k ∷ a ∷ b ∷ c ∷ d ∷ []) h = refl
five-is (k ∷ a ∷ b ∷ c ∷ d ∷ e ∷ vs) h = absurd (omega arith)

module _ (names symbols : List ℕ) (k : ℕ) (size : length symbols ≡ 2 * k) (s : ℕ) where
  pub weight-known : 2 * s + 1 < length symbols → get_or symbols (2 * s + 1) 0 ≡ (symbol_at (symbols_of names symbols k) s).weight
  unfolding symbol_of
  weight-known h = sym (ap (λ (t : Symbol). t.weight) (symbol-at names symbols k s (omega arith)))

  pub weight-none : length symbols ≤ 2 * s + 1 → 0 ≡ (symbol_at (symbols_of names symbols k) s).weight
  unfolding symbol_at no_symbol
  weight-none h =
      sym (ap (λ (t : Symbol). t.weight) (get_or-eq_default (symbols_of names symbols k) no_symbol {n = s}
      (omega (arith, symbols-length names symbols k))))

weight-first : (symbols : List Symbol) (l : List ℕ) → 5 ≤ length l
    → weight symbols (cell_constraints l) ≡ (symbol_at symbols (get_or l 0 0)).weight + weight symbols (cell_constraints (drop 5 l))
unfolding weight cell_constraints
weight-first symbols [] h = absurd (omega arith)
weight-first symbols (a ∷ []) h = absurd (omega arith)
weight-first symbols (a ∷ b ∷ []) h = absurd (omega arith)
weight-first symbols (a ∷ b ∷ c ∷ []) h = absurd (omega arith)
weight-first symbols (a ∷ b ∷ c ∷ d ∷ []) h = absurd (omega arith)
weight-first symbols (a ∷ b ∷ c ∷ d ∷ e ∷ l) h = refl

pub weight-step : (symbols : List Symbol) (l : List ℕ) (i : ℕ) → i + 5 ≤ length l
    → weight symbols (cell_constraints (drop i l))
    ≡ (symbol_at symbols (get_or l i 0)).weight + weight symbols (cell_constraints (drop (i + 5) l))
weight-step symbols l i h =
    weight-first symbols (drop i l) (omega (arith, length-drop i l))
    ∙ ap₂ (λ (k : ℕ) (t : List ℕ). (symbol_at symbols k).weight + weight symbols (cell_constraints t))
    (get_or-drop i l 0 0 ∙ ap (λ (j : ℕ). get_or l j 0) (add-zero i)) (drop-drop 5 i l)

weight-short : (symbols : List Symbol) (l : List ℕ) → length l < 5 → weight symbols (cell_constraints l) ≡ 0
unfolding weight cell_constraints
weight-short symbols [] h = refl
weight-short symbols (a ∷ []) h = refl
weight-short symbols (a ∷ b ∷ []) h = refl
weight-short symbols (a ∷ b ∷ c ∷ []) h = refl
weight-short symbols (a ∷ b ∷ c ∷ d ∷ []) h = refl
weight-short symbols (a ∷ b ∷ c ∷ d ∷ e ∷ l) h = absurd (omega arith)

pub weight-end : (symbols : List Symbol) (l : List ℕ) (i : ℕ) → length l < i + 5 → weight symbols (cell_constraints (drop i l)) ≡ 0
weight-end symbols l i h = weight-short symbols (drop i l) (omega (arith, length-drop i l))
