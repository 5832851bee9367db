-- Firing on cells is firing on constraints: copying, removing and instantiating.
-- Assumes nothing.
use Prim.Native.Nat.{ℕ, ◌+◌, ◌-◌, ◌*◌, ◌≤◌}
use native.Mathlib.Omega.{arith}
use mathlib.Core.Bool.{true, false, cond}
use mathlib.Core.List.{List, [], ◌∷◌, ◌++◌}
use mathlib.Core.Logic.{◌⊎◌, inl, inr, ⊎_elim}
use mathlib.Core.Path.{◌≡◌, refl, ap, sym, ◌∙◌}
use lib.Dec.{eqb, ltb}
use lib.ListN.{length, get_or, take, drop}
use lib.Seq.{paste, drop-paste, drop-drop}
use borrow.Author.Tests.{eqb-false, lt-ltb, le-ltb}
use Rattle.text.specs.Lists.{onward}
use Rattle.semantics.specs.Terms.{var, is_below, alphabet}
use Rattle.semantics.specs.Firing.{instance}
use Rattle.tables.specs.Cells.{cell_term, cell_constraints, row_constraint}
use Rattle.fitting.specs.Cells.{assigned}
use Rattle.engine.specs.Cells.{instance_cell}
use Rattle.tables.proofs.CellLaws.{either, le-or-lt, cell-low, cell-high}
use Rattle.tables.proofs.MapLaws.{Acts}

-- instantiating cells is instantiating terms
pub instance-acts :
    (next : ℕ) (bindings : List ℕ) → Acts (is_below alphabet) (instance_cell next bindings) (instance next (assigned bindings))
unfolding instance_cell instance assigned is_below alphabet
instance-acts next bindings = record { low = λ x l. rw (lt-ltb x 256 l); used = used; term = term }
  where
    letter : (x : ℕ) → 256 ≤ x
        → (eqb (get_or bindings (x - 256) 0) 0 ≡ true) ⊎ (eqb (get_or bindings (x - 256) 0) 0 ≡ false)
        → cond (eqb (get_or bindings (x - 256) 0) 0) (next + x) (get_or bindings (x - 256) 0) ≡ 0 → ⊥
    letter x h (inl e) = rw e (λ (z : next + x ≡ 0). omega arith)
    letter x h (inr e) = rw e (eqb-false (get_or bindings (x - 256) 0) 0 e)

    letter-term : (x : ℕ) → 256 ≤ x
        → (eqb (get_or bindings (x - 256) 0) 0 ≡ true) ⊎ (eqb (get_or bindings (x - 256) 0) 0 ≡ false)
        → cell_term (cond (eqb (get_or bindings (x - 256) 0) 0) (next + x) (get_or bindings (x - 256) 0))
        ≡ onward (assigned bindings (x - 256)) (var (next + (x - 256))) (λ t. t)
    letter-term x h (inl e) =
        let v : next + x - 256 ≡ next + (x - 256) = omega arith in
        rw (e, cell-high (next + x) (omega arith), v)
    letter-term x h (inr e) = rw e

    used : (x : ℕ) → (x ≡ 0 → ⊥) → instance_cell next bindings x ≡ 0 → ⊥
    used x n =
        ⊎_elim
        (λ h. ⊎_elim
        (λ k. rw (le-ltb x 256 h, le-ltb (x - 256) 26 k) n)
        (λ k. rw (le-ltb x 256 h, lt-ltb (x - 256) 26 k) (letter x h (either (eqb (get_or bindings (x - 256) 0) 0))))
        (le-or-lt 26 (x - 256)))
        (λ h. rw (lt-ltb x 256 h) n)
        (le-or-lt 256 x)

    term : (x : ℕ) → is_below alphabet (cell_term x) ≡ true
        → cell_term (instance_cell next bindings x) ≡ instance next (assigned bindings) (cell_term x)
    term x g =
        ⊎_elim
        (λ h.
        let k : ltb (x - 256) 26 ≡ true = rw (cell-high x h) at g in
        rw (cell-high x h, le-ltb x 256 h, k) (letter-term x h (either (eqb (get_or bindings (x - 256) 0) 0))))
        (λ h. rw (lt-ltb x 256 h, cell-low x h))
        (le-or-lt 256 x)

-- constraints behind whole constraints
pub constraints-append :
    (k : ℕ) (s t : List ℕ) → length s ≡ 5 * k → cell_constraints (s ++ t) ≡ cell_constraints s ++ cell_constraints t
unfolding cell_constraints
constraints-append k [] t h = refl
constraints-append k (a ∷ []) t h = absurd (omega arith)
constraints-append k (a ∷ b ∷ []) t h = absurd (omega arith)
constraints-append k (a ∷ b ∷ c ∷ []) t h = absurd (omega arith)
constraints-append k (a ∷ b ∷ c ∷ d ∷ []) t h = absurd (omega arith)
constraints-append k (a ∷ b ∷ c ∷ d ∷ e ∷ s) t h =
    rw (constraints-append (k - 1) s t (omega arith))

-- behind a copied row nothing changes
pub drop-moved :
    (at : ℕ) (s l : List ℕ) (n : ℕ) → at + 5 ≤ n → at ≤ length l → 5 ≤ length s → drop n (paste l at s 5) ≡ drop n l
drop-moved at s l n h k t =
    let e : at + 5 + (n - (at + 5)) ≡ n = omega arith in
    rw e at (sym (drop-drop (n - (at + 5)) (at + 5) (paste l at s 5)) ∙ ap (drop (n - (at + 5))) (drop-paste l at s 5 k t)
    ∙ drop-drop (n - (at + 5)) (at + 5) l)

-- a row as constraints
pub row-constraints : (l : List ℕ) → 5 ≤ length l → cell_constraints (take 5 l) ≡ row_constraint (take 5 l) ∷ []
unfolding cell_constraints row_constraint
row-constraints [] h = absurd (omega arith)
row-constraints (a ∷ []) h = absurd (omega arith)
row-constraints (a ∷ b ∷ []) h = absurd (omega arith)
row-constraints (a ∷ b ∷ c ∷ []) h = absurd (omega arith)
row-constraints (a ∷ b ∷ c ∷ d ∷ []) h = absurd (omega arith)
row-constraints (a ∷ b ∷ c ∷ d ∷ e ∷ l) h = refl
