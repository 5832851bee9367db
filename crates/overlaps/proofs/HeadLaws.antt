-- Two heads joined in place, and the next head joined to its partner.
--   row-joined, row_apart         the heads at two places
--   partner-…                     the next head and its partner
-- Assumes nothing.
use Prim.Native.Nat.{ℕ, zero, suc, ◌+◌, ◌-◌, ◌*◌, ◌≤◌}
use native.Mathlib.Omega.{arith}
use mathlib.Core.Bool.{Bool, true, false}
use mathlib.Core.List.{List, [], ◌∷◌}
use mathlib.Core.Option.{Option, none, some}
use mathlib.Core.Path.{◌≡◌, refl, sym, ap, ◌∙◌}
use lib.ListN.{length, take, drop, get_or, get_elem?, length-drop}
use lib.Seq.{get_or-take, get_or-drop, drop-drop, length-take-le}
use borrow.Author.Tests.{eq-eqb, ne_eqb}
use Rattle.text.specs.Lists.{has}
use Rattle.semantics.specs.Terms.{Constraint}
use Rattle.semantics.specs.Overlaps.{equate}
use Rattle.tables.specs.Cells.{cell_terms, cell_constraints, row_constraint}
use Rattle.tables.proofs.CellLaws.{constraints-at}
use Rattle.overlaps.specs.Joins.{joined_terms, joined, join_next}
use Rattle.overlaps.specs.Cells.{joined_of, terms_from, Heads, Partner}

-- a row's symbol and terms
row-symbol : (cells : List ℕ) (a : ℕ) → get_or (take 5 (drop a cells)) 0 0 ≡ get_or cells a 0
row-symbol cells a =
    let z : a + 0 ≡ a = omega arith in
    get_or-take 5 (drop a cells) 0 0 (omega arith) ∙ get_or-drop a cells 0 0 ∙ ap (λ i. get_or cells i 0) z

row-terms : (cells : List ℕ) (a : ℕ) → cell_terms (drop 1 (take 5 (drop a cells))) ≡ terms_from cells (a + 1) 4
unfolding terms_from
row-terms cells a = ap cell_terms (cut (drop a cells) ∙ ap (take 4) (drop-drop 1 a cells))
  where
    cut : (l : List ℕ) → drop 1 (take 5 l) ≡ take 4 (drop 1 l)
    cut [] = refl
    cut (x ∷ l) = refl

module _ (cells : List ℕ) (a b : ℕ) where
  abbrev both : Option (List Constraint)
  both = joined (row_constraint (take 5 (drop a cells))) (row_constraint (take 5 (drop b cells))) (cell_constraints cells)

  -- heads of different symbols
  pub row_apart : (get_or cells a 0 ≡ get_or cells b 0 → ⊥) → joined_of false cells ≡ both
  unfolding joined_of joined equate row_constraint
  row_apart h = rw (row-symbol cells a, row-symbol cells b, ne_eqb (get_or cells a 0) (get_or cells b 0) h)

  -- heads of one symbol
  pub row-joined :
      (r : Bool) (cells' : List ℕ) → get_or cells a 0 ≡ get_or cells b 0
      → joined_of r cells' ≡ joined_terms (terms_from cells (a + 1) 4) (terms_from cells (b + 1) 4) (cell_constraints cells)
      → joined_of r cells' ≡ both
  unfolding joined_terms joined equate row_constraint
  row-joined r cells' h e =
      rw (
        row-symbol cells a,
        row-symbol cells b,
        eq-eqb (get_or cells a 0) (get_or cells b 0) h,
        row-terms cells a,
        row-terms cells b,
      )
      e

-- a head by its position
pub element-row :
    (cells : List ℕ) (k : ℕ) → 5 * k + 5 ≤ length cells
    → get_elem? (cell_constraints cells) k ≡ some (row_constraint (take 5 (drop (5 * k) cells)))
element-row cells zero h = ap (λ l. get_elem? l 0) (constraints-at cells 0 (omega arith))
element-row cells (suc k) h =
    let e : 5 + 5 * k ≡ 5 * suc k = omega arith in
    ap (λ l. get_elem? l (suc k)) (constraints-at cells 0 (omega arith))
    ∙ element-row (drop 5 cells) k (omega (arith, length-drop 5 cells))
    ∙ ap (λ l. some (row_constraint (take 5 l))) (drop-drop (5 * k) 5 cells ∙ ap (λ n. drop n cells) e)

module _ (cells : List ℕ) (m : ℕ) (partners : List ℕ) (h d : ℕ) (w : Partner cells m partners h d) where
  -- no partner
  pub partner-none : d ≡ 0 → joined_of true cells ≡ join_next m (take h partners) d (cell_constraints cells)
  unfolding joined_of join_next
  partner-none e = rw e

  module _ (n : d ≡ 0 → ⊥) where
    -- a partner that an earlier head has
    pub partner-repeat :
        (r : Bool) → r ≡ true → r ≡ has d (take h partners)
        → joined_of false cells ≡ join_next m (take h partners) d (cell_constraints cells)
    unfolding joined_of join_next
    partner-repeat r e f = go d n (sym e ∙ f)
      where
        go : (d : ℕ) → (d ≡ 0 → ⊥) → true ≡ has d (take h partners)
            → none ≡ join_next m (take h partners) d (cell_constraints cells)
        go zero z q = absurd (z refl)
        go (suc d) z q = rw (← q)

    -- what joining the two heads asks
    pub partner-heads : Heads cells (5 * h) (5 * (m + d - 1))
    partner-heads =
        record {
          low = w.low;
          first = omega (arith, w.first, w.second);
          second = omega (arith, w.first, w.second);
        }

    -- a new partner
    pub partner-new :
        (r s : Bool) (cells' : List ℕ) → s ≡ false → s ≡ has d (take h partners)
        → joined_of r cells'
        ≡ joined (row_constraint (take 5 (drop (5 * h) cells))) (row_constraint (take 5 (drop (5 * (m + d - 1)) cells)))
        (cell_constraints cells)
        → joined_of r cells' ≡ join_next m (take h partners) d (cell_constraints cells)
    unfolding join_next
    partner-new r s cells' e f g = g ∙ go d n (sym e ∙ f) partner-heads.first partner-heads.second
      where
        go : (d : ℕ) → (d ≡ 0 → ⊥) → false ≡ has d (take h partners) → 5 * h + 5 ≤ length cells
            → 5 * (m + d - 1) + 5 ≤ length cells
            → joined (row_constraint (take 5 (drop (5 * h) cells))) (row_constraint (take 5 (drop (5 * (m + d - 1)) cells)))
            (cell_constraints cells)
            ≡ join_next m (take h partners) d (cell_constraints cells)
        go zero z q a b = absurd (z refl)
        go (suc d) z q a b =
            let p : m + suc d - 1 ≡ m + d = omega arith in
            rw (
              ← q,
              length-take-le h partners (omega (arith, w.first, w.few, w.partners-size)),
              element-row cells h a,
              ← p,
              element-row cells (m + suc d - 1) b,
            )
