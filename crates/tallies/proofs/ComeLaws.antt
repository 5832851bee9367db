-- When symbols last came: the loops that read and write the table.
--   entry-there, nothing-behind      the entries of a table
--   Meeting                          the loop of `is_concerned`
--   Marking                          that of `mark`
-- Assumes nothing.
use Prim.Native.Nat.{ℕ, zero, suc, ◌+◌, ◌*◌, ◌≤◌, ◌<◌}
use native.Mathlib.Omega.{arith}
use native.Mathlib.Numerals.{add-one}
use mathlib.Core.Bool.{Bool, true, false, ◌||◌}
use mathlib.Core.List.{List, [], ◌∷◌, ◌++◌}
use mathlib.Core.Logic.{⊎_elim}
use mathlib.Core.Path.{◌≡◌, refl, sym, ◌∙◌}
use lib.Dec.{eqb, ltb}
use lib.ListN.{length, get_or, set, take, drop, length-set, get_or-eq_default}
use lib.Seq.{get_or-set_same, get_or-set_other}
use borrow.Author.Tests.{lt-ltb, le-ltb, eqb-true, eqb-false}
use Rattle.semantics.specs.Terms.{Constraint}
use Rattle.tables.specs.Cells.{cell_constraints, row_constraint}
use Rattle.tables.proofs.CellLaws.{either, constraints-at, constraints-short}
use Rattle.tallies.specs.Symbols.{has_symbol, is_concerned, Marked}
use Rattle.tallies.proofs.CountLaws.{row-symbol, front-more, front-all}

-- behind the end of a table nothing is there
pub nothing-behind : (l : List ℕ) (i d : ℕ) → length l ≤ i → d ≡ get_or l i d
nothing-behind l i d h = sym (get_or-eq_default l d {n = i} h)

-- what is there, whatever stands for nothing
pub entry-there : (l : List ℕ) (i d r : ℕ) → r ≡ get_or l i 0 → i < length l → r ≡ get_or l i d
entry-there [] i d r e h = absurd (omega arith)
entry-there (x ∷ l) zero d r e h = e
entry-there (x ∷ l) (suc i) d r e h = entry-there l i d r e (omega arith)

-- the same at a symbol
pub symbol-there : (l : List ℕ) (i s d r : ℕ) → i ≡ s → r ≡ get_or l i 0 → i < length l → r ≡ get_or l s d
symbol-there l i s d r z e h = rw (← z) (entry-there l i d r e h)

pub symbol-behind : (l : List ℕ) (i s d : ℕ) → i ≡ s → length l ≤ i → d ≡ get_or l s d
symbol-behind l i s d z h = rw (← z) (nothing-behind l i d h)

-- the heads from i on are concerned where all are
pub record Meeting (heads last : List ℕ) (v whole i : ℕ) : Type 0 where
  pub within : 5 * i ≤ length heads
  pub same : is_concerned last whole v (cell_constraints (drop (5 * i) heads)) ≡ is_concerned last whole v (cell_constraints heads)

pub meeting-start : (heads last : List ℕ) (v whole : ℕ) → Meeting heads last v whole 0
meeting-start heads last v whole = record { within = omega arith; same = refl }

module _ (heads last : List ℕ) (v whole i : ℕ) (w : Meeting heads last v whole i) where
  pub meeting-end : length heads < 5 * i + 5 → false ≡ is_concerned last whole v (cell_constraints heads)
  unfolding is_concerned
  meeting-end h = rw (constraints-short heads i (omega arith)) at w.same

  module _ (h : 5 * i + 5 ≤ length heads) (x : ℕ) (e : x ≡ get_or last (get_or heads (5 * i) 0) whole) where
    split-heads :
        (ltb v x || is_concerned last whole v (cell_constraints (drop (5 * suc i) heads))) ≡ is_concerned last whole v
        (cell_constraints heads)
    unfolding is_concerned
    split-heads = rw (constraints-at heads i h, row-symbol heads i, ← e) at w.same

    pub meeting-found : v < x → true ≡ is_concerned last whole v (cell_constraints heads)
    meeting-found z = rw (lt-ltb v x z) at split-heads

    pub meeting-next : x ≤ v → Meeting heads last v whole (i + 1)
    meeting-next z = rw (add-one i) (record { within = omega arith; same = rw (le-ltb v x z) at split-heads })

-- a symbol among constraints with one more
symbol-last :
    (s : ℕ) (cs : List Constraint) (c : Constraint) → has_symbol s (cs ++ (c ∷ [])) ≡ (eqb c.symbol s || has_symbol s cs)
unfolding has_symbol
symbol-last s [] c = refl
symbol-last s (d ∷ cs) c = rw (symbol-last s cs c) (go (eqb d.symbol s) (eqb c.symbol s))
  where
    go : (a b : Bool) → (a || (b || has_symbol s cs)) ≡ (b || (a || has_symbol s cs))
    go true true = refl
    go true false = refl
    go false true = refl
    go false false = refl

-- the first i constraints are marked
pub record Marking (start body : List ℕ) (whole : ℕ) (last : List ℕ) (i : ℕ) : Type 0 where
  pub within : 5 * i ≤ length body
  pub size : length last ≡ length start
  pub marks : Marked start (take i (cell_constraints body)) whole last

pub marking-start : (start body : List ℕ) (whole : ℕ) → Marking start body whole start 0
unfolding has_symbol
marking-start start body whole =
    record { within = omega arith; size = refl; marks = record { marked = λ s. refl } }

module _ (start body : List ℕ) (whole : ℕ) (last : List ℕ) (i : ℕ) (w : Marking start body whole last i) where
  pub marking-end : length body < 5 * i + 5 → Marked start (cell_constraints body) whole last
  marking-end h = rw (front-all body i h) at w.marks

  module _ (h : 5 * i + 5 ≤ length body) where
    more-marked : (s : ℕ) → has_symbol s (take (suc i) (cell_constraints body))
        ≡ (eqb (get_or body (5 * i) 0) s || has_symbol s (take i (cell_constraints body)))
    more-marked s =
        rw (front-more body i h) (symbol-last s (take i (cell_constraints body)) (row_constraint (take 5 (drop (5 * i) body)))
        ∙ rw (row-symbol body i))

    -- the table has no entry for it
    pub marking-other : (x : ℕ) → x ≡ get_or body (5 * i) 0 → length last ≤ x → Marking start body whole last (i + 1)
    marking-other x z l =
        rw (add-one i) (record {
          within = omega arith;
          size = w.size;
          marks = record {
            marked = λ s. rw (more-marked s) (⊎_elim
                (λ t. let e : get_or body (5 * i) 0 ≡ s = eqb-true (get_or body (5 * i) 0) s t in
                rw t (get_or-eq_default last whole {n = s} (omega arith)))
                (λ t. rw t (w.marks.marked s))
                (either (eqb (get_or body (5 * i) 0) s)));
          };
        })

    -- it is marked
    pub marking-next :
        (last' : List ℕ) (x : ℕ) → x ≡ get_or body (5 * i) 0 → x < length last → last' ≡ set last x whole
        → Marking start body whole last' (i + 1)
    marking-next last' x z l g =
        rw (add-one i, g, z) (record {
          within = omega arith;
          size = length-set last (get_or body (5 * i) 0) whole ∙ w.size;
          marks = record {
            marked = λ s. rw (more-marked s) (⊎_elim
                (λ t. let e : get_or body (5 * i) 0 ≡ s = eqb-true (get_or body (5 * i) 0) s t in
                rw (t, ← e) (get_or-set_same last (get_or body (5 * i) 0) whole whole (omega arith)))
                (λ t. rw t (get_or-set_other last (get_or body (5 * i) 0) s whole whole
                (λ e. eqb-false (get_or body (5 * i) 0) s t (sym e))
                ∙ w.marks.marked s))
                (either (eqb (get_or body (5 * i) 0) s)));
          };
        })
