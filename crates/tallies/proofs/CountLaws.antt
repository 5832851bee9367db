-- The loops over the tally by symbol.
--   row-symbol, front-more, front-all    the first constraints of cells, and one more
--   Counting                             the loop of `count_symbol`
--   Sufficing                            that of `is_short`: the first heads do not outnumber the tally
--   Raising, Lowering                    those of `raise` and `lower`
-- Assumes nothing.
use Prim.Native.Nat.{ℕ, zero, suc, ◌+◌, ◌-◌, ◌*◌, ◌≤◌, ◌<◌}
use native.Mathlib.Omega.{arith}
use native.Mathlib.Numerals.{add-one}
use mathlib.Core.Bool.{Bool, true, false, cond}
use mathlib.Core.List.{List, [], ◌∷◌, ◌++◌, append-nil}
use mathlib.Core.Logic.{⊎_elim}
use mathlib.Core.Path.{◌≡◌, refl, sym, ap, ◌∙◌}
use lib.Dec.{eqb}
use lib.ListN.{length, get_or, set, take, drop, length-set, take-append-drop, get_or-eq_default}
use lib.Seq.{get_or-take, get_or-drop, get_or-set_same, get_or-set_other, take-add}
use borrow.Author.Tests.{eq-eqb, ne_eqb, eqb-true, eqb-false}
use Rattle.semantics.specs.Terms.{Constraint, weight_by}
use Rattle.semantics.specs.Tally.{tally_of, is_short}
use Rattle.semantics.proofs.Tallies.{tally-append, tally-length, short-outnumbered}
use Rattle.semantics.proofs.Weights.{every-at}
use Rattle.tables.specs.Cells.{cell_constraints, row_constraint, is_low}
use Rattle.tables.proofs.CellLaws.{either, constraints-at, constraints-short, constraints-drop, constraints-take}
use Rattle.tables.proofs.CellLaws.{element-row, low-symbol}
use Rattle.tallies.specs.Symbols.{tallied, Raisable, Raised, Lowered}

-- what the table has of a symbol, and behind its end
pub tally-there : (table : List ℕ) (i s r : ℕ) → i ≡ s → r ≡ get_or table i 0 → r ≡ tallied table s
unfolding tallied
tally-there table i s r z e = rw (← z) e

pub tally-behind : (table : List ℕ) (i s : ℕ) → i ≡ s → length table ≤ i → 0 ≡ tallied table s
unfolding tallied
tally-behind table i s z h = rw (← z) (sym (get_or-eq_default table 0 {n = i} h))

-- the symbol of a row is its first cell
pub row-symbol : (l : List ℕ) (i : ℕ) → (row_constraint (take 5 (drop (5 * i) l))).symbol ≡ get_or l (5 * i) 0
unfolding row_constraint
row-symbol l i =
    let here : 5 * i + 0 ≡ 5 * i = omega arith in
    get_or-take 5 (drop (5 * i) l) 0 0 (omega arith) ∙ (rw here at (get_or-drop (5 * i) l 0 0))

-- the first constraints of cells and one more
pub front-more :
    (l : List ℕ) (i : ℕ) → 5 * i + 5 ≤ length l
    → take (suc i) (cell_constraints l) ≡ take i (cell_constraints l) ++ (row_constraint (take 5 (drop (5 * i) l)) ∷ [])
front-more l i h =
    let split = take-add i 1 (cell_constraints l) in
    let first : take 1 (drop i (cell_constraints l)) ≡ row_constraint (take 5 (drop (5 * i) l)) ∷ [] =
    ap (take 1) (constraints-drop i l ∙ constraints-at l i h) in
    rw (← first, ← add-one i) split

-- behind the last there are no more
pub front-all : (l : List ℕ) (i : ℕ) → length l < 5 * i + 5 → take i (cell_constraints l) ≡ cell_constraints l
front-all l i h =
    let none_left : drop i (cell_constraints l) ≡ [] = constraints-drop i l ∙ constraints-short l i h in
    sym (append-nil (take i (cell_constraints l))) ∙ (rw none_left at (take-append-drop i (cell_constraints l)))

-- the count of the first constraints and one more
counted-more :
    (l : List ℕ) (i s : ℕ) → 5 * i + 5 ≤ length l
    → tally_of (take (suc i) (cell_constraints l)) s
    ≡ tally_of (take i (cell_constraints l)) s + cond (eqb (get_or l (5 * i) 0) s) 1 0
unfolding tally_of weight_by
counted-more l i s h =
    let c = row_constraint (take 5 (drop (5 * i) l)) in
    let more = tally-append (take i (cell_constraints l)) (c ∷ []) s in
    let own : ◌≡◌ {A = ℕ} (cond (eqb c.symbol s) 1 0) (cond (eqb (get_or l (5 * i) 0) s) 1 0) =
    ap (λ x. cond (eqb x s) 1 0) (row-symbol l i) in
    ap (λ cs. tally_of cs s) (front-more l i h) ∙ omega (arith, more, own)

-- one more of its own symbol
pub counted-own :
    (l : List ℕ) (i x : ℕ) → 5 * i + 5 ≤ length l → x ≡ get_or l (5 * i) 0
    → tally_of (take (suc i) (cell_constraints l)) x ≡ tally_of (take i (cell_constraints l)) x + 1
counted-own l i x h e =
    let here : eqb (get_or l (5 * i) 0) x ≡ true = eq-eqb (get_or l (5 * i) 0) x (sym e) in
    rw here at (counted-more l i x h)

-- and of no other
pub counted-other :
    (l : List ℕ) (i x s : ℕ) → 5 * i + 5 ≤ length l → x ≡ get_or l (5 * i) 0 → (x ≡ s → ⊥)
    → tally_of (take (suc i) (cell_constraints l)) s ≡ tally_of (take i (cell_constraints l)) s
counted-other l i x s h e ne =
    let here : eqb (get_or l (5 * i) 0) s ≡ false = ne_eqb (get_or l (5 * i) 0) s (λ z. ne (e ∙ z)) in
    let more : tally_of (take (suc i) (cell_constraints l)) s ≡ tally_of (take i (cell_constraints l)) s + 0 =
    rw here at (counted-more l i s h) in
    omega (arith, more)

-- the first constraints are no more than that many
counted-few : (l : List ℕ) (i s : ℕ) → tally_of (take i (cell_constraints l)) s ≤ i
counted-few l i s = omega (arith, tally-length (take i (cell_constraints l)) s, take-few i (cell_constraints l))
  where
    take-few : (n : ℕ) (cs : List Constraint) → length (take n cs) ≤ n
    take-few zero cs = omega arith
    take-few (suc n) [] = omega arith
    take-few (suc n) (c ∷ cs) = omega (arith, take-few n cs)

-- k of the first i constraints have the symbol
pub record Counting (symbol : ℕ) (cells : List ℕ) (i k : ℕ) : Type 0 where
  pub few : k ≤ i
  pub same : k ≡ tally_of (take i (cell_constraints cells)) symbol

pub counting-start : (symbol : ℕ) (cells : List ℕ) → Counting symbol cells 0 0
unfolding tally_of weight_by
counting-start symbol cells = record { few = omega arith; same = refl }

module _ (symbol : ℕ) (cells : List ℕ) (i k : ℕ) (w : Counting symbol cells i k) where
  pub counting-end : length cells < 5 * i + 5 → k ≡ tally_of (cell_constraints cells) symbol
  counting-end h = rw (front-all cells i h) at w.same

  module _ (h : 5 * i + 5 ≤ length cells) (x : ℕ) (e : x ≡ get_or cells (5 * i) 0) where
    pub counting-own : x ≡ symbol → Counting symbol cells (i + 1) (k + 1)
    counting-own z =
        rw (add-one i) (record {
          few = omega (arith, w.few);
          same = omega (arith, w.same, counted-own cells i symbol h (sym z ∙ e));
        })

    pub counting-other : (x ≡ symbol → ⊥) → Counting symbol cells (i + 1) k
    counting-other ne =
        rw (add-one i) (record {
          few = omega (arith, w.few);
          same = omega (arith, w.same, counted-other cells i x symbol h e ne);
        })

-- the first i heads of no symbol outnumber the tally
pub record Sufficing (heads table : List ℕ) (i : ℕ) : Type 0 where
  pub enough : (s : ℕ) → tally_of (take i (cell_constraints heads)) s ≤ tallied table s

pub sufficing-start : (heads table : List ℕ) → Sufficing heads table 0
unfolding tally_of weight_by
sufficing-start heads table = record { enough = λ s. omega arith }

-- the first constraints of a symbol are among all
front-fewer : (i : ℕ) (cs : List Constraint) (s : ℕ) → tally_of (take i cs) s ≤ tally_of cs s
front-fewer i cs s =
    let whole : tally_of (take i cs ++ drop i cs) s ≡ tally_of cs s = ap (λ l. tally_of l s) (take-append-drop i cs) in
    omega (arith, whole, tally-append (take i cs) (drop i cs) s)

module _ (heads table : List ℕ) (i : ℕ) (w : Sufficing heads table i) where
  -- there is no other head
  pub sufficing-end : length heads < 5 * i + 5 → false ≡ is_short (tallied table) (cell_constraints heads)
  sufficing-end h = go (is_short (tallied table) (cell_constraints heads)) refl
    where
      all : (s : ℕ) → tally_of (cell_constraints heads) s ≤ tallied table s
      all s = rw (front-all heads i h) at (w.enough s)

      go : (b : Bool) → is_short (tallied table) (cell_constraints heads) ≡ b → false ≡ b
      go false z = refl
      go true z =
          let (s, l) = (short-outnumbered (tallied table) (cell_constraints heads)).0 z in
          absurd (omega (arith, all s, l))

  module _ (h : 5 * i + 5 ≤ length heads) (x there : ℕ) (e : x ≡ get_or heads (5 * i) 0) (t : there ≡ tallied table x) where
    -- the tally has one for the next head too
    sufficing-next : tally_of (take i (cell_constraints heads)) x < there → Sufficing heads table (i + 1)
    sufficing-next l =
        rw (add-one i) (record {
          enough = λ s. ⊎_elim
              (λ b. let z : x ≡ s = eqb-true x s b in rw (← z) (omega (arith, l, t, counted-own heads i x h e)))
              (λ b. omega (arith, counted-other heads i x s h e (eqb-false x s b), w.enough s))
              (either (eqb x s));
        })

    -- it has fewer than there are heads of this symbol so far
    short-here : there < tally_of (take (suc i) (cell_constraints heads)) x → true ≡ is_short (tallied table) (cell_constraints heads)
    short-here l =
        sym ((short-outnumbered (tallied table) (cell_constraints heads)).1
        (x, omega (arith, l, t, front-fewer (suc i) (cell_constraints heads) x)))

    -- it has none
    pub sufficing-none : there ≡ 0 → true ≡ is_short (tallied table) (cell_constraints heads)
    sufficing-none z = short-here (omega (arith, z, counted-own heads i x h e))

    -- it has more than there are earlier heads
    pub sufficing-many : i < there → Sufficing heads table (i + 1)
    sufficing-many l = sufficing-next (omega (arith, counted-few heads i x, l))

    module _ (k : ℕ) (c : k ≡ tally_of (cell_constraints (take (5 * i) heads)) x) where
      earlier : k ≡ tally_of (take i (cell_constraints heads)) x
      earlier = c ∙ ap (λ cs. tally_of cs x) (constraints-take i heads)

      -- the earlier heads of this symbol are among all earlier ones
      pub earlier-few : k ≤ i
      earlier-few = omega (arith, earlier, counted-few heads i x)

      module _ (wanted : ℕ) (z : wanted ≡ 1 + k) where
        -- it has as many as are wanted: one for this head, and those for the earlier ones of its symbol
        pub sufficing-some : wanted ≤ there → Sufficing heads table (i + 1)
        sufficing-some l = sufficing-next (omega (arith, earlier, l, z))

        -- it has fewer
        pub sufficing-short : there < wanted → true ≡ is_short (tallied table) (cell_constraints heads)
        sufficing-short l = short-here (omega (arith, l, z, earlier, counted-own heads i x h e))

-- a table with one cell set
set-at-other : (table : List ℕ) (x v s : ℕ) → (x ≡ s → ⊥) → tallied (set table x v) s ≡ tallied table s
unfolding tallied
set-at-other table x v s ne = get_or-set_other table x s v 0 (λ e. ne (sym e))

set-at-own : (table : List ℕ) (x v : ℕ) → x < length table → tallied (set table x v) x ≡ v
unfolding tallied
set-at-own table x v l = get_or-set_same table x v 0 l

-- the tally is raised by the first i constraints
pub record Raising (cells start table : List ℕ) (i : ℕ) : Type 0 where
  pub size : length table ≡ length start
  pub raised : (s : ℕ) → tallied table s ≡ tallied start s + tally_of (take i (cell_constraints cells)) s

pub raising-start : (cells start : List ℕ) → Raising cells start start 0
unfolding tally_of weight_by
raising-start cells start = record { size = refl; raised = λ s. omega arith }

module _ (cells start table : List ℕ) (i : ℕ) (w : Raising cells start table i) where
  pub raising-end : length cells < 5 * i + 5 → Raised (cell_constraints cells) start table
  raising-end h = record { raised = λ s. rw (front-all cells i h) at (w.raised s) }

  module _ (n : ℕ) (r : Raisable cells n start) (l : i < n) (x : ℕ) (e : x ≡ get_or cells (5 * i) 0) where
    pub raising-within : 5 * i + 5 ≤ length cells
    raising-within = omega (arith, r.cells-size)

    -- the table has the symbol
    pub raising-there : x < length table
    raising-there =
        let low : x < 64 = rw (e, ← row-symbol cells i) (low-symbol (row_constraint (take 5 (drop (5 * i) cells)))
        (every-at is_low (cell_constraints cells) i (row_constraint (take 5 (drop (5 * i) cells))) r.low
        (element-row cells i raising-within))) in
        omega (arith, low, w.size, r.size)

    -- its cell has room
    pub raising-room : get_or table x 0 + 1 ≤ 65000
    unfolding tallied
    raising-room =
        let now' : get_or table x 0 ≡ get_or start x 0 + tally_of (take i (cell_constraints cells)) x = w.raised x in
        let room' : get_or start x 0 + n ≤ 65000 = r.room x in
        omega (arith, now', room', counted-few cells i x)

    pub raising-next : (table' : List ℕ) → table' ≡ set table x (get_or table x 0 + 1) → Raising cells start table' (i + 1)
    unfolding tallied
    raising-next table' g =
        rw (add-one i, g) (record {
          size = length-set table x (get_or table x 0 + 1) ∙ w.size;
          raised = λ s. ⊎_elim (own s) (other s) (either (eqb x s));
        })
      where
        own :
            (s : ℕ) → eqb x s ≡ true
            → tallied (set table x (get_or table x 0 + 1)) s ≡ tallied start s + tally_of (take (suc i) (cell_constraints cells)) s
        own s b =
            let z : x ≡ s = eqb-true x s b in
            rw (← z) (set-at-own table x (get_or table x 0 + 1) raising-there
            ∙ omega (arith, w.raised x, counted-own cells i x raising-within e))

        other :
            (s : ℕ) → eqb x s ≡ false
            → tallied (set table x (get_or table x 0 + 1)) s ≡ tallied start s + tally_of (take (suc i) (cell_constraints cells)) s
        other s b =
            set-at-other table x (get_or table x 0 + 1) s (eqb-false x s b)
            ∙ omega (arith, w.raised s, counted-other cells i x s raising-within e (eqb-false x s b))

-- the tally is lowered by the first i constraints
pub record Lowering (cells start table : List ℕ) (i : ℕ) : Type 0 where
  pub size : length table ≡ length start
  pub lowered : (s : ℕ) → tallied table s ≡ tallied start s - tally_of (take i (cell_constraints cells)) s

pub lowering-start : (cells start : List ℕ) → Lowering cells start start 0
unfolding tally_of weight_by
lowering-start cells start = record { size = refl; lowered = λ s. omega arith }

module _ (cells start table : List ℕ) (i : ℕ) (w : Lowering cells start table i) where
  pub lowering-end : length cells < 5 * i + 5 → Lowered (cell_constraints cells) start table
  lowering-end h = record { lowered = λ s. rw (front-all cells i h) at (w.lowered s) }

  module _ (h : 5 * i + 5 ≤ length cells) (x : ℕ) (e : x ≡ get_or cells (5 * i) 0) where
    pub lowering-next :
        (table' : List ℕ) (v : ℕ) → x < length table → v ≡ get_or table x 0 - 1 → table' ≡ set table x v
        → Lowering cells start table' (i + 1)
    unfolding tallied
    lowering-next table' v l z g =
        rw (add-one i, g) (record {
          size = length-set table x v ∙ w.size;
          lowered = λ s. ⊎_elim (own s) (other s) (either (eqb x s));
        })
      where
        own :
            (s : ℕ) → eqb x s ≡ true
            → tallied (set table x v) s ≡ tallied start s - tally_of (take (suc i) (cell_constraints cells)) s
        own s b =
            let y : x ≡ s = eqb-true x s b in
            rw (← y) (set-at-own table x v l ∙ omega (arith, z, w.lowered x, counted-own cells i x h e))

        other :
            (s : ℕ) → eqb x s ≡ false
            → tallied (set table x v) s ≡ tallied start s - tally_of (take (suc i) (cell_constraints cells)) s
        other s b =
            set-at-other table x v s (eqb-false x s b)
            ∙ omega (arith, w.lowered s, counted-other cells i x s h e (eqb-false x s b))

    -- the table does not have the symbol
    pub lowering-none : length table ≤ x → Lowering cells start table (i + 1)
    unfolding tallied
    lowering-none l =
        rw (add-one i) (record { size = w.size; lowered = λ s. ⊎_elim (own s) (other s) (either (eqb x s)) })
      where
        own : (s : ℕ) → eqb x s ≡ true → tallied table s ≡ tallied start s - tally_of (take (suc i) (cell_constraints cells)) s
        own s b =
            let y : x ≡ s = eqb-true x s b in
            omega (
              arith,
              get_or-eq_default table 0 {n = s} (omega arith),
              get_or-eq_default start 0 {n = s} (omega (arith, w.size)),
            )

        other : (s : ℕ) → eqb x s ≡ false → tallied table s ≡ tallied start s - tally_of (take (suc i) (cell_constraints cells)) s
        other s b = omega (arith, w.lowered s, counted-other cells i x s h e (eqb-false x s b))
