-- Marks of the cells behind a part, and what they tell.
--   marking-…             cells marked one after the other
--   parted                the first constraints share with the others only what goal variables became
--   term-member, occurs-member   a variable of constraints is one of their cells
--   constraints-parts     the first constraints and the others
--   parted-apart          the constraints that the cells are share only what goal variables became
--   left_out              equal parts can be left out
-- Assumes nothing.
use Prim.Native.Nat.{ℕ, zero, suc, ◌+◌, ◌-◌, ◌*◌, ◌≤◌, ◌<◌}
use native.Mathlib.Omega.{arith}
use native.Mathlib.Numerals.{add-one}
use mathlib.Core.Bool.{Bool, true, false, cond}
use mathlib.Core.List.{List, [], ◌∷◌, ◌++◌, map}
use mathlib.Core.Logic.{◌⊎◌, inl, inr, ⊎_elim}
use mathlib.Core.Path.{◌≡◌, refl, sym, ap, ◌∙◌, subst}
use lib.Dec.{eqb}
use lib.ListN.{length, get_or, set, take, drop, length-set, length-take, get_or-eq_default}
use lib.Seq.{get_or-set_same, get_or-set_other, get_or-take, get_or-drop}
use borrow.Author.Tests.{eqb-true, eqb-false}
use Rattle.semantics.specs.Terms.{con, var}
use Rattle.semantics.specs.Variants.{same_state}
use Rattle.semantics.proofs.Configurations.{Or, Member, first, later}
use Rattle.semantics.proofs.Configurations as C
use Rattle.semantics.proofs.Multisets.{member-cons, member-append-left, member-map}
use Rattle.semantics.proofs.Options.{true-false}
use Rattle.tables.specs.Cells.{cell_term, cell_terms, cell_constraints}
use Rattle.tables.proofs.CellLaws.{either, le-or-lt, cell-low, cell-high}
use Rattle.colours.specs.Ends.{end_of}
use Rattle.parts.specs.Parts.{Marked, Unmarked, Parted}
use Rattle.parts.proofs.CancelLaws.{Occurs, Apart, cancelled}

-- the marks of the cells from one on and before i are made
pub record Marking (cells : List ℕ) (from : ℕ) (value : Bool) (marks₀ marks : List Bool) (i : ℕ) : Type 0 where
  pub size : length marks ≡ length marks₀
  pub made : (k : ℕ) → from ≤ k → k < i → get_or cells k 0 < length marks₀ → get_or marks (get_or cells k 0) false ≡ value
  pub kept : (x : ℕ) → (get_or marks x false ≡ get_or marks₀ x false) ⊎ ((k : ℕ) × (k < length cells) × (get_or cells k 0 ≡ x))

pub marking-start :
    (cells : List ℕ) (from : ℕ) (value : Bool) (marks : List Bool) → Marking cells from value marks marks from
marking-start cells from value marks =
    record { size = refl; made = λ k h l. absurd (omega arith); kept = λ x. inl refl }

module _ (cells : List ℕ) (from : ℕ) (value : Bool) (marks₀ marks : List Bool) (i : ℕ)
    (w : Marking cells from value marks₀ marks i) where
  pub marking-done : length cells ≤ i → Marked cells from value marks₀ marks
  marking-done h = record { size = w.size; made = λ k l m. w.made k l (omega arith); kept = w.kept }

  module _ (h : i < length cells) (x : ℕ) (e : x ≡ get_or cells i 0) where
    -- a cell without a place
    pub marking-out : length marks ≤ x → Marking cells from value marks₀ marks (i + 1)
    marking-out o =
        rw (add-one i)
        (record {
          size = w.size;
          made = λ k l m r. go k l m r (le-or-lt i k);
          kept = w.kept;
        })
      where
        go :
            (k : ℕ) → from ≤ k → k < suc i → get_or cells k 0 < length marks₀ → (i ≤ k) ⊎ (k < i)
            → get_or marks (get_or cells k 0) false ≡ value
        go k l m r (inl p) =
            let q : k ≡ i = omega arith in
            let z : get_or cells k 0 ≡ x = ap (λ j. get_or cells j 0) q ∙ sym e in
            absurd (omega (arith, w.size))
        go k l m r (inr p) = w.made k l p r

    -- a cell with a place
    pub marking-next : x < length marks → Marking cells from value marks₀ (set marks x value) (i + 1)
    marking-next o =
        rw (add-one i)
        (record {
          size = length-set marks x value ∙ w.size;
          made = λ k l m r. go k l m r (either (eqb (get_or cells k 0) x));
          kept = λ y. still y (either (eqb y x));
        })
      where
        go :
            (k : ℕ) → from ≤ k → k < suc i → get_or cells k 0 < length marks₀
            → (eqb (get_or cells k 0) x ≡ true) ⊎ (eqb (get_or cells k 0) x ≡ false)
            → get_or (set marks x value) (get_or cells k 0) false ≡ value
        go k l m r (inl p) = rw (eqb-true (get_or cells k 0) x p) (get_or-set_same marks x value false o)
        go k l m r (inr p) =
            let q = eqb-false (get_or cells k 0) x p in
            get_or-set_other marks x (get_or cells k 0) value false q
            ∙ ⊎_elim (λ t. let u : k ≡ i = omega arith in absurd (q (ap (λ j. get_or cells j 0) u ∙ sym e)))
            (λ t. w.made k l t r) (le-or-lt i k)

        still :
            (y : ℕ) → (eqb y x ≡ true) ⊎ (eqb y x ≡ false)
            → (get_or (set marks x value) y false ≡ get_or marks₀ y false) ⊎ ((k : ℕ) × (k < length cells) × (get_or cells k 0 ≡ y))
        still y (inl p) = inr (i, h, sym e ∙ sym (eqb-true y x p))
        still y (inr p) =
            ⊎_elim (λ t. inl (get_or-set_other marks x y value false (eqb-false y x p) ∙ t)) (λ t. inr t) (w.kept y)

-- the first constraints share with the others only what goal variables became
pub parted :
    (cells : List ℕ) (k : ℕ) (bound : List ℕ) (marks₀ marks marks' : List Bool) → Marked cells (5 * k) true marks₀ marks
    → Marked bound 0 false marks marks' → (r : Bool) → Unmarked r cells (5 * k) marks' → Parted r cells k bound
parted cells k bound marks₀ marks marks' m n r u =
    record {
      shared = λ z i j hi hj v e.
          let (room, clear) = u.none z i hi v in
          ⊎_elim (λ t. absurd (go i j hi hj v e (le-or-lt (length cells) j) room clear t)) (λ t. t) (n.kept (get_or cells i 0));
    }
  where
    go :
        (i j : ℕ) → i < 5 * k → 5 * k ≤ j → 256 ≤ get_or cells i 0 → get_or cells j 0 ≡ get_or cells i 0
        → (length cells ≤ j) ⊎ (j < length cells) → get_or cells i 0 < length marks' → get_or marks' (get_or cells i 0) false ≡ false
        → get_or marks' (get_or cells i 0) false ≡ get_or marks (get_or cells i 0) false → ⊥
    go i j hi hj v e (inl p) room clear t = let z = get_or-eq_default cells 0 p in omega (arith, e, z)
    go i j hi hj v e (inr p) room clear t =
        let r : get_or cells j 0 < length marks₀ = rw e (omega (arith, n.size, m.size)) in
        true-false (t ∙ (ap (λ x. get_or marks x false) (sym e) ∙ m.made j hj p r)) clear

-- a number of a list, and its position
member-index : {y : ℕ} (l : List ℕ) → Member y l → (i : ℕ) × (i < length l) × (get_or l i 0 ≡ y)
member-index {y = y} [] x' = elim x' [ ]
member-index (x ∷ l) first = (0, omega arith, refl)
member-index (x ∷ l) (later m) = let (i, h, e) = member-index l m in (suc i, omega arith, e)

index-member : (l : List ℕ) (i : ℕ) → i < length l → Member (get_or l i 0) l
index-member [] i h = absurd (omega arith)
index-member (x ∷ l) zero h = first
index-member (x ∷ l) (suc i) h = later (index-member l i (omega arith))

-- the cell of a variable
variable-cell : (x y : ℕ) → var x ≡ cell_term y → 256 + x ≡ y
variable-cell x y e = ⊎_elim high low (le-or-lt 256 y)
  where
    high : 256 ≤ y → 256 + x ≡ y
    high h = let z : x ≡ y - 256 = var-same (e ∙ cell-high y h) in omega arith
      where
        var-same : {m n : ℕ} → var m ≡ var n → m ≡ n
        var-same p = cc

    low : y < 256 → 256 + x ≡ y
    low h = absurd (con-var (sym (cell-low y h) ∙ sym e))
      where
        con-var : {m n : ℕ} → con m ≡ var n → ⊥
        con-var p = let z : ◌≡◌ {A = ℕ} 0 1 = cc in omega arith

-- a variable among the terms of cells is one of the cells
term-member : (x : ℕ) (l : List ℕ) → Member (var x) (cell_terms l) → Member (256 + x) l
unfolding cell_terms
term-member x [] m = elim m [ ]
term-member x (y ∷ l) m = go (eqb y 0) m (term-member x l)
  where
    found : Or (var x ≡ cell_term y) (Member (var x) (cell_terms l)) → (Member (var x) (cell_terms l) → Member (256 + x) l)
        → Member (256 + x) (y ∷ l)
    found (C.inl e) more = subst (λ z. Member z (y ∷ l)) (sym (variable-cell x y e)) first
    found (C.inr i) more = later (more i)

    go :
        (b : Bool) → Member (var x) (cond b [] (cell_term y ∷ cell_terms l))
        → (Member (var x) (cell_terms l) → Member (256 + x) l) → Member (256 + x) (y ∷ l)
    go true i more = elim i [ ]
    go false i more = found (member-cons i) more

-- a variable of constraints is one of their cells
occurs-member : (x : ℕ) (l : List ℕ) → Occurs x (cell_constraints l) → Member (256 + x) l
unfolding cell_constraints
occurs-member x [] (c, m, i) = elim m [ ]
occurs-member x (k ∷ []) (c, m, i) = elim m [ ]
occurs-member x (k ∷ y ∷ []) (c, m, i) = elim m [ ]
occurs-member x (k ∷ y ∷ z ∷ []) (c, m, i) = elim m [ ]
occurs-member x (k ∷ y ∷ z ∷ u ∷ []) (c, m, i) = elim m [ ]
occurs-member x (k ∷ y ∷ z ∷ u ∷ v ∷ l) (c, first, i) =
    later (member-append-left l (term-member x (y ∷ z ∷ u ∷ v ∷ []) i))
occurs-member x (k ∷ y ∷ z ∷ u ∷ v ∷ l) (c, later m, i) =
    later (later (later (later (later (occurs-member x l (c, m, i))))))

-- the first constraints and the others
constraints-parts :
    (k m : ℕ) (l : List ℕ) → m ≡ 5 * k → m ≤ length l
    → cell_constraints l ≡ cell_constraints (take m l) ++ cell_constraints (drop m l)
unfolding cell_constraints
constraints-parts zero m l e h = let z : m ≡ 0 = omega arith in rw z
constraints-parts (suc k) m [] e h = absurd (omega arith)
constraints-parts (suc k) m (x ∷ []) e h = absurd (omega arith)
constraints-parts (suc k) m (x ∷ y ∷ []) e h = absurd (omega arith)
constraints-parts (suc k) m (x ∷ y ∷ z ∷ []) e h = absurd (omega arith)
constraints-parts (suc k) m (x ∷ y ∷ z ∷ u ∷ []) e h = absurd (omega arith)
constraints-parts (suc k) m (x ∷ y ∷ z ∷ u ∷ v ∷ l) e h =
    let q : m ≡ suc (suc (suc (suc (suc (5 * k))))) = omega arith in
    rw q (ap (λ t. record { symbol = x; terms = cell_terms (y ∷ z ∷ u ∷ v ∷ []) } ∷ t) (constraints-parts k (5 * k) l refl
    (omega arith)))

-- a variable among the cells of goal variables
bound-member :
    (x y : ℕ) (bound : List ℕ) (i : ℕ) → i < length bound → get_or bound i 0 ≡ y → y ≡ 256 + x
    → Member (var x) (map cell_term bound)
bound-member x y bound i h e z =
    let q : get_or bound i 0 - 256 ≡ x = omega arith in
    subst (λ t. Member t (map cell_term bound)) (cell-high (get_or bound i 0) (omega arith) ∙ ap var q)
    (member-map cell_term (index-member bound i h))

module _ (r : Bool) (t : r ≡ true) (cells : List ℕ) (k : ℕ) (bound : List ℕ) (w : Parted r cells k bound) where
  -- the constraints of the cells share only what the goal variables became
  parted-apart : Apart (map cell_term bound) (cell_constraints (take (5 * k) cells)) (cell_constraints (drop (5 * k) cells))
  parted-apart =
      record {
        shared = λ x o p.
            let (i, hi, ei) = member-index (take (5 * k) cells) (occurs-member x (take (5 * k) cells) o) in
            let (j, hj, ej) = member-index (drop (5 * k) cells) (occurs-member x (drop (5 * k) cells) p) in
            let low : i < 5 * k = omega (arith, length-take (5 * k) cells) in
            let left : get_or cells i 0 ≡ 256 + x = sym (get_or-take (5 * k) cells i 0 low) ∙ ei in
            let right : get_or cells (5 * k + j) 0 ≡ 256 + x = sym (get_or-drop (5 * k) cells j 0) ∙ ej in
            let (n, hn, en) = w.shared t i (5 * k + j) low (omega arith) (omega (arith, left)) (right ∙ sym left) in
            bound-member x (get_or cells i 0) bound n hn en left;
      }

-- equal first parts can be left out
pub left_out :
    (f a g b : List ℕ) (k : ℕ) → 5 * k ≤ length a → 5 * k ≤ length b → (p q : Bool) → Parted p a k f → p ≡ true
    → Parted q b k g → q ≡ true → same_state (end_of f (take (5 * k) a)) (end_of g (take (5 * k) b)) ≡ true
    → same_state (end_of f (drop (5 * k) a)) (end_of g (drop (5 * k) b)) ≡ same_state (end_of f a) (end_of g b)
left_out f a g b k ha hb p q u tu v tv e =
    rw (constraints-parts k (5 * k) a refl ha, constraints-parts k (5 * k) b refl hb)
    (cancelled (map cell_term f) (map cell_term g) (cell_constraints (take (5 * k) a)) (cell_constraints (drop (5 * k) a))
    (cell_constraints (take (5 * k) b)) (cell_constraints (drop (5 * k) b)) (parted-apart p tu a k f u) (parted-apart q tv b k g v)
    0 0 e)
