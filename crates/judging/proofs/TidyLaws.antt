-- Constraints with nothing behind their last terms: one law for each way that the code goes.
--   Ending, ending-next   one constraint, column by column
--   Tidying               one constraint after the other
--   tidied-below          then every cell lies as its symbol or its term does
-- Assumes nothing.
use Rattle.std.proofs.Common.{◌≡◌, ℕ, zero, suc, ◌+◌, ◌-◌, ◌*◌, ◌≤◌, ◌<◌, true, false, cond, List, [], ◌∷◌, ◌⊎◌, inl, inr, ⊎_elim, eqb}
use Rattle.std.proofs.Common.{length, get_or, set, take, drop, refl, sym, ap, ◌∙◌, arith, add-one, length-set, length-drop}
use lib.ListN.{get_or-eq_default}
use lib.Seq.{length-take-le, get_or-take, get_or-drop, get_or-set_same, get_or-set_other}
use borrow.Author.Tests.{eqb-true, ltb-true}
use Rattle.text.specs.Lists.{every}
use Rattle.semantics.specs.Terms.{is_below}
use Rattle.text.proofs.Bools.{and-true}
use Rattle.semantics.proofs.Weights.{every-at}
use Rattle.tables.specs.Cells.{cell_term, cell_terms, row_constraint, cell_constraints, is_low}
use Rattle.tables.specs.Numbers.{is_within}
use Rattle.tables.proofs.CellLaws.{either, le-or-lt, cell-high, low-symbol, every_first, every_rest, element-row}
use Rattle.judging.specs.Tidying.{Ended}

-- what the code stores behind cell q
abbrev stored_behind : List ℕ → ℕ → List ℕ
stored_behind l q = set l (suc q) (cond (eqb (get_or l q 0) 0) 0 (get_or l (suc q) 0))

-- terms end at a 0, whatever is stored behind it
terms-stored : (l : List ℕ) (q : ℕ) → cell_terms (stored_behind l q) ≡ cell_terms l
unfolding cell_terms
terms-stored [] q = refl
terms-stored (x ∷ []) zero = refl
terms-stored (x ∷ y ∷ l) zero = ⊎_elim (λ e. rw e) (λ e. rw e) (either (eqb x 0))
terms-stored (x ∷ l) (suc q) = ap (λ ts. cond (eqb x 0) [] (cell_term x ∷ ts)) (terms-stored l q)

-- so the constraints are the same
constraints-stored :
    (l : List ℕ) (i j : ℕ) → j < 3 → 5 * i + 5 ≤ length l → cell_constraints (stored_behind l (5 * i + (1 + j))) ≡ cell_constraints l
unfolding cell_constraints
constraints-stored [] i j h k = absurd (omega arith)
constraints-stored (s ∷ []) i j h k = absurd (omega arith)
constraints-stored (s ∷ a ∷ []) i j h k = absurd (omega arith)
constraints-stored (s ∷ a ∷ b ∷ []) i j h k = absurd (omega arith)
constraints-stored (s ∷ a ∷ b ∷ c ∷ []) i j h k = absurd (omega arith)
constraints-stored (s ∷ a ∷ b ∷ c ∷ d ∷ l) zero zero h k =
    ap (λ ts. record { symbol = s; terms = ts } ∷ cell_constraints l) (terms-stored (a ∷ b ∷ c ∷ d ∷ []) 0)
constraints-stored (s ∷ a ∷ b ∷ c ∷ d ∷ l) zero (suc zero) h k =
    ap (λ ts. record { symbol = s; terms = ts } ∷ cell_constraints l) (terms-stored (a ∷ b ∷ c ∷ d ∷ []) 1)
constraints-stored (s ∷ a ∷ b ∷ c ∷ d ∷ l) zero (suc (suc zero)) h k =
    ap (λ ts. record { symbol = s; terms = ts } ∷ cell_constraints l) (terms-stored (a ∷ b ∷ c ∷ d ∷ []) 2)
constraints-stored (s ∷ a ∷ b ∷ c ∷ d ∷ l) zero (suc (suc (suc j))) h k = absurd (omega arith)
constraints-stored (s ∷ a ∷ b ∷ c ∷ d ∷ l) (suc i) j h k =
    let e : 5 * suc i + (1 + j) ≡ suc (suc (suc (suc (suc (5 * i + (1 + j)))))) = omega arith in
    rw e (ap (λ cs. record { symbol = s; terms = cell_terms (a ∷ b ∷ c ∷ d ∷ []) } ∷ cs)
    (constraints-stored l i j h (omega arith)))

-- the columns before j of constraint i are done
pub record Ending (i : ℕ) (cells₀ cells : List ℕ) (j : ℕ) : Type 0 where
  pub size : length cells ≡ length cells₀
  pub same : cell_constraints cells ≡ cell_constraints cells₀
  pub made : (k : ℕ) → k < j → get_or cells (5 * i + (1 + k)) 0 ≡ 0 → get_or cells (5 * i + (2 + k)) 0 ≡ 0
  pub others : (k c : ℕ) → k < i → c < 5 → get_or cells (5 * k + c) 0 ≡ get_or cells₀ (5 * k + c) 0

module _ (i : ℕ) (cells₀ cells : List ℕ) (j : ℕ) (room : 5 * i + 5 ≤ length cells₀) (w : Ending i cells₀ cells j) where
  module _ (h : j < 3) (q x : ℕ) (e : q ≡ 5 * i + 1 + j) (s : x ≡ cond (eqb (get_or cells q 0) 0) 0 (get_or cells (q + 1) 0)) where
    stored : set cells (q + 1) x ≡ stored_behind cells (5 * i + (1 + j))
    stored =
        let p : q ≡ 5 * i + (1 + j) = omega arith in
        let n : q + 1 ≡ suc (5 * i + (1 + j)) = omega arith in
        rw (s, n, p)

    there : suc (5 * i + (1 + j)) < length cells
    there = omega (arith, w.size)

    abbrev kept : (k : ℕ) → (k ≡ suc (5 * i + (1 + j)) → ⊥) → get_or (stored_behind cells (5 * i + (1 + j))) k 0 ≡ get_or cells k 0
    kept k d =
        get_or-set_other cells (suc (5 * i + (1 + j))) k
        (cond (eqb (get_or cells (5 * i + (1 + j)) 0) 0) 0 (get_or cells (suc (5 * i + (1 + j))) 0)) 0 d

    zeroed :
        (k : ℕ) → k < suc j → get_or (stored_behind cells (5 * i + (1 + j))) (5 * i + (1 + k)) 0 ≡ 0 → (k < j) ⊎ (j ≤ k)
        → get_or (stored_behind cells (5 * i + (1 + j))) (5 * i + (2 + k)) 0 ≡ 0
    zeroed k l z (inl m) =
        kept (5 * i + (2 + k)) (λ a. omega arith) ∙ w.made k m (sym (kept (5 * i + (1 + k)) (λ a. omega arith)) ∙ z)
    zeroed k l z (inr m) =
        let a : 5 * i + (1 + k) ≡ 5 * i + (1 + j) = omega arith in
        let b : 5 * i + (2 + k) ≡ suc (5 * i + (1 + j)) = omega arith in
        let y : get_or cells (5 * i + (1 + j)) 0 ≡ 0 =
        ap (λ n. get_or cells n 0) (sym a) ∙ (sym (kept (5 * i + (1 + k)) (λ o. omega arith)) ∙ z) in
        rw b (get_or-set_same cells (suc (5 * i + (1 + j)))
        (cond (eqb (get_or cells (5 * i + (1 + j)) 0) 0) 0 (get_or cells (suc (5 * i + (1 + j))) 0)) 0 there
        ∙ ap (λ n. cond (eqb n 0) 0 (get_or cells (suc (5 * i + (1 + j))) 0)) y)

    pub ending-next : Ending i cells₀ (set cells (q + 1) x) (j + 1)
    ending-next =
        rw (stored, add-one j)
        (record {
          size = length-set cells (suc (5 * i + (1 + j)))
              (cond (eqb (get_or cells (5 * i + (1 + j)) 0) 0) 0 (get_or cells (suc (5 * i + (1 + j))) 0))
              ∙ w.size;
          same = constraints-stored cells i j h (omega (arith, w.size)) ∙ w.same;
          made = λ k l z. zeroed k l z (⊎_elim (λ m. inr m) (λ m. inl m) (le-or-lt j k));
          others = λ k c l m. kept (5 * k + c) (λ a. omega arith) ∙ w.others k c l m;
        })

-- the constraints before i are done
pub record Tidying (cells₀ cells : List ℕ) (i : ℕ) : Type 0 where
  pub size : length cells ≡ length cells₀
  pub same : cell_constraints cells ≡ cell_constraints cells₀
  pub made : (k : ℕ) → k < i → Ended cells k

-- a cell lies as its term does
pub cell_below : (m x : ℕ) → is_below m (cell_term x) ≡ true → x < 256 + m
unfolding is_below
cell_below m x e =
    ⊎_elim (λ h. let k : x - 256 < m = ltb-true _ m (rw (cell-high x h) at e) in omega arith) (λ h. omega arith)
    (le-or-lt 256 x)

-- cells that have only 0 behind a 0
abbrev Chain : List ℕ → Type 0
Chain l = (j : ℕ) → suc j < length l → get_or l j 0 ≡ 0 → get_or l (suc j) 0 ≡ 0

-- behind a 0 they are 0
chain-zero : (l : List ℕ) → Chain l → get_or l 0 0 ≡ 0 → (j : ℕ) → get_or l j 0 ≡ 0
chain-zero l c z zero = z
chain-zero l c z (suc j) =
    ⊎_elim (λ h. get_or-eq_default l 0 h) (λ h. c j h (chain-zero l c z j)) (le-or-lt (length l) (suc j))

-- so they all lie as their terms do
chain-below :
    (m : ℕ) (l : List ℕ) → Chain l → every (is_below m) (cell_terms l) ≡ true → (j : ℕ) → get_or l j 0 < 256 + m
unfolding cell_terms
chain-below m [] c h j = omega arith
chain-below m (x ∷ l) c h j =
    go (λ r. chain-below m l (λ k a. c (suc k) (omega arith)) r) j (either (eqb x 0))
  where
    go :
        (every (is_below m) (cell_terms l) ≡ true → (j : ℕ) → get_or l j 0 < 256 + m)
        → (j : ℕ) → (eqb x 0 ≡ true) ⊎ (eqb x 0 ≡ false) → get_or (x ∷ l) j 0 < 256 + m
    go more j (inl e) =
        let z : get_or (x ∷ l) j 0 ≡ 0 = chain-zero (x ∷ l) c (eqb-true x 0 e) j in
        omega arith
    go more zero (inr e) = cell_below m x (every_first (is_below m) (cell_term x) (cell_terms l) (rw e at h))
    go more (suc j) (inr e) = more (every_rest (is_below m) (cell_term x) (cell_terms l) (rw e at h)) j

-- a place is that of a constraint and a column
column-of : (i : ℕ) → (k : ℕ) × (c : ℕ) × (c < 5) × (5 * k + c ≡ i)
column-of zero = (0, 0, omega arith, omega arith)
column-of (suc i) = let (k, c, h, e) = column-of i in next k c h e (le-or-lt 4 c)
  where
    next :
        (k c : ℕ) → c < 5 → 5 * k + c ≡ i → (4 ≤ c) ⊎ (c < 4) → (k : ℕ) × (c : ℕ) × (c < 5) × (5 * k + c ≡ suc i)
    next k c h e (inl l) = (suc k, 0, omega arith, omega arith)
    next k c h e (inr l) = (k, suc c, omega arith, omega arith)

module _ (n m : ℕ) (cells : List ℕ) (s : length cells ≡ 5 * n) (ended : (i : ℕ) → i < n → Ended cells i)
    (h : every (is_within m) (cell_constraints cells) ≡ true) where
  module _ (i : ℕ) (k : i < n) where
    -- the cells and the terms of constraint i
    abbrev row : List ℕ
    row = take 5 (drop (5 * i) cells)

    abbrev terms : List ℕ
    terms = drop 1 row

    cell_at : (c : ℕ) → c < 5 → get_or row c 0 ≡ get_or cells (5 * i + c) 0
    cell_at c l = get_or-take 5 (drop (5 * i) cells) c 0 l ∙ get_or-drop (5 * i) cells c 0

    term-at : (j : ℕ) → j < 4 → get_or terms j 0 ≡ get_or cells (5 * i + (1 + j)) 0
    term-at j l = get_or-drop 1 row j 0 ∙ cell_at (1 + j) (omega arith)

    terms-size : length terms ≡ 4
    terms-size =
        omega (arith, length-drop 1 row, length-take-le 5 (drop (5 * i) cells) (omega (arith, length-drop (5 * i) cells)))

    terms-chain : Chain terms
    terms-chain j l z =
        let a : j < 3 = omega (arith, terms-size) in
        let e : 5 * i + (1 + suc j) ≡ 5 * i + (2 + j) = omega arith in
        term-at (suc j) (omega arith)
        ∙ (ap (λ p. get_or cells p 0) e ∙ (ended i k).zero j a (sym (term-at j (omega arith)) ∙ z))

    both-within : (is_low (row_constraint row) ≡ true) × (every (is_below m) (cell_terms terms) ≡ true)
    unfolding is_within row_constraint
    both-within =
        and-true (is_low (row_constraint row)) (every (is_below m) (cell_terms terms))
        (every-at (is_within m) (cell_constraints cells) i (row_constraint row) h (element-row cells i (omega arith)))

    -- every cell of it lies as its symbol or its term does
    row_below : (c : ℕ) → c < 5 → get_or cells (5 * i + c) 0 < 256 + m
    unfolding row_constraint
    row_below zero l =
        let low : get_or row 0 0 < 64 = low-symbol (row_constraint row) both-within.0 in
        rw (← cell_at 0 (omega arith)) (omega arith)
    row_below (suc j) l =
        let e : 5 * i + suc j ≡ 5 * i + (1 + j) = omega arith in
        rw (e, ← term-at j (omega arith)) (chain-below m terms terms-chain both-within.1 j)

  -- then every cell lies as its symbol or its term does
  pub tidied-below : (i : ℕ) → get_or cells i 0 < 256 + m
  tidied-below p = let (i, c, l, e) = column-of p in rw (← e) (go i c l (le-or-lt n i))
    where
      go : (i c : ℕ) → c < 5 → (n ≤ i) ⊎ (i < n) → get_or cells (5 * i + c) 0 < 256 + m
      go i c l (inl k) =
          let z : get_or cells (5 * i + c) 0 ≡ 0 = get_or-eq_default cells 0 (omega arith) in
          omega arith
      go i c l (inr k) = row_below i k c l
