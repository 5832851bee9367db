-- The comparison step by step: what each step says of the answer.
--   cells-…, lengths-…    two lists of cells
--   renumbered-same       variables numbered anew
--   straight-same, side-ready, numbered-…, compare-…   one step after the other
-- Assumes nothing.
use Prim.Native.Nat.{max}
use Rattle.std.proofs.Common.{◌≡◌, ℕ, suc, ◌+◌, ◌*◌, ◌≤◌, ◌<◌, ◌⊎◌, inl, inr, ⊎_elim, Bool, true, false}
use Rattle.std.proofs.Common.{List, [], length, get_or, refl, sym, ap, ◌∙◌, arith}
use native.Mathlib.Numerals.{add-one}
use lib.Seq.{ext_get_or}
use Rattle.text.specs.Lists.{every}
use Rattle.text.proofs.ListLaws.{every-at}
use Rattle.semantics.specs.Terms.{Constraint, State}
use Rattle.semantics.specs.Variants.{OneToOne, empty}
use Rattle.semantics.specs.Variants.{each, ConstraintVariant, Variant, same_state}
use Rattle.semantics.proofs.Options.{true-false}
use Rattle.semantics.proofs.Multisets.{multiset-of-pointwise, pointwise-map}
use Rattle.semantics.proofs.VariantLaws.{variant-refl, variant-sym, variant-trans}
use Rattle.semantics.proofs.Comparison.{same_state-complete}
use Rattle.tables.specs.Cells.{cell_term, cell_constraints}
use Rattle.tables.specs.Cells.{is_low}
use Rattle.tables.proofs.CellLaws.{constraints-length}
use Rattle.tables.proofs.CellLaws.{le-or-lt, low-symbol}
use Rattle.colours.specs.Rows.{row_of}
use Rattle.colours.specs.Bounds.{Below}
use Rattle.colours.specs.Ends.{end_of}
use Rattle.comparison.specs.Comparing.{Side, Alike, BothNumbered}
use Rattle.colours.specs.Classes.{Colourable}
use Rattle.colours.specs.Numbering.{Renames, Numbering, Renumbered}
use Rattle.colours.specs.Colours.{digest, clipped}
use Rattle.colours.proofs.RowLaws.{pointwise-at, rows-pointwise, row_at}
use Rattle.colours.proofs.AgreeLaws.{prefix-agree}
use Rattle.colours.proofs.ClassLaws.{same-iff}
use Rattle.colours.proofs.FirstLaws.{bound-differs, first-differs}

-- the cells before i are the same
pub record Matching (a b : List ℕ) (i : ℕ) : Type 0 where
  pub within : i ≤ length a
  pub same : (k : ℕ) → k < i → get_or a k 0 ≡ get_or b k 0

pub cells-start : (a b : List ℕ) → Matching a b 0
cells-start a b = record { within = omega arith; same = λ k h. absurd (omega arith) }

pub cells-apart : (a b : List ℕ) (i : ℕ) → (get_or a i 0 ≡ get_or b i 0 → ⊥) → Alike false a b
cells-apart a b i d = record { same = λ z. true-false z refl; apart = λ z e. d (ap (λ l. get_or l i 0) e) }

pub lengths-apart : (a b : List ℕ) → (length a ≡ length b → ⊥) → Alike false a b
lengths-apart a b d = record { same = λ z. true-false z refl; apart = λ z e. d (ap length e) }

module _ (a b : List ℕ) (i : ℕ) (s : length a ≡ length b) (w : Matching a b i) where
  pub cells-done : length a ≤ i → Alike true a b
  cells-done h =
      record { same = λ z. ext_get_or 0 a b s (λ k l. w.same k (omega arith)); apart = λ z. true-false refl z }

  pub cells-next : i < length a → get_or a i 0 ≡ get_or b i 0 → Matching a b (i + 1)
  cells-next h e = rw (add-one i) (record { within = h; same = λ k l. go k l (le-cases k l) })
    where
      le-cases : (k : ℕ) → k < suc i → (k < i) ⊎ (k ≡ i)
      le-cases k l = ⊎_elim (λ q. inr (omega arith)) (λ q. inl q) (le-or-lt i k)

      go : (k : ℕ) → k < suc i → (k < i) ⊎ (k ≡ i) → get_or a k 0 ≡ get_or b k 0
      go k l (inl q) = w.same k q
      go k l (inr q) = rw q e

-- variants of both states
pub variants-same :
    (s t s' t' : State) → Variant s s' → Variant t t' → same_state s' t' ≡ same_state s t
variants-same s t s' t' v w =
    same-iff s t s' t'
    (λ x. variant-trans s' s t' (variant-sym s s' v) (variant-trans s t t' x w))
    (λ x. variant-trans s s' t v (variant-trans s' t' t x (variant-sym t t' w)))

-- the symbols of a state lie below the variables
symbol-below :
    (n : ℕ) (l : List ℕ) (i : ℕ) → length l ≡ 5 * n → every is_low (cell_constraints l) ≡ true → i < n → get_or l (5 * i) 0 < 256
unfolding row_of
symbol-below n l i s e h =
    let none : Constraint = record { symbol = 0; terms = [] } in
    let t = every-at is_low (cell_constraints l) i none e (rw (constraints-length n l s) h) in
    let low : get_or l (5 * i) 0 < 64 = low-symbol (row_of l i) (rw (row_at i l none (omega arith)) at t) in
    omega arith

-- a table of numbers renames one to one
renames-one : (numbers : List ℕ) (next : ℕ) → Numbering numbers next → OneToOne (Renames numbers)
renames-one numbers next n = (
  λ x y z p q. omega arith,
  λ x y z p q.
      let e : x + 256 ≡ y + 256 = n.one (x + 256) (y + 256) (p ∙ sym q) (λ k. omega arith) in
      omega arith,
)

module _ (n : ℕ) (cells bound out bound' : List ℕ) (limit next : ℕ) (s : length cells ≡ 5 * n)
    (l : length out ≡ length cells) (q : length bound' ≡ length bound) (low : every is_low (cell_constraints cells) ≡ true)
    (r : Renumbered cells bound out bound' limit next) where
  row-renumbered : (i : ℕ) → i < n → ConstraintVariant (Renames r.numbers) (row_of cells i) (row_of out i)
  unfolding row_of
  row-renumbered i h =
      record {
        symbols = sym (r.constant (5 * i) (symbol-below n cells i s low h));
        terms = prefix-agree _ _
            (each (r.same (5 * i + 1) (omega arith)) (each (r.same (5 * i + 2) (omega arith))
            (each (r.same (5 * i + 3) (omega arith)) (each (r.same (5 * i + 4) (omega arith)) empty))));
      }

  -- a state and itself with its variables numbered anew
  pub renumbered-variant : Variant (end_of bound cells) (end_of bound' out)
  renumbered-variant = (
    Renames r.numbers,
    renames-one r.numbers next r.numbering,
    pointwise-map cell_term cell_term (pointwise-at 0 0 bound bound' (sym q) r.same-bound),
    multiset-of-pointwise (rows-pointwise n cells out s (l ∙ s) row-renumbered),
  )

  -- its cells lie below the next number
  pub renumbered-colourable : (size : ℕ) → next ≤ size → size ≤ 2844 → Colourable out bound' size n
  renumbered-colourable size h k =
      record {
        count = l ∙ s;
        room = k;
        terms = record { below = λ i j m. omega (arith, r.below (5 * i + (1 + j))) };
        bound-below = record { below = λ i. omega (arith, r.bound-below i) };
      }

-- states in the same order
pub straight-same :
    (f a g b : List ℕ) → f ≡ g → a ≡ b → true ≡ same_state (end_of f a) (end_of g b)
straight-same f a g b e d =
    rw (e, d) (sym (same_state-complete (end_of g b) (end_of g b) (variant-refl (end_of g b))))

module _ (a f b g : List ℕ) (n limit size : ℕ) (p : BothNumbered a f b g n limit size) where
  -- what the goal variables became differs
  pub numbered-bound : (f ≡ g → ⊥) → false ≡ same_state (end_of f a) (end_of g b)
  numbered-bound d = sym (bound-differs f a g b limit p.limit-second p.ascending p.ascending-second d)

  -- what deciding asks
  pub numbered-ready : Colourable a f size n × Colourable b g size n × (length f ≡ length g) × (n ≤ 512)
  numbered-ready = (p.first, p.second, p.bounds, p.few)

  -- the first digests differ
  pub numbered-digest :
      f ≡ g → (x y : ℕ) → x ≡ digest (clipped limit) (cell_constraints a) → y ≡ digest (clipped limit) (cell_constraints b)
      → (x ≡ y → ⊥) → false ≡ same_state (end_of f a) (end_of g b)
  numbered-digest e x y ex ey d = rw (← e) (sym (first-differs f a b limit x y p.ascending ex ey d))

-- what numbering a state's variables asks, in room of these sizes
pub side-ready :
    (a : List ℕ) (n : ℕ) (f : List ℕ) (u v : ℕ) → Side a n f → u ≡ 5 * n → v ≡ length f
    → Below 13596 a × Below 13596 f × (u ≡ length a) × (v ≡ length f) × (length a ≤ 2560) × (length f ≤ 28)
side-ready a n f u v s e k =
    (s.below, s.bound-below, e ∙ sym s.size, k, omega (arith, s.size, s.few), s.bound-few)

-- two states with as many constraints and goal variables, and the two with their variables numbered
module _ (a : List ℕ) (n : ℕ) (f b : List ℕ) (m : ℕ) (g : List ℕ) (s : Side a n f) (t : Side b m g) (e : n ≡ m)
    (o : length f ≡ length g) (ca l : List ℕ) (i x : ℕ) (cb r : List ℕ) (j y : ℕ) (lca : length ca ≡ 5 * n)
    (ll : length l ≡ length f) (lcb : length cb ≡ 5 * n) (lr : length r ≡ length f) (ra : Renumbered a f ca l i x)
    (rb : Renumbered b g cb r j y) where
  size-a : length ca ≡ length a
  size-a = lca ∙ sym s.size

  size-b : length cb ≡ length b
  size-b = lcb ∙ (ap (λ k. 5 * k) e ∙ sym t.size)

  -- the numbered states answer for the states
  pub compare-answer : (q : Bool) → q ≡ same_state (end_of l ca) (end_of r cb) → q ≡ same_state (end_of f a) (end_of g b)
  compare-answer q h =
      h ∙ variants-same (end_of f a) (end_of g b) (end_of l ca) (end_of r cb)
      (renumbered-variant n a f ca l i x s.size size-a ll s.low ra)
      (renumbered-variant m b g cb r j y t.size size-b (lr ∙ o) t.low rb)

  -- what the later steps ask
  pub compare-ready : (size : ℕ) → size ≡ max x y → BothNumbered ca l cb r n i size
  compare-ready size h =
      let left-room : x ≤ 2844 = omega (arith, ra.most, s.size, s.few, s.bound-few) in
      let right-room : y ≤ 2844 = omega (arith, rb.most, t.size, t.few, t.bound-few) in
      let second' : Colourable cb r size m =
      renumbered-colourable m b g cb r j y t.size size-b (lr ∙ o) t.low rb size (omega arith) (omega arith) in
      record {
        first = renumbered-colourable n a f ca l i x s.size size-a ll s.low ra size (omega arith) (omega arith);
        second = rw (← e) at second';
        bounds = ll ∙ sym lr;
        few = s.few;
        ascending = ra.ascending;
        limit-second = j;
        ascending-second = rb.ascending;
      }
