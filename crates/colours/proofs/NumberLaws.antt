-- Variables numbered anew: one law for each way that the code goes.
--   number-…        one cell
--   cells-…         all cells
--   below_apart     cells of which it is not said that they lie below a size
--   state-…         a state
-- Assumes nothing.
use Rattle.std.proofs.Common.{◌≡◌, ℕ, zero, suc, ◌+◌, ◌-◌, ◌<◌, ◌≤◌, true, false, eqb, ◌⊎◌, List, ◌++◌, length, get_or, take, set, replicate, sym, refl, ◌∙◌, inl, inr, add-one, arith, length-set, get_or-set_other, get_or-set_same, take-suc-set, eqb-true}
use borrow.Author.Tests.{eqb-false}
use Rattle.semantics.specs.Variants.{TermVariant, same_con, partners}
use Rattle.semantics.proofs.Options.{true-false}
use Rattle.tables.specs.Cells.{cell_term}
use Rattle.tables.proofs.CellLaws.{either, cell-low, cell-high}
use Rattle.colours.specs.Numbering.{Renames, Numbering, Ascending, none, known, new, WithinSize}
use Rattle.colours.specs.Numbering.{Numbered, CellsNumbered, Renumbered}

-- a variable with its number, as terms
renamed : (numbers : List ℕ) (x y : ℕ) → 256 ≤ x → 256 ≤ y → get_or numbers x 0 ≡ y → TermVariant (Renames numbers)
    (cell_term x) (cell_term y)
renamed numbers x y hx hy e =
    let i : x - 256 + 256 ≡ x = omega arith in
    let j : y - 256 + 256 ≡ y = omega arith in
    let r : Renames numbers (x - 256) (y - 256) = rw (i, j) e in
    rw (cell-high x hx, cell-high y hy) (partners r)

-- what a table that keeps its numbers makes equal
pub kept_same :
    (numbers numbers' : List ℕ) → ((z : ℕ) → (get_or numbers z 0 ≡ 0 → ⊥) → get_or numbers' z 0 ≡ get_or numbers z 0)
    → (x y : ℕ) → TermVariant (Renames numbers) (cell_term x) (cell_term y) → TermVariant (Renames numbers') (cell_term x)
    (cell_term y)
kept_same numbers numbers' k x y v = go v
  where
    go : {s t : _} → TermVariant (Renames numbers) s t → TermVariant (Renames numbers') s t
    go same_con = same_con
    go (partners {x = z} {y = w} r) = partners (k (z + 256) (λ e. omega arith) ∙ r)

module _ (x : ℕ) (numbers : List ℕ) (next : ℕ) (n : Numbering numbers next) where
  -- a constant
  pub number-constant : x < 256 → Numbered x x numbers next numbers next
  number-constant h =
      record {
        numbering = n;
        kept = λ z d. refl;
        same = rw (cell-low x h) same_con;
        constant = λ l. refl;
        ascending = known {next = next} {x = x} (omega (arith, n.low)) none;
        below = omega (arith, n.low);
        least = omega arith;
        most = omega arith;
      }

  module _ (h : 256 ≤ x) (p : ℕ) (e : p ≡ x) where
    -- a variable that has its number
    pub number-known : (get_or numbers p 0 ≡ 0 → ⊥) → Numbered x (get_or numbers p 0) numbers next numbers next
    number-known d =
        record {
          numbering = n;
          kept = λ z q. refl;
          same = renamed numbers x (get_or numbers p 0) h (n.high p d) (rw e);
          constant = λ l. absurd (omega arith);
          ascending = known (n.below p) none;
          below = n.below p;
          least = omega arith;
          most = omega arith;
        }

    module _ (d : get_or numbers p 0 ≡ 0) (l : x < length numbers) where
      room : p < length numbers
      room = rw e l

      new-below : (z : ℕ) → (eqb z p ≡ true) ⊎ (eqb z p ≡ false) → get_or (set numbers p next) z 0 < next + 1
      new-below z (inl y) = rw (eqb-true z p y, get_or-set_same numbers p next 0 room) (omega arith)
      new-below z (inr y) = rw (get_or-set_other numbers p z next 0 (eqb-false z p y)) (omega (arith, n.below z))

      new-high :
          (z : ℕ) → (eqb z p ≡ true) ⊎ (eqb z p ≡ false) → (get_or (set numbers p next) z 0 ≡ 0 → ⊥)
          → 256 ≤ get_or (set numbers p next) z 0
      new-high z (inl y) q = rw (eqb-true z p y, get_or-set_same numbers p next 0 room) n.low
      new-high z (inr y) q =
          let f = get_or-set_other numbers p z next 0 (eqb-false z p y) in
          rw f (n.high z (λ k. q (f ∙ k)))

      new-one :
          (z w : ℕ) → (eqb z p ≡ true) ⊎ (eqb z p ≡ false) → (eqb w p ≡ true) ⊎ (eqb w p ≡ false)
          → get_or (set numbers p next) z 0 ≡ get_or (set numbers p next) w 0 → (get_or (set numbers p next) z 0 ≡ 0 → ⊥) → z ≡ w
      new-one z w (inl y) (inl u) k q = eqb-true z p y ∙ sym (eqb-true w p u)
      new-one z w (inl y) (inr u) k q =
          let a : get_or (set numbers p next) z 0 ≡ next = rw (eqb-true z p y) (get_or-set_same numbers p next 0 room) in
          let b = get_or-set_other numbers p w next 0 (eqb-false w p u) in
          absurd (omega (arith, n.below w))
      new-one z w (inr y) (inl u) k q =
          let a : get_or (set numbers p next) w 0 ≡ next = rw (eqb-true w p u) (get_or-set_same numbers p next 0 room) in
          let b = get_or-set_other numbers p z next 0 (eqb-false z p y) in
          absurd (omega (arith, n.below z))
      new-one z w (inr y) (inr u) k q =
          let a = get_or-set_other numbers p z next 0 (eqb-false z p y) in
          let b = get_or-set_other numbers p w next 0 (eqb-false w p u) in
          n.one z w (sym a ∙ (k ∙ b)) (λ m. q (a ∙ m))

      -- a variable that gets the next number
      pub number-new : Numbered x next numbers next (set numbers p next) (next + 1)
      number-new =
          record {
            numbering = record {
              low = omega (arith, n.low);
              below = λ z. new-below z (either (eqb z p));
              high = λ z. new-high z (either (eqb z p));
              one = λ z w. new-one z w (either (eqb z p)) (either (eqb w p));
            };
            kept = λ z q. get_or-set_other numbers p z next 0 (λ m. q (rw m d));
            same = renamed (set numbers p next) x next h n.low (rw (← e) (get_or-set_same numbers p next 0 room));
            constant = λ k. absurd (omega arith);
            ascending = rw (add-one next) (new refl none);
            below = omega arith;
            least = omega arith;
            most = omega arith;
          }

-- numbers after numbers
ascending-append :
    {first middle end : ℕ} {l m : List ℕ} → Ascending first l middle → Ascending middle m end → Ascending first (l ++ m) end
ascending-append none b = b
ascending-append (known h a) b = known h (ascending-append a b)
ascending-append (new e a) b = new e (ascending-append a b)

-- the cells below i have their numbers
pub record Progress (cells out₀ out numbers₀ : List ℕ) (first : ℕ) (numbers : List ℕ) (next i : ℕ) : Type 0 where
  pub size : length out ≡ length out₀
  pub table-size : length numbers ≡ length numbers₀
  pub numbering : Numbering numbers next
  pub kept : (z : ℕ) → (get_or numbers₀ z 0 ≡ 0 → ⊥) → get_or numbers z 0 ≡ get_or numbers₀ z 0
  pub same : (k : ℕ) → k < i → TermVariant (Renames numbers) (cell_term (get_or cells k 0)) (cell_term (get_or out k 0))
  pub constant : (k : ℕ) → k < i → get_or cells k 0 < 256 → get_or out k 0 ≡ get_or cells k 0
  pub ascending : Ascending first (take i out) next
  pub below : (k : ℕ) → k < i → get_or out k 0 < next
  pub least : first ≤ next
  pub most : next ≤ first + i

pub cells-start :
    (cells out numbers : List ℕ) (first : ℕ) → Numbering numbers first → Progress cells out out numbers first numbers first 0
cells-start cells out numbers first n =
    record {
      size = refl;
      table-size = refl;
      numbering = n;
      kept = λ z d. refl;
      same = λ k h. absurd (omega arith);
      constant = λ k h. absurd (omega arith);
      ascending = none;
      below = λ k h. absurd (omega arith);
      least = omega arith;
      most = omega arith;
    }

module _ (cells out₀ out numbers₀ : List ℕ) (first : ℕ) (numbers : List ℕ) (next i : ℕ) (s : length out₀ ≡ length cells)
    (w : Progress cells out₀ out numbers₀ first numbers next i) where
  module _ (h : i < length cells) (y : ℕ) (numbers' : List ℕ) (next' : ℕ) (t : length numbers' ≡ length numbers)
      (n : Numbered (get_or cells i 0) y numbers next numbers' next') where
    in-room : i < length out
    in-room = omega (arith, w.size)

    step_same :
        (k : ℕ) → (eqb k i ≡ true) ⊎ (eqb k i ≡ false) → k < suc i
        → TermVariant (Renames numbers') (cell_term (get_or cells k 0)) (cell_term (get_or (set out i y) k 0))
    step_same k (inl e) l = rw (eqb-true k i e, get_or-set_same out i y 0 in-room) n.same
    step_same k (inr e) l =
        let d : k ≡ i → ⊥ = eqb-false k i e in
        rw (get_or-set_other out i k y 0 d)
        (kept_same numbers numbers' n.kept (get_or cells k 0) (get_or out k 0) (w.same k (omega (arith, d))))

    step-constant :
        (k : ℕ) → (eqb k i ≡ true) ⊎ (eqb k i ≡ false) → k < suc i → get_or cells k 0 < 256
        → get_or (set out i y) k 0 ≡ get_or cells k 0
    step-constant k (inl e) l c =
        let q : k ≡ i = eqb-true k i e in
        rw (q, get_or-set_same out i y 0 in-room) (n.constant (rw q at c))
    step-constant k (inr e) l c =
        let d : k ≡ i → ⊥ = eqb-false k i e in
        get_or-set_other out i k y 0 d ∙ w.constant k (omega (arith, d)) c

    step-below :
        (k : ℕ) → (eqb k i ≡ true) ⊎ (eqb k i ≡ false) → k < suc i → get_or (set out i y) k 0 < next'
    step-below k (inl e) l = rw (eqb-true k i e, get_or-set_same out i y 0 in-room) n.below
    step-below k (inr e) l =
        let d : k ≡ i → ⊥ = eqb-false k i e in
        rw (get_or-set_other out i k y 0 d) (omega (arith, w.below k (omega (arith, d)), n.least))

    kept_on :
        (z : ℕ) → (get_or numbers₀ z 0 ≡ 0 → ⊥) → get_or numbers' z 0 ≡ get_or numbers₀ z 0
    kept_on z d = n.kept z (λ e. d (sym (w.kept z d) ∙ e)) ∙ w.kept z d

    pub cells-next : Progress cells out₀ (set out i y) numbers₀ first numbers' next' (i + 1)
    cells-next =
        rw (add-one i)
        (record {
          size = length-set out i y ∙ w.size;
          table-size = t ∙ w.table-size;
          numbering = n.numbering;
          kept = kept_on;
          same = λ k l. step_same k (either (eqb k i)) l;
          constant = λ k l. step-constant k (either (eqb k i)) l;
          ascending = rw (take-suc-set out i y in-room) (ascending-append w.ascending n.ascending);
          below = λ k l. step-below k (either (eqb k i)) l;
          least = omega (arith, w.least, n.least);
          most = omega (arith, w.most, n.most);
        })

-- no variable has a number
zeros-at : (m x : ℕ) → ◌≡◌ {A = ℕ} (get_or (replicate m 0) x 0) 0
zeros-at zero x = refl
zeros-at (suc m) zero = refl
zeros-at (suc m) (suc x) = zeros-at m x

pub numbering-none : (m : ℕ) → Numbering (replicate m 0) 256
numbering-none m =
    record {
      low = omega arith;
      below = λ x. rw (zeros-at m x) (omega arith);
      high = λ x d. absurd (d (zeros-at m x));
      one = λ x y e d. absurd (d (zeros-at m x));
    }

-- both parts of a state are numbered
pub state-numbered :
    (cells bound out bound' numbers₀ numbers₁ numbers₂ : List ℕ) (limit next : ℕ)
    → CellsNumbered bound bound' numbers₀ 256 numbers₁ limit → CellsNumbered cells out numbers₁ limit numbers₂ next
    → Renumbered cells bound out bound' limit next
state-numbered cells bound out bound' numbers₀ numbers₁ numbers₂ limit next f g =
    record {
      numbers = numbers₂;
      numbering = g.numbering;
      same = g.same;
      same-bound = λ i h. kept_same numbers₁ numbers₂ g.kept (get_or bound i 0) (get_or bound' i 0) (f.same i h);
      constant = g.constant;
      ascending = f.ascending;
      below = g.below;
      bound-below = λ i. omega (arith, f.below i, g.least);
      most = omega (arith, f.most, g.most);
    }

-- nothing is said of the cells
pub below_apart : (size : ℕ) (cells : List ℕ) → WithinSize false size cells
below_apart size cells = record { below = λ z. true-false z refl }
