-- Removing constraints from cells, the highest position first, is removing them from the list.
--   highest-…, Removing     the loops of `highest` and `remove`
-- Assumes nothing.
use Prim.Native.Nat.{ℕ, zero, suc, ◌+◌, ◌-◌, ◌*◌, ◌≤◌, ◌<◌}
use native.Mathlib.Nat.{add-zero}
use native.Mathlib.Omega.{arith}
use native.Mathlib.Numerals.{add-one}
use mathlib.Core.Bool.{Bool, true, false}
use mathlib.Core.List.{List, [], ◌∷◌, ◌++◌, append_assoc, append-nil}
use mathlib.Core.Path.{◌≡◌, sym, ◌∙◌}
use lib.Dec.{eqb}
use lib.ListN.{length, get_or, take, drop, length-drop, drop_of_length-le}
use lib.Seq.{paste, take-paste, take-suc, drop-cons, take-take, take-add, take_all, take-append-le, drop_at}
use lib.Seq.{length-take-le}
use Rattle.text.specs.Lists.{has}
use Rattle.semantics.specs.Terms.{Constraint}
use Rattle.semantics.specs.Firing.{without}
use Rattle.semantics.proofs.Removal.{has_last, has_other, has-front}
use Rattle.semantics.proofs.Bools.{or_right}
use Rattle.tables.specs.Cells.{cell_constraints}
use Rattle.tables.proofs.CellLaws.{constraints-length}
use Rattle.engine.specs.Cells.{closed_gap}
use Rattle.std.specs.Ordering.{nat_cmp, partial_lt}
use Rattle.std.specs.Prelude.{Option, None, Some}
use Rattle.std.specs.Option.{option_partial_cmp}
use Rattle.std.proofs.lemmas.Bool.Decides.{nat_tests}
use Rattle.engine.specs.States.{Highest, Removed}
use Rattle.tables.proofs.CellLaws.{constraints-take}
use Rattle.fitting.proofs.PartLaws.{drop-constraints}
use Rattle.engine.proofs.FireLaws.{constraints-append}

-- whether a position lies above the highest so far
abbrev pub above : Option ℕ → ℕ → Bool
above top q = partial_lt (option_partial_cmp (λ x y. Some (nat_cmp x y))) top (Some q)

above-true : (t q : ℕ) → above (Some t) q ≡ true → t < q
above-true t q h = grind (arith, nat_tests)

above-false : (t q : ℕ) → above (Some t) q ≡ false → q ≤ t
above-false t q h = grind (arith, nat_tests)

-- the highest of the first i positions, and one position more
module _ (positions : List ℕ) (p i : ℕ) (l : i < length positions) where
  abbrev q : ℕ
  q = get_or positions i 0

  one_more : take (i + 1) positions ≡ take i positions ++ (q ∷ [])
  one_more = rw (add-one i) (take-suc positions i 0 l)

  -- it is the highest
  pub highest-higher :
      (top : Option ℕ) → Highest (take i positions) p top → q < p → above top q ≡ true
      → Highest (take (i + 1) positions) p (Some q)
  highest-higher None w h e =
      rw one_more (
        h,
        has_last q (take i positions),
        λ r a b.
            has_other r q (take i positions) (λ n. omega arith) ∙ w r b,
      )
  highest-higher (Some t) w h e =
      rw one_more (
        h,
        has_last q (take i positions),
        λ r a b.
            has_other r q (take i positions) (λ n. omega arith) ∙ w.2 r (omega (arith, above-true t q e)) b,
      )

  -- it changes nothing: it lies at p or behind, or is not above the highest
  pub highest-other :
      (top : Option ℕ) → Highest (take i positions) p top → (q < p → above top q ≡ false)
      → Highest (take (i + 1) positions) p top
  highest-other None w f =
      rw one_more (λ r b. has_other r q (take i positions) (λ n. let z : true ≡ false = f (omega arith) in cc) ∙ w r b)
  highest-other (Some t) w f =
      rw one_more (
        w.0,
        has-front t q (take i positions) ∙ or_right (eqb t q) (has t (take i positions)) w.1,
        λ r a b.
            has_other r q (take i positions) (λ n. absurd (omega (arith, above-false t q (f (omega arith))))) ∙ w.2 r a b,
      )

-- part of a part
pub drop-part : (a n : ℕ) (l : List ℕ) → a + n ≤ length l → drop a (take (a + n) l) ≡ take n (drop a l)
drop-part a n l h = rw (take-add a n l) (drop_at (take a l) (take n (drop a l)) a (length-take-le a l (omega arith)))

-- the constraints after a gap is closed
gap-closed :
    (k p : ℕ) (cells : List ℕ) → p < k → 5 * k ≤ length cells
    → cell_constraints (take (5 * (k - 1)) (closed_gap k p cells))
    ≡ take p (cell_constraints (take (5 * k) cells)) ++ drop (suc p) (cell_constraints (take (5 * k) cells))
unfolding closed_gap
gap-closed k p cells l h =
    let count : 5 * (k - 1) ≡ 5 * p + (5 * k - 5 - 5 * p) = omega arith in
    let all : 5 * k ≡ 5 * p + 5 + (5 * k - 5 - 5 * p) = omega arith in
    let row : 5 * p + 5 ≡ 5 * suc p = omega arith in
    let front : take (5 * p) cells ≡ take (5 * p) (take (5 * k) cells) = sym (take-take (5 * p) (5 * k) cells (omega arith)) in
    let behind : take (5 * k - 5 - 5 * p) (drop (5 * p + 5) cells) ≡ drop (5 * suc p) (take (5 * k) cells) =
    rw (← row) (sym (rw (← all) at (drop-part (5 * p + 5) (5 * k - 5 - 5 * p) cells (omega arith)))) in
    let taken : take (5 * (k - 1)) (paste cells (5 * p) (drop (5 * p + 5) cells) (5 * k - 5 - 5 * p))
    ≡ take (5 * p) (take (5 * k) cells) ++ drop (5 * suc p) (take (5 * k) cells) =
    rw (count, ← front, ← behind) (take-paste cells (5 * p) (drop (5 * p + 5) cells) (5 * k - 5 - 5 * p) (omega arith)
    (omega (arith, length-drop (5 * p + 5) cells))) in
    rw taken
    (constraints-append p (take (5 * p) (take (5 * k) cells)) (drop (5 * suc p) (take (5 * k) cells))
    (length-take-le (5 * p) (take (5 * k) cells) (omega (arith, length-take-le (5 * k) cells h)))
    ∙ rw (constraints-take p (take (5 * k) cells), drop-constraints (suc p) (take (5 * k) cells)))

-- the constraints below a position, and those from it on that stay
abbrev staying : ℕ → List ℕ → List Constraint → List Constraint
staying p ps cs = take p cs ++ without p ps (drop p cs)

-- any constraint
any : Constraint
any = record { symbol = 0; terms = [] }

-- the constraint at a position that is not removed
stays_here : (p : ℕ) (ps : List ℕ) (cs : List Constraint) → p < length cs → has p ps ≡ false
    → staying (suc p) ps cs ≡ staying p ps cs
unfolding without
stays_here p ps cs l e =
    rw (
      take-suc cs p any l,
      drop-cons cs p any l,
      e,
      append_assoc (take p cs) (get_or cs p any ∷ []) (without (suc p) ps
          (drop (suc p) cs)),
    )

-- one that is removed
goes-here : (p : ℕ) (ps : List ℕ) (cs : List Constraint) → p < length cs → has p ps ≡ true
    → take p cs ++ without (suc p) ps (drop (suc p) cs) ≡ staying p ps cs
unfolding without
goes-here p ps cs l e = rw (drop-cons cs p any l, e)

-- those between two positions where none is removed
stay-between :
    (d p : ℕ) (ps : List ℕ) (cs : List Constraint) → p + d ≤ length cs → ((q : ℕ) → p ≤ q → q < p + d → has q ps ≡ false)
    → staying (p + d) ps cs ≡ staying p ps cs
stay-between zero p ps cs l f = rw add-zero
stay-between (suc d) p ps cs l f =
    let next : p + suc d ≡ suc (p + d) = omega arith in
    rw next (stays_here (p + d) ps cs (omega arith) (f (p + d) (omega arith) (omega arith)))
    ∙ stay-between d p ps cs (omega arith) (λ q a b. f q a (omega arith))

-- k constraints are there: those below a position, and those from it on that stay
pub record Removing (m : ℕ) (ps start cells : List ℕ) (k below : ℕ) : Type 0 where
  pub few : k ≤ m
  pub fits : below ≤ k
  pub same : cell_constraints (take (5 * k) cells) ≡ staying below ps (cell_constraints start)

module _ (m : ℕ) (ps start : List ℕ) (e : length start ≡ 5 * m) where
  all : length (cell_constraints start) ≡ m
  all = constraints-length m start e

  pub removing-start : Removing m ps start start m m
  unfolding without
  removing-start =
      record {
        few = omega arith;
        fits = omega arith;
        same = rw (
          take_all (5 * m) start (omega arith),
          take_all m (cell_constraints start) (omega (arith, all)),
          drop_of_length-le (cell_constraints start) {i = m} (omega (arith, all)),
          append-nil,
        );
      }

  module _ (cells : List ℕ) (k below : ℕ) (w : Removing m ps start cells k below) where
    -- no position is left
    pub removing-end : Highest ps below None → Removed m ps start cells k
    removing-end free =
        let whole : 0 + below ≡ below = omega arith in
        record {
          few = w.few;
          same = w.same ∙ rw whole at (stay-between below 0 ps (cell_constraints start) (omega (arith, w.fits, w.few, all))
              (λ q a b. free q (omega arith)));
        }

    -- one constraint less
    pub removing-next :
        (c : List ℕ) (p : ℕ) → length cells ≡ length start → Highest ps below (Some p) → c ≡ closed_gap k p cells
        → Removing m ps start c (k - 1) p
    removing-next c p size h g =
        let few-left : k ≤ m = w.few in
        let fits : below ≤ k = w.fits in
        let lower : p < below = h.0 in
        let between : suc p + (below - suc p) ≡ below = omega arith in
        let here : cell_constraints (take (5 * k) cells) ≡ staying (suc p) ps (cell_constraints start) =
        w.same ∙ rw between at (stay-between (below - suc p) (suc p) ps (cell_constraints start) (omega (arith, all))
        (λ q a b. h.2 q (omega arith) (omega arith))) in
        let front : length (take (suc p) (cell_constraints start)) ≡ suc p =
        length-take-le (suc p) (cell_constraints start) (omega (arith, all)) in
        record {
          few = omega arith;
          fits = omega arith;
          same = rw g (gap-closed k p cells (omega arith) (omega arith) ∙ rw (
            here,
            take-append-le p (take (suc p) (cell_constraints start)) (without (suc p) ps (drop (suc p)
                (cell_constraints start))) (omega arith),
            take-take p (suc p) (cell_constraints start) (omega arith),
            drop_at (take (suc p) (cell_constraints start)) (without (suc p) ps (drop (suc p) (cell_constraints start)))
                (suc p) front,
          )) ∙ goes-here p ps (cell_constraints start) (omega (arith, all)) h.1;
        }
