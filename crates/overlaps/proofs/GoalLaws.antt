-- The goal of an overlap, from the heads that are left.
--   goal-numberable        what numbering their variables asks
--   goal-finished          the goal
-- Assumes nothing.
use Prim.Native.Nat.{ℕ, ◌+◌, ◌*◌, ◌≤◌}
use native.Mathlib.Omega.{arith}
use mathlib.Core.List.{List, [], ◌++◌, map}
use mathlib.Core.Path.{◌≡◌, sym, ap, ◌∙◌}
use lib.ListN.{length, take, drop, length-append}
use lib.Seq.{length-take-le, take_at}
use Rattle.text.specs.Lists.{every}
use Rattle.semantics.specs.Terms.{Constraint, map_terms}
use Rattle.semantics.specs.Overlaps.{unjoined_heads, appearing, numbered, goal_of}
use Rattle.tables.specs.Cells.{cell_constraints, is_low}
use Rattle.tables.specs.Numbers.{order_of, is_within, Numberable, Renumbered}
use Rattle.tables.proofs.CellLaws.{constraints-length}
use Rattle.tables.proofs.MapLaws.{low-kept}
use Rattle.overlaps.specs.Joins.{goal_from}
use Rattle.overlaps.specs.Cells.{Unjoined}
use Rattle.overlaps.specs.Overlapped.{Whole, Finished}
use Rattle.overlaps.proofs.WithinLaws.{within_low, unjoined-within, rows_few}

module _ (cells : List ℕ) (m n : ℕ) (partners : List ℕ) (w : Whole cells m n partners) (kept : List ℕ) (count : ℕ)
    (u : Unjoined m n (take m partners) cells kept count) (size : length kept ≡ length cells) where
  -- the heads that are left are there
  pub goal-room : 5 * count ≤ length kept
  goal-room = omega (arith, w.size, u.few)

  -- what numbering their variables asks
  pub goal-numberable : Numberable 52 0 (take (5 * count) kept)
  goal-numberable =
      record {
        known = omega arith;
        within =
            ap (every (is_within 52)) u.same
            ∙ unjoined-within (is_within 52) m (cell_constraints cells) (take m partners) w.within;
        few =
            let z = length-take-le (5 * count) kept goal-room in
            omega (arith, u.few, w.first-few, w.second-few);
      }

  -- the goal
  pub goal-finished :
      (front rest : List ℕ) (variables : ℕ) → length front ≡ 5 * count
      → Renumbered 0 (take (5 * count) kept) front variables
      → Finished cells m n partners (front ++ rest) count variables
  unfolding goal_from goal_of order_of
  goal-finished front rest variables s r =
      record {
        goal =
            ap goal_of (sym u.same)
            ∙ goal-of (cell_constraints (take (5 * count) kept)) (sym r.counted)
            (sym r.same ∙ ap cell_constraints (sym (take_at front rest (5 * count) s)));
        few = u.few;
        left =
            sym (constraints-length count (take (5 * count) kept) (length-take-le (5 * count) kept goal-room))
            ∙ ap length u.same
            ∙ length-append (take m (cell_constraints cells)) (unjoined_heads 1 (drop m (cell_constraints cells)) (take m partners))
            ∙ ap (◌+ length (unjoined_heads 1 (drop m (cell_constraints cells)) (take m partners)))
            (length-take-le m (cell_constraints cells) (omega (arith, all)));
        variables-few =
            let most = rows_few [] count (take (5 * count) kept) (length-take-le (5 * count) kept goal-room) in
            omega (arith, most, r.counted);
        low =
            ap (λ l. every is_low (cell_constraints l)) (take_at front rest (5 * count) s)
            ∙ ap (every is_low) r.same
            ∙ low-kept (numbered (order_of 0 (take (5 * count) kept))) (cell_constraints (take (5 * count) kept))
            ∙ within_low 52 (cell_constraints (take (5 * count) kept)) goal-numberable.within;
      }
    where
      all : length (cell_constraints cells) ≡ m + n
      all = constraints-length (m + n) cells w.size

      goal-of :
          (cs : List Constraint) {v : ℕ} {ds : List Constraint} → length (appearing [] cs) ≡ v
          → map (map_terms (numbered (appearing [] cs))) cs ≡ ds
          → goal_of cs ≡ record { variables = v; constraints = ds }
      goal-of cs e f = λ i. record { variables = e i; constraints = f i }
