-- A state that begins behind the rows of constraints that were removed at the front.
--   returned               all cells, after those from a place on were lent
--   without-front          removing the first constraints
--   front-completes        a firing that removes the first constraints
-- Assumes nothing.
use Prim.Native.Nat.{ℕ, zero, suc, ◌+◌, ◌-◌, ◌*◌, ◌≤◌, ◌<◌}
use native.Mathlib.Omega.{arith}
use mathlib.Core.Bool.{Bool, true, false}
use mathlib.Core.List.{List, [], ◌∷◌, ◌++◌, append-nil}
use mathlib.Core.Path.{◌≡◌, refl, ap, sym, ◌∙◌}
use lib.ListN.{length, get_or, take, drop, length-append, length-drop, drop_of_length-le}
use lib.Seq.{drop_at, length-take-le}
use Rattle.text.specs.Lists.{has, up_to}
use Rattle.semantics.specs.Terms.{Constraint}
use Rattle.semantics.specs.Firing.{without}
use Rattle.semantics.proofs.Appearing.{up_to-has, up_to-lacks}
use Rattle.tables.specs.Cells.{cell_constraints}
use Rattle.tables.proofs.CellLaws.{constraints-length}
use Rattle.engine.specs.States.{Equated, Fires, Fired, Skips}
use Rattle.fitting.proofs.PartLaws.{drop-constraints, behind, behind-all}
use Rattle.engine.proofs.GapLaws.{drop-part}
use Rattle.engine.proofs.RuleLaws.{removed_at, removed-size, removed-lent, fires-equated, left-equated, left-fired}

-- all cells when those from a place on have come back
abbrev pub returned : ℕ → List ℕ → List ℕ → List ℕ
returned s cells g = take s cells ++ (g ++ drop (length cells - s) (drop s cells))

module _ (s : ℕ) (cells g : List ℕ) (l : s ≤ length cells) where
  returned-all : returned s cells g ≡ take s cells ++ g
  returned-all =
      rw (drop_of_length-le (drop s cells) {i = length cells - s} (omega (arith, length-drop s cells)), append-nil g)

  pub returned-part : drop s (returned s cells g) ≡ g
  returned-part = rw returned-all (drop_at (take s cells) g s (length-take-le s cells l))

  pub returned-size : length g ≡ length (behind s cells) → length (returned s cells g) ≡ length cells
  returned-size e =
      rw returned-all (omega (
        arith,
        length-append (take s cells) g,
        length-take-le s cells l,
        ap length (behind-all s cells),
        length-drop s cells,
      ))

-- no position from p on
without-free : (p : ℕ) (ps : List ℕ) (cs : List Constraint) → ((q : ℕ) → p ≤ q → has q ps ≡ false) → without p ps cs ≡ cs
unfolding without
without-free p ps [] f = refl
without-free p ps (c ∷ cs) f = rw (f p (omega arith), without-free (suc p) ps cs (λ q l. f q (omega arith)))

-- d positions from p on, and none behind them
without-next :
    (d p : ℕ) (ps : List ℕ) (cs : List Constraint) → ((q : ℕ) → q < p + d → has q ps ≡ true)
    → ((q : ℕ) → p + d ≤ q → has q ps ≡ false) → d ≤ length cs → without p ps cs ≡ drop d cs
unfolding without
without-next zero p ps cs t f l = without-free p ps cs (λ q h. f q (omega arith))
without-next (suc d) p ps [] t f l = absurd (omega arith)
without-next (suc d) p ps (c ∷ cs) t f l =
    rw (t p (omega arith)) (without-next d (suc p) ps cs (λ q h. t q (omega arith)) (λ q h. f q (omega arith)) (omega arith))

-- the first constraints are removed
without-front : (n : ℕ) (cs : List Constraint) → n ≤ length cs → without 0 (up_to n) cs ≡ drop n cs
without-front n cs l =
    without-next n 0 (up_to n) cs (λ q h. up_to-has n q (omega arith)) (λ q h. up_to-lacks n q (omega arith)) l

module _ (row positions bindings : List ℕ) (next : ℕ) (cells : List ℕ) (m : ℕ) (f : Fires row positions bindings next cells m)
    (there : get_or row 3 0 ≤ m) (h k : ℕ) (heads : h ≡ get_or row 3 0) (kept : k ≡ get_or row 1 0) where
  -- how many constraints are removed
  abbrev w : ℕ
  w = h - k

  pub front-few : w ≤ m
  front-few = omega arith

  -- no more heads are kept than there are
  pub front_kept : k ≤ h
  front_kept = omega (arith, f.given.kept-few)

  module _ (lent : behind k (take h positions) ≡ up_to (length (behind k (take h positions)))) where
    -- they are the first
    front : removed_at row positions ≡ up_to (h - k)
    front =
        let part = removed-lent row positions h k heads kept in
        let size : length (behind k (take h positions)) ≡ h - k =
        ap length part ∙ removed-size row positions f.given f.positions-size ∙ omega arith in
        sym part ∙ lent ∙ ap up_to size

    -- the rows behind them
    front_same :
        cell_constraints (take (5 * (m - w)) (drop (5 * w) cells))
        ≡ without 0 (removed_at row positions) (cell_constraints (take (5 * m) cells))
    front_same =
        let all : 5 * w + 5 * (m - w) ≡ 5 * m = omega arith in
        let part : drop (5 * w) (take (5 * m) cells) ≡ take (5 * (m - w)) (drop (5 * w) cells) =
        rw all at (drop-part (5 * w) (5 * (m - w)) cells (omega (arith, f.space))) in
        let size : length (cell_constraints (take (5 * m) cells)) ≡ m =
        constraints-length m (take (5 * m) cells) (length-take-le (5 * m) cells (omega (arith, f.space))) in
        rw (← part, drop-constraints w (take (5 * m) cells), front)
        (sym (without-front w (cell_constraints (take (5 * m) cells)) (omega arith)))

    -- what the rest of the firing asks
    pub front-completes : Equated row bindings next (take (5 * (m - w)) (behind (5 * w) cells))
        × (5 * (m - w) + 30 ≤ length (behind (5 * w) cells))
    front-completes =
        rw (behind-all (5 * w) cells) (
          left-equated row positions bindings next cells m (drop (5 * w) cells) (m - w) (omega arith) front_same
              (fires-equated row positions bindings next cells m f),
          omega (arith, f.space, length-drop (5 * w) cells),
        )

    module _ (bound b c : List ℕ) (alive : Bool) (n : ℕ)
        (done : Fired row [] bindings next bound (behind (5 * w) cells) (m - w) b c alive n) where
      pub front-done : Fired row positions bindings next bound cells m b (drop (5 * w) (returned (5 * w) cells c)) alive n
      front-done =
          rw (returned-part (5 * w) cells c (omega (arith, f.space)))
          (left-fired row positions bindings next cells m (drop (5 * w) cells) (m - w) (omega arith) front_same
          bound b c alive n (rw (behind-all (5 * w) cells) at done))

      pub front-skips : Skips m w n
      front-skips = record { few = omega (arith, f.given.heads-few); within = omega (arith, done.few) }
