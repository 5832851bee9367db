-- What a firing of a rule that matches leaves.
--   fired-lighter      it lowers every weighing that the rule lowers
--   fired-low          its symbols lie below the variables
--   fired-plain        a rule without equations leaves the others as they are
--   fired-length       how many constraints it leaves
-- Assumes nothing.
use Prim.Native.Nat.{ℕ, ◌+◌, ◌<◌}
use native.Mathlib.Omega.{arith}
use mathlib.Core.Bool.{Bool, true, false, cond}
use mathlib.Core.List.{List, [], ◌++◌, map}
use mathlib.Core.Option.{Option, none, some}
use mathlib.Core.Path.{◌≡◌, refl, ap, ◌∙◌}
use lib.ListN.{length, get_or, take, length-append, length-map}
use Rattle.text.specs.Lists.{every}
use Rattle.text.proofs.ListLaws.{every-both}
use Rattle.semantics.specs.Terms.{Term, Constraint, live, map_terms, map_sides, removed_heads, weight_by}
use Rattle.semantics.specs.Matching.{unassigned, match_at}
use Rattle.semantics.specs.Solving.{solve}
use Rattle.semantics.specs.Firing.{without, instance, settle, fired}
use Rattle.semantics.proofs.SymbolWeights.{weight-append, weight-map, match-removed}
use Rattle.tables.specs.Cells.{is_low, state_of}
use Rattle.tables.specs.Rows.{rule_of_row}
use Rattle.fitting.specs.Cells.{assigned}
use Rattle.fitting.specs.Positions.{Row}
use Rattle.engine.specs.States.{Fired}
use Rattle.engine.specs.Runs.{store_of}
use Rattle.tables.proofs.MapLaws.{low-kept}
use Rattle.engine.proofs.RuleLaws.{removed_at, low-without, low-body}
use Rattle.engine.proofs.SolveLaws.{map-none}

-- the constraints of a state that lives after its equations
record Settled (cells : List Constraint) (cs : List Constraint) : Type 0 where
  solution : Term → Term
  same : cells ≡ map (map_terms solution) cs

settled :
    (o : Option (Term → Term)) (n k : ℕ) (b b' : List Term) (cells cs : List Constraint)
    → live n b cells ≡ settle o k b' cs → Settled cells cs
unfolding settle
settled none n k b b' cells cs e = let z : ◌≡◌ {A = ℕ} 0 1 = cc in absurd (omega arith)
settled (some σ) n k b b' cells cs e = record { solution = σ; same = cc }

-- no equation changes nothing
settled_plain :
    (n k : ℕ) (b b' : List Term) (cells cs : List Constraint)
    → live n b cells ≡ live k b' (map (map_terms (λ t. t)) cs) → cells ≡ cs
settled_plain n k b b' cells cs e = let same : cells ≡ map (map_terms (λ t. t)) cs = cc in same ∙ map-none cs

module _ (row ps b : List ℕ) (next : ℕ) (bound cells : List ℕ) (m : ℕ) (bound' cells' : List ℕ) (alive : Bool) (count : ℕ)
    (done : Fired row ps b next bound cells m bound' cells' alive count) where
  -- the constraints before the equations
  before : List Constraint
  before =
      without 0 (removed_at row ps) (store_of cells m) ++ map (map_terms (instance next (assigned b)))
      (rule_of_row [] row).body

  after : alive ≡ true → Settled (store_of cells' count) before
  unfolding fired state_of before store_of rule_of_row
  after y =
      settled (solve (map (map_sides (instance next (assigned b))) (rule_of_row [] row).equations) (λ t. t))
      (next + 26) _ _ _ _ _
      (rw y at (done.same []))

  -- a rule without equations leaves them as they are
  pub fired-plain :
      alive ≡ true → (rule_of_row [] row).equations ≡ []
      → store_of cells' count
      ≡ without 0 (removed_at row ps) (store_of cells m) ++ map (map_terms (instance next (assigned b)))
      (rule_of_row [] row).body
  unfolding fired state_of store_of solve settle rule_of_row
  fired-plain y e =
      let same = rw (y, e) at (done.same []) in
      settled_plain (next + 26) _ _ _ _ _ same

  -- equations remove no constraint
  pub fired-length :
      alive ≡ true
      → length (store_of cells' count) ≡ length (without 0 (removed_at row ps) (store_of cells m)) + length
      (rule_of_row [] row).body
  unfolding before
  fired-length y =
      ap length (after y).same ∙ length-map before (map_terms (after y).solution)
      ∙ length-append (without 0 (removed_at row ps) (store_of cells m)) _
      ∙ rw (length-map (rule_of_row [] row).body (map_terms (instance next (assigned b))))

  module _ (w : ℕ → ℕ)
      (fits : match_at (rule_of_row [] row).heads (take (get_or row 3 0) ps) (store_of cells m) [] unassigned ≡ some (assigned b))
      (lowers : weight_by w (rule_of_row [] row).body < weight_by w (removed_heads (rule_of_row [] row))) where
    -- the heads that are removed and what is left weigh as much as all
    weighs :
        weight_by w (without 0 (removed_at row ps) (store_of cells m)) + weight_by w (removed_heads (rule_of_row [] row))
        ≡ weight_by w (store_of cells m)
    unfolding removed_heads rule_of_row
    weighs =
        match-removed w (get_or row 1 0) (rule_of_row [] row).heads (take (get_or row 3 0) ps) (store_of cells m) (assigned b) fits

    falls :
        (r : Bool) → (r ≡ true → Settled (store_of cells' count) before)
        → cond r (weight_by w (store_of cells' count)) 0 < weight_by w (store_of cells m)
    unfolding before
    falls false g = omega (arith, weighs, lowers)
    falls true g =
        let k : weight_by w (store_of cells' count) ≡ weight_by w before =
        ap (weight_by w) (g refl).same ∙ weight-map w (g refl).solution before in
        let a : weight_by w before
        ≡ weight_by w (without 0 (removed_at row ps) (store_of cells m))
        + weight_by w (map (map_terms (instance next (assigned b))) (rule_of_row [] row).body) =
        weight-append w (without 0 (removed_at row ps) (store_of cells m)) _ in
        omega (arith, weighs, lowers, k, a, weight-map w (instance next (assigned b)) (rule_of_row [] row).body)

    pub fired-lighter : cond alive (weight_by w (store_of cells' count)) 0 < weight_by w (store_of cells m)
    fired-lighter = falls alive after

  pub fired-low :
      Row row → every is_low (store_of cells m) ≡ true → alive ≡ true → every is_low (store_of cells' count) ≡ true
  unfolding before
  fired-low given low y =
      rw (after y).same (low-kept (after y).solution before
      ∙ every-both is_low (without 0 (removed_at row ps) (store_of cells m))
      (map (map_terms (instance next (assigned b))) (rule_of_row [] row).body)
      (low-without 0 (removed_at row ps) (store_of cells m) low)
      (low-kept (instance next (assigned b)) (rule_of_row [] row).body ∙ low-body (rule_of_row [] row).body given.body))
