-- Sides in the same state after their own firings: one law for each way that the code goes.
--   steps-ask                what comparing the two states asks
--   step-failed, step_same    what it promises
--   step-joins               then the overlap joins
-- Assumes nothing.
use Rattle.std.proofs.Common.{◌≡◌, ℕ, ◌+◌, ◌*◌, ◌≤◌, Bool, true, List, [], ◌∷◌, refl, sym, ap, subst, ◌∙◌, take, arith}
use Rattle.semantics.specs.Strategy.{Final}
use Rattle.semantics.specs.Overlaps.{first_end, second_end}
use Rattle.semantics.specs.Verdict.{is_joinable}
use Rattle.tables.specs.Cells.{state_of}
use Rattle.comparison.specs.Comparing.{Alike}
use Rattle.engine.specs.declared.stated.Step.TheVariants.{Failed, Lives}
use Rattle.engine.specs.Stated.{has_fired, lives, count_in}
use Rattle.sides.specs.Sides.{Begun}
use Rattle.sides.proofs.EndLaws.{sides-meet}
use Rattle.judging.specs.declared.Peak.{Peak}
use Rattle.judging.specs.declared.Steps.{Steps}
use Rattle.judging.specs.Judging.{Lent, BothBegun, Stepped, SameStep, PeakJoins}
use Rattle.judging.proofs.EndLaws.{goal-few}
use Rattle.judging.proofs.JoinLaws.{states-same}

module _ {rules : List ℕ} {peak : Peak} {goal : List ℕ} {steps : Steps} {bound₁ cells₁ bound₂ cells₂ : List ℕ} where
  -- what comparing the two states asks
  pub steps-ask :
      Lent rules peak goal bound₁ cells₁ bound₂ cells₂ → BothBegun rules peak goal steps bound₁ cells₁ bound₂ cells₂
      → Stepped steps bound₁ cells₁ bound₂ cells₂
  steps-ask l b =
      let few : peak.count ≤ 512 = goal-few _ _ _ _ _ _ _ _ l.overlapping cells₁ l.first-room in
      record {
        bounds = l.first-bound ∙ sym l.second-bound;
        first = omega (arith, b.first.few, l.first-room);
        second = omega (arith, b.second.few, l.second-room);
        few = omega (arith, b.first.few);
      }

  -- two states that are found the same are those of an overlap that joins
  pub step-joins :
      {r : Bool} {f a g b : List ℕ} → Lent rules peak goal f a g b → BothBegun rules peak goal steps bound₁ cells₁ bound₂ cells₂
      → SameStep r steps bound₁ cells₁ bound₂ cells₂ → r ≡ true → PeakJoins rules peak goal true
  unfolding is_joinable
  step-joins l b s y =
      let o = l.overlapping in
      let first : Begun rules peak.first (0 ∷ 1 ∷ 2 ∷ 3 ∷ []) goal peak.count peak.variables bound₁ cells₁ true
      (lives steps.first) (count_in steps.first) =
      subst (λ (f : Bool). Begun rules peak.first (0 ∷ 1 ∷ 2 ∷ 3 ∷ []) goal peak.count peak.variables bound₁
      cells₁ f (lives steps.first) (count_in steps.first)) (s.first y) b.first in
      let second : Begun rules peak.second peak.positions goal peak.count peak.variables bound₂ cells₂ true
      (lives steps.second) (count_in steps.second) =
      subst (λ (f : Bool). Begun rules peak.second peak.positions goal peak.count peak.variables bound₂
      cells₂ f (lives steps.second) (count_in steps.second)) (s.second y) b.second in
      record {
        same = λ p names x h.
            states-same (first_end p x).state (second_end p x).state
            (ap (λ (e : Final). e.state) (sides-meet p names rules peak.first peak.second peak.positions goal
            peak.count peak.variables bound₁ cells₁ (lives steps.first) (count_in steps.first) bound₂ cells₂
            (lives steps.second) (count_in steps.second) x h.same-goal h.first h.second
            (o.runs.table.rows peak.first o.first) h.places first second (s.same y (peak.variables + 26))));
      }

module _ {steps : Steps} {bound₁ cells₁ bound₂ cells₂ : List ℕ} where
  -- both have failed
  pub step-failed :
      steps.first ≡ Failed → steps.second ≡ Failed → SameStep true steps bound₁ cells₁ bound₂ cells₂
  unfolding state_of
  step-failed d e =
      record { first = λ y. ap has_fired d; second = λ y. ap has_fired e; same = λ y next. rw (d, e) refl }

  -- the cells are the same
  pub step_same :
      {m k : ℕ} → steps.first ≡ Lives m → steps.second ≡ Lives k → k ≡ m → bound₁ ≡ bound₂ → (r : Bool)
      → Alike r (take (5 * m) cells₁) (take (5 * m) cells₂)
      → SameStep r steps bound₁ cells₁ bound₂ cells₂
  step_same d e q s r t =
      record {
        first = λ y. ap has_fired d;
        second = λ y. ap has_fired e;
        same = λ y next.
            rw (d, e) (λ j. state_of true next (s j) ((t.same y ∙ ap (λ (n : ℕ). take (5 * n) cells₂) (sym q)) j));
      }
