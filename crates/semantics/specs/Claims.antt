-- What is claimed of a program and its verdict (document 01: demand 3), on programs as values.
--   OneOutcome            each goal has one outcome, over all lists of events
--   ByAppearance          a goal as document 01 has it, its variables counted by first appearance
--   Bounded               no derivation fires more often than its goal's weight
--   Ends                  the two ends of an overlap
--   Counterexample        the earliest overlap that does not join, with its two ends
--   Demand3               all of demand 3, as one claim
--   PassesAsRewritten     a program passes exactly when it does with its kept heads on both sides
-- Assumes nothing.
use Rattle.std.specs.Prelude.{ℕ, ◌≤◌, true, List, [], ◌∷◌, ◌↔◌, ◌≡◌, length}
use Rattle.text.specs.Lists.{up_to}
use Rattle.semantics.specs.Terms.{Program, Goal, weight, is_goal_of}
use Rattle.semantics.specs.Derivations.{Event, fire, derive, Finished}
use Rattle.semantics.specs.Strategy.{Final}
use Rattle.semantics.specs.Runs.{RunsTo}
use Rattle.semantics.specs.Variants.{Variant}
use Rattle.semantics.specs.Rewriting.{rewritten_all}
use Rattle.semantics.specs.Overlaps.{Overlap, second_positions, appearing, overlaps}
use Rattle.semantics.specs.Order.{IsOverlapOf, Earlier, StrictTotalOrder}
use Rattle.semantics.specs.Verdict.{verdict, confluent, unjoined}

-- a goal has one outcome: any two finished derivations of it, whatever enters when and whatever fires where, end in equal states
abbrev pub HasOneOutcome : Program → Goal → Type 1
HasOneOutcome p g =
    (es fs : List Event) → Finished p g (derive p g es) → Finished p g (derive p g fs)
    → Variant (derive p g es).state (derive p g fs).state

-- each goal over the program's symbols, of any length, with any constants and any number of variables, has one outcome
abbrev pub OneOutcome : Program → Type 1
OneOutcome p = (g : Goal) → is_goal_of p g ≡ true → HasOneOutcome p g

-- a goal's variables are those of its constraints, and count in order of first appearance, as document 01's goals have them
abbrev pub ByAppearance : Goal → Type 0
ByAppearance g = appearing [] g.constraints ≡ up_to g.variables

-- each goal over the program's symbols whose variables count so has one outcome
abbrev pub OneOutcomeByAppearance : Program → Type 1
OneOutcomeByAppearance p = (g : Goal) → is_goal_of p g ≡ true → ByAppearance g → HasOneOutcome p g

-- no derivation of a goal fires more often than the goal's weight
abbrev pub Bounded : Program → Type 0
Bounded p = (g : Goal) (es : List Event) → (derive p g es).firings ≤ weight p.symbols g.constraints

-- the two ends of an overlap: those of the finished derivations of its goal in which all its constraints enter in order, the
-- side's own rule fires at the side's positions, and the run follows
pub record Ends (p : Program) (o : Overlap) (one two : Final) : Type 0 where
  pub first : RunsTo p o.goal (fire o.first.number (up_to (length o.first.rule.heads)) ∷ []) one
  pub second :
      RunsTo p o.goal
      (fire o.second.number
      (second_positions 1 (length o.first.rule.heads) (length o.second.rule.heads) o.partners) ∷ [])
      two

-- an overlap joins: its two ends are equal
pub record Joins (p : Program) (o : Overlap) : Type 1 where
  pub one : Final
  pub two : Final
  pub ends : Ends p o one two
  pub equal : Variant one.state two.state

-- the earliest unjoined overlap, with its two ends: it is one of the program's; the ends are its own, and they are not equal;
-- every overlap of the program that is earlier joins. Its goal is over the program's symbols, and counts its variables by first
-- appearance
pub record Counterexample (p : Program) (o : Overlap) (one two : Final) : Type 1 where
  pub overlap : IsOverlapOf p o
  pub ends : Ends p o one two
  pub differ : Variant one.state two.state → ⊥
  pub earlier : (u : Overlap) → IsOverlapOf p u → Earlier u o → Joins p u
  pub goal : is_goal_of p o.goal ≡ true
  pub appearance : ByAppearance o.goal

-- demand 3 of a program: its verdict is confluent exactly when each goal has one outcome, and then the number is that of its
-- overlaps; for one outcome of all goals it is enough that those whose variables count by first appearance have one; the verdict
-- shows an overlap with two ends exactly when they are the earliest unjoined overlap and its ends, in an order that is strict and
-- total on the program's overlaps, so that there is at most one; and every derivation is bounded
pub record Demand3 (p : Program) : Type 1 where
  pub exact : ((n : ℕ) × (verdict p ≡ confluent n)) ↔ OneOutcome p
  pub enough : OneOutcomeByAppearance p → OneOutcome p
  pub counted : (n : ℕ) → verdict p ≡ confluent n → n ≡ length (overlaps p)
  pub shown : (o : Overlap) (one two : Final) → (verdict p ≡ unjoined o one two) ↔ Counterexample p o one two
  pub ordered : StrictTotalOrder (IsOverlapOf p) Earlier
  pub bounded : Bounded p

-- a program is confluent exactly when it is with its kept heads on both sides, and then both have as many overlaps
abbrev pub PassesAsRewritten : Program → Type 0
PassesAsRewritten p = (n : ℕ) → (verdict p ≡ confluent n) ↔ (verdict (rewritten_all p) ≡ confluent n)
