-- The claims of demand 3 as a contract can have them (in Type 0): the renaming between two equal states is a test of variables.
--   EqualStates                                             equal states
--   HasOneOutcome, OneOutcome, OneOutcomeByAppearance       each goal has one outcome
--   Joins                                                   an overlap that joins
--   Counterexample                                          the earliest that does not, with both ends
-- Each has the words of the claim of its name in specs/Claims.antt of crate semantics, with `EqualStates` for `Variant`.
-- proofs/OutcomeLaws.antt proves of each that it says the same as that of semantics. Assumes nothing.
use Rattle.std.specs.Prelude.{ℕ, Bool, true, List, ◌≡◌}
use Rattle.semantics.specs.Terms.{Program, Goal, State, failed, live, is_goal_of}
use Rattle.semantics.specs.Derivations.{Event, derive, Finished}
use Rattle.semantics.specs.Strategy.{Final}
use Rattle.semantics.specs.Variants.{OneToOne, TermVariant, Pointwise, ConstraintVariant, SameMultiset}
use Rattle.semantics.specs.Overlaps.{Overlap}
use Rattle.semantics.specs.Order.{IsOverlapOf, Earlier}
use Rattle.semantics.specs.Claims.{ByAppearance, Ends}

-- the pairs of variables that pass a test
abbrev pub Passing : (ℕ → ℕ → Bool) → ℕ → ℕ → Type 0
Passing ρ x y = ρ x y ≡ true

-- two states are equal: both failed; or one renaming, no variable with two partners on either side, makes equal what each goal
-- variable became, and makes the constraints equal as multisets
abbrev pub EqualStates : State → State → Type 0
EqualStates failed failed = Unit {0}
EqualStates failed (live n c ds) = ⊥
EqualStates (live m b cs) failed = ⊥
EqualStates (live m b cs) (live n c ds) =
    (ρ : ℕ → ℕ → Bool) × OneToOne (Passing ρ) × Pointwise (TermVariant (Passing ρ)) b c
    × SameMultiset (ConstraintVariant (Passing ρ)) cs ds

-- a goal has one outcome: any two finished derivations of it, whatever enters when and whatever fires where, end in equal states
abbrev pub HasOneOutcome : Program → Goal → Type 0
HasOneOutcome p g =
    (es fs : List Event) → Finished p g (derive p g es) → Finished p g (derive p g fs)
    → EqualStates (derive p g es).state (derive p g fs).state

-- each goal over the program's symbols, of any length, with any constants and any number of variables, has one outcome
abbrev pub OneOutcome : Program → Type 0
OneOutcome p = (g : Goal) → is_goal_of p g ≡ true → HasOneOutcome p g

-- each goal over the program's symbols whose variables count in order of first appearance has one outcome
abbrev pub OneOutcomeByAppearance : Program → Type 0
OneOutcomeByAppearance p = (g : Goal) → is_goal_of p g ≡ true → ByAppearance g → HasOneOutcome p g

-- an overlap joins: its two ends are equal
pub record Joins (p : Program) (o : Overlap) : Type 0 where
  pub one : Final
  pub two : Final
  pub ends : Ends p o one two
  pub equal : EqualStates one.state two.state

-- the earliest unjoined overlap, with its two ends: it is one of the program's; the ends are its own, and they are not equal;
-- every overlap of the program that is earlier joins. Its goal is over the program's symbols, and counts its variables by first
-- appearance
pub record Counterexample (p : Program) (o : Overlap) (one two : Final) : Type 0 where
  pub overlap : IsOverlapOf p o
  pub ends : Ends p o one two
  pub differ : EqualStates one.state two.state → ⊥
  pub earlier : (u : Overlap) → IsOverlapOf p u → Earlier u o → Joins p u
  pub goal : is_goal_of p o.goal ≡ true
  pub appearance : ByAppearance o.goal
