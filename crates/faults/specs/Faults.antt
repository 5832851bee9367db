-- The numbers under which a text is refused.
--   number_of     the number of a fault, as docs/FORMAT.md lists them
--   fault_at      a fault with the line that meets it
-- Assumes nothing.
use Rattle.std.specs.Prelude.{ℕ}
use Rattle.faults.specs.declared.Fault.{Fault}
use Rattle.faults.specs.declared.Fault.TheVariants.{TextTooLong, LineFaulty, FormMisplaced, FieldsFaulty, NameRepeated}
use Rattle.faults.specs.declared.Fault.TheVariants.{SymbolUndeclared, LimitPassed, NothingRemoved, WeightKept, GoalTooHeavy}
use Rattle.faults.specs.declared.FaultAt.{FaultAt}

-- the number of a fault
abbrev pub number_of : Fault → ℕ
number_of TextTooLong = 1
number_of LineFaulty = 2
number_of FormMisplaced = 3
number_of FieldsFaulty = 4
number_of NameRepeated = 5
number_of SymbolUndeclared = 6
number_of LimitPassed = 7
number_of NothingRemoved = 8
number_of WeightKept = 9
number_of GoalTooHeavy = 10

-- a fault and the line that meets it
abbrev pub fault_at : Fault → ℕ → FaultAt
fault_at x n = record { fault = x; line = n }
