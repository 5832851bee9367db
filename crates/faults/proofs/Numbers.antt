-- Laws of the numbers of faults.
--   number-some     no fault has the number 0
-- Assumes nothing.
use Rattle.std.proofs.Common.{◌<◌, arith}
use Rattle.faults.specs.Faults.{number_of}
use Rattle.faults.specs.declared.Fault.{Fault}
use Rattle.faults.specs.declared.Fault.TheVariants.{TextTooLong, LineFaulty, FormMisplaced, FieldsFaulty, NameRepeated}
use Rattle.faults.specs.declared.Fault.TheVariants.{SymbolUndeclared, LimitPassed, NothingRemoved, WeightKept, GoalTooHeavy}

pub number-some : (x : Fault) → 0 < number_of x
number-some TextTooLong = omega arith
number-some LineFaulty = omega arith
number-some FormMisplaced = omega arith
number-some FieldsFaulty = omega arith
number-some NameRepeated = omega arith
number-some SymbolUndeclared = omega arith
number-some LimitPassed = omega arith
number-some NothingRemoved = omega arith
number-some WeightKept = omega arith
number-some GoalTooHeavy = omega arith
