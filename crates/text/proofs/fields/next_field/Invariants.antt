-- `text::fields::next_field` meets its contract: what is known of the bytes passed, one byte on. Assumes nothing.
use Prim.Native.Nat.{◌≤◌, ◌-◌}
use Rattle.text.specs.Splits.{Passed, part}
use Rattle.text.proofs.fields.next_field.Given as goal

abbrev pub invariant-loop-i : goal.invariant-loop-i
invariant-loop-i l = (l.at ≤ l.i) × (l.i ≤ l.limit) × Passed (part l.s l.at l.i) l.value (l.i - l.at) l.capital
