-- `numerals::naming::without_zeros` meets its contract: the digits are seen from the last one on.
-- Assumes nothing.
use mathlib.Core.Path.{◌≡◌}
use mathlib.Core.Bool.{true}
use mathlib.Core.List.{List}
use Prim.Native.Nat.{ℕ, ◌*◌, ◌^◌, ◌≤◌}
use Rattle.text.specs.Fields.{is_name}
use Rattle.text.specs.Keys.{key_of}
use Rattle.numerals.proofs.NumeralLaws.{Seen}
use Rattle.numerals.proofs.naming.without_zeros.Given as goal

abbrev pub invariant-loop-rest : goal.invariant-loop-rest
invariant-loop-rest l =
    ((f : List ℕ) → is_name f ≡ true → l.key ≡ key_of f → Seen f l.rest l.unit l.kept l.zeros)
    × (l.rest * (l.unit * 256) ≤ l.key) × (256 ^ l.zeros ≤ l.unit) × (l.zeros ≤ 7)

abbrev pub decreases-loop-rest : goal.decreases-loop-rest
decreases-loop-rest l = l.rest
