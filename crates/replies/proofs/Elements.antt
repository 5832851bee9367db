-- What holds of all elements holds of one.
--   all-at      an element of a list
-- Assumes nothing.
use Prim.Native.Nat.{ℕ, zero, suc, ◌<◌}
use native.Mathlib.Omega.{arith}
use mathlib.Core.List.{List}
use lib.ListN.{length, get_or}
use Rattle.semantics.proofs.Configurations.{All, none, also}

-- an element of a list, all of whose elements have a property
pub all-at : {A : Type 0} {P : A → Type 0} {l : List A} (d : A) (i : ℕ) → All P l → i < length l → P (get_or l i d)
all-at d i none h = absurd (omega arith)
all-at d zero (also p ps) h = p
all-at d (suc i) (also p ps) h = all-at d i ps (omega arith)
