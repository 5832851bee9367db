-- `listing::is_ample` meets its contract: each of its tests is one of the three facts. Assumes nothing.
use mathlib.Core.Path.{◌≡◌}
use Prim.Native.Nat.{ℕ}
use native.Mathlib.Omega.{arith}
use borrow.Author.Tests.{leb-true}
use Rattle.listing.specs.Writing.{ample}
use Rattle.listing.specs.Ends.{max_bound, max_cells}
use Rattle.listing.proofs.is_ample.Goals as goal

pub returns-then-room-lt-AMPLE : goal.returns-then-room-lt-AMPLE
returns-then-room-lt-AMPLE c = λ e. absurd (let w : ◌≡◌ {A = ℕ} 0 1 = cc in omega arith)

pub returns-then-variables-gt-MAX_BOUND : goal.returns-then-variables-gt-MAX_BOUND
returns-then-variables-gt-MAX_BOUND c = λ e. absurd (let w : ◌≡◌ {A = ℕ} 0 1 = cc in omega arith)

pub returns : goal.returns
unfolding ample max_bound max_cells
returns c = λ e. record { wide = omega (arith, c.if-room-lt-AMPLE.false); few-bound = c.if-variables-gt-MAX_BOUND.false; few-cells = leb-true _ _ e }
