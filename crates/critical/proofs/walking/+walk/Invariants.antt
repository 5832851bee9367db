-- `walk` meets its contract: of the overlaps whose partners begin so, those with partner d or a later one are left. The heads
-- that are left fall at each call.
-- Assumes nothing.
use Rattle.std.proofs.Common.{◌≡◌, length}
use Rattle.critical.proofs.StepLaws.{Steps}
use Rattle.critical.proofs.walking.+walk.Given as goal

abbrev pub invariant-loop-d : goal.invariant-loop-d
invariant-loop-d l =
    Steps l.rules l.pair.rules l.pair.first l.pair.second l.pair.m l.pair.n l.left l.partners l.count l.seen l.d
    × (length l.one ≡ length l.initial.one) × (length l.two ≡ length l.initial.two)

-- the heads that are left
abbrev pub decreases-walk : goal.decreases-walk
decreases-walk l = l.left
