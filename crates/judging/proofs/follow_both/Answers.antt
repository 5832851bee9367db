-- `follow_both` meets its contract: each side goes on to its end.
-- Assumes nothing.
use native.Mathlib.Omega.{arith}
use mathlib.Core.Path.{refl}
use Rattle.judging.proofs.EndLaws.{begun-follows, first_ends, second-ends}
use Rattle.judging.proofs.follow_both.Goals as goal

pub follow-first-requires : goal.follow-first-requires
follow-first-requires c =
    begun-follows _ _ _ _ _ _ _ _ c.requires.0.overlapping _ _ c.requires.0.overlapping.first refl _ _ _ _ _ _
    c.requires.0.first-bound c.requires.0.first-room c.requires.1.first

pub follow-second-requires : goal.follow-second-requires
follow-second-requires c =
    begun-follows _ _ _ _ _ _ _ _ c.requires.0.overlapping _ _ c.requires.0.overlapping.second
    c.requires.0.overlapping.positions-size _ _ _ _ _ _ c.requires.0.second-bound c.requires.0.second-room
    c.requires.1.second

pub returns : goal.returns
returns c =
    record {
      first = first_ends _ _ _ _ _ _ _ _ c.requires.0.overlapping _ _ _ _ _ _ _ _ _ _ _ _ c.requires.0.first-bound
          (omega (arith, c.requires.0.first-room, c.follow-first.auto)) c.follow-first.ensures c.requires.1.first;
      second = second-ends _ _ _ _ _ _ _ _ c.requires.0.overlapping _ _ _ _ _ _ _ _ _ _ _ _ c.requires.0.second-bound
          (omega (arith, c.requires.0.second-room, c.follow-second.auto)) c.follow-second.ensures
          c.requires.1.second;
    }
