-- `begin_both` meets its contract: each side fires.
-- Assumes nothing.
use Rattle.judging.proofs.EndLaws.{side-begins, both-begun}
use native.Mathlib.Omega.{arith}
use mathlib.Core.Path.{refl}
use Rattle.judging.proofs.begin_both.Goals as goal

pub begin-first-requires : goal.begin-first-requires
begin-first-requires c =
    let pre = c.requires.overlapping in
    side-begins _ _ _ _ _ _ _ _ pre _ _ (omega (arith, pre.first, pre.second)) refl _ _ c.requires.first-bound
    c.requires.first-room

pub begin-second-requires : goal.begin-second-requires
begin-second-requires c =
    let pre = c.requires.overlapping in
    side-begins _ _ _ _ _ _ _ _ pre _ _ (omega (arith, pre.first, pre.second)) pre.positions-size _ _
    c.requires.second-bound c.requires.second-room

pub returns : goal.returns
returns c =
    both-begun c.requires.first-bound c.requires.second-bound c.begin-first.ensures c.begin-second.ensures
