-- `digest_by` meets its contract: the constraints from i on, from the sum by now, give the answer for all.
-- Assumes nothing.
use Rattle.std.proofs.Common.{refl}
use Rattle.colours.specs.Colours.{plus}
use Rattle.colours.proofs.ColourLaws.{lent-all}
use Rattle.colours.proofs.RoundLaws.{digest-start, digest-next, digest-done}
use Rattle.colours.proofs.colours.digest_by.Goals as goal

pub loop-i-init : goal.loop-i-init
loop-i-init g c = digest-start _ _

pub loop-i-preserved : goal.loop-i-preserved
unfolding plus
loop-i-preserved g c =
    digest-next _ _ _ _ _ c.requires.0 c.loop-i.invariant c.loop-i-test.true _ _ _ _ (λ x r a. a)
    c.sign_by-s.ensures c.mix-sum.ensures refl

pub returns : goal.returns
returns g c = digest-done _ _ _ _ _ c.requires.0 c.loop-i.invariant c.loop-i-test.false

pub sign_by-s-requires : goal.sign_by-s-requires
sign_by-s-requires g c = lent-all (λ x. goal.F-pre g c.args.colour x) _ c.loop-i.i c.requires.1
