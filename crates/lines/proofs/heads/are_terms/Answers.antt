-- `lines::heads::are_terms` meets its contract: the fields left answer for all. Assumes nothing.
use Rattle.std.proofs.Common.{sym, ◌∙◌, add-one, arith}
use Rattle.lines.proofs.Held.{terms-fail, terms-step}
use Rattle.lines.proofs.heads.are_terms.Goals as goal

pub returns-then-keys-i-lt2 : goal.returns-then-keys-i-lt2
returns-then-keys-i-lt2 c =
    λ fs h.
    let loop = c.loop-i in
    sym (terms-fail fs _ h.keyed loop.i (omega (arith, h.counted)) (omega arith) c.if-keys-i-lt2.true)
    ∙ loop.invariant fs h.counted h.keyed

pub loop-i-preserved : goal.loop-i-preserved
loop-i-preserved c =
    λ fs e k.
    let loop = c.loop-i in
    rw (add-one loop.i)
    (sym (terms-step fs _ k loop.i (omega (arith, e)) (omega arith) c.if-keys-i-lt2.false) ∙ loop.invariant fs e k)
