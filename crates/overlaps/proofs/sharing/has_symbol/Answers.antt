-- `has_symbol` meets its contract: none of the first h heads has the symbol.
-- Assumes nothing.
use Rattle.std.proofs.Common.{arith, sym, add-one, ne_eqb}
use Rattle.std.proofs.lemmas.Grind.{common_steps}
use Rattle.overlaps.proofs.ShareLaws.{symbols-next, symbols-end}
use Rattle.overlaps.proofs.sharing.has_symbol.Goals as goal

pub returns-then-heads-h : goal.returns-then-heads-h
returns-then-heads-h c =
    grind (arith, common_steps, symbols-next c.args.row.now c.requires c.loop-h.h c.heads-heads.result.now c.heads-heads.ensures.size c.heads-heads.ensures.same (omega arith))

pub loop-h-preserved : goal.loop-h-preserved
loop-h-preserved c =
    rw (add-one c.loop-h.h)
    (rw (symbols-next c.args.row.now c.requires c.loop-h.h c.heads-heads.result.now c.heads-heads.ensures.size c.heads-heads.ensures.same (omega arith), ne_eqb c.args.symbol _ (λ e. c.if-heads-h.false (sym e)))
    at c.loop-h.invariant)

pub returns : goal.returns
returns c =
    grind (arith, common_steps, symbols-end c.args.row.now c.requires c.loop-h.h (omega arith))
