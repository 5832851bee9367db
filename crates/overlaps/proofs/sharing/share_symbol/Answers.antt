-- `share_symbol` meets its contract: none of the first h heads of the first rule has a symbol of the second.
-- Assumes nothing.
use Rattle.std.proofs.Common.{arith}
use Rattle.std.proofs.lemmas.Grind.{common_steps}
use Rattle.overlaps.specs.Shares.{is_shared}
use Rattle.overlaps.proofs.ShareLaws.{symbols-next, symbols-end}
use Rattle.overlaps.proofs.sharing.share_symbol.Goals as goal

pub returns-then-has_symbol : goal.returns-then-has_symbol
unfolding is_shared
returns-then-has_symbol c =
    grind (
      arith,
      common_steps,
      symbols-next c.args.first.now c.requires.0 c.loop-h.h c.heads-heads.result.now c.heads-heads.ensures.size
          c.heads-heads.ensures.same (omega arith),
    )

pub loop-h-preserved : goal.loop-h-preserved
unfolding is_shared
loop-h-preserved c =
    grind (
      arith,
      common_steps,
      symbols-next c.args.first.now c.requires.0 c.loop-h.h c.heads-heads.result.now c.heads-heads.ensures.size
          c.heads-heads.ensures.same (omega arith),
    )

pub returns : goal.returns
unfolding is_shared
returns c =
    grind (arith, common_steps, symbols-end c.args.first.now c.requires.0 c.loop-h.h (omega arith))
