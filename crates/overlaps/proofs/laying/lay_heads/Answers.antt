-- `lay_heads` meets its contract: the first rule's heads, and behind them the second's, renamed apart.
-- Assumes nothing.
use Prim.Native.Nat.{◌*◌}
use native.Mathlib.Omega.{arith}
use mathlib.Core.Path.{sym, ap, ◌∙◌}
use lib.Seq.{length-take-le}
use Rattle.overlaps.proofs.LayLaws.{laid_both}
use borrow.Author.Rules.{rules}
use Rattle.overlaps.proofs.laying.lay_heads.Goals as goal

pub slice_bounds-lay-end-2 : goal.slice_bounds-lay-end-2
slice_bounds-lay-end-2 c = sym (length-take-le _ _ (omega arith))

pub lay-requires : goal.lay-requires
lay-requires c = (
  search rules,
  length-take-le (5 * c.wide-a.result) c.args.cells.now (omega arith)
      ∙ ap (5 *◌) c.wide-a.ensures.0,
  omega arith,
)

pub returns : goal.returns
returns c =
    let w = c.wide-a in
    laid_both _ _ _ _ _ _ w.ensures.0
    (c.lay.auto.out ∙ length-take-le (5 * w.result) c.args.cells.now (omega arith))
    c.lay.ensures c.lay-2.ensures
