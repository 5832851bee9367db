-- `answers::put_line` meets its contract: the word, the number behind it, the rest behind that. Assumes nothing.
use native.Mathlib.Omega.{arith}
use Rattle.answers.proofs.PrintLaws.{number-counted, rest-within, rest-counted, line-printed, line-few}
use Rattle.answers.proofs.refusals.put_line.Goals as goal

pub returns : goal.returns
returns c =
    line-printed c.args.number c.args.line c.args.named.now c.args.out.now c.requires
    c.copy-word.auto.out c.put_decimal-end.auto.out c.copy-word.ensures c.put_decimal-end.ensures
    c.put_head.ensures

pub put_decimal-end-requires : goal.put_decimal-end-requires
put_decimal-end-requires c =
    number-counted c.args.number c.args.line c.args.named.now c.args.out.now c.requires
    c.copy-word.ensures

pub slice_bounds-put_head-count : goal.slice_bounds-put_head-count
slice_bounds-put_head-count c =
    rest-within c.args.number c.args.line c.args.named.now c.args.out.now c.requires
    c.copy-word.auto.out c.put_decimal-end.auto.out c.copy-word.ensures c.put_decimal-end.ensures

pub put_head-requires : goal.put_head-requires
put_head-requires c =
    rest-counted c.args.number c.args.line c.args.named.now c.args.out.now c.requires

pub overflow_add-result : goal.overflow_add-result
overflow_add-result c =
    omega (
      arith,
      (returns c).counted,
      line-few c.args.number c.args.line c.args.named.now
          c.args.out.now c.requires,
    )

pub slice_bounds-put_head-start : goal.slice_bounds-put_head-start
slice_bounds-put_head-start c =
    omega (
      arith,
      rest-within c.args.number c.args.line c.args.named.now c.args.out.now c.requires c.copy-word.auto.out
          c.put_decimal-end.auto.out c.copy-word.ensures c.put_decimal-end.ensures,
    )
