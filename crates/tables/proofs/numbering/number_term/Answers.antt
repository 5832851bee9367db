-- `tables::numbering::number_term` meets its contract. Assumes nothing.
use Prim.Native.Nat.{◌<◌}
use native.Mathlib.Omega.{arith}
use lib.ListN.{length}
use Rattle.tables.proofs.NumberLaws.{numbered-constant, numbered-old, numbered-new}
use Rattle.tables.proofs.numbering.number_term.Goals as goal

pub returns-then-x-lt-FIRST_VARIABLE : goal.returns-then-x-lt-FIRST_VARIABLE
returns-then-x-lt-FIRST_VARIABLE c = search numbered-constant

pub bounds-table-y : goal.bounds-table-y
bounds-table-y c = omega (arith, c.requires.0 c.if-x-lt-FIRST_VARIABLE.false, c.wide-y.ensures.0)

pub bounds-table-y-then-table-y-eq0 : goal.bounds-table-y-then-table-y-eq0
bounds-table-y-then-table-y-eq0 c = omega (arith, c.requires.0 c.if-x-lt-FIRST_VARIABLE.false, c.wide-y.ensures.0)

pub returns-then-table-y-eq0 : goal.returns-then-table-y-eq0
returns-then-table-y-eq0 c =
    let inside : c.wide-y.result < length c.args.table.now = omega (arith, c.requires.0 c.if-x-lt-FIRST_VARIABLE.false, c.wide-y.ensures.0) in
    search (numbered-new, inside)

pub returns : goal.returns
returns c = search numbered-old
