-- `lines::weights::weight_of` meets its contract: the sum so far and the weight of the cells left make the whole.
-- Assumes nothing.
use mathlib.Core.Path.{ap, ◌∙◌}
use mathlib.Core.List.{List}
use Prim.Native.Nat.{ℕ}
use native.Mathlib.Omega.{arith}
use Rattle.semantics.specs.Terms.{Symbol, symbol_at}
use Rattle.tables.specs.Rows.{symbols_of}
use Rattle.lines.proofs.Weighing.{weight-step, weight-end}
use Rattle.lines.proofs.weights.weight_of.Goals as goal

pub loop-at-preserved : goal.loop-at-preserved
loop-at-preserved c =
    let args' = c.args in
    let loop' = c.loop-at in
    let test' = c.loop-at-test in
    let weight' = c.weight_at-sum in (
      omega (arith, test'.true),
      omega (arith, loop'.invariant.1, weight'.ensures.1),
      λ names k e.
          let symbols : List Symbol = symbols_of names args'.symbols.now k in
          omega (
            arith,
            weight'.ensures.0 names k e ∙ ap (λ (s : ℕ). (symbol_at symbols s).weight) c.wide-s.ensures.0,
            loop'.invariant.2 names k e,
            weight-step symbols args'.cells.now loop'.at test'.true,
          ),
    )

pub returns : goal.returns
returns c =
    let args' = c.args in
    let loop' = c.loop-at in
    λ names k e. omega (
      arith,
      loop'.invariant.2 names k e,
      weight-end (symbols_of names args'.symbols.now k) args'.cells.now loop'.at c.loop-at-test.false,
    )
