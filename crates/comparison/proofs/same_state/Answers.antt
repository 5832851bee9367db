-- `same_state` meets its contract: sizes first, then the comparison with variables numbered, in room of its own.
-- Assumes nothing.
use Rattle.std.proofs.Common.{arith, ◌*◌, ◌≤◌, ◌∙◌}
use Rattle.comparison.proofs.SearchLaws.{count-apart, bound-count-apart}
use Rattle.colours.proofs.ClassLaws.{zeros-length}
use Rattle.comparison.proofs.DecideLaws.{compare-answer}
use Rattle.comparison.proofs.same_state.Goals as goal
use Rattle.comparison.proofs.same_state.Goals.{then-n-m-via-then-n-m, then-n-m-via-else-n-m+then-bound_a-bound_b}

pub returns-then-n-m : goal.returns-then-n-m
returns-then-n-m c =
    elim c.then-n-m.branch [
      | then-n-m-via-then-n-m w ↦
          count-apart c.args.a.now _ c.args.bound_a.now c.args.b.now _ c.args.bound_b.now c.requires.0.size
          c.requires.1.size w.if-n-m.true
      | then-n-m-via-else-n-m+then-bound_a-bound_b w ↦
          bound-count-apart c.args.a.now _ c.args.bound_a.now c.args.b.now _ c.args.bound_b.now c.requires.0.size
          c.requires.1.size w.if-bound_a-bound_b.true
    ]

pub returns : goal.returns
returns c =
    let few : 5 * c.args.n ≤ 2560 = omega (arith, c.requires.0.few) in
    compare-answer _ _ _ _ _ _ c.requires.0 c.requires.1 c.if-n-m.false
    c.if-bound_a-bound_b.false _ _ _ _ _ _ _ _
    (c.number_state-x.auto.out ∙ zeros-length _ 2560 few)
    (c.number_state-x.auto.out_bound ∙ zeros-length _ 28 c.requires.0.bound-few)
    (c.number_state-y.auto.out ∙ zeros-length _ 2560 few)
    (c.number_state-y.auto.out_bound ∙ zeros-length _ 28 c.requires.0.bound-few)
    c.number_state-x.ensures c.number_state-y.ensures _ c.compare_numbered.ensures
