-- `lines::weights::weight_at` meets its contract. Assumes nothing.
use mathlib.Core.Path.{◌∙◌}
use native.Mathlib.Omega.{arith}
use Rattle.lines.proofs.Weighing.{weight-known, weight-none}
use Rattle.lines.proofs.weights.weight_at.Goals as goal

pub returns-then-at-symbols : goal.returns-then-at-symbols
returns-then-at-symbols c =
    let wide = c.wide in
    (λ names k e. wide.ensures.0 ∙ weight-known names _ k e _ (omega arith), wide.ensures.1)

pub returns : goal.returns
returns c = (λ names k e. weight-none names _ k e _ (omega arith), omega arith)
