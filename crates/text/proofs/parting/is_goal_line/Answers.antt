-- `text::parting::is_goal_line` meets its contract: with fewer than 5 bytes left no such line stands there. Assumes nothing.
use mathlib.Core.Path.{◌≡◌, ap, sym, ◌∙◌}
use mathlib.Core.List.{List}
use Prim.Native.Nat.{ℕ, ◌+◌, ◌-◌}
use native.Mathlib.Omega.{arith}
use lib.ListN.{take, drop, length-take, length-drop}
use Rattle.text.specs.Bytes.{ascii}
use Rattle.text.specs.Lists.{same_bytes}
use Rattle.text.specs.Lines.{goal_line}
use Rattle.text.proofs.Laws.{same-lengths}
use Rattle.text.proofs.PartingLaws.{goal-length}
use Rattle.text.proofs.parting.is_goal_line.Goals as goal

pub returns-then-s-at-lt5 : goal.returns-then-s-at-lt5
returns-then-s-at-lt5 c =
    let args' = c.args in
    let at' = args'.at in
    let s : List ℕ = args'.s.now in sym (same-lengths (take 5 (drop at' s)) goal_line (λ e. omega (
      arith,
      e,
      goal-length,
      length-take 5 (drop at' s),
      length-drop at' s,
    )))

pub returns : goal.returns
unfolding goal_line ascii
returns c =
    let same-bytes' = c.same_bytes in
    let args' = c.args in
    let at' = args'.at in
    let s' = args'.s.now in
    same-bytes'.ensures ∙ ap (λ (n : ℕ). same_bytes (take n (drop at' s')) goal_line)
    (let z : args'.at + 5 - args'.at ≡ 5 = omega arith in z)
