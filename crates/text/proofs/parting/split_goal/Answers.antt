-- `text::parting::split_goal` meets its contract: what was passed is the program's, and the rest is parted from here on.
-- Assumes nothing.
use mathlib.Core.Path.{◌≡◌, ap, sym, refl, ◌∙◌}
use mathlib.Core.Bool.{Bool, true, false, ◌&&◌}
use native.Mathlib.Numerals.{add-one}
use native.Mathlib.Omega.{arith}
use lib.ListN.{take, drop, length}
use Rattle.text.specs.Lists.{same_bytes}
use Rattle.text.specs.Lines.{goal_line, parted}
use Rattle.text.specs.Cursors.{behind}
use Rattle.text.proofs.PartingLaws.{parted-step, parted-found, parted-end, goal-room}
use Rattle.text.proofs.parting.split_goal.Goals as goal
use Rattle.text.proofs.parting.split_goal.Goals.{else-fresh-via-then-fresh+else-is_goal_line, else-fresh-via-else-fresh}

pub loop-i-init : goal.loop-i-init
unfolding parted behind
loop-i-init c = refl

pub overflow_add-result : goal.overflow_add-result
overflow_add-result c =
    let args' = c.args in
    let loop' = c.loop-i in
    let is-goal-line' = c.is_goal_line in
    let if2' = c.if-is_goal_line in
    let s' = args'.s.now in
    record { fits = omega (arith, goal-room s' loop'.i (sym is-goal-line'.ensures ∙ if2'.true)) }

pub returns-then-is_goal_line : goal.returns-then-is_goal_line
returns-then-is_goal_line c =
    let loop' = c.loop-i in
    let args' = c.args in
    let is-goal-line' = c.is_goal_line in
    let if2' = c.if-is_goal_line in
    let loop-test' = c.loop-i-test in
    let if1' = c.if-fresh in
    let s' = args'.s.now in
    let found : same_bytes (take 5 (drop loop'.i s')) goal_line ≡ true = sym is-goal-line'.ensures ∙ if2'.true in (
      loop'.invariant ∙ parted-found s' loop'.i loop'.fresh loop-test'.true
          (ap (λ (t : Bool). t && same_bytes (take 5 (drop loop'.i s')) goal_line) if1'.true ∙ found),
      omega arith,
      omega (arith, goal-room s' loop'.i found),
    )

pub loop-i-preserved : goal.loop-i-preserved
loop-i-preserved c =
    let s = c.args.s.now in
    let i = c.loop-i.i in
    let fresh = c.loop-i.fresh in
    let test : (fresh && same_bytes (take 5 (drop i s)) goal_line) ≡ false =
    elim c.else-fresh.branch [
      | else-fresh-via-then-fresh+else-is_goal_line w ↦ rw (w.if-fresh.true, sym w.is_goal_line.ensures ∙ w.if-is_goal_line.false)
      | else-fresh-via-else-fresh w ↦ rw w.if-fresh.false
    ] in
    rw add-one (c.loop-i.invariant ∙ parted-step s i fresh c.loop-i-test.true test)

pub returns : goal.returns
returns c =
    let s = c.args.s.now in
    let all : length s ≡ c.loop-i.i = omega arith in
    (rw all (c.loop-i.invariant ∙ parted-end s c.loop-i.i c.loop-i.fresh c.loop-i-test.false), omega arith, omega arith)
