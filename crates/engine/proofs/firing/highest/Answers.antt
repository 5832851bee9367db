-- `highest` meets its contract: one more position.
-- Assumes nothing.
use Rattle.std.proofs.Common.{ℕ, arith, ◌<◌, get_or, sym, ◌∙◌}
use Rattle.engine.proofs.GapLaws.{highest-higher, highest-other}
use Rattle.engine.proofs.firing.highest.Goals as goal
use Rattle.engine.proofs.firing.highest.Goals.{then-q-p+then-lt, else-q-p, else-q-p-via-then-q-p+else-lt, else-q-p-via-else-q-p}

pub loop-q-preserved : goal.loop-q-preserved
loop-q-preserved c =
    let loop' = c.loop-q in
    let q : ℕ = get_or c.args.positions.now loop'.q-index 0 in
    elim c.if-q-p.branch [
      | then-q-p+then-lt w ↦ rw w.top-is
          (highest-higher _ _ _ (omega arith) _ loop'.invariant (omega arith) (sym w.lt.ensures ∙ w.if-lt.true))
      | else-q-p w ↦ rw w.top-is (highest-other _ _ _ (omega arith) _ loop'.invariant (λ (l : q < c.args.p).
          elim w.else-q-p.branch [
            | else-q-p-via-then-q-p+else-lt w' ↦ sym w'.lt.ensures ∙ w'.if-lt.false
            | else-q-p-via-else-q-p w' ↦ absurd (omega arith)
          ]))
    ]
