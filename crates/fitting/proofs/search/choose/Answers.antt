-- `choose` meets its contract: the rules from i on give the choice among all of them, and what is known stays true.
-- Assumes nothing.
use Rattle.std.proofs.Common.{◌≡◌, ◌+◌, ◌∙◌, ap, length, set, arith}
use Rattle.fitting.proofs.ChooseLaws.{noting-start, noting-look, noting-row, noting-passed, noting-impossible}
use Rattle.fitting.proofs.ChooseLaws.{noting-next, noting-found, noting-room, choosing-none, choosing-leads}
use Rattle.fitting.proofs.search.choose.Goals as goal
use Rattle.fitting.proofs.search.choose.Goals.{then-v-whole+else-may_fit, else-v-whole}
use Rattle.fitting.proofs.search.choose.Goals.{else-may_fit-via-then-may_fit+else-find_rule, else-may_fit-via-else-may_fit}

pub returns : goal.returns
returns c = (
  choosing-none _ _ _ _ c.requires.0 c.loop-i.invariant.0.choosing c.loop-i-test.false
      _ _ c.loop-i.invariant.1 c.loop-i.invariant.2,
  c.loop-i.invariant.0.knows,
)

pub loop-i-init : goal.loop-i-init
loop-i-init c =
    (noting-start _ _ _ _ _ _ c.requires.3, c.requires.4, c.requires.5)

pub may_fit-requires : goal.may_fit-requires
may_fit-requires c =
    noting-look _ _ _ _ _ _ _ _ _ c.requires.0 c.requires.1 c.requires.2 c.loop-i.invariant.0
    c.loop-i-test.true _
    c.known_at-v.ensures _ c.row_of-row.ensures

pub find_rule-requires : goal.find_rule-requires
find_rule-requires c =
    let row = noting-row _ _ _ _ _ _ _ _ _ c.requires.0 c.requires.1 c.requires.2 c.loop-i.invariant.0
    c.loop-i-test.true _ c.known_at-v.ensures _ c.row_of-row.ensures _ c.prefix.ensures in
    (row.0, row.1, row.2, row.3, c.loop-i.invariant.1)

pub leading-requires : goal.leading-requires
leading-requires c =
    choosing-leads _ _ _ _ c.requires.0 c.loop-i.invariant.0.choosing c.loop-i-test.true
    _ c.row_of-row.ensures _ _ _ c.find_rule.ensures

pub note-requires : goal.note-requires
note-requires c =
    noting-room _ _ _ _ _ _ _ _ _ c.requires.0 c.requires.1 c.requires.2 c.loop-i.invariant.0
    c.loop-i-test.true _ c.row_of-row.ensures _ _ _
    c.find_rule.ensures c.if-find_rule.true _ c.leading.ensures

pub overflow_add-gone-then-find_rule : goal.overflow_add-gone-then-find_rule
overflow_add-gone-then-find_rule c =
    omega (
      arith,
      noting-room _ _ _ _ _ _ _ _ _ c.requires.0 c.requires.1 c.requires.2 c.loop-i.invariant.0
          c.loop-i-test.true _ c.row_of-row.ensures _ _ _
          c.find_rule.ensures c.if-find_rule.true _ c.leading.ensures,
    )

pub returns-then-find_rule : goal.returns-then-find_rule
returns-then-find_rule c =
    noting-found _ _ _ _ _ _ _ _ _ c.requires.0 c.requires.1 c.requires.2 c.loop-i.invariant.0
    c.loop-i-test.true _ c.row_of-row.ensures _ _ _
    c.find_rule.ensures c.if-find_rule.true _ c.leading.ensures _ c.note.ensures

pub loop-i-preserved : goal.loop-i-preserved
loop-i-preserved c =
    elim c.if-v-whole.branch [
      | then-v-whole+else-may_fit w ↦
          let noted : c.if-v-whole.known ≡ set c.loop-i.known c.loop-i.i (c.args.stage.gone + c.args.stage.count) =
          w.known-is ∙ w.note-then-v-whole.ensures in
          elim w.else-may_fit.branch [
            | else-may_fit-via-then-may_fit+else-find_rule v ↦ (
              noting-next _ _ _ _ _ _ _ _ _ c.requires.0 c.requires.1 c.requires.2 c.loop-i.invariant.0
                  c.loop-i-test.true _ w.row_of-row.ensures _ _ _ v.find_rule.ensures v.if-find_rule.false _ noted,
              ap length (w.positions-is ∙ v.positions-is) ∙ v.find_rule.ensures.positions-size,
              ap length (w.bindings-is ∙ v.bindings-is) ∙ v.find_rule.ensures.bindings-size,
            )
            | else-may_fit-via-else-may_fit v ↦ (
              noting-impossible _ _ _ _ _ _ _ _ _ c.requires.0 c.requires.1 c.requires.2 c.loop-i.invariant.0
                  c.loop-i-test.true _ w.row_of-row.ensures _ c.known_at-v.ensures _ c.requires.6 _
                  w.may_fit.ensures v.if-may_fit.false _ noted,
              ap length (w.positions-is ∙ v.positions-is) ∙ c.loop-i.invariant.1,
              ap length (w.bindings-is ∙ v.bindings-is) ∙ c.loop-i.invariant.2,
            )
          ]
      | else-v-whole w ↦ (
        rw w.known-is (noting-passed _ _ _ _ _ _ _ _ _ c.requires.0 c.requires.1 c.requires.2 c.loop-i.invariant.0
            c.loop-i-test.true _ c.known_at-v.ensures w.if-v-whole.false),
        ap length w.positions-is ∙ c.loop-i.invariant.1,
        ap length w.bindings-is ∙ c.loop-i.invariant.2,
      )
    ]
