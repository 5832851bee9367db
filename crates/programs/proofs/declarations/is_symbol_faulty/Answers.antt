-- `programs::declarations::is_symbol_faulty` meets its contract, by the test that decides it.
-- Assumes nothing.
use Rattle.std.proofs.Common.{refl, sym, ◌∙◌, arith}
use borrow.Author.Tests.{lt-ltb}
use Rattle.programs.proofs.Drafts.{symbol-few, symbol-nameless, symbol-terms, symbol-light, symbol-weighed}
use Rattle.programs.proofs.declarations.is_symbol_faulty.Goals as goal
use Rattle.programs.proofs.declarations.is_symbol_faulty.Goals.{then-f-ne4-via-then-f-ne4, then-f-ne4-via-else-f-ne4+then-keys-lt28}
use Rattle.programs.proofs.declarations.is_symbol_faulty.Goals.{then-f-ne4-via-else-f-ne4+else-keys-lt28+then-number_of-gt4}

pub returns-then-f-ne4 : goal.returns-then-f-ne4
returns-then-f-ne4 c =
    λ fs h. elim c.then-f-ne4.branch [
      | then-f-ne4-via-then-f-ne4 w ↦ sym (symbol-few fs _ h.keyed (λ z. w.if-f-ne4.true (h.counted ∙ z)))
      | then-f-ne4-via-else-f-ne4+then-keys-lt28 w ↦
          sym (symbol-nameless fs _ h.keyed (omega (arith, h.counted, w.if-f-ne4.false)) w.if-keys-lt28.true)
      | then-f-ne4-via-else-f-ne4+else-keys-lt28+then-number_of-gt4 w ↦
          sym (symbol-terms fs _ h.keyed (omega (arith, h.counted, w.if-f-ne4.false)) w.if-keys-lt28.false _ _
          w.number_of.ensures refl w.if-number_of-gt4.true)
    ]

pub returns-then-weight-lt1 : goal.returns-then-weight-lt1
returns-then-weight-lt1 c =
    λ fs h.
    lt-ltb _ 1 c.if-weight-lt1.true
    ∙ sym (symbol-light fs _ h.keyed (omega (arith, h.counted, c.if-f-ne4.false)) c.if-keys-lt28.false _ _
    c.number_of.ensures
    c.number_of-weight.ensures c.if-number_of-gt4.false c.if-weight-lt1.true)

pub returns-else-weight-lt1 : goal.returns-else-weight-lt1
returns-else-weight-lt1 c =
    λ fs h.
    sym (symbol-weighed fs _ h.keyed (omega (arith, h.counted, c.if-f-ne4.false)) c.if-keys-lt28.false _ _
    c.number_of.ensures
    c.number_of-weight.ensures c.if-number_of-gt4.false c.if-weight-lt1.false)
