-- `programs::declarations::is_rule_faulty` meets its contract, by the test that decides it.
-- Assumes nothing.
use Rattle.std.proofs.Common.{sym, ◌∙◌, ap, not, ne_eqb, arith}
use Rattle.programs.proofs.Drafts.{rule-few, rule-shape}
use Rattle.programs.proofs.declarations.is_rule_faulty.Goals as goal

pub returns-then-f-ne2 : goal.returns-then-f-ne2
returns-then-f-ne2 c =
    λ fs h. ap not (ne_eqb c.args.f.count 2 c.if-f-ne2.true) ∙ sym (rule-few fs _ h.keyed (λ z. c.if-f-ne2.true (h.counted ∙ z)))

pub returns-else-f-ne2 : goal.returns-else-f-ne2
returns-else-f-ne2 c = λ fs h. sym (rule-shape fs _ h.keyed (omega (arith, h.counted, c.if-f-ne2.false)))
