-- `programs::adds::is_equation_faulty` meets its contract, by the test that decides it.
-- Assumes nothing.
use Rattle.std.proofs.Common.{◌≡◌, sym, ap, ◌∙◌, ℕ, not, ne_eqb, arith}
use Rattle.programs.proofs.AddLaws.{sides-few, sides-shape}
use Rattle.programs.proofs.adds.is_equation_faulty.Goals as goal

pub returns-then-f-ne3 : goal.returns-then-f-ne3
returns-then-f-ne3 c =
    rw (ne_eqb c.args.f.count 3 c.if-f-ne3.true)
    (λ fs h. sym (sides-few fs (λ z. c.if-f-ne3.true (h.counted ∙ z))), λ e. absurd (let z : ◌≡◌ {A = ℕ} 0 1 = cc in omega arith))

pub returns-else-f-ne3 : goal.returns-else-f-ne3
returns-else-f-ne3 c = (
  λ fs h. ap not (c.are_terms.ensures fs h) ∙ sym (sides-shape fs (omega (arith, h.counted, c.if-f-ne3.false))),
  λ e. c.if-f-ne3.false,
)
