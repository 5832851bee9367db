-- `programs::declarations::rule_line` meets its contract: numbers 4, 5 and 7, or one rule more.
-- Assumes nothing.
use mathlib.Core.Path.{refl, sym, ◌∙◌}
use native.Mathlib.Omega.{arith}
use Rattle.programs.proofs.Drafts.{rule-faulty, rule-repeated, rule-full, rule-new}
use Rattle.programs.proofs.declarations.rule_line.Goals as goal

pub returns-then-is_rule_faulty : goal.returns-then-is_rule_faulty
returns-then-is_rule_faulty c =
    rule-faulty _ _ _ _ _ _ c.requires.0 c.requires.2 (λ fs h. sym c.if-is_rule_faulty.true ∙
    c.is_rule_faulty.ensures fs h)

pub returns-then-find_key-n : goal.returns-then-find_key-n
returns-then-find_key-n c =
    rule-repeated _ _ _ _ _ _ c.requires.0 c.requires.2 (λ fs h. sym c.if-is_rule_faulty.false ∙
    c.is_rule_faulty.ensures fs h) (λ i. omega (arith, c.slice_known-1.given i)) _
    c.find_key.ensures.0 c.if-find_key-n.true

pub returns-then-n-ge32 : goal.returns-then-n-ge32
returns-then-n-ge32 c =
    rule-full _ _ _ _ _ _ c.requires.0 c.requires.2 (λ fs h. sym c.if-is_rule_faulty.false ∙
    c.is_rule_faulty.ensures fs h) (λ i. omega (arith, c.slice_known-1.given i)) _
    c.find_key.ensures.0 c.if-find_key-n.false c.if-n-ge32.true

pub returns : goal.returns
returns c =
    rule-new _ _ _ _ _ _ c.requires.0 c.requires.2 (λ fs h. sym c.if-is_rule_faulty.false ∙
    c.is_rule_faulty.ensures fs h) (λ i. omega (arith, c.slice_known-1.given i)) _
    c.find_key.ensures.0 c.if-find_key-n.false _ _ c.if-n-ge32.false c.requires.1 refl
    c.write_cells.ensures
