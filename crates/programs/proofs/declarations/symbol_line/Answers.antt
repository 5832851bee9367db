-- `programs::declarations::symbol_line` meets its contract: numbers 4, 5 and 7, or one symbol more.
-- Assumes nothing.
use mathlib.Core.Path.{refl, sym, ◌∙◌}
use native.Mathlib.Omega.{arith}
use Rattle.programs.proofs.Drafts.{symbol-faulty, symbol-repeated, symbol-full, symbol-new}
use Rattle.programs.proofs.declarations.symbol_line.Goals as goal

pub returns-then-is_symbol_faulty : goal.returns-then-is_symbol_faulty
returns-then-is_symbol_faulty c =
    symbol-faulty _ _ _ _ _ c.requires.0 (λ fs h. sym c.if-is_symbol_faulty.true ∙ c.is_symbol_faulty.ensures fs
    h)

pub returns-then-find_key-n : goal.returns-then-find_key-n
returns-then-find_key-n c =
    symbol-repeated _ _ _ _ _ c.requires.0 (λ fs h. sym c.if-is_symbol_faulty.false ∙
    c.is_symbol_faulty.ensures fs h) (λ i. omega (arith, c.slice_known-1.given i)) _
    c.find_key.ensures.0 c.requires.2 c.if-find_key-n.true

pub returns-then-n-ge32 : goal.returns-then-n-ge32
returns-then-n-ge32 c =
    symbol-full _ _ _ _ _ c.requires.0 (λ fs h. sym c.if-is_symbol_faulty.false ∙ c.is_symbol_faulty.ensures
    fs h) (λ i. omega (arith, c.slice_known-1.given i)) _
    c.find_key.ensures.0 c.requires.2 c.if-find_key-n.false c.if-n-ge32.true

pub returns : goal.returns
returns c =
    symbol-new _ _ _ _ _ c.requires.0 (λ fs h. sym c.if-is_symbol_faulty.false ∙ c.is_symbol_faulty.ensures fs
    h) (λ i. omega (arith, c.slice_known-1.given i)) _
    c.find_key.ensures.0 c.requires.2 c.if-find_key-n.false _ _ _ _ c.if-n-ge32.false c.requires.1
    c.number_of.ensures c.number_of-2.ensures refl
    c.write_cells.ensures
