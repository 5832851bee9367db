-- Opens every definition of this crate at once: a proof that says `unfolding opened` computes with all of them.
-- Assumes nothing.
use Prim.Native.Nat.{ℕ}
use Rattle.tables.specs.Cells.{cell_term, cell_terms, row_constraint, cell_constraints, cell_equations, is_low, state_of}
use Rattle.tables.specs.Rows.{name_of, symbol_of, symbols_of, constants_of, rule_of_row, rule_of, rules_of, lines_of}
use Rattle.tables.specs.Rows.{letters_of}
use Rattle.tables.specs.Names.{name_at, placed_at, name_in}

-- a name to say on an `unfolding` line
unfoldable pub opened : ℕ
unfolding cell_term cell_terms row_constraint cell_constraints cell_equations is_low state_of name_of symbol_of symbols_of constants_of
    rule_of_row rule_of rules_of lines_of letters_of name_at placed_at name_in
opened = 0
