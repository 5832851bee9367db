-- Opens every definition of this crate at once: a proof that says `unfolding opened` computes with all of them.
-- Assumes nothing.
use Prim.Native.Nat.{ℕ}
use Rattle.syntax.specs.Forms.{form_of_byte, form_of, section_after, field_at, constants_after, term_of}
use Rattle.syntax.specs.Forms.{letter_number, is_symbol_faulty, is_rule_faulty, is_equation_faulty, is_constraint_faulty}
use Rattle.syntax.specs.Forms.{symbol_number, is_undeclared, constraint_of}
use Rattle.syntax.specs.Programs.{blank, in_section, on_last, last_rule, with_kept, with_head, with_body, with_equation}
use Rattle.syntax.specs.Programs.{read_symbol, read_rule, constraint_line, with_rule, read_constraint, read_equation, read_form}
use Rattle.syntax.specs.Programs.{read_fields, read_line, read_lines, check_rules, read_program}
use Rattle.syntax.specs.Goals.{letters_after, read_constraint_of_goal, is_goal_form, read_goal_fields}
use Rattle.syntax.specs.Goals.{read_goal_line, read_goal_lines, read_goal}

-- a name to say on an `unfolding` line
unfoldable pub opened : ℕ
unfolding form_of_byte form_of section_after field_at constants_after term_of letter_number is_symbol_faulty is_rule_faulty is_equation_faulty is_constraint_faulty symbol_number is_undeclared constraint_of blank in_section on_last last_rule with_kept with_head with_body with_equation read_symbol read_rule constraint_line with_rule read_constraint read_equation read_form read_fields read_line read_lines check_rules read_program letters_after read_constraint_of_goal is_goal_form read_goal_fields read_goal_line read_goal_lines read_goal
opened = 0
