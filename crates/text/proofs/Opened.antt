-- Opens every definition of this crate at once: a proof that says `unfolding opened` computes with all of them.
-- Assumes nothing.
use Prim.Native.Nat.{ℕ}
use Rattle.text.specs.Bytes.{between, class_of, class_number, is_class, is_name_class, ascii}
use Rattle.text.specs.Lists.{index_of, is_known, with_name}
use Rattle.text.specs.Lines.{in_first_line, lines, is_other, line_is_faulty, goal_line, in_program, parted_from, parted}
use Rattle.text.specs.Fields.{in_first_field, fields, is_name, is_variable, is_term, is_number, value_from, value_of}
use Rattle.text.specs.Fields.{is_number_in, decimal_from, decimal}
use Rattle.text.specs.Constants.{is_numeral, constant_name}
use Rattle.text.specs.Keys.{packed_from, packed, spell_from, spell, key_of, number_of, word_length, word}
use Rattle.text.specs.Cursors.{before, class_table, behind, parts_at}
use Rattle.text.specs.Splits.{first_line, line_from, line_end, is_plain}

-- a name to say on an `unfolding` line
unfoldable pub opened : ℕ
unfolding between class_of class_number is_class is_name_class ascii index_of is_known with_name in_first_line lines is_other line_is_faulty goal_line in_program parted_from parted in_first_field fields is_name is_variable is_term is_number value_from value_of is_number_in decimal_from decimal is_numeral constant_name packed_from packed spell_from spell key_of number_of word_length word before class_table behind parts_at first_line line_from line_end is_plain
opened = 0
