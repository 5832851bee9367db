-- `text::fields::next_field` meets its contract: what is known of the bytes passed, one byte on. Assumes nothing.
use Rattle.std.proofs.Common.{rules, arith, sym, ◌∙◌}
use Rattle.text.specs.Bytes.{class_number}
use Rattle.text.proofs.Passing.{passed_start, passed-step}
use Rattle.text.proofs.fields.next_field.Goals as goal

pub loop-i-init : goal.loop-i-init
loop-i-init c = (omega arith, omega arith, passed_start _ _)

pub loop-i-preserved : goal.loop-i-preserved
loop-i-preserved c = (
  omega arith,
  omega arith,
  passed-step _ _ _ _ _ _ _ _ _ c.loop-i.invariant.2 (omega arith) c.loop-i-test.true (omega arith)
      c.class_of-class.ensures (sym c.is_plain.ensures ∙ c.if-not-is_plain.false) c.with_byte-value.ensures c.with_class-capital.ensures,
)

pub returns : goal.returns
unfolding class_number
returns c = search rules
