-- `programs::rules::check_rules` meets its contract: the rules before here meet neither number.
-- Assumes nothing.
use Rattle.std.proofs.Common.{◌≡◌}
use Rattle.programs.proofs.RuleLaws.{Checked}
use Rattle.programs.proofs.rules.check_rules.Given as goal

abbrev pub invariant-loop-row : goal.invariant-loop-row
invariant-loop-row l = record {
  ready : (goal.iterator-loop-row).can_next l.row-iterator;
  ends : (goal.iterator-loop-row).is_finite l.row-iterator;
  sized : l.row-iterator.size ≡ 64;
  checked : Checked l.symbols l.rules l.row-iterator.rest.now;
}
