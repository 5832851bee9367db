-- `wanted` meets its contract: one law for each way.
-- Assumes nothing.
use Rattle.fitting.proofs.WantedLaws.{wanted-none, wanted-constant, wanted-bound, wanted-open}
use Rattle.fitting.proofs.matching.wanted.Goals as goal

pub returns-then-head-eq0 : goal.returns-then-head-eq0
returns-then-head-eq0 c = search wanted-none

pub returns-then-h-lt-FIRST_VARIABLE : goal.returns-then-h-lt-FIRST_VARIABLE
returns-then-h-lt-FIRST_VARIABLE c = search wanted-constant

pub returns-then-x-bindings : goal.returns-then-x-bindings
returns-then-x-bindings c = search wanted-bound

pub returns-else-x-bindings : goal.returns-else-x-bindings
returns-else-x-bindings c = search wanted-open
