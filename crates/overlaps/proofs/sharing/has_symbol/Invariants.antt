-- `has_symbol` meets its contract: none of the first h heads has the symbol.
-- Assumes nothing.
use Rattle.std.proofs.Common.{◌≡◌, drop}
use Rattle.text.specs.Lists.{has}
use Rattle.overlaps.specs.Shares.{head_symbols}
use Rattle.overlaps.proofs.sharing.has_symbol.Given as goal

abbrev pub invariant-loop-h : goal.invariant-loop-h
invariant-loop-h l = has l.symbol (drop l.h (head_symbols l.row)) ≡ has l.symbol (head_symbols l.row)
