-- `share_symbol` meets its contract: none of the first h heads of the first rule has a symbol of the second.
-- Assumes nothing.
use Rattle.std.proofs.Common.{◌≡◌, drop}
use Rattle.overlaps.specs.Shares.{head_symbols, is_shared}
use Rattle.overlaps.proofs.sharing.share_symbol.Given as goal

abbrev pub invariant-loop-h : goal.invariant-loop-h
invariant-loop-h l =
    is_shared (drop l.h (head_symbols l.first)) (head_symbols l.second)
    ≡ is_shared (head_symbols l.first) (head_symbols l.second)
