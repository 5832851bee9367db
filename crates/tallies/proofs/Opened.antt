-- Opens every definition of this crate at once: a proof that says `unfolding opened` computes with all of them.
-- Assumes nothing.
use Prim.Native.Nat.{ℕ}
use Rattle.tallies.specs.Symbols.{tallied, has_symbol, is_concerned}

-- a name to say on an `unfolding` line
unfoldable pub opened : ℕ
unfolding tallied has_symbol is_concerned
opened = 0
