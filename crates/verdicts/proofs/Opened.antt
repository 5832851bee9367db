-- Opens every definition of this crate at once: a proof that says `unfolding opened` computes with all of them.
-- Assumes nothing.
use Prim.Native.Nat.{ℕ}
use Rattle.verdicts.specs.Verdicts.{pair_lines, verdict_listing}
use Rattle.verdicts.specs.Checks.{rules_line, front_bytes, numbered_ends, shown_bytes, final_of}

-- a name to say on an `unfolding` line
unfoldable pub opened : ℕ
unfolding pair_lines verdict_listing rules_line front_bytes numbered_ends shown_bytes final_of
opened = 0
