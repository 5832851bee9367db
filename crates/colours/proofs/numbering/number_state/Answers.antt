-- `number_state` meets its contract: from a table in which no variable has a number, a small one where all cells lie below
-- its size.
-- Assumes nothing.
use Rattle.std.proofs.Common.{ℕ}
use lib.ListN.{length-replicate}
use Rattle.colours.proofs.NumberLaws.{numbering-none}
use Rattle.colours.proofs.numbering.number_state.Goals as goal

pub number_in-requires : goal.number_in-requires
number_in-requires c =
    let pre' = c.requires in (
      numbering-none 1024,
      rw (length-replicate {A = ℕ} 1024 0) (c.all_below.ensures.below c.if-all_below.true),
      rw (length-replicate {A = ℕ} 1024 0) (c.all_below-then-all_below.ensures.below c.if-all_below-2.true),
      pre'.2,
      pre'.3,
      pre'.4,
      pre'.5,
    )

pub number_in-requires-2 : goal.number_in-requires-2
number_in-requires-2 c =
    let pre' = c.requires in (
      numbering-none 13596,
      rw (length-replicate {A = ℕ} 13596 0) pre'.0,
      rw (length-replicate {A = ℕ} 13596 0) pre'.1,
      pre'.2,
      pre'.3,
      pre'.4,
      pre'.5,
    )
