-- `pages::put_pages` meets its contract: the pages before a number are written. Assumes nothing.
use Prim.Native.Nat.{◌-◌}
use lib.ListN.{length}
use Rattle.pages.proofs.PageLaws.{Paging}
use Rattle.pages.proofs.put_pages.Given as goal

abbrev pub invariant-loop-at : goal.invariant-loop-at
invariant-loop-at l = Paging l.listing l.initial.out l.out l.end l.at l.inside l.number

abbrev pub decreases-loop-at : goal.decreases-loop-at
decreases-loop-at l = length l.listing - l.at
