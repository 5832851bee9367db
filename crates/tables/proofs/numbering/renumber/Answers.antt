-- `tables::numbering::renumber` meets its contract: either table has an entry for each variable. Assumes nothing.
use mathlib.Core.Path.{◌≡◌, sym, subst, refl}
use mathlib.Core.Bool.{true}
use mathlib.Core.List.{List, []}
use Prim.Native.Nat.{ℕ, ◌≤◌}
use lib.Dec.{eqb}
use lib.ListN.{length, take}
use lib.Seq.{length-take-le}
use Rattle.text.specs.Lists.{every}
use Rattle.tables.specs.Numbers.{Numbering, Numberable}
use Rattle.tables.proofs.Renumbering.{zeros}
use Rattle.tables.proofs.numbering.renumber.Goals as goal

-- the front of a table of zeros is one to number with
front :
    {n : ℕ} {cells : List ℕ} (v : ℕ) (table : List ℕ) → v ≤ length table → every (eqb 0) table ≡ true → Numberable v n cells
    → Numbering [] (take v table) 0 × Numberable (length (take v table)) n cells
front {n} {cells} v table h z r =
    (zeros table v z, subst (λ (m : ℕ). Numberable m n cells) (sym (length-take-le v table h)) r)

pub slice_bounds-number-end : goal.slice_bounds-number-end
slice_bounds-number-end c = sym (length-take-le _ _ c.if-v-le256.true)

pub number-requires : goal.number-requires
number-requires c =
    front _ _ c.if-v-le256.true refl c.requires.0

pub slice_bounds-number-end-2 : goal.slice_bounds-number-end-2
slice_bounds-number-end-2 c = sym (length-take-le _ _ c.requires.1)

pub number-requires-2 : goal.number-requires-2
number-requires-2 c =
    front _ _ c.requires.1 refl c.requires.0
