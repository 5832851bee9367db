-- `lines::rows::add_cells` meets its contract: the count is read first, and stored last. Assumes nothing.
use mathlib.Core.Path.{ap₂}
use mathlib.Core.List.{List}
use Prim.Native.Nat.{ℕ}
use native.Mathlib.Numerals.{add-one}
use lib.ListN.{get_or, set}
use Rattle.lines.proofs.rows.add_cells.Goals as goal

pub returns : goal.returns
returns c =
    let args' = c.args in
    ap₂ (λ (l : List ℕ) (v : ℕ). set l args'.slot v) c.write_cells.ensures
    (add-one (get_or args'.row.now args'.slot 0))
