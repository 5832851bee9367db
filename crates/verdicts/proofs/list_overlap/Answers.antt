-- `verdicts::list_overlap` meets its contract: its ends are numbered, and it is listed as it was before. Assumes nothing.
use borrow.Author.Rules.{rules}
use mathlib.Core.Path.{sym}
use Prim.Native.Nat.{ℕ}
use native.Mathlib.Omega.{arith}
use lib.ListN.{get_or}
use lib.Seq.{length-take-le}
use mir.Syntax.{w64}
use mir.Val.{Fits}
use Rattle.tables.proofs.NameLaws.{name-short}
use Rattle.verdicts.proofs.CheckLaws.{lent-listable, lent-numbered, overlap-writable, overlap-listed}
use Rattle.verdicts.proofs.list_overlap.Goals as goal

pub slice_bounds-number_end-end : goal.slice_bounds-number_end-end
slice_bounds-number_end-end c =
    sym (length-take-le c.args.shown.variables c.args.bounds.now c.requires.within)

pub number_end-requires : goal.number_end-requires
number_end-requires c =
    c.requires.first-end

pub number_end-requires-2 : goal.number_end-requires-2
number_end-requires-2 c =
    lent-listable c.args.bounds.now c.args.shown.variables c.requires.second-end

pub list_shown-requires : goal.list_shown-requires
list_shown-requires c =
    let own = c.well_formed in
    -- a partner is one of the machine's numbers
    let fits : (i : ℕ) → Fits w64 (get_or c.args.shown.partners i 0) = λ i. search (rules, own) in
    overlap-writable _ (name-short _ _ _) _ _ _ _ _ _ _ c.args.shown c.requires c.number_end.auto.cells
    c.number_end-2.auto.cells (λ i. omega (arith, c.shared_slice_known-3-1.given i))
    (λ i. omega (arith, c.shared_slice_known-4-1.given i)) (λ i. omega (arith, c.slice_known-4-1.given i))
    (λ i. omega (arith, c.slice_known-5-1.given i)) (λ i. omega (arith, fits i)) (omega (arith, own))
    (omega (arith, own))

pub returns : goal.returns
returns c =
    overlap-listed _ _ _ _ _ _ _ _ c.args.shown _ _ c.requires c.number_end.ensures
    (lent-numbered c.args.bounds.now c.args.shown.variables c.number_end-2.ensures)
    c.list_shown.ensures
