-- Constraints put in another order, one change after another.
--   reordered-same, reordered-trans      no change, and one after another
--   reordered-swap                       one more change of two positions
--   rows-count                           whole constraints
--   prefix-size                          what is lent of a list has the size that is asked for
-- Assumes nothing.
use Rattle.std.proofs.Common.{◌≡◌, ℕ, ◌*◌, ◌≤◌, ◌<◌, List, length, take, refl, sym, ap, ◌∙◌}
use lib.Seq.{length-take-le}
use Rattle.semantics.proofs.Multisets.{multiset-refl, multiset-right}
use Rattle.tables.specs.Cells.{cell_constraints}
use Rattle.tables.proofs.CellLaws.{constraints-length}
use Rattle.colours.specs.Order.{Swapped, Reordered}
use Rattle.colours.proofs.OrderLaws.{swapped-reordered}

-- no change
pub reordered-same : (cells : List ℕ) → Reordered cells cells
reordered-same cells = record { same = multiset-refl (λ c. refl) (cell_constraints cells); below = λ m b. b }

-- one change after another
pub reordered-trans : {a b c : List ℕ} → Reordered a b → Reordered b c → Reordered a c
reordered-trans v w =
    record { same = multiset-right w.same v.same; below = λ m b. w.below m (v.below m b) }

-- two constraints change positions
pub reordered-swap :
    (n : ℕ) (a₀ a a' : List ℕ) (i j : ℕ) → length a₀ ≡ 5 * n → length a ≡ length a₀ → Reordered a₀ a → i < n → j < n
    → length a' ≡ length a → Swapped i j a a' → Reordered a₀ a'
reordered-swap n a₀ a a' i j s l w hi hj k t =
    reordered-trans w (swapped-reordered n a a' (l ∙ s) (k ∙ (l ∙ s)) i j hi hj t)

-- what is lent of a list has the size that is asked for
pub prefix-size : (e : ℕ) (cells : List ℕ) → e ≤ length cells → e ≡ length (take e cells)
prefix-size e cells h = sym (length-take-le e cells h)

-- whole constraints
pub rows-count : (n : ℕ) (cells : List ℕ) → length cells ≡ 5 * n → length cells ≡ 5 * length (cell_constraints cells)
rows-count n cells e = e ∙ sym (ap (λ k. 5 * k) (constraints-length n cells e))
