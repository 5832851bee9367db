-- Equal parts of two states, left out of both: one law for each way that the code goes.
--   first-colourable, rest-colourable    what the first constraints and the others ask
--   cancelled-…                          the first constraints can be left out, or nothing is said
--   lined-up                             both states in another order
--   parting-rest                         what is left decides
-- Assumes nothing.
use Prim.Native.Nat.{ℕ, ◌+◌, ◌-◌, ◌*◌, ◌≤◌, ◌<◌}
use native.Mathlib.Omega.{arith}
use mathlib.Core.Bool.{Bool, true}
use mathlib.Core.List.{List}
use mathlib.Core.Logic.{◌⊎◌, inl, inr}
use mathlib.Core.Path.{◌≡◌, refl, ◌∙◌}
use lib.ListN.{length, get_or, take, drop, length-take, length-drop, get_or-eq_default}
use lib.Seq.{take_all, get_or-take, length-take-le}
use Rattle.semantics.specs.Variants.{same_state}
use Rattle.tables.proofs.CellLaws.{le-or-lt}
use Rattle.colours.specs.Bounds.{TermsBelow}
use Rattle.colours.specs.Ends.{end_of}
use Rattle.colours.specs.Classes.{Colourable}
use Rattle.colours.specs.Order.{Reordered}
use Rattle.parts.specs.Parts.{Parted}
use Rattle.parts.proofs.PartLaws.{left_out}
use Rattle.comparison.specs.Settlements.{Found}
use Rattle.comparison.specs.Partings.{Cancelled}
use Rattle.comparison.proofs.SettleLaws.{terms-later}
use Rattle.comparison.proofs.NarrowLaws.{Narrowing, narrowing-start, narrowing-order, narrowing-order-right}

-- the terms of the first constraints have their places
terms-first : (m : ℕ) (cells : List ℕ) (e : ℕ) → TermsBelow m cells → TermsBelow m (take e cells)
terms-first m cells e b = record { below = λ i j h. go i j h (le-or-lt e (5 * i + (1 + j))) }
  where
    go : (i j : ℕ) → j < 4 → (e ≤ 5 * i + (1 + j)) ⊎ (5 * i + (1 + j) < e) → get_or (take e cells) (5 * i + (1 + j)) 0 < m
    go i j h (inl p) =
        let short : length (take e cells) ≤ 5 * i + (1 + j) = omega (arith, length-take e cells) in
        rw (get_or-eq_default (take e cells) 0 short) (omega (arith, b.below i j h))
    go i j h (inr p) = rw (get_or-take e cells (5 * i + (1 + j)) 0 p) (b.below i j h)

module _ (cells bound : List ℕ) (size n k : ℕ) (c : Colourable cells bound size n) (h : k ≤ n) where
  -- there are as many
  pub first-room : 5 * k ≤ length cells
  first-room = omega (arith, c.count)

  -- what the first constraints ask
  pub first-colourable : Colourable (take (5 * k) cells) bound size k
  first-colourable =
      record {
        count = length-take-le (5 * k) cells first-room;
        room = c.room;
        terms = terms-first size cells (5 * k) c.terms;
        bound-below = c.bound-below;
      }

  -- what is lent of the others
  pub rest-drop : take (length cells - 5 * k) (drop (5 * k) cells) ≡ drop (5 * k) cells
  rest-drop = take_all (length cells - 5 * k) (drop (5 * k) cells) (omega (arith, length-drop (5 * k) cells))

  -- and what they ask
  pub rest-colourable : Colourable (take (length cells - 5 * k) (drop (5 * k) cells)) bound size (n - k)
  rest-colourable =
      rw rest-drop
      (record {
        count = omega (arith, length-drop (5 * k) cells, c.count);
        room = c.room;
        terms = terms-later size cells (5 * k) k refl c.terms;
        bound-below = c.bound-below;
      })

-- the first constraints stand apart and are equal
pub cancelled-found :
    (f a g b : List ℕ) (k : ℕ) → 5 * k ≤ length a → 5 * k ≤ length b → (p q : Bool) → Parted p a k f → p ≡ true
    → Parted q b k g → q ≡ true → (r : Bool) → Found r f (take (5 * k) a) g (take (5 * k) b) → Cancelled r f a g b k
cancelled-found f a g b k ha hb p q u tu v tv r w = record { rest = λ z. left_out f a g b k ha hb p q u tu v tv (w.same z) }

-- both states in another order
pub lined-up :
    (f a g b : List ℕ) (size n : ℕ) → Colourable a f size n → Colourable b g size n → (a' b' : List ℕ) → length a' ≡ length a
    → Reordered a a' → length b' ≡ length b → Reordered b b' → Narrowing f a g b a' b' size n
lined-up f a g b size n ca cb a' b' la oa lb ob =
    narrowing-order-right f a g b a' b size n (narrowing-order f a g b a b size n (narrowing-start f a g b size n ca cb) a' la oa)
    b' lb ob

-- what is left decides
pub parting-rest :
    (f a₀ g b₀ a b : List ℕ) (size n k : ℕ) → Narrowing f a₀ g b₀ a b size n → k ≤ n → (q : Bool) → Cancelled q f a g b k
    → q ≡ true → (r : Bool)
    → r ≡ same_state (end_of f (take (length a - 5 * k) (drop (5 * k) a))) (end_of g (take (length b - 5 * k) (drop (5 * k) b)))
    → r ≡ same_state (end_of f a₀) (end_of g b₀)
parting-rest f a₀ g b₀ a b size n k w h q c t r e =
    rw (rest-drop a f size n k w.left h, rest-drop b g size n k w.right h) at e ∙ (c.rest t ∙ w.same)
