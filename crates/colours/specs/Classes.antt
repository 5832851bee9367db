-- Two states, their constraints put in classes.
--   Colourable      what colouring a state asks
--   Classified      what classifying two states promises
-- Assumes nothing.
use Rattle.std.specs.Prelude.{◌≡◌, ℕ, ◌*◌, ◌≤◌, Bool, true, false, List, length}
use Rattle.semantics.specs.Variants.{same_state}
use Rattle.colours.specs.Bounds.{Below, TermsBelow}
use Rattle.colours.specs.Ends.{end_of}

-- n constraints whose terms lie below a size for which there is room
pub record Colourable (cells bound : List ℕ) (size n : ℕ) : Type 0 where
  pub count : length cells ≡ 5 * n
  pub room : size ≤ 2844
  pub terms : TermsBelow size cells
  pub bound-below : Below size bound

-- two states with different classes are not equal; others are equal where they are with classes for symbols
pub record Classified (r : Bool) (f a g b a' b' : List ℕ) : Type 0 where
  pub apart : r ≡ false → same_state (end_of f a) (end_of g b) ≡ false
  pub same : r ≡ true → same_state (end_of f a') (end_of g b') ≡ same_state (end_of f a) (end_of g b)
  pub left : r ≡ true → (m : ℕ) → TermsBelow m a → TermsBelow m a'
  pub right : r ≡ true → (m : ℕ) → TermsBelow m b → TermsBelow m b'
