-- Classes made finer step by step.
--   Open, Weighed      what one step promises
-- Assumes nothing.
use Rattle.std.specs.Prelude.{ℕ, Bool, List, ◌≡◌, Option, Some, None}
use Rattle.semantics.specs.Variants.{same_state}
use Rattle.colours.specs.Bounds.{TermsBelow}
use Rattle.colours.specs.Ends.{end_of}

-- the question is left for two states with classes for symbols
pub record Open (f a g b a' b' : List ℕ) : Type 0 where
  pub same : same_state (end_of f a') (end_of g b') ≡ same_state (end_of f a) (end_of g b)
  pub left : (m : ℕ) → TermsBelow m a → TermsBelow m a'
  pub right : (m : ℕ) → TermsBelow m b → TermsBelow m b'

-- the question is decided, or it is left
abbrev pub Weighed : Option Bool → List ℕ → List ℕ → List ℕ → List ℕ → List ℕ → List ℕ → Type 0
Weighed (Some equal) f a g b a' b' = equal ≡ same_state (end_of f a) (end_of g b)
Weighed None f a g b a' b' = Open f a g b a' b'
