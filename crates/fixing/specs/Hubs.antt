-- Variables that every renaming must pair.
--   Single         a variable with a weight that no other has
--   Topped         what finding the heaviest variable promises
--   Paired         two variables that are single, of one weight
--   Fixable        what finding such variables asks
--   Fixed, Forced  what it promises, of tables of weights and of two states
--   Lengthened     the same from what the goal variables became
-- Assumes nothing.
use Rattle.std.specs.Prelude.{◌≡◌, ℕ, ◌<◌, ◌≤◌, List, length, take, slice_index, slice_index_or}
use Rattle.semantics.specs.Variants.{same_state}
use Rattle.colours.specs.Bounds.{Below}
use Rattle.colours.specs.Classes.{Colourable}
use Rattle.colours.specs.Ends.{end_of}
use Rattle.fixing.specs.Weights.{Free}

-- a variable's cell whose weight is positive and no other variable's
pub record Single (x : ℕ) (weights : List ℕ) : Type 0 where
  pub variable : 256 ≤ x
  pub within : x < length weights
  pub positive : 0 < slice_index weights x
  pub alone : (z : ℕ) → 256 ≤ z → slice_index weights z ≡ slice_index weights x → z ≡ x

-- the heaviest variable, which is single, and its weight
pub record Topped (x weight : ℕ) (weights : List ℕ) : Type 0 where
  pub alone : Single x weights
  pub weighs : weight ≡ slice_index weights x

-- two variables that are single, of one weight
pub record Paired (x y : ℕ) (left right : List ℕ) : Type 0 where
  pub first : Single x left
  pub second : Single y right
  pub same : slice_index_or left x 0 ≡ slice_index right y

-- two lists of cells as long as each other, k of them in use, and tables of weights
pub record Fixable (k : ℕ) (f g left right : List ℕ) : Type 0 where
  pub within : k ≤ length f
  pub same_size : length g ≡ length f
  pub left-size : length left ≤ 65536
  pub right-size : length right ≤ 65536

-- the first k' cells instead of the first k: two states with such weights are equal with these paired where they are with those
pub record Fixed (k k' : ℕ) (f g f' g' left right : List ℕ) : Type 0 where
  pub grown : k ≤ k'
  pub within : k' ≤ length f
  pub same :
      (a b : List ℕ) → Free (take k f) a left → Free (take k g) b right
      → same_state (end_of (take k' f') a) (end_of (take k' g') b) ≡ same_state (end_of (take k f) a) (end_of (take k g) b)
  pub left_below : Below (length left) (take k f) → Below (length left) (take k' f')
  pub right-below : Below (length right) (take k g) → Below (length right) (take k' g')

-- the same of two states, whose cells lie below m and n
pub record Forced (k k' m n : ℕ) (a b f g f' g' : List ℕ) : Type 0 where
  pub grown : k ≤ k'
  pub within : k' ≤ length f
  pub same : same_state (end_of (take k' f') a) (end_of (take k' g') b) ≡ same_state (end_of (take k f) a) (end_of (take k g) b)
  pub left_below : Below m (take k' f')
  pub right-below : Below n (take k' g')

-- the first k cells of two lists instead of what the goal variables became: both states, of n constraints with terms below a
-- size, can be coloured with them, and are equal with them where they are with those
pub record Lengthened (k size n : ℕ) (a f b g f' g' : List ℕ) : Type 0 where
  pub within : k ≤ length f'
  pub lengths : length (take k f') ≡ length (take k g')
  pub left : Colourable a (take k f') size n
  pub right : Colourable b (take k g') size n
  pub same : same_state (end_of (take k f') a) (end_of (take k g') b) ≡ same_state (end_of f a) (end_of g b)
