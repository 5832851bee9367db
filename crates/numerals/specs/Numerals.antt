-- The name of a constant by its key: what is promised of it.
--   ConstantIn     the name of a constant: its key, and where it stands in the spelling
-- Assumes nothing.
use Rattle.std.specs.Prelude.{◌≡◌, List, ℕ, ◌<◌, length, drop}
use Rattle.text.specs.Constants.{constant_name}
use Rattle.text.specs.Keys.{key_of}
use Rattle.numerals.specs.declared.Constant.{Constant}

-- what is promised of a constant that is spelled f: the key of its name, which is what stands behind the zeros
pub record ConstantIn (f : List ℕ) (r : Constant) : Type 0 where
  pub keyed : r.key ≡ key_of (constant_name f)
  pub named : drop r.zeros f ≡ constant_name f
  pub few : r.zeros < length f
