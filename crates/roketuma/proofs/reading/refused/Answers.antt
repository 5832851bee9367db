-- `roketuma::refused` meets its contract. Assumes nothing.
use mathlib.Core.Path.{refl}
use Rattle.roketuma.specs.Readings.{read_meant}
use Rattle.roketuma.proofs.reading.refused.Goals as goal

pub returns : goal.returns
unfolding read_meant
returns c = refl
