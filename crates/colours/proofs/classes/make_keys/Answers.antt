-- `make_keys` meets its contract: tables of zeros are ready.
-- Assumes nothing.
use Rattle.std.proofs.Common.{refl}
use Rattle.colours.proofs.ClassLaws.{make-ready, make-bound, make-few}
use Rattle.colours.proofs.classes.make_keys.Goals as goal

pub fill_keys-requires : goal.fill_keys-requires
fill_keys-requires c =
    (make-ready _ _ _ _ c.requires, make-bound _ _ _ _ c.requires, make-few _ _ _ _ c.requires, refl)
