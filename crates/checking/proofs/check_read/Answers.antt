-- `checking::check_read` meets its contract: the verdict on the program is listed. Assumes nothing.
use mathlib.Core.Path.{refl}
use Rattle.checking.proofs.CheckingLaws.{decidable, show-ready, holds, pass-replies}
use Rattle.checking.proofs.check_read.Goals as goal

pub decide-requires : goal.decide-requires
decide-requires c =
    decidable c.requires _ _ _ _ refl refl refl refl

pub returns-in-Ok : goal.returns-in-Ok
returns-in-Ok c = pass-replies c.requires (c.in-Ok.ensures _ (holds c.requires)) c.pass.ensures

pub show-requires : goal.show-requires
show-requires c =
    show-ready c.requires c.in-Err.ensures c.decide.auto.goal c.decide.auto.bounds
