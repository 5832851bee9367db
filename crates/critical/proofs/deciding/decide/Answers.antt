-- `decide` meets its contract: all overlaps judged, and the one shown that does not join.
-- Assumes nothing.
use Rattle.critical.proofs.VerdictLaws.{walked-stopped, walked-confluent, verdict-kept}
use Rattle.critical.proofs.deciding.decide.Goals as goal

pub show-requires : goal.show-requires
show-requires c = (
  verdict-kept _ _ _ _ _ _ _ _ c.requires c.walk_all.auto.one c.walk_all.auto.two,
  walked-stopped _ _ _ _ c.requires.check c.in-Err.ensures c.requires.goal-size,
)

pub returns-in-Ok : goal.returns-in-Ok
returns-in-Ok c = walked-confluent _ _ _ c.in-Ok.ensures
