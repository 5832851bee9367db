-- `tables::names::name` meets its contract: a place below the goal's is in the program's text. Assumes nothing.
use Rattle.tables.proofs.NameLaws.{name-program, name-goal}
use Rattle.tables.proofs.names.name.Goals as goal

pub place-at-requires : goal.place-at-requires
place-at-requires c = tt

pub name_at-requires : goal.name_at-requires
name_at-requires c = tt

pub returns-then-at-lt-GOAL_PLACE : goal.returns-then-at-lt-GOAL_PLACE
returns-then-at-lt-GOAL_PLACE c =
    name-program _ _ _ _ _ _ c.place-at.ensures c.if-at-lt-GOAL_PLACE.true c.name_at.ensures

pub name_at-requires-2 : goal.name_at-requires-2
name_at-requires-2 c = tt

pub returns : goal.returns
returns c =
    name-goal _ _ _ _ _ _ c.place-at.ensures c.if-at-lt-GOAL_PLACE.false c.name_at-2.ensures
