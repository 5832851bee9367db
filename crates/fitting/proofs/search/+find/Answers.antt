-- `find` meets its contract: the positions from p on give the answer for all of them. The heads not yet placed fall at each
-- call.
-- Assumes nothing.
use native.Mathlib.Omega.{arith}
use mathlib.Core.Path.{refl}
use Rattle.fitting.proofs.SearchLaws.{seek-done, seek-start, seek-rows, seek-next, seek_found, seek-dead}
use Rattle.fitting.proofs.SearchLaws.{seek-misfit, seek-none, seek-since, since-few, seek-fits}
use Rattle.fitting.proofs.SearchLaws.{hunting-start, hunting-at, hunting-past, hunting-barren, hunting-located}
use Rattle.fitting.proofs.SearchLaws.{hunting-kept, hunting-again}
use Rattle.fitting.proofs.search.+find.Goals as goal

pub returns-then-left-eq0 : goal.returns-then-left-eq0
returns-then-left-eq0 t c = (seek-done _ _ _ _ _ _ _ c.requires.0 c.if-left-eq0.true, refl)

pub loop-p-init : goal.loop-p-init
loop-p-init t c =
    hunting-start _ _ _ _ _ _ _ _ c.requires.0
    (seek-start _ _ _ _ _ _ _ c.requires.0 c.if-left-eq0.false _ c.requires.1 c.requires.2 _
    c.start-p.ensures)

pub fit_free-requires : goal.fit_free-requires
fit_free-requires t c =
    let left' = c.if-left-eq0.false in
    let inv =
    hunting-past _ _ _ _ _ _ _ _ _ _ c.loop-p.invariant left' _ _ _ c.wanted-one.ensures c.wanted-two.ensures
    c.seek-p.ensures in
    seek-rows _ _ _ _ _ _ _ c.loop-p.invariant.seeking left' _ inv.sought c.if-p-m.true

pub returns-then-left-eq1 : goal.returns-then-left-eq1
returns-then-left-eq1 t c =
    let left' = c.if-left-eq0.false in
    let inv =
    hunting-past _ _ _ _ _ _ _ _ _ _ c.loop-p.invariant left' _ _ _ c.wanted-one.ensures c.wanted-two.ensures
    c.seek-p.ensures in (
      hunting-located _ _ _ _ _ _ _ _ _ _ inv _ _ _
          (seek-fits _ _ _ _ _ _ _ inv.seeking left' _ inv.sought c.if-p-m.true _ _
          c.fit_free.ensures c.if-fit_free.true c.if-left-eq1.true) _ refl,
      hunting-kept _ _ _ _ _ _ _ _ _ _ inv left' _ _ refl,
    )

pub find-requires : goal.find-requires
find-requires t c =
    let left' = c.if-left-eq0.false in
    let inv =
    hunting-past _ _ _ _ _ _ _ _ _ _ c.loop-p.invariant left' _ _ _ c.wanted-one.ensures c.wanted-two.ensures
    c.seek-p.ensures in (
      omega (arith, c.decreases, left'),
      (
        seek-next _ _ _ _ _ _ _ inv.seeking left' _ _ c.fit_free.ensures.size,
        seek-since _ _ _ _ _ _ _ inv.seeking left' _ inv.sought c.if-p-m.true _ _ c.fit_free.ensures
            c.if-fit_free.true _ (hunting-barren _ _ _ _ _ _ _ _ _ _ inv _ _ _ c.requires.1) _
            c.still-since.ensures,
        since-few _ _ _ _ c.requires.2 c.still-since.ensures,
      ),
    )

pub returns-then-find : goal.returns-then-find
returns-then-find t c =
    let left' = c.if-left-eq0.false in
    let inv =
    hunting-past _ _ _ _ _ _ _ _ _ _ c.loop-p.invariant left' _ _ _ c.wanted-one.ensures c.wanted-two.ensures
    c.seek-p.ensures in (
      hunting-located _ _ _ _ _ _ _ _ _ _ inv _ _ _
          (seek_found _ _ _ _ _ _ _ inv.seeking left' _ inv.sought c.if-p-m.true _ _
          c.fit_free.ensures c.if-fit_free.true _ _ _ c.find.ensures.0 c.if-find.true)
          _ c.if-find.true,
      hunting-kept _ _ _ _ _ _ _ _ _ _ inv left' _ _ c.find.ensures.1,
    )

pub loop-p-preserved-else-find : goal.loop-p-preserved-else-find
loop-p-preserved-else-find t c =
    let left' = c.if-left-eq0.false in
    let inv =
    hunting-past _ _ _ _ _ _ _ _ _ _ c.loop-p.invariant left' _ _ _ c.wanted-one.ensures c.wanted-two.ensures
    c.seek-p.ensures in
    hunting-again _ _ _ _ _ _ _ _ _ _ inv left' _ _ c.find.ensures.1 c.find.ensures.0.positions-size _
    (seek-dead _ _ _ _ _ _ _ inv.seeking left' _ inv.sought c.if-p-m.true _ _
    c.fit_free.ensures c.if-fit_free.true _ _ _ c.find.ensures.0 c.if-find.false)

pub loop-p-preserved-else-fit_free : goal.loop-p-preserved-else-fit_free
loop-p-preserved-else-fit_free t c =
    let left' = c.if-left-eq0.false in
    let inv =
    hunting-past _ _ _ _ _ _ _ _ _ _ c.loop-p.invariant left' _ _ _ c.wanted-one.ensures c.wanted-two.ensures
    c.seek-p.ensures in
    hunting-at _ _ _ _ _ _ _ _ _ _ inv _
    (seek-misfit _ _ _ _ _ _ _ inv.seeking left' _ inv.sought c.if-p-m.true _ _
    c.fit_free.ensures c.if-fit_free.false)

pub loop-p-preserved : goal.loop-p-preserved
loop-p-preserved t c =
    hunting-past _ _ _ _ _ _ _ _ _ _ c.loop-p.invariant c.if-left-eq0.false _ _ _ c.wanted-one.ensures
    c.wanted-two.ensures c.seek-p.ensures

pub returns : goal.returns
returns t c =
    let inv = c.loop-p.invariant in (
      hunting-located _ _ _ _ _ _ _ _ _ _ inv _ _ _
          (seek-none _ _ _ _ _ _ _ inv.seeking c.if-left-eq0.false _ inv.sought c.loop-p-test.false)
          _ refl,
      inv.kept,
    )
