-- `bulk::take_shut` meets its contract: after so many turns that many units led from the first place to this one.
use native.Mathlib.Omega.{arith}
use Rattle.walk.proofs.Walks.{moves_none, moves_then}
use Rattle.bulk.proofs.Told.{told_open}
use Rattle.bulk.proofs.Classes.{closed_moves}
use Rattle.bulk.proofs.straight.take_shut.Goals as goal

pub loop-units-init : goal.loop-units-init
loop-units-init c =
    (c.requires.0, (omega arith, (c.requires.1, moves_none)))

pub returns-then-bytes-at : goal.returns-then-bytes-at
returns-then-bytes-at c = closed_moves c.from.ensures c.loop-units.invariant.1.1.1

pub take_class-many-requires : goal.take_class-many-requires
take_class-many-requires c =
    (omega arith, (omega arith, c.loop-units.invariant.1.1.0))

pub overflow_add-units : goal.overflow_add-units
overflow_add-units c =
    let m = c.take_class-many.ensures.0.moves in
    omega (arith, m.within, c.loop-units.invariant.1.0, c.ranges.limit)

pub returns-in_default : goal.returns-in_default
returns-in_default c =
    let l = c.loop-units.invariant in
    let e = c.take_class-many.ensures in
    (moves_then l.1.1.1 e.0.moves (omega arith), told_open e.1 c.in_default.is)

pub returns-then-many-eq0 : goal.returns-then-many-eq0
returns-then-many-eq0 c =
    let l = c.loop-units.invariant in
    let m = c.take_class-many.ensures.0.moves in
    closed_moves c.from-then-many-eq0.ensures (moves_then l.1.1.1 (rw c.in-Closed.is at m) (omega arith))

pub loop-units-smaller : goal.loop-units-smaller
loop-units-smaller c =
    omega (arith, c.take_class-many.ensures.0.moves.within)

pub loop-units-preserved : goal.loop-units-preserved
loop-units-preserved c =
    let l = c.loop-units.invariant in
    let e = c.take_class-many.ensures.0 in
    let m = e.moves in
    let next = moves_then l.1.1.1 (rw c.in-Closed.is at m) (omega arith) in
    (m.inside l.0, (omega (arith, m.within), (e.known, next)))

pub returns : goal.returns
returns c = closed_moves c.from-2.ensures c.loop-units.invariant.1.1.1
