-- `bulk::take_straight` meets its contract: the vertices of an open draw, and then the units from there on.
use native.Mathlib.Omega.{arith}
use Rattle.walk.proofs.Walks.{moves_then, moves_many}
use Rattle.bulk.proofs.Told.{told_open}
use Rattle.bulk.proofs.Sizes.{known_none}
use Rattle.bulk.proofs.straight.take_straight.Goals as goal

pub take_open-first-requires : goal.take_open-first-requires
take_open-first-requires c = known_none _

pub returns-in_default : goal.returns-in_default
returns-in_default c = let e = c.take_open-first.ensures in
    (moves_many (e.0.any _ _), told_open e.1 c.in_default.is)

pub overflow_sub-limit : goal.overflow_sub-limit
overflow_sub-limit c =
    let a = c.args in
    (c.take_open-first.ensures.0.any a.bp.now a.xf.now).within

pub take_shut-next-requires : goal.take_shut-next-requires
take_shut-next-requires c =
    let a = c.args in
    let e = c.take_open-first.ensures.0 in
    ((e.any a.bp.now a.xf.now).inside (omega arith), e.known)

pub overflow_add-result : goal.overflow_add-result
overflow_add-result c =
    let w = c.take_open-first.ensures.0.any c.args.bp.now c.args.xf.now in
    omega (arith, c.ranges.limit, c.take_shut-next.ensures.0.within, w.within)

pub returns : goal.returns
returns c =
    let a = c.args in
    let w = c.take_open-first.ensures.0.any a.bp.now a.xf.now in
    let t = c.take_shut-next.ensures in
    let first = rw c.in-Closed.is at w in
    (moves_many (moves_then first t.0 (omega (arith, w.within))), t.1)
