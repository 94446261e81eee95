-- `bulk::take_class` meets its contract: each arm is the law of its class.
use Rattle.walk.proofs.Walks.{moves_none, moves_most}
use Rattle.plain.proofs.Idle.{moves_byte, moves_indexed, moves_call}
use Rattle.bulk.proofs.Classes.{closed_any}
use Rattle.bulk.proofs.straight.take_class.Goals as goal

pub returns-in-97 : goal.returns-in-97
returns-in-97 c =
    closed_any c.from.ensures (c.take_bp.ensures.any _ _ _) c.requires.1.1

pub returns-in-0 : goal.returns-in-0
returns-in-0 c =
    closed_any c.from-in-0.ensures (c.take_zeros.ensures.any _ _ _ _) c.requires.1.1

pub returns-in-8 : goal.returns-in-8
returns-in-8 c = closed_any c.from-in-8.ensures (c.take_cp.ensures.any _ _ _) c.take_cp.ensures.known

pub returns-in-16 : goal.returns-in-16
returns-in-16 c =
    closed_any c.from-in-16.ensures (c.take_xf.ensures.any _ _ _) c.requires.1.1

pub returns-in-72 : goal.returns-in-72
returns-in-72 c =
    let p = c.requires in
    closed_any c.from-in-72.ensures (moves_most 1 _ p.1.0 ((moves_byte c.take_fixed.ensures
    c.in-72.is).any _ _ _ _))
    p.1.1

pub returns-in-32 : goal.returns-in-32
returns-in-32 c =
    let p = c.requires in
    closed_any c.from-in-32.ensures (moves_most 1 _ p.1.0 ((moves_indexed c.take_fixed-in-32.ensures
    c.in-32.is).any _ _ _ _))
    p.1.1

pub returns-in-64 : goal.returns-in-64
returns-in-64 c =
    let p = c.requires in
    closed_any c.from-in-64.ensures (moves_most 1 _ p.1.0 ((moves_call c.take_fixed-in-64.ensures
    c.in-64.is).any _ _ _ _))
    p.1.1

pub returns-in-128-to-191 : goal.returns-in-128-to-191
returns-in-128-to-191 c =
    let d = c.take_draw.ensures in
    (record { moves = d.0.any _ _; known = d.0.known }, d.1)

pub returns-in_default : goal.returns-in_default
returns-in_default c = closed_any c.from-in_default.ensures moves_none c.requires.1.1
