-- `running::units::take_units` meets its contract: the whole run is the units taken and the run from here.
use mathlib.Core.Path.{ap}
use native.Mathlib.Omega.{arith}
use Rattle.running.proofs.Course.{course_begins, course_goes, course_stops, course_ends, not_unit}
use Rattle.running.proofs.Stretched.{course_stretch, takes_course}
use Rattle.machine.specs.State.{state_of}
use Rattle.unit.specs.Answers.{meaning}
use Rattle.running.proofs.units.take_units.Goals as goal

pub loop-units-init : goal.loop-units-init
loop-units-init c =
    let a = c.args in
    course_begins a.ring.now a.limit (state_of a.fifo a.cp.now a.bp.now a.first a.xf.now a.buffer.now) c.requires c.open-cursor.ensures

pub overflow_sub-limit : goal.overflow_sub-limit
overflow_sub-limit c = c.loop-units.invariant.within

pub overflow_add-units : goal.overflow_add-units
overflow_add-units c =
    omega (arith, c.take_stretch-ahead.ensures.0.taken.within, c.loop-units.invariant.within, c.ranges.limit)

pub returns-then-limit-units : goal.returns-then-limit-units
returns-then-limit-units c =
    course_ends c.requires
    (course_stretch _ (λ k. (c.type_inv.ring k).fits) c.loop-units.invariant c.take_stretch-ahead.ensures.0
    (omega (arith, c.loop-units.invariant.within)))
    c.if-limit-units.true c.close.ensures

pub take_next-moved-requires : goal.take_next-moved-requires
take_next-moved-requires c = c.take_stretch-ahead.ensures.1

pub returns-in_default : goal.returns-in_default
returns-in_default c =
    let gone = course_stretch _ (λ k. (c.type_inv.ring k).fits) c.loop-units.invariant c.take_stretch-ahead.ensures.0
    (omega (arith, c.loop-units.invariant.within)) in
    course_stops _ (λ k. (c.type_inv.ring k).fits) gone c.if-limit-units.false (takes_course gone c.take_next-moved.ensures)
    (not_unit _ c.in_default.not-Done) c.stop_for.ensures c.close-in_default.ensures c.requires

pub overflow_add-units-in-loop-units : goal.overflow_add-units-in-loop-units
overflow_add-units-in-loop-units c = omega (arith, c.if-limit-units.false, c.ranges.limit)

pub loop-units-smaller : goal.loop-units-smaller
loop-units-smaller c = omega (arith, c.take_stretch-ahead.ensures.0.taken.within, c.if-limit-units.false)

pub loop-units-preserved : goal.loop-units-preserved
loop-units-preserved c =
    let gone = course_stretch _ (λ k. (c.type_inv.ring k).fits) c.loop-units.invariant c.take_stretch-ahead.ensures.0
    (omega (arith, c.loop-units.invariant.within)) in
    course_goes _ (λ k. (c.type_inv.ring k).fits) gone c.if-limit-units.false (takes_course gone c.take_next-moved.ensures)
    _ _ _ (ap meaning c.in-Done.is)
