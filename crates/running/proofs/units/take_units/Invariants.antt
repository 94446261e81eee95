-- `running::units::take_units` meets its contract: the whole run is the units taken and the run from here.
use Prim.Native.Nat.{◌-◌}
use Rattle.running.proofs.Course.{Course}
use Rattle.machine.specs.State.{state_of}
use Rattle.running.proofs.units.take_units.Given as goal

abbrev pub invariant-loop-units : goal.invariant-loop-units
invariant-loop-units l =
    Course l.ring l.limit (state_of l.fifo l.initial.cp l.initial.bp l.initial.draw l.initial.xf l.initial.buffer)
    l.cursor l.cp l.bp l.draw l.xf l.buffer l.units

abbrev pub decreases-loop-units : goal.decreases-loop-units
decreases-loop-units l = l.limit - l.units
