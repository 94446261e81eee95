-- `bulk::take_cp` meets its contract: after so many turns that many loads led from the first place to this one.
use Prim.Native.Nat.{◌≤◌}
use lib.ListN.{length}
use Rattle.bulk.specs.Inner.{MovesCp}
use Rattle.bulk.proofs.loads.take_cp.Given as goal

abbrev pub invariant-loop-units : goal.invariant-loop-units
invariant-loop-units l = (l.at ≤ length l.bytes) × MovesCp l.bytes l.from l.initial.cp l.most l.units l.at l.cp l.sizes
