-- `loading::take_bp` meets its contract: after so many turns that many loads led from the first place to this one.
use Prim.Native.Nat.{◌≤◌}
use lib.ListN.{length}
use Rattle.walk.specs.Moves.{MovesBp}
use Rattle.loading.proofs.take_bp.Given as goal

abbrev pub invariant-loop-units : goal.invariant-loop-units
invariant-loop-units l = ((l.from ≤ l.at) × (l.at ≤ length l.bytes)) × MovesBp l.bytes l.from l.initial.bp l.most l.units l.at l.bp
