-- `bulk::take_shut` meets its contract: after so many turns that many units led from the first place to this one.
use Prim.Native.Nat.{◌-◌, ◌≤◌}
use lib.ListN.{length}
use Rattle.walk.specs.Moves.{Moves, shut}
use Rattle.bulk.specs.Inner.{Known}
use Rattle.bulk.proofs.straight.take_shut.Given as goal

abbrev pub invariant-loop-units : goal.invariant-loop-units
invariant-loop-units l =
    let f = l.initial in
    (l.at ≤ length l.bytes) × ((l.units ≤ l.limit) × (Known l.cp l.sizes
    × Moves l.bytes l.from (shut f.cp f.bp f.xf f.buffer) l.limit l.units l.at (shut l.cp l.bp l.xf l.buffer)))

abbrev pub decreases-loop-units : goal.decreases-loop-units
decreases-loop-units l = l.limit - l.units
