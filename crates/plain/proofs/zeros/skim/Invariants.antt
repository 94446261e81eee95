-- `plain::skim` meets its contract: zeros up to this place, and so many more where the bits of all of them are none.
use Prim.Native.Nat.{◌-◌}
use Rattle.plain.specs.Inner.{Zeros}
use Rattle.plain.proofs.zeros.skim.Given as goal

abbrev pub invariant-loop-at : goal.invariant-loop-at
invariant-loop-at l = Zeros l.bytes l.from l.end l.at

abbrev pub decreases-loop-at : goal.decreases-loop-at
decreases-loop-at l = l.end - l.at
