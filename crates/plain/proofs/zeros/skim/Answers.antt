-- `plain::skim` meets its contract: zeros up to this place, and so many more where the bits of all of them are none.
use native.Mathlib.Omega.{arith}
use Rattle.plain.proofs.Idle.{zeros_more}
use Rattle.plain.proofs.zeros.skim.Goals as goal

pub loop-at-preserved : goal.loop-at-preserved
loop-at-preserved c =
    zeros_more _ _ c.loop-at.invariant (omega arith) (omega arith) (omega arith) c.bits.ensures c.if-bits-ne0.false
