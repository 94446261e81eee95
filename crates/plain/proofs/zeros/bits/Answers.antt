-- `plain::bits` meets its contract: where the bits so far are none, each of the bytes so far is zero.
use borrow.Author.Count.{below_more}
use Rattle.plain.proofs.Idle.{or_zero}
use Rattle.plain.proofs.zeros.bits.Goals as goal

pub loop-byte-preserved : goal.loop-byte-preserved
loop-byte-preserved c = λ e. let z = or_zero _ _ e in below_more _ _ (c.loop-byte.invariant z.0) z.1
