-- `execution::store_xf` meets its contract: after so many words, four at a time and then one, these are stored.
use native.Mathlib.Omega.{arith}
use Rattle.execution.proofs.Four.{four_more}
use Rattle.execution.proofs.store_xf.Goals as goal

pub loop-four-preserved : goal.loop-four-preserved
loop-four-preserved c = four_more _ _ _ _ c.loop-four.invariant c.store_four.ensures (omega arith)
