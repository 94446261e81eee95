-- `Pending::gather` meets its contract: after k bytes the first k stand.
use native.Mathlib.Omega.{arith}
use Rattle.laws.proofs.Filled.{fill_none, fill_next, fill_all}
use Rattle.reading.proofs.Pending.gather.Goals as goal

pub loop-k-init : goal.loop-k-init
loop-k-init c = fill_none _ c.args.out.now

pub loop-k-preserved : goal.loop-k-preserved
loop-k-preserved c = fill_next _ _ _ _ (omega arith) c.loop-k.invariant c.byte.ensures

pub returns : goal.returns
returns c = fill_all _ _ _ _ (omega arith) (omega arith) c.loop-k.invariant
