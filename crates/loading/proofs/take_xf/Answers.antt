-- `loading::take_xf` meets its contract: each turn's load goes on where the last one ended.
use native.Mathlib.Nat.{add-zero}
use Rattle.loading.proofs.Stored.{xf_then}
use Rattle.loading.proofs.take_xf.Goals as goal

pub returns-in_default : goal.returns-in_default
returns-in_default c = rw add-zero at (xf_then c.loop-units.invariant c.in_default.ensures c.loop-units-test.true)

pub loop-units-preserved : goal.loop-units-preserved
loop-units-preserved c = xf_then c.loop-units.invariant c.in-Some.ensures c.loop-units-test.true
