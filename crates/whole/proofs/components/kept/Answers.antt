-- The test is that for a NaN.
use native.Mathlib.Omega.{arith}
use Rattle.whole.proofs.Singles.{nan_told, kept_told}
use Rattle.whole.proofs.components.kept.Goals as goal

pub returns-then-raw-gt2139095040 : goal.returns-then-raw-gt2139095040
returns-then-raw-gt2139095040 c = nan_told _ (omega (arith, c.if-raw-gt2139095040.true))

pub returns-else-raw-gt2139095040 : goal.returns-else-raw-gt2139095040
returns-else-raw-gt2139095040 c = kept_told _ (omega arith) (omega (arith, c.if-raw-gt2139095040.false))
