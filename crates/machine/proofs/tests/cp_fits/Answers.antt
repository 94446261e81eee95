-- `machine::tests::cp_fits` meets its contract: the two tests are the definition's.
use mathlib.Core.Bool.{◌&&◌}
use Rattle.machine.specs.Gate.{bases_of, strides_of, cp_fits}
use Rattle.machine.proofs.Below.{joined_below}
use Rattle.machine.proofs.tests.cp_fits.Goals as goal

pub returns : goal.returns
unfolding cp_fits
returns c = λ i. joined_below 26 (bases_of c.args.cp.now) c.join.ensures i && joined_below 8 (strides_of c.args.cp.now) c.join-2.ensures i
