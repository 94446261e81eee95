-- One computed test over the 32 shifts: the pattern (127 - s) * 2 ^ 23 is 2 ^ -s.
use Prim.Native.Nat.{◌%◌}
use native.Mathlib.Nat.{mod-lt}
use native.Mathlib.Omega.{arith}
use lib.Dec.{lit<}
use Rattle.component.proofs.TwoTo.{pattern}
use Rattle.component.proofs.NotNan.{not_nan}
use Rattle.component.proofs.power.Goals as goal

pub float_from_bits-result : goal.float_from_bits-result
float_from_bits-result c = not_nan _ (omega arith)

pub returns : goal.returns
returns c = pattern (c.args.shift % 32) (mod-lt c.args.shift (lit< tt))
