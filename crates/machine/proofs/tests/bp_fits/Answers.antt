-- `machine::tests::bp_fits` meets its contract: all of them are joined.
use mathlib.Core.Path.{sym, ap, ◌∙◌}
use Prim.Native.Nat.{◌^◌}
use native.Mathlib.Omega.{arith}
use native.Mathlib.Nat.{le_of_eq}
use lib.ListN.{take}
use lib.Seq.{take_all, length-take-le}
use Rattle.machine.specs.Gate.{all_below, bp_fits}
use Rattle.machine.proofs.Below.{joined_below}
use Rattle.machine.proofs.tests.bp_fits.Goals as goal

pub slice_bounds-join-end : goal.slice_bounds-join-end
slice_bounds-join-end c = sym (length-take-le 256 _ (omega arith))

pub returns-then-bp-eq256 : goal.returns-then-bp-eq256
unfolding bp_fits
returns-then-bp-eq256 c =
    joined_below 24 (take 256 c.args.bp.now) c.join.ensures ∙ ap (all_below (2 ^ 24)) (take_all 256 _ (le_of_eq c.if-bp-eq256.true))

pub returns : goal.returns
unfolding bp_fits
returns c = joined_below 24 c.args.bp.now c.join-2.ensures
