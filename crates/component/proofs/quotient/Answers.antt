-- The single nearest to a product that is exact is the product, at a power of two that `power` gives.
use mathlib.Core.Path.{sym, subst}
use Prim.Native.Nat.{◌%◌}
use native.Mathlib.Nat.{mod-lt}
use native.Mathlib.Omega.{arith}
use lib.Dec.{lit<}
use lib.IntN.{ℤ}
use lib.Ieee.{binary32, mul, of_int}
use mir.Syntax.{w32}
use mir.ValLaws.{to_z-of_z}
use Rattle.component.specs.Component.{Quotient}
use Rattle.component.proofs.Exactly.{quotient}
use Rattle.component.proofs.quotient.Goals as goal

pub returns : goal.returns
returns c =
    let n = c.args.n in
    let s = c.args.shift % 32 in
    subst (λ (z : ℤ). Quotient n s (mul binary32 (of_int binary32 z) c.power.result)) (sym (to_z-of_z w32 n c.ranges.n))
    (quotient n s c.power.result (omega (arith, c.requires)) (mod-lt c.args.shift (lit< tt)) c.power.ensures)
