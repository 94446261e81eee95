-- Facts on a component's bytes, for every format.
use Prim.Native.Nat.{ℕ, zero, suc, ◌^◌, ◌≤◌, ◌<◌}
use mathlib.Core.Path.{◌≡◌, refl}
use native.Mathlib.Omega.{arith}
use lib.Dec.{lit≤}
use Rattle.component.specs.Component.{width_of}

-- a component has at most 4 bytes
pub width_le : (f : ℕ) → width_of f ≤ 4
width_le zero = lit≤ tt
width_le (suc zero) = lit≤ tt
width_le (suc (suc zero)) = lit≤ tt
width_le (suc (suc (suc zero))) = lit≤ tt
width_le (suc (suc (suc (suc n)))) = lit≤ tt

-- and at least one
pub width_some : (f : ℕ) → 1 ≤ width_of f
width_some zero = lit≤ tt
width_some (suc zero) = lit≤ tt
width_some (suc (suc zero)) = lit≤ tt
width_some (suc (suc (suc zero))) = lit≤ tt
width_some (suc (suc (suc (suc n)))) = lit≤ tt

-- formats from 4 on have 4
pub width_single : (f : ℕ) → 4 ≤ f → width_of f ≡ 4
width_single zero h = absurd (omega arith)
width_single (suc zero) h = absurd (omega arith)
width_single (suc (suc zero)) h = absurd (omega arith)
width_single (suc (suc (suc zero))) h = absurd (omega arith)
width_single (suc (suc (suc (suc n)))) h = refl

-- an integer component is one of 65,536 patterns or fewer
pub patterns_le : (f : ℕ) → f < 4 → 256 ^ width_of f ≤ 65536
patterns_le zero h = lit≤ tt
patterns_le (suc zero) h = lit≤ tt
patterns_le (suc (suc zero)) h = lit≤ tt
patterns_le (suc (suc (suc zero))) h = lit≤ tt
patterns_le (suc (suc (suc (suc n)))) h = absurd (omega arith)
