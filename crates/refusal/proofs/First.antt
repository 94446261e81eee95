-- The first of two refusals.
use mathlib.Core.Path.{◌≡◌, refl}
use Prim.Native.Nat.{ℕ, zero, suc, ◌≤◌}
use native.Mathlib.Omega.{arith}
use Rattle.refusal.specs.Number.{or_else}

-- a refusal comes before another
pub or_some : (f g : ℕ) → 1 ≤ f → or_else f g ≡ f
or_some zero g h = absurd (omega arith)
or_some (suc f) g h = refl

-- where there is none, neither of the two is one
pub or_zero : (f g : ℕ) → or_else f g ≡ 0 → (f ≡ 0) × (g ≡ 0)
or_zero zero g e = (refl, e)
or_zero (suc f) g e = absurd (omega arith)
