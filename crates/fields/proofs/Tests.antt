-- What the definitions say at each branch of the code.
use mathlib.Core.Path.{◌≡◌, refl}
use Prim.Native.Nat.{ℕ, zero, suc, ◌≤◌}
use native.Mathlib.Omega.{arith}
use Rattle.fields.specs.Fields.{normal_bits}
use Rattle.fields.specs.Components.{colour_width}

-- a colour of format 5 or above
pub colour_wide : (f : ℕ) → 5 ≤ f → 4 ≡ colour_width f
colour_wide zero h = absurd (omega arith)
colour_wide (suc zero) h = absurd (omega arith)
colour_wide (suc (suc zero)) h = absurd (omega arith)
colour_wide (suc (suc (suc zero))) h = absurd (omega arith)
colour_wide (suc (suc (suc (suc zero)))) h = absurd (omega arith)
colour_wide (suc (suc (suc (suc (suc n))))) h = refl

pub normal_none : (f : ℕ) → 4 ≤ f → 0 ≡ normal_bits f
normal_none zero h = absurd (omega arith)
normal_none (suc zero) h = absurd (omega arith)
normal_none (suc (suc zero)) h = absurd (omega arith)
normal_none (suc (suc (suc zero))) h = absurd (omega arith)
normal_none (suc (suc (suc (suc n)))) h = refl
