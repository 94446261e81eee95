-- The number that a mode is named by.
use mathlib.Core.Path.{◌≡◌, refl}
use Prim.Native.Nat.{ℕ, zero, suc, ◌-◌, ◌≤◌}
use native.Mathlib.Omega.{arith}
use Rattle.fields.specs.declared.Mode.TheVariants.{Absent, Direct}
use Rattle.fields.specs.Fields.{mode_named, index_bytes}

pub absent_is : (m : ℕ) → mode_named m ≡ Absent → m ≡ 0
absent_is zero e = refl
absent_is (suc zero) e = cc
absent_is (suc (suc zero)) e = cc
absent_is (suc (suc (suc n))) e = cc

pub direct_is : (m : ℕ) → mode_named m ≡ Direct → m ≡ 1
direct_is zero e = cc
direct_is (suc zero) e = refl
direct_is (suc (suc zero)) e = cc
direct_is (suc (suc (suc n))) e = cc

-- the bytes of an index, of a mode's number
pub width_is : (m : ℕ) → m ≤ 3 → index_bytes (mode_named m) ≡ m - 1
width_is zero h = refl
width_is (suc zero) h = refl
width_is (suc (suc zero)) h = refl
width_is (suc (suc (suc zero))) h = refl
width_is (suc (suc (suc (suc n)))) h = absurd (omega arith)
