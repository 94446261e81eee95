-- A number's third and fourth byte from the end, as std writes them.
use mathlib.Core.Path.{◌≡◌}
use Prim.Native.Nat.{ℕ, ◌/◌}
use native.Mathlib.Omega.{arith}

pub second_byte : (n : ℕ) → n / 65536 ≡ n / 256 / 256
second_byte n = omega arith

pub third_byte : (n : ℕ) → n / 16777216 ≡ n / 256 / 256 / 256
third_byte n = omega arith
