-- "Exactness is stated over whole numbers read from the result's bits": the fields of a single's 32 bits, and what it is to be exact.
use Rattle.std.specs.Prelude.{◌≡◌, Bool, true, false, cond, ℕ, zero, suc, ◌+◌, ◌*◌, ◌/◌, ◌%◌, ◌^◌, ◌<◌, ℤ, pos, negsuc}

-- bit 31
abbrev pub sign_field : ℕ → ℕ
sign_field b = b / 2 ^ 31

-- bits 23 to 30
abbrev pub exponent_field : ℕ → ℕ
exponent_field b = b / 2 ^ 23 % 256

-- bits 0 to 22
abbrev pub fraction_field : ℕ → ℕ
fraction_field b = b % 2 ^ 23

-- 2 ^ 150 times the magnitude, of an exponent field below 255 and a fraction field: with exponent 0 the fraction alone counts
abbrev pub magnitude_at : ℕ → ℕ → ℕ
magnitude_at zero m = m * 2
magnitude_at (suc e) m = (2 ^ 23 + m) * 2 ^ suc e

-- 2 ^ 150 times the magnitude of a pattern
abbrev pub magnitude : ℕ → ℕ
magnitude b = magnitude_at (exponent_field b) (fraction_field b)

-- whether an integer is below zero
abbrev pub negative : ℤ → Bool
negative (pos n) = false
negative (negsuc n) = true

-- an integer without its sign
abbrev pub size : ℤ → ℕ
size (pos n) = n
size (negsuc n) = suc n

-- "exactly n / 2^s; zero is +0": the pattern b is finite, its sign is z's, and its magnitude times 2 ^ s is z's, nothing rounded
pub record Exact (z : ℤ) (s b : ℕ) : Type 0 where
  pub sign : sign_field b ≡ cond (negative z) 1 0
  pub finite : exponent_field b < 255
  pub value : magnitude b * 2 ^ s ≡ size z * 2 ^ 150
