-- The bits of a number.
use Rattle.std.specs.Prelude.{Bool, true, false, not, ℕ, zero, suc, ◌/◌, ◌%◌, ◌^◌}

-- a binary digit as a test
abbrev pub is_one : ℕ → Bool
is_one zero = false
is_one (suc n) = true

-- whether bit k of a number is set, the lowest being bit 0
unfoldable pub bit : ℕ → ℕ → Bool
bit k n = is_one (n / 2 ^ k % 2)

-- whether two tests differ
abbrev pub differs : Bool → Bool → Bool
differs true b = not b
differs false b = b
