-- "Component formats 0 to 4 have 1, 1, 2, 2, 4 bytes (u8, s8, u16, s16, f32)":
-- a component's bytes, its integer, and the single it decodes to.
use Rattle.std.specs.Prelude.{◌≡◌, Bool, true, false, not, cond, ℕ, zero, suc, ◌-◌, ◌*◌, ◌%◌, ◌^◌, ◌<◌, ◌≤◌, ℤ, pos, negsuc, T, ltb, eqb, Float}
use Rattle.std.specs.Float.{nan, fin, binary32}
use Rattle.std.specs.Float.Ieee.{minus, round, to_bits, of_bits, nan_bits}
use Rattle.component.specs.Single.{negative, size, Exact}

-- the bytes of a component; formats above 4, which no accepted layout has, count as f32
abbrev pub width_of : ℕ → ℕ
width_of zero = 1
width_of (suc zero) = 1
width_of (suc (suc zero)) = 2
width_of (suc (suc (suc zero))) = 2
width_of (suc (suc (suc (suc n)))) = 4

-- what the bytes of a component hold: a raw number modulo the format's width
abbrev pub pattern_of : ℕ → ℕ → ℕ
pattern_of format raw = raw % 256 ^ width_of format

-- the two's complement number of pattern p, one of m: from the half on p - m
abbrev pub signed_of : ℕ → ℕ → ℤ
signed_of m p = cond (ltb (2 * p) m) (pos p) (negsuc (m - suc p))

-- the number of pattern p, one of m, in a signed or an unsigned format
abbrev pub number_of : Bool → ℕ → ℕ → ℤ
number_of true m p = signed_of m p
number_of false m p = pos p

-- the integer of a component: formats 1 and 3 are signed, 0 and 2 are not
abbrev pub integer_of : ℕ → ℕ → ℤ
integer_of format raw = number_of (eqb (format % 2) 1) (256 ^ width_of format) (pattern_of format raw)

-- 2 ^ -s
abbrev pub two_to : ℕ → Float
two_to s = fin false 1 (minus 0 s)

-- the single nearest to z / 2 ^ s; that nothing is rounded, `Exact` says
abbrev pub quotient_of : ℤ → ℕ → Float
quotient_of z s = round binary32 (negative z) (size z) (2 ^ s)

-- "An integer component n with shift s is exactly n / 2^s"; "f32 keeps its bits." A shift counts modulo 32
unfoldable pub component_of : ℕ → ℕ → ℕ → Float
component_of format raw s = cond (ltb format 4) (quotient_of (integer_of format raw) (s % 32)) (of_bits binary32 (pattern_of format raw))

-- what a product of an integer and a power of two promises: which single it is, and that it is exact
pub record Quotient (z : ℤ) (s : ℕ) (r : Float) : Type 0 where
  pub is : r ≡ quotient_of z s
  pub exact : Exact z s (to_bits binary32 r)

-- what a component r promises: which single it is; in an integer format that it is exact;
-- in f32 that it keeps every pattern but a NaN's, and is a NaN for those
pub record Decoded (format raw s : ℕ) (r : Float) : Type 0 where
  pub is : r ≡ component_of format raw s
  pub exact : format < 4 → Exact (integer_of format raw) (s % 32) (to_bits binary32 r)
  pub kept : 4 ≤ format → T (not (nan_bits binary32 (pattern_of format raw))) → to_bits binary32 r ≡ pattern_of format raw
  pub nan_is : 4 ≤ format → T (nan_bits binary32 (pattern_of format raw)) → r ≡ nan
