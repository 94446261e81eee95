-- What a component is, over all formats: exact in each integer format, and its own pattern in f32.
use mathlib.Core.Path.{◌≡◌, refl, sym, ap, ◌∙◌, subst}
use mathlib.Core.Bool.{Bool, not}
use Prim.Native.Nat.{ℕ, zero, suc, ◌%◌, ◌^◌, ◌<◌, ◌≤◌}
use native.Mathlib.Nat.{mod-lt, lt_of_le_of_lt, mod-eq_of_lt}
use native.Mathlib.Omega.{arith}
use lib.Dec.{T, eqb, lit<}
use lib.Ieee.{Float, nan, inf, fin, binary32, is_nan, of_bits, to_bits, nan_bits}
use lib.Ieee.Bits.{nan_bits_is, to_bits-of_bits}
use borrow.Author.Tests.{lt-ltb, le-ltb}
use Rattle.component.specs.Single as S
use Rattle.component.specs.Single.{Exact}
use Rattle.component.specs.Component.{width_of, pattern_of, integer_of, quotient_of, component_of, Decoded, Quotient}
use Rattle.component.proofs.Widths.{patterns_le, width_single}
use Rattle.component.proofs.Complement.{number_le}
use Rattle.component.proofs.Exactly.{exact}

some : (w : ℕ) → 0 < 256 ^ w
some zero = lit< tt
some (suc w) = omega (arith, some w)

-- the definition, in an integer format and in f32
pub component_integer : (f raw s : ℕ) → f < 4 → component_of f raw s ≡ quotient_of (integer_of f raw) (s % 32)
unfolding component_of
component_integer f raw s h = rw (lt-ltb f 4 h)

pub component_single : (f raw s : ℕ) → 4 ≤ f → component_of f raw s ≡ of_bits binary32 (pattern_of f raw)
unfolding component_of
component_single f raw s h = rw (le-ltb f 4 h)

-- an integer component has at most 24 bits, whatever its width and sign
integer_small : (f raw : ℕ) → f < 4 → S.size (integer_of f raw) < 2 ^ 24
integer_small f raw h =
    lt_of_le_of_lt (number_le (eqb (f % 2) 1) (256 ^ width_of f) (pattern_of f raw) (mod-lt raw (some (width_of f))))
    (lt_of_le_of_lt (patterns_le f h) (lit< tt))

-- every integer component is exact
pub component_exact : (f raw s : ℕ) → f < 4 → Exact (integer_of f raw) (s % 32) (to_bits binary32 (component_of f raw s))
component_exact f raw s h =
    subst (λ (x : Float). Exact (integer_of f raw) (s % 32) (to_bits binary32 x)) (sym (component_integer f raw s h))
    (exact (integer_of f raw) (s % 32) (integer_small f raw h) (mod-lt s (lit< tt)))

-- a single keeps every pattern of 32 bits that is no NaN's
pub kept_bits : (b : ℕ) → b < 4294967296 → T (not (nan_bits binary32 b)) → to_bits binary32 (of_bits binary32 b) ≡ b
kept_bits b h n = to_bits-of_bits binary32 b h (subst (λ (t : Bool). T (not t)) (nan_bits_is binary32 b) n)

only_nan : (x : Float) → T (is_nan x) → x ≡ nan
unfolding is_nan
only_nan nan e = refl
only_nan (inf s) e = absurd e
only_nan (fin s m e') e = absurd e

-- and is the NaN for each pattern of one
pub nan_bits_lem : (b : ℕ) → T (nan_bits binary32 b) → of_bits binary32 b ≡ nan
nan_bits_lem b n = only_nan (of_bits binary32 b) (subst T (nan_bits_is binary32 b) n)

single_lt : (f raw : ℕ) → 4 ≤ f → pattern_of f raw < 4294967296
single_lt f raw h = subst (λ (w : ℕ). raw % 256 ^ w < 4294967296) (sym (width_single f h)) (mod-lt raw (lit< tt))

-- so all that is promised of a component follows from which single it is
pub decoded : (f raw s : ℕ) {r : Float} → r ≡ component_of f raw s → Decoded f raw s r
decoded f raw s {r} e = record {
  is = e;
  exact = λ h. subst (λ (x : Float). Exact (integer_of f raw) (s % 32) (to_bits binary32 x)) (sym e) (component_exact f raw s h);
  kept = λ h n. ap (λ (x : Float). to_bits binary32 x) (e ∙ component_single f raw s h) ∙ kept_bits (pattern_of f raw)
      (single_lt f raw h) n;
  nan_is = λ h n. e ∙ component_single f raw s h ∙ nan_bits_lem (pattern_of f raw) n;
}

-- a component of the integer format k, from its integer
pub of_integer : (f raw s : ℕ) {r : Float} (k : ℕ) → f ≡ k → k < 4 → Quotient (integer_of k raw) (s % 32) r → Decoded f raw s r
of_integer f raw s {r} k e l h =
    subst (λ (x : ℕ). Decoded x raw s r) (sym e) (decoded k raw s (h.is ∙ sym (component_integer k raw s l)))

-- a component in f32, of a raw number of 32 bits
pub of_single : (f raw s : ℕ) {r : Float} → 4 ≤ f → raw < 4294967296 → r ≡ of_bits binary32 raw → Decoded f raw s r
of_single f raw s {r} h l e =
    decoded f raw s (e ∙ ap (λ (b : ℕ). of_bits binary32 b) (sym whole) ∙ sym (component_single f raw s h))
  where
    whole : pattern_of f raw ≡ raw
    whole = subst (λ (w : ℕ). raw % 256 ^ w ≡ raw) (sym (width_single f h)) (mod-eq_of_lt l)
