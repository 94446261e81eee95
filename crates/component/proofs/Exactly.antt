-- An integer of at most 24 bits times 2 ^ -s is exact.
use mathlib.Core.Path.{◌≡◌, refl, sym, ap, ◌∙◌, subst}
use mathlib.Core.Bool.{Bool, true, false, cond}
use Prim.Native.Nat.{ℕ, zero, suc, ◌+◌, ◌-◌, ◌*◌, ◌/◌, ◌%◌, ◌^◌, ◌≤◌, ◌<◌, suc-le-suc}
use native.Mathlib.Nat.{mul-one, one-mul, mul_comm, mul_assoc, mul_right_comm, mul_left_comm, mul-pos, mul-div_cancel, le_trans}
use native.Mathlib.Nat.{le_of_eq, le_of_lt, lt_of_lt_of_le, lt_of_not-le, not-le_of_lt, mul-le-mul_right, le-div_iff_mul-le, pow-succ'}
use native.Mathlib.Nat.{zero-mul, zero-lt-suc}
use native.Mathlib.Omega.{arith}
use lib.IntN.{ℤ, pos, negsuc}
use lib.Dec.{lit<}
use lib.Pow.{pow-add, pow_pos, pow_mono, shl_lt}
use lib.Ieee.{Float, nan, inf, fin, Format, binary32, up, down, unlike, size, round, mul, of_int, to_bits}
use lib.Ieee.Digits.{minus_val, size-lt, size-le, size_reaches, back}
use lib.Ieee.Fits.{down_pos, kept-lt}
use lib.Ieee.Exact.{HasValue, round_exact}
use lib.Ieee.Back.{round_whole}
use lib.Ieee.Scale.{round_same}
use Rattle.component.specs.Single as S
use Rattle.component.specs.Single.{negative, magnitude, magnitude_at, exponent_field, sign_field, Exact}
use Rattle.component.specs.Component.{two_to, quotient_of, Quotient}

-- ---- the product, as a rounded fraction

-- the product of a / c and b / d, of any signs, is a * b / (c * d) rounded
mul_values : (f : Format) (x y : Float) (s t : Bool) (a c b d : ℕ) → 0 < c → 0 < d → HasValue x s a c → HasValue y t b d
    → mul f x y ≡ round f (unlike s t) (a * b) (c * d)
unfolding mul
mul_values f nan y s t a c b d C D h k = absurd h
mul_values f (inf u) y s t a c b d C D h k = absurd h
mul_values f (fin u m e) nan s t a c b d C D h k = absurd k
mul_values f (fin u m e) (inf v) s t a c b d C D h k = absurd k
mul_values f (fin u m e) (fin v n g) s t a c b d C D h k =
    ap (λ (w : Bool). round f (unlike w v) (m * up e * (n * up g)) (down e * down g)) h.0
    ∙ ap (λ (w : Bool). round f (unlike s w) (m * up e * (n * up g)) (down e * down g)) k.0
    ∙ round_same f (unlike s t) (m * up e * (n * up g)) (down e * down g) (a * b) (c * d) (mul-pos (down_pos e) (down_pos g))
    (mul-pos C D)
    (four (m * up e) (n * up g) c d ∙ ap (λ (z : ℕ). z * (n * up g * d)) h.1 ∙ ap (λ (z : ℕ). a * down e * z) k.1
    ∙ four a (down e) b (down g))
  where
    four : (p q r z : ℕ) → p * q * (r * z) ≡ p * r * (q * z)
    four p q r z = simp (mul_assoc, mul_left_comm)

two_value : (s : ℕ) → HasValue (two_to s) false 1 (2 ^ s)
two_value s = (refl, minus_val 1 0 s)

unlike_false : (g : Bool) → unlike g false ≡ g
unlike_false true = refl
unlike_false false = refl

pub product : (g : Bool) (n s : ℕ) → n ≤ 2 ^ 24 → mul binary32 (round binary32 g n 1) (two_to s) ≡ round binary32 g n (2 ^ s)
product g n s h =
    mul_values binary32 (round binary32 g n 1) (two_to s) g false n 1 1 (2 ^ s) (lit< tt) (pow_pos s) (round_whole binary32 g n h)
    (two_value s)
    ∙ ap (λ (w : Bool). round binary32 w (n * 1) (1 * 2 ^ s)) (unlike_false g)
    ∙ ap (λ (z : ℕ). round binary32 g z (1 * 2 ^ s)) (mul-one n)
    ∙ ap (λ (z : ℕ). round binary32 g n z) (one-mul (2 ^ s))

pub product_of : (z : ℤ) (s : ℕ) → S.size z ≤ 2 ^ 24 → mul binary32 (of_int binary32 z) (two_to s) ≡ quotient_of z s
unfolding of_int
product_of (pos n) s h = product false n s h
product_of (negsuc n) s h = product true (suc n) s h

-- ---- the bits of a single that is exactly n / 2 ^ s

apart : (s : ℕ) → s < 32 → s + (149 - s) ≡ 149
apart s h = omega arith

-- 2 ^ 149, at the shift
split : (s : ℕ) → s < 32 → 2 ^ s * 2 ^ (149 - s) ≡ 2 ^ 149
split s h = sym (pow-add 2 s (149 - s)) ∙ ap (λ (k : ℕ). 2 ^ k) (apart s h)

-- in units of the smallest single
units_of_lem : (m : ℕ) (e : ℤ) (n s : ℕ) → s < 32 → m * up e * 2 ^ s ≡ n * down e → m * up e * 2 ^ 149 / down e ≡ n * 2 ^ (149 - s)
units_of_lem m e n s S h =
    ap (λ (x : ℕ). m * up e * x / down e) (sym (split s S))
    ∙ ap (λ (x : ℕ). x / down e) (sym (mul_assoc (m * up e) (2 ^ s) (2 ^ (149 - s))) ∙ ap (λ (x : ℕ). x * 2 ^ (149 - s)) h
    ∙ mul_right_comm n (down e) (2 ^ (149 - s)))
    ∙ mul-div_cancel (n * 2 ^ (149 - s)) (down_pos e)

abbrev written : Bool → ℕ → ℕ
written g u = cond g 2147483648 0 + (size u - 24) * 8388608 + u / 2 ^ (size u - 24)

bits_of : (x : Float) (g : Bool) (n s : ℕ) → s < 32 → HasValue x g n (2 ^ s) → to_bits binary32 x ≡ written g (n * 2 ^ (149 - s))
unfolding to_bits
bits_of nan g n s S h = absurd h
bits_of (inf t) g n s S h = absurd h
bits_of (fin t m e) g n s S h = ap (λ (u : ℕ). written t u) (units_of_lem m e n s S h.1)
    ∙ ap (λ (w : Bool). written w (n * 2 ^ (149 - s))) h.0

-- what the fields are, of a sign, a number of dropped digits and the digits kept
sign_of : (g : Bool) (k q : ℕ) → k ≤ 200 → q < 16777216 → (cond g 2147483648 0 + k * 8388608 + q) / 2147483648 ≡ cond g 1 0
sign_of true k q h l = omega arith
sign_of false k q h l = omega arith

exponent_of : (g : Bool) (k q : ℕ) → k ≤ 200 → 8388608 ≤ q → q < 16777216
    → (cond g 2147483648 0 + k * 8388608 + q) / 8388608 % 256 ≡ suc k
exponent_of true k q h d l = omega arith
exponent_of false k q h d l = omega arith

digits_of : (g : Bool) (k q : ℕ) → k ≤ 200 → 8388608 ≤ q → q < 16777216 → 8388608 + (cond g 2147483648 0 + k * 8388608 + q) % 8388608 ≡ q
digits_of true k q h d l = omega arith
digits_of false k q h d l = omega arith

module _ (n s : ℕ) (pos-n : 0 < n) (small : n < 2 ^ 24) (S : s < 32) where
  abbrev j : ℕ
  j = 149 - s

  abbrev u : ℕ
  u = n * 2 ^ j

  abbrev k : ℕ
  k = size u - 24

  size_hi : size u ≤ 24 + j
  size_hi = size-le u (24 + j) (shl_lt 24 j small)

  size_lo : j < size u
  size_lo = lt_of_not-le (λ (g : size u ≤ j). not-le_of_lt (lt_of_lt_of_le (size-lt u) (pow_mono g))
      (le_trans (le_of_eq (sym (one-mul (2 ^ j)))) (mul-le-mul_right (2 ^ j) pos-n)))

  k_le : k ≤ j
  k_le = omega (arith, size_hi)

  -- the digits kept
  digits : (u / 2 ^ k) * 2 ^ k ≡ u
  digits =
      let r = n * 2 ^ (j - k) in
      let e : r * 2 ^ k ≡ u = mul_assoc n (2 ^ (j - k)) (2 ^ k) ∙ ap (λ (x : ℕ). n * x)
      (sym (pow-add 2 (j - k) k) ∙ ap (λ (x : ℕ). 2 ^ x) (back j k k_le)) in
      ap (λ (x : ℕ). x / 2 ^ k * 2 ^ k) (sym e) ∙ ap (λ (x : ℕ). x * 2 ^ k) (mul-div_cancel r (pow_pos k)) ∙ e

  digits_hi : u / 2 ^ k < 16777216
  digits_hi = kept-lt 24 u

  pred_is : size u - 1 ≡ 23 + k
  pred_is = omega (arith, size_lo)

  pred_lt : size u - 1 < size u
  pred_lt = omega (arith, size_lo)

  digits_lo : 8388608 ≤ u / 2 ^ k
  digits_lo = (le-div_iff_mul-le (pow_pos k)).1 (le_trans (le_of_eq (sym (pow-add 2 23 k) ∙ ap (λ (x : ℕ). 2 ^ x) (sym pred_is)))
      (size_reaches u (size u - 1) pred_lt))

  k_small : k ≤ 200
  k_small = omega (arith, size_hi)

  total : u / 2 ^ k * 2 ^ suc k * 2 ^ s ≡ n * 2 ^ 150
  total =
      ap (λ (x : ℕ). u / 2 ^ k * x * 2 ^ s) (pow-succ' 2 k ∙ mul_comm 2 (2 ^ k))
      ∙ ap (λ (x : ℕ). x * 2 ^ s) (sym (mul_assoc (u / 2 ^ k) (2 ^ k) 2))
      ∙ ap (λ (x : ℕ). x * 2 * 2 ^ s) digits
      ∙ four n (2 ^ j) 2 (2 ^ s)
      ∙ ap (λ (x : ℕ). n * (x * 2)) (split s S)
    where
      four : (a b c d : ℕ) → a * b * c * d ≡ a * (d * b * c)
      four a b c d = simp (mul_assoc, mul_comm)

  exact_at : (g : Bool) (b : ℕ) → b ≡ written g u → (sign_field b ≡ cond g 1 0) × (exponent_field b < 255) ×
      (magnitude b * 2 ^ s ≡ n * 2 ^ 150)
  exact_at g b e =
      let q = u / 2 ^ k in
      let ex : exponent_field b ≡ suc k = ap exponent_field e ∙ exponent_of g k q k_small digits_lo digits_hi in
      let small-k : k < 254 = omega (arith, k_small) in (
        ap sign_field e ∙ sign_of g k q k_small digits_hi,
        subst (λ (x : ℕ). x < 255) (sym ex) (suc-le-suc small-k),
        ap (λ (x : ℕ). magnitude_at x (b % 2 ^ 23) * 2 ^ s) ex
            ∙ ap (λ (x : ℕ). (2 ^ 23 + x % 2 ^ 23) * 2 ^ suc k * 2 ^ s) e
            ∙ ap (λ (x : ℕ). x * 2 ^ suc k * 2 ^ s) (digits_of g k q k_small digits_lo digits_hi)
            ∙ total,
      )

-- ---- the rounded fraction is exact

has_value : (g : Bool) (n s : ℕ) → n < 2 ^ 24 → s < 32 → HasValue (round binary32 g n (2 ^ s)) g n (2 ^ s)
has_value g n s N S =
    round_exact binary32 g n (2 ^ s) n (149 - s) (pow_pos s) N
    (lt_of_lt_of_le (shl_lt 24 (149 - s) N) (pow_mono (room s)))
    (ap (λ (x : ℕ). n * x) (sym (split s S) ∙ mul_comm (2 ^ s) (2 ^ (149 - s))) ∙ sym (mul_assoc n (2 ^ (149 - s)) (2 ^ s)))
  where
    room : (s : ℕ) → 24 + (149 - s) ≤ 277
    room s = omega arith

zero_one : to_bits binary32 (round binary32 false 0 1) ≡ 0
unfolding to_bits round
zero_one = refl

zero_bits : (s : ℕ) → to_bits binary32 (round binary32 false 0 (2 ^ s)) ≡ 0
zero_bits s = ap (λ (x : Float). to_bits binary32 x) (round_same binary32 false 0 (2 ^ s) 0 1 (pow_pos s) (lit< tt)
    (sym (zero-mul (2 ^ s)))) ∙ zero_one

zero_exact : (s b : ℕ) → b ≡ 0 → Exact (pos 0) s b
zero_exact s b e =
    subst (λ (x : ℕ). Exact (pos 0) s x) (sym e) (record { sign = refl; finite = lit< tt; value = zero-mul (2 ^ s) })

some_exact : (z : ℤ) (n s : ℕ) → S.size z ≡ n → 0 < n → n < 2 ^ 24 → s < 32
    → Exact z s (to_bits binary32 (round binary32 (negative z) n (2 ^ s)))
some_exact z n s e P N S =
    let f = exact_at n s P N S (negative z) _ (bits_of (round binary32 (negative z) n (2 ^ s)) (negative z) n s S
    (has_value (negative z) n s N S)) in
    record { sign = f.0; finite = f.1; value = f.2 ∙ ap (λ (x : ℕ). x * 2 ^ 150) (sym e) }

-- an integer of at most 24 bits, over 2 ^ s, is a single, and +0 where it is 0
pub exact : (z : ℤ) (s : ℕ) → S.size z < 2 ^ 24 → s < 32 → Exact z s (to_bits binary32 (quotient_of z s))
exact (pos zero) s N S = zero_exact s (to_bits binary32 (round binary32 false 0 (2 ^ s))) (zero_bits s)
exact (pos (suc n)) s N S = some_exact (pos (suc n)) (suc n) s refl (zero-lt-suc n) N S
exact (negsuc n) s N S = some_exact (negsuc n) (suc n) s refl (zero-lt-suc n) N S

-- what the product of the integer and 2 ^ -s is
pub quotient : (z : ℤ) (s : ℕ) (p : Float) → S.size z < 2 ^ 24 → s < 32 → p ≡ two_to s → Quotient z s (mul binary32 (of_int binary32 z) p)
quotient z s p N S e =
    let is : mul binary32 (of_int binary32 z) p ≡ quotient_of z s = ap (λ (x : Float). mul binary32 (of_int binary32 z) x) e
    ∙ product_of z s (le_of_lt N) in
    record { is = is; exact = subst (λ (x : Float). Exact z s (to_bits binary32 x)) (sym is) (exact z s N S) }
