-- Numbers by their bits: the bits of `bit_and`, `bit_or` and `bit_xor`, and numbers with the same bits.
use mathlib.Core.Path.{◌≡◌, refl, sym, ap, ap₂, ◌∙◌, subst}
use mathlib.Core.Bool.{false, ◌&&◌, ◌||◌}
use Prim.Native.Nat.{ℕ, zero, suc, ◌+◌, ◌*◌, ◌/◌, ◌%◌, ◌^◌, ◌<◌}
use native.Mathlib.Nat.{zero-lt-suc, mod-lt, div-one, div-add-mod', div-eq_of_lt}
use native.Mathlib.Numerals.{add-one, one-add}
use native.Mathlib.Omega.{arith}
use lib.Arith.{lt-one}
use lib.Pow.{shr-shr, shr_lt, pow_pos}
use lib.Bits.{bit_and, bit_or, bit_xor, and_shr, or_shr, xor_shr, and_mod, or_mod, xor_mod}
use Rattle.laws.specs.Bits.{is_one, bit, differs}

data IsDigit : ℕ → Type 0 where
  d0 : IsDigit 0
  d1 : IsDigit 1

is_digit : (n : ℕ) → IsDigit (n % 2)
is_digit n = go (n % 2) (mod-lt n (zero-lt-suc 1))
  where
    go : (m : ℕ) → m < 2 → IsDigit m
    go zero h = d0
    go (suc zero) h = d1
    go (suc (suc m)) h = absurd (omega arith)

and_digit : {x y : ℕ} → IsDigit x → IsDigit y → is_one (bit_and x y) ≡ (is_one x && is_one y)
and_digit d0 d0 = refl
and_digit d0 d1 = refl
and_digit d1 d0 = refl
and_digit d1 d1 = refl

or_digit : {x y : ℕ} → IsDigit x → IsDigit y → is_one (bit_or x y) ≡ (is_one x || is_one y)
or_digit d0 d0 = refl
or_digit d0 d1 = refl
or_digit d1 d0 = refl
or_digit d1 d1 = refl

xor_digit : {x y : ℕ} → IsDigit x → IsDigit y → is_one (bit_xor x y) ≡ differs (is_one x) (is_one y)
xor_digit d0 d0 = refl
xor_digit d0 d1 = refl
xor_digit d1 d0 = refl
xor_digit d1 d1 = refl

pub bit_and_lem : (k a b : ℕ) → bit k (bit_and a b) ≡ (bit k a && bit k b)
unfolding bit
bit_and_lem k a b =
    ap (λ (x : ℕ). is_one (x % 2)) (and_shr a b k) ∙ ap is_one (and_mod (a / 2 ^ k) (b / 2 ^ k) 1)
    ∙ and_digit (is_digit (a / 2 ^ k)) (is_digit (b / 2 ^ k))

pub bit_or_lem : (k a b : ℕ) → bit k (bit_or a b) ≡ (bit k a || bit k b)
unfolding bit
bit_or_lem k a b =
    ap (λ (x : ℕ). is_one (x % 2)) (or_shr a b k) ∙ ap is_one (or_mod (a / 2 ^ k) (b / 2 ^ k) 1)
    ∙ or_digit (is_digit (a / 2 ^ k)) (is_digit (b / 2 ^ k))

pub bit_xor_lem : (k a b : ℕ) → bit k (bit_xor a b) ≡ differs (bit k a) (bit k b)
unfolding bit
bit_xor_lem k a b =
    ap (λ (x : ℕ). is_one (x % 2)) (xor_shr a b k) ∙ ap is_one (xor_mod (a / 2 ^ k) (b / 2 ^ k) 1)
    ∙ xor_digit (is_digit (a / 2 ^ k)) (is_digit (b / 2 ^ k))

-- a number below 2 ^ k has no bit k; zero has none
pub bit_high : (k n : ℕ) → n < 2 ^ k → bit k n ≡ false
unfolding bit
bit_high k n h = ap (λ (x : ℕ). is_one (x % 2)) (div-eq_of_lt h)

pub bit_none : (k : ℕ) → bit k 0 ≡ false
bit_none k = bit_high k 0 (pow_pos k)

same_digit : {x y : ℕ} → IsDigit x → IsDigit y → is_one x ≡ is_one y → x ≡ y
same_digit d0 d0 e = refl
same_digit d0 d1 e = cc
same_digit d1 d0 e = cc
same_digit d1 d1 e = refl

bit_zero : (n : ℕ) → bit 0 n ≡ is_one (n % 2)
unfolding bit
bit_zero n = ap (λ (x : ℕ). is_one (x % 2)) (div-one n)

bit_suc : (k n : ℕ) → bit (suc k) n ≡ bit k (n / 2)
unfolding bit
bit_suc k n = ap (λ (x : ℕ). is_one (x % 2)) (ap (λ (x : ℕ). n / 2 ^ x) (sym (one-add k)) ∙ sym (shr-shr n 1 k))

half : (k n : ℕ) → n < 2 ^ suc k → n / 2 < 2 ^ k
half k n h = shr_lt k 1 (subst (λ (x : ℕ). n < 2 ^ x) (sym (add-one k)) h)

-- two numbers below 2 ^ k with the same k bits are equal
pub same_bits : (k a b : ℕ) → a < 2 ^ k → b < 2 ^ k → ((i : ℕ) → i < k → bit i a ≡ bit i b) → a ≡ b
same_bits zero a b ha hb e = lt-one ha ∙ sym (lt-one hb)
same_bits (suc k) a b ha hb e =
    sym (div-add-mod' a 2)
    ∙ ap₂ (λ (x y : ℕ). x * 2 + y)
    (same_bits k (a / 2) (b / 2) (half k a ha) (half k b hb) (λ i h. sym (bit_suc i a) ∙ e (suc i) (omega arith) ∙ bit_suc i b))
    (same_digit (is_digit a) (is_digit b) (sym (bit_zero a) ∙ e 0 (omega arith) ∙ bit_zero b))
    ∙ div-add-mod' b 2
