-- Attributes whose bits of the VCD are clear: they are absent, and neither the sums nor the search for an unknown format change at them.
-- Matrices are counted by their bits.
use mathlib.Core.Path.{◌≡◌, refl, sym, ap, ◌∙◌}
use mathlib.Core.Bool.{Bool, true, false, cond, ◌||◌}
use mathlib.Core.Logic.{⊎_elim}
use Prim.Native.Nat.{ℕ, zero, suc, ◌+◌, ◌-◌, ◌*◌, ◌/◌, ◌%◌, ◌^◌, ◌<◌, ◌≤◌}
use native.Mathlib.Nat.{one-mul, zero-div, zero-mod, mod-lt, mod-one, add_comm}
use native.Mathlib.Numerals.{one-add}
use native.Mathlib.Omega.{arith}
use lib.Dec.{leb, eqb, lit<}
use lib.ListN.{get_or}
use lib.Pow.{shl_exact, shr-shr, mod-pow-add, pow_pos}
use lib.Count.{ones, ones_cat}
use borrow.Author.Tests.{lt-ltb, eqb-true, ne_eqb}
use Rattle.std.proofs.lemmas.Bool.{cases_lt}
use Rattle.laws.proofs.Cases.{is_true}
use Rattle.laws.proofs.Table.{at}
use Rattle.fields.specs.declared.Descriptor.{Descriptor}
use Rattle.fields.specs.Fields.{bits_at, formats, mode_of, format_of}
use Rattle.layout.specs.Sizes.{size_of, offset_of, unknown_at, any_unknown}
use Rattle.layout.proofs.Tests.{size_matrix, size_absent, unknown_absent}
use Rattle.fields.proofs.Ignored.{low_bits}
use Rattle.fields.proofs.Modes.{matrix_mode, fore_mode, texture_mode}

-- no attribute from n on is present
pub record AbsentFrom (d : Descriptor) (n : ℕ) : Type 0 where
  pub absent : (k : ℕ) → n ≤ k → k < 21 → mode_of d k ≡ 0

-- bits below t are clear where all of them are
clear : (x t s w : ℕ) → s + w ≤ t → x % 2 ^ t ≡ 0 → x / 2 ^ s % 2 ^ w ≡ 0
clear x t s w h e =
    sym (low_bits x t s w h) ∙ ap (λ (y : ℕ). y / 2 ^ s % 2 ^ w) e ∙ ap (λ (y : ℕ). y % 2 ^ w) (zero-div (2 ^ s)) ∙ zero-mod (2 ^ w)

-- two bits of t from s on
clear_two : (x s t p : ℕ) → x / 2 ^ s % 2 ^ t ≡ 0 → s ≤ p → p + 2 ≤ s + t → x / 2 ^ p % 4 ≡ 0
clear_two x s t p e l h =
    let same : p ≡ s + (p - s) = omega arith in
    ap (λ (y : ℕ). x / 2 ^ y % 4) same ∙ ap (λ (y : ℕ). y % 4) (sym (shr-shr x s (p - s)))
    ∙ clear (x / 2 ^ s) t (p - s) 2 (omega arith) e

-- one bit of a word
pub one_bit : (k : ℕ) → k ≤ 9 → 1 * 2 ^ k % 4294967296 ≡ 2 ^ k
one_bit k h = shl_exact {a = 1} 1 k 32 (lit< tt) (omega arith) ∙ one-mul (2 ^ k)

-- a digit is its own count
ones_digit : (b : ℕ) → b < 2 → ones b ≡ b
unfolding ones
ones_digit zero h = refl
ones_digit (suc zero) h = refl
ones_digit (suc (suc b)) h = absurd (omega arith)

-- the set bits below k + 1
ones_next : (x k : ℕ) → ones (x % 2 ^ suc k) ≡ ones (x % 2 ^ k) + x / 2 ^ k % 2
ones_next x k =
    ap (λ (y : ℕ). ones (x % 2 ^ y)) (sym (one-add k))
    ∙ ap ones (mod-pow-add x 1 k)
    ∙ ones_cat k (x / 2 ^ k % 2) (x % 2 ^ k) (mod-lt x (pow_pos k))
    ∙ ap (λ (y : ℕ). y + ones (x % 2 ^ k)) (ones_digit (x / 2 ^ k % 2) (mod-lt (x / 2 ^ k) (lit< tt)))
    ∙ add_comm (x / 2 ^ k % 2) (ones (x % 2 ^ k))

module _ (d : Descriptor) where
  -- ---- an absent attribute

  -- it has no bytes, a matrix or not
  pub size_none : (k : ℕ) → mode_of d k ≡ 0 → size_of d k ≡ 0
  size_none k m = ⊎_elim (λ h. size_matrix d k h ∙ m) (λ h. size_absent d k h m) (cases_lt k 9)

  or_false : (b : Bool) → (b || false) ≡ b
  or_false true = refl
  or_false false = refl

  pub any_absent : (k : ℕ) → mode_of d k ≡ 0 → any_unknown d (suc k) ≡ any_unknown d k
  unfolding any_unknown
  any_absent k m = rw (unknown_absent d k m) (or_false (any_unknown d k))

  -- ---- the nine matrices
  pub matrices_are : (k : ℕ) → k ≤ 9 → ones (d.vcd0 % 2 ^ k) ≡ offset_of d k
  unfolding offset_of ones
  matrices_are zero h = ap ones (mod-one d.vcd0)
  matrices_are (suc k) h =
      ones_next d.vcd0 k
      ∙ ap (λ (y : ℕ). y + d.vcd0 / 2 ^ k % 2) (matrices_are k (omega arith))
      ∙ ap (λ (y : ℕ). offset_of d k + y) (sym (size_matrix d k (omega arith) ∙ matrix_mode d k (omega arith)))

  -- a matrix has no format that could be unknown
  matrix_format : (k : ℕ) → k < 9 → format_of d k ≡ 0
  unfolding format_of bits_at formats
  matrix_format k h =
      let below : k < 21 = omega arith in
      let p : get_or formats k 0 ≡ 160 = eqb-true (get_or formats k 0) 160 (is_true _ (at (λ i. eqb (get_or formats i 0) 160) 9 tt k h)) in
      rw (lt-ltb k 21 below, p)

  known_by : (b : Bool) (f : ℕ) → f ≡ 0 → cond b false (leb 5 f) ≡ false
  known_by true f e = refl
  known_by false f e = rw e

  matrix_known : (k : ℕ) → k < 9 → unknown_at d k ≡ false
  unfolding unknown_at
  matrix_known k h =
      let e : eqb k 11 ≡ false = ne_eqb k 11 (λ z. omega arith) in
      let g : eqb k 12 ≡ false = ne_eqb k 12 (λ z. omega arith) in
      rw (e, g) (known_by (eqb (mode_of d k) 0) (format_of d k) (matrix_format k h))

  known : (n : ℕ) → n ≤ 9 → any_unknown d n ≡ false
  unfolding any_unknown
  known zero h = refl
  known (suc n) h = rw (known n (omega arith), matrix_known n h)

  pub matrices_known : any_unknown d 9 ≡ false
  matrices_known = known 9 (omega arith)

  -- ---- the normal and the colours
  pub fore_absent : d.vcd0 / 2 ^ 11 % 2 ^ 6 ≡ 0 → (k : ℕ) → 10 ≤ k → k < 13 → mode_of d k ≡ 0
  fore_absent e k g h = fore_mode d k (omega arith) h ∙ clear_two d.vcd0 11 6 (2 * k - 9) e (omega arith) (omega arith)

  -- ---- the textures past the first
  pub textures_absent : d.vcd1 / 2 ^ 2 % 2 ^ 14 ≡ 0 → AbsentFrom d 14
  textures_absent e = record {
    absent = λ k l h. texture_mode d k (omega arith) h ∙ clear_two d.vcd1 2 14 (2 * k - 26) e (omega arith) (omega arith);
  }
