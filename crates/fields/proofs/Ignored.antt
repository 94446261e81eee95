-- "VCD bits not named here are kept and ignored": descriptors that differ in such bits alone say the same of every attribute.
use mathlib.Core.Path.{◌≡◌, refl, sym, ap, ◌∙◌}
use mathlib.Core.Bool.{Bool, true, false, cond}
use mathlib.Core.Logic.{⊎_elim}
use mathlib.Core.List.{List}
use Prim.Native.Nat.{ℕ, suc, ◌+◌, ◌-◌, ◌/◌, ◌%◌, ◌^◌, ◌<◌, ◌≤◌}
use native.Mathlib.Omega.{arith}
use lib.Dec.{T, leb, ltb, lit≤}
use lib.ListN.{get_or}
use lib.Pow.{field, mod-mod-pow}
use borrow.Author.Tests.{lt-ltb, le-ltb, leb-true}
use Rattle.std.proofs.lemmas.Bool.{cases_lt}
use Rattle.laws.proofs.Cases.{is_true}
use Rattle.laws.proofs.Table.{every, at, both, both_left, both_right}
use Rattle.fields.specs.declared.Descriptor.{Descriptor}
use Rattle.fields.specs.Fields.{bits_at, none, place_in, modes, counts, formats, shifts, byte_shifts_bit, three_indices_bit}
use Rattle.fields.specs.Fields.{mode_of, count_of, format_of, fraction_of, indices_of, Alike}
use Rattle.fields.specs.Promises.{FieldPromises}

-- bits below t do not depend on what stands from bit t on
pub low_bits : (x t s w : ℕ) → s + w ≤ t → x % 2 ^ t / 2 ^ s % 2 ^ w ≡ x / 2 ^ s % 2 ^ w
low_bits x t s w h =
    let e : t ≡ t - s - w + w + s = omega arith in
    ap (λ (y : ℕ). x % 2 ^ y / 2 ^ s % 2 ^ w) e
    ∙ ap (λ (y : ℕ). y % 2 ^ w) (field x (t - s - w + w) s)
    ∙ mod-mod-pow (x / 2 ^ s) (t - s - w) w

same_low : (x y t s w : ℕ) → x % 2 ^ t ≡ y % 2 ^ t → s + w ≤ t → x / 2 ^ s % 2 ^ w ≡ y / 2 ^ s % 2 ^ w
same_low x y t s w e h = sym (low_bits x t s w h) ∙ ap (λ (z : ℕ). z / 2 ^ s % 2 ^ w) e ∙ low_bits y t s w h

-- whether w bits from a place on are named ones of the VCD
abbrev within : ℕ → ℕ → Bool
within p w = cond (leb (p + w) 17) true (both (leb 32 p) (leb (p + w) 48))

module _ (d e : Descriptor) (a : Alike d e) where
  first : (p w : ℕ) → p + w ≤ 17 → bits_at d p (2 ^ w) ≡ bits_at e p (2 ^ w)
  unfolding bits_at
  first p w h =
      let z : p / 32 ≡ 0 = omega arith in
      let r : p % 32 ≡ p = omega arith in
      rw (z, r) (same_low d.vcd0 e.vcd0 17 p w a.vcd0_is h)

  second : (p w : ℕ) → 32 ≤ p → p + w ≤ 48 → bits_at d p (2 ^ w) ≡ bits_at e p (2 ^ w)
  unfolding bits_at
  second p w l h =
      let z : p / 32 ≡ 1 = omega arith in
      let r : p % 32 ≡ p - 32 = omega arith in
      rw (z, r) (same_low d.vcd1 e.vcd1 16 (p - 32) w a.vcd1_is (omega arith))

  -- a field of the VAT
  vat : (p q : ℕ) → 64 ≤ p → bits_at d p q ≡ bits_at e p q
  unfolding bits_at
  vat p q h =
      let z : p / 32 ≡ suc (suc (p / 32 - 2)) = omega arith in
      rw (z, a.vat0_is, a.vat1_is, a.vat2_is)

  vcd : (p w : ℕ) → T (within p w) → bits_at d p (2 ^ w) ≡ bits_at e p (2 ^ w)
  vcd p w = go (leb (p + w) 17) refl
    where
      go : (b : Bool) → leb (p + w) 17 ≡ b → T (cond b true (both (leb 32 p) (leb (p + w) 48))) → bits_at d p (2 ^ w) ≡ bits_at e p (2 ^ w)
      go true f t = first p w (leb-true (p + w) 17 f)
      go false f t =
          second p w (leb-true 32 p (is_true _ (both_left (leb 32 p) (leb (p + w) 48) t)))
          (leb-true (p + w) 48 (is_true _ (both_right (leb 32 p) (leb (p + w) 48) t)))

  -- every field of the VAT stands past its first bit
  vat_in : (table : List ℕ) (q : ℕ) → T (every (λ k. leb 64 (get_or table k 0)) 21) → (k : ℕ)
      → bits_at d (place_in table k) q ≡ bits_at e (place_in table k) q
  vat_in table q t k =
      ⊎_elim
      (λ h.
      rw (lt-ltb k 21 h)
      (vat (get_or table k 0) q (leb-true 64 (get_or table k 0) (is_true _ (at (λ i. leb 64 (get_or table i 0)) 21 t k h)))))
      (λ h. rw (le-ltb k 21 h) (vat none q (lit≤ tt)))
      (cases_lt k 21)

  mode_in : (k w : ℕ) → T (within (get_or modes k 0) w) → k < 21
      → bits_at d (place_in modes k) (2 ^ w) ≡ bits_at e (place_in modes k) (2 ^ w)
  mode_in k w t h = rw (lt-ltb k 21 h) (vcd (get_or modes k 0) w t)

  pub mode_alike : (k : ℕ) → mode_of d k ≡ mode_of e k
  unfolding mode_of modes
  mode_alike k = ⊎_elim below (λ h. rw (le-ltb k 21 h, vat none 2 (lit≤ tt), vat none 4 (lit≤ tt))) (cases_lt k 21)
    where
      below : k < 21 → mode_of d k ≡ mode_of e k
      below h = go (ltb k 9) (at (λ i. within (get_or modes i 0) (cond (ltb i 9) 1 2)) 21 tt k h)
        where
          go : (b : Bool) → T (within (get_or modes k 0) (cond b 1 2))
              → cond b (bits_at d (place_in modes k) 2) (bits_at d (place_in modes k) 4)
              ≡ cond b (bits_at e (place_in modes k) 2) (bits_at e (place_in modes k) 4)
          go true t = mode_in k 1 t h
          go false t = mode_in k 2 t h

  pub count_alike : (k : ℕ) → count_of d k ≡ count_of e k
  unfolding count_of counts
  count_alike k = vat_in counts 2 tt k

  pub format_alike : (k : ℕ) → format_of d k ≡ format_of e k
  unfolding format_of formats
  format_alike k = vat_in formats 8 tt k

  pub fraction_alike : (k : ℕ) → fraction_of d k ≡ fraction_of e k
  unfolding fraction_of shifts
  fraction_alike k = rw (format_alike k, vat byte_shifts_bit 2 (lit≤ tt), vat_in shifts 32 tt k)

  pub indices_alike : (k : ℕ) → indices_of d k ≡ indices_of e k
  unfolding indices_of
  indices_alike k = rw (count_alike 10, vat three_indices_bit 2 (lit≤ tt))

pub field_promises : FieldPromises
field_promises =
    record {
      field_same =
          λ d e a k.
          rw (mode_alike d e a k, count_alike d e a k, format_alike d e a k, fraction_alike d e a k, indices_alike d e a k);
    }
