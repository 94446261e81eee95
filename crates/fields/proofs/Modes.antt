-- How each attribute is present, at its place in the VCD: the table of modes by a rule, one computed test over the 21 entries.
use mathlib.Core.Path.{◌≡◌, sym}
use mathlib.Core.Bool.{cond}
use mathlib.Core.Logic.{◌⊎◌, inl, inr, ⊎_elim}
use mathlib.Core.List.{List}
use Prim.Native.Nat.{ℕ, suc, ◌+◌, ◌-◌, ◌*◌, ◌/◌, ◌%◌, ◌^◌, ◌<◌, ◌≤◌}
use native.Mathlib.Omega.{arith}
use lib.Dec.{T, ltb, eqb}
use lib.ListN.{get_or}
use borrow.Author.Tests.{eqb-true, lt-ltb, le-ltb}
use Rattle.std.proofs.lemmas.Bool.{cases_lt}
use Rattle.laws.proofs.Cases.{is_true}
use Rattle.laws.proofs.Table.{every, at}
use Rattle.fields.specs.declared.Descriptor.{Descriptor}
use Rattle.fields.specs.Fields.{words, bits_at, none, place_in, modes, counts, formats, shifts, mode_of, count_of, format_of}
use Rattle.fields.specs.Inner.{vat_of}

-- a table whose entries follow a rule, which gives no place from 21 on
ruled : (table : List ℕ) (rule : ℕ → ℕ) → T (every (λ i. eqb (get_or table i 0) (rule i)) 21) → ((k : ℕ) → 21 ≤ k → rule k ≡ none)
    → (k : ℕ) → place_in table k ≡ rule k
ruled table rule t past k =
    ⊎_elim
    (λ h. rw (lt-ltb k 21 h) (eqb-true (get_or table k 0) (rule k) (is_true _ (at (λ i. eqb (get_or table i 0) (rule i)) 21 t k h))))
    (λ h. rw (le-ltb k 21 h) (sym (past k h)))
    (cases_lt k 21)

abbrev mode_rule : ℕ → ℕ
mode_rule k = cond (ltb k 9) k (cond (ltb k 13) (2 * k - 9) (cond (ltb k 21) (2 * k + 6) none))

modes_are : (k : ℕ) → place_in modes k ≡ mode_rule k
unfolding modes
modes_are = ruled modes mode_rule tt (λ k h. rw (le-ltb k 9 (omega arith), le-ltb k 13 (omega arith), le-ltb k 21 h))

-- the bits at a place of a word
bits_in : (d : Descriptor) (p q i s : ℕ) → p / 32 ≡ i → p % 32 ≡ s → bits_at d p q ≡ get_or (words d) i 0 / 2 ^ s % q
unfolding bits_at
bits_in d p q i s e f = rw (e, f)

module _ (d : Descriptor) (k : ℕ) where
  pub matrix_mode : k < 9 → mode_of d k ≡ d.vcd0 / 2 ^ k % 2
  unfolding mode_of
  matrix_mode h = rw (lt-ltb k 9 h, modes_are k, lt-ltb k 9 h) (bits_in d k 2 0 k (omega arith) (omega arith))

  pub fore_mode : 9 ≤ k → k < 13 → mode_of d k ≡ d.vcd0 / 2 ^ (2 * k - 9) % 4
  unfolding mode_of
  fore_mode g h =
      rw (le-ltb k 9 g, modes_are k, le-ltb k 9 g, lt-ltb k 13 h)
      (bits_in d (2 * k - 9) 4 0 (2 * k - 9) (omega arith) (omega arith))

  pub texture_mode : 13 ≤ k → k < 21 → mode_of d k ≡ d.vcd1 / 2 ^ (2 * k - 26) % 4
  unfolding mode_of
  texture_mode g h =
      let nine : 9 ≤ k = omega arith in
      rw (le-ltb k 9 nine, modes_are k, le-ltb k 9 nine, le-ltb k 13 g, lt-ltb k 21 h)
      (bits_in d (2 * k + 6) 4 1 (2 * k - 26) (omega arith) (omega arith))

  pub none_mode : 21 ≤ k → mode_of d k ≡ 0
  unfolding mode_of bits_at
  none_mode h =
      let nine : 9 ≤ k = omega arith in
      rw (le-ltb k 9 nine, le-ltb k 21 h)

next : (a k : ℕ) → a ≤ k → (k ≡ a → ⊥) → suc a ≤ k
next a k h n = omega arith

-- a number from 9 on that is none up to 20
pub beyond : (k : ℕ) → 9 ≤ k → (k ≡ 9 → ⊥) → (k ≡ 10 → ⊥) → (k ≡ 11 → ⊥) → (k ≡ 12 → ⊥) → (k ≡ 13 → ⊥) → (k ≡ 14 → ⊥) → (k ≡ 15 → ⊥)
    → (k ≡ 16 → ⊥) → (k ≡ 17 → ⊥) → (k ≡ 18 → ⊥) → (k ≡ 19 → ⊥) → (k ≡ 20 → ⊥) → 21 ≤ k
beyond k h a b c d e f g i j l m n =
    next 20 k (next 19 k (next 18 k (next 17 k (next 16 k (next 15 k (next 14 k (next 13 k (next 12 k (next 11 k (next 10 k (next 9 k h a)
    b) c) d) e) f) g) i) j) l) m) n

-- a number that is none from 9 to 20
pub outside : (k : ℕ) → (9 ≤ k → k < 21 → ⊥) → (k < 9) ⊎ (21 ≤ k)
outside k h = ⊎_elim (λ l. inl l) (λ g. ⊎_elim (λ l. absurd (h g l)) (λ m. inr m) (cases_lt k 21)) (cases_lt k 9)

-- a table without places for matrices
nowhere : (table : List ℕ) → T (every (λ i. eqb (get_or table i 0) none) 9) → (k : ℕ) → (k < 9) ⊎ (21 ≤ k) → place_in table k ≡ none
nowhere table t k (inl h) =
    let below : k < 21 = omega arith in
    rw (lt-ltb k 21 below) (eqb-true (get_or table k 0) none (is_true _ (at (λ i. eqb (get_or table i 0) none) 9 t k h)))
nowhere table t k (inr h) = rw (le-ltb k 21 h)

-- a matrix has no field of the VAT, nor has what is no attribute
pub none_vat : (d : Descriptor) (k : ℕ) → (k < 9) ⊎ (21 ≤ k) → vat_of d k ≡ record { count = 0; format = 0; shift = 0 }
unfolding count_of format_of bits_at counts formats shifts
none_vat d k h = rw (nowhere counts tt k h, nowhere formats tt k h, nowhere shifts tt k h)
