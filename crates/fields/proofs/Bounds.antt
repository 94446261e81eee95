-- How large fields can be, whatever the descriptor: each fact over the attribute index, once.
use mathlib.Core.Bool.{Bool, true, false, cond, ◌&&◌}
use Prim.Native.Nat.{ℕ, zero, suc, ◌+◌, ◌*◌, ◌%◌, ◌<◌, ◌≤◌}
use native.Mathlib.Nat.{le_trans, mod-lt}
use native.Mathlib.Omega.{arith}
use lib.Dec.{ltb, eqb, lit≤, lit<}
use borrow.Author.Tests.{lt-ltb}
use Rattle.std.proofs.lemmas.Bool.{cond_both}
use Rattle.fields.specs.declared.Descriptor.{Descriptor}
use Rattle.fields.specs.Fields.{bits_at, place_in, modes, mode_of, count_of, format_of, normal_bits, fraction_bits, fraction_of, indices_of}
use Rattle.fields.specs.Fields.{byte_shifts_bit, three_indices_bit}
use Rattle.fields.specs.Components.{components_of, colour_width}

-- ---- the fields
pub bits_lt : (d : Descriptor) (p q : ℕ) → 0 < q → bits_at d p q < q
unfolding bits_at
bits_lt d p q h = mod-lt _ h

pub mode_le : (d : Descriptor) (k : ℕ) → mode_of d k ≤ 3
unfolding mode_of
mode_le d k =
    cond_both (ltb k 9) _ _ (λ x. x ≤ 3) (λ _. omega (arith, bits_lt d (place_in modes k) 2 (lit< tt)))
    (λ _. omega (arith, bits_lt d (place_in modes k) 4 (lit< tt)))

pub mode_matrix : (d : Descriptor) (k : ℕ) → k < 9 → mode_of d k ≤ 1
unfolding mode_of
mode_matrix d k h = rw (lt-ltb k 9 h) (omega (arith, bits_lt d (place_in modes k) 2 (lit< tt)))

pub normal_lt : (f : ℕ) → normal_bits f < 32
normal_lt zero = lit< tt
normal_lt (suc zero) = lit< tt
normal_lt (suc (suc zero)) = lit< tt
normal_lt (suc (suc (suc zero))) = lit< tt
normal_lt (suc (suc (suc (suc n)))) = lit< tt

-- a shift has five bits, and a normal's fraction bits fit them
pub fraction_lt : (d : Descriptor) (k : ℕ) → fraction_of d k < 32
unfolding fraction_of fraction_bits
fraction_lt d k =
    cond_both (eqb k 10) _ _ (λ x. x < 32) (λ _. normal_lt (format_of d k))
    (λ _. cond_both (ltb (format_of d k) 2 && eqb (bits_at d byte_shifts_bit 2) 0) _ _ (λ x. x < 32) (λ _. lit< tt)
    (λ _. bits_lt d _ 32 (lit< tt)))

pub indices_le : (d : Descriptor) (k : ℕ) → indices_of d k ≤ 3
unfolding indices_of
indices_le d k =
    cond_both (eqb k 10 && (eqb (count_of d 10) 1 && eqb (bits_at d three_indices_bit 2) 1)) _ _ (λ x. x ≤ 3) (λ _. lit≤ tt) (λ _. lit≤ tt)

pub indices_some : (d : Descriptor) (k : ℕ) → 1 ≤ indices_of d k
unfolding indices_of
indices_some d k =
    cond_both (eqb k 10 && (eqb (count_of d 10) 1 && eqb (bits_at d three_indices_bit 2) 1)) _ _ (λ x. 1 ≤ x) (λ _. lit≤ tt) (λ _. lit≤ tt)

-- ---- the largest sizes
pub colour_le : (f : ℕ) → colour_width f ≤ 4
colour_le zero = lit≤ tt
colour_le (suc zero) = lit≤ tt
colour_le (suc (suc zero)) = lit≤ tt
colour_le (suc (suc (suc zero))) = lit≤ tt
colour_le (suc (suc (suc (suc zero)))) = lit≤ tt
colour_le (suc (suc (suc (suc (suc n))))) = lit≤ tt

components_by : (a b : Bool) (count : ℕ) → cond a (2 + count % 2) (cond b (3 + 6 * (count % 2)) (1 + count % 2)) ≤ cond a 3 (cond b 9 2)
components_by true b count = omega arith
components_by false true count = omega arith
components_by false false count = omega arith

components_some_by : (a b : Bool) (count : ℕ) → 1 ≤ cond a (2 + count % 2) (cond b (3 + 6 * (count % 2)) (1 + count % 2))
components_some_by true b count = omega arith
components_some_by false true count = omega arith
components_some_by false false count = omega arith

pub components_le : (k count : ℕ) → components_of k count ≤ components_of k 1
components_le k count = components_by (eqb k 9) (eqb k 10) count

pub components_some : (k count : ℕ) → 1 ≤ components_of k count
components_some k count = components_some_by (eqb k 9) (eqb k 10) count

nine_by : (a b : Bool) → cond a 3 (cond b 9 2) ≤ 9
nine_by true b = lit≤ tt
nine_by false true = lit≤ tt
nine_by false false = lit≤ tt

pub components_nine : (k count : ℕ) → components_of k count ≤ 9
components_nine k count = le_trans (components_le k count) (nine_by (eqb k 9) (eqb k 10))
