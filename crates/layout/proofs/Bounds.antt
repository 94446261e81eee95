-- How large fields, sizes and sums of sizes can be, whatever the descriptor: each fact over the attribute index, once.
use mathlib.Core.Path.{◌≡◌, refl, sym, ap, ◌∙◌, subst}
use mathlib.Core.Bool.{Bool, true, false, cond, ◌&&◌}
use mathlib.Core.Logic.{inl, inr}
use Prim.Native.Nat.{ℕ, zero, suc, ◌+◌, ◌-◌, ◌*◌, ◌<◌, ◌≤◌, zero-le, min}
use native.Mathlib.Nat.{le_trans, le_refl, le-add_right, mul-le-mul, eq-or-lt_of_le, le_of_suc-le-suc, not-suc-le-zero}
use native.Mathlib.Omega.{arith}
use lib.Dec.{leb, ltb, eqb, lit≤, lit<, leb→le}
use borrow.Author.Tests.{eq-eqb, eqb-true, eqb-false, ltb-true}
use Rattle.std.proofs.lemmas.Bool.{and_parts, cond_both}
use Rattle.component.specs.Component.{width_of}
use Rattle.component.proofs.Widths.{width_le, width_some}
use Rattle.laws.proofs.Table.{at}
use Rattle.fields.specs.declared.Descriptor.{Descriptor}
use Rattle.fields.specs.Fields.{bits_at, mode_of, count_of, format_of, indices_of, three_indices_bit}
use Rattle.fields.specs.Components.{is_colour, components_of, colour_width}
use Rattle.fields.proofs.Bounds.{mode_le, mode_matrix, indices_some, colour_le, components_le, components_some, components_nine}
use Rattle.layout.specs.Sizes.{direct_of, mode_size, size_of, offset_of}
use Rattle.layout.specs.Answers.{refusal_of, length_of}

-- the most bytes of an attribute that is no matrix
abbrev high : ℕ → ℕ
high k = cond (is_colour k) 4 (components_of k 1 * 4)

abbrev largest : ℕ → ℕ
largest k = cond (ltb k 9) 1 (high k)

direct_le : (k count format : ℕ) → direct_of k count format ≤ high k
unfolding direct_of
direct_le k count format = go (is_colour k)
  where
    go : (b : Bool) → cond b (colour_width format) (components_of k count * width_of format) ≤ cond b 4 (components_of k 1 * 4)
    go true = colour_le format
    go false = mul-le-mul (components_le k count) (width_le format)

high_four : (k : ℕ) → 4 ≤ high k
high_four k = go (is_colour k) (eqb k 9) (eqb k 10)
  where
    go : (a b c : Bool) → 4 ≤ cond a 4 (cond b 3 (cond c 9 2) * 4)
    go true b c = lit≤ tt
    go false true c = lit≤ tt
    go false false true = lit≤ tt
    go false false false = lit≤ tt

indexed_le : (d : Descriptor) (k m : ℕ) → m ≤ 2 → indices_of d k * m ≤ high k
unfolding indices_of
indexed_le d k m h =
    cond_both (eqb k 10 && (eqb (count_of d 10) 1 && eqb (bits_at d three_indices_bit 2) 1)) _ _ (λ x. x * m ≤ high k)
    (λ e. subst (λ (x : ℕ). 3 * m ≤ high x) (sym (eqb-true k 10 (and_parts (eqb k 10) _ e).0)) (omega arith))
    (λ _. omega (arith, high_four k))

mode_size_le : (d : Descriptor) (k m : ℕ) → m ≤ 3 → mode_size d k m ≤ high k
mode_size_le d k m h =
    cond_both (eqb m 0) _ _ (λ x. x ≤ high k) (λ _. zero-le)
    (λ _. cond_both (eqb m 1) _ _ (λ x. x ≤ high k) (λ _. direct_le k (count_of d k) (format_of d k))
    (λ _. indexed_le d k (m - 1) (omega arith)))

size_le : (d : Descriptor) (k : ℕ) → size_of d k ≤ largest k
unfolding size_of
size_le d k = go (ltb k 9) refl
  where
    go : (b : Bool) → ltb k 9 ≡ b → cond b (mode_of d k) (mode_size d k (mode_of d k)) ≤ cond b 1 (high k)
    go true e = mode_matrix d k (ltb-true k 9 e)
    go false e = mode_size_le d k (mode_of d k) (mode_le d k)

pub size_small : (d : Descriptor) (k : ℕ) → size_of d k ≤ 36
size_small d k = le_trans (size_le d k) (go (ltb k 9) (is_colour k))
  where
    go : (a b : Bool) → cond a 1 (cond b 4 (components_of k 1 * 4)) ≤ 36
    go true b = lit≤ tt
    go false true = lit≤ tt
    go false false = omega (arith, components_nine k 1)

-- ---- the sums
largest_sum : ℕ → ℕ
largest_sum zero = 0
largest_sum (suc k) = largest_sum k + largest k

offset_le_sum : (d : Descriptor) (k : ℕ) → offset_of d k ≤ largest_sum k
unfolding offset_of largest_sum
offset_le_sum d zero = zero-le
offset_le_sum d (suc k) = omega (arith, offset_le_sum d k, size_le d k)

fitting : ℕ → Bool
unfolding largest_sum
fitting k = leb (largest_sum k) 129

-- no sum passes 129
pub offset_le : (d : Descriptor) (k : ℕ) → k < 22 → offset_of d k ≤ 129
unfolding fitting largest_sum
offset_le d k h = le_trans (offset_le_sum d k) (leb→le (largest_sum k) 129 (at fitting 22 tt k h))

after : (d : Descriptor) (n k : ℕ) → k < n → offset_of d (suc k) ≤ offset_of d n
unfolding offset_of
after d zero k h = absurd (not-suc-le-zero h)
after d (suc n) k h = elim (eq-or-lt_of_le (le_of_suc-le-suc h)) [
  | inl e ↦ subst (λ (x : ℕ). offset_of d (suc x) ≤ offset_of d (suc n)) (sym e) (le_refl (offset_of d (suc n)))
  | inr l ↦ le_trans (after d n k l) (le-add_right (offset_of d n) (size_of d n))
]

-- where an attribute starts that there is
pub found_at : (d : Descriptor) (k : ℕ) {n : ℕ} → k < 21 → n ≡ offset_of d (min k 21) → n ≡ offset_of d k
found_at d k h e = let m : min k 21 ≡ k = omega arith in e ∙ ap (offset_of d) m

-- and that it lies within the vertex
pub room : (d : Descriptor) (k : ℕ) → k < 21 → offset_of d k + size_of d k ≤ offset_of d 21
unfolding offset_of
room d k h = after d 21 k h

-- ---- a vertex that is not refused has 1 to 129 bytes
mul_some : (a b : ℕ) → 1 ≤ a → 1 ≤ b → 1 ≤ a * b
mul_some a b h k = mul-le-mul {n₁ = 1} {m₁ = 1} h k

position_some : (d : Descriptor) (m : ℕ) → (m ≡ 0 → ⊥) → 1 ≤ mode_size d 9 m
unfolding direct_of
position_some d m h =
    cond_both (eqb m 0) _ _ (λ x. 1 ≤ x) (λ e. absurd (h (eqb-true m 0 e)))
    (λ _. cond_both (eqb m 1) _ _ (λ x. 1 ≤ x)
    (λ _. mul_some (components_of 9 (count_of d 9)) (width_of (format_of d 9)) (components_some 9 (count_of d 9))
    (width_some (format_of d 9)))
    (λ n. mul_some (indices_of d 9) (m - 1) (indices_some d 9) (omega (arith, eqb-false m 1 n))))

size_some : (d : Descriptor) → (mode_of d 9 ≡ 0 → ⊥) → 1 ≤ size_of d 9
unfolding size_of
size_some d h = position_some d (mode_of d 9) h

present : (d : Descriptor) → refusal_of d ≡ 0 → mode_of d 9 ≡ 0 → ⊥
unfolding refusal_of
present d e z =
    let nine : refusal_of d ≡ 9 = rw (eq-eqb (mode_of d 9) 0 z) in
    let no : ◌≡◌ {A = ℕ} 0 9 = sym e ∙ nine in
    omega arith

pub length_accepted : (d : Descriptor) → refusal_of d ≡ 0 → length_of d ≡ offset_of d 21
unfolding length_of
length_accepted d e = rw (eq-eqb (refusal_of d) 0 e)

pub length_bounds : (d : Descriptor) → refusal_of d ≡ 0 → (1 ≤ length_of d) × (length_of d ≤ 129)
unfolding offset_of
length_bounds d e =
    rw (length_accepted d e) (omega (arith, size_some d (present d e), room d 9 (lit< tt)), offset_le d 21 (lit< tt))

-- any length is at most 129
pub length_le : (d : Descriptor) → length_of d ≤ 129
unfolding length_of
length_le d = cond_both (eqb (refusal_of d) 0) _ _ (λ x. x ≤ 129) (λ _. offset_le d 21 (lit< tt)) (λ _. zero-le)
