-- What the definitions say at each branch of the code.
use mathlib.Core.Path.{◌≡◌, refl, ap, ◌∙◌}
use mathlib.Core.Bool.{Bool, false, ◌||◌}
use Prim.Native.Nat.{ℕ, ◌+◌, ◌*◌, ◌<◌, ◌≤◌}
use native.Mathlib.Numerals.{add-one}
use borrow.Author.Tests.{lt-ltb, le-ltb, eq-eqb, ne_eqb}
use Rattle.fields.specs.declared.Descriptor.{Descriptor}
use Rattle.fields.specs.Fields.{mode_of, count_of, format_of, indices_of}
use Rattle.layout.specs.Sizes.{direct_of, mode_size, index_width, size_of, offset_of, unknown_at, any_unknown}

-- ---- the bytes of attribute k, by its mode
pub size_matrix : (d : Descriptor) (k : ℕ) → k < 9 → size_of d k ≡ mode_of d k
unfolding size_of
size_matrix d k h = rw (lt-ltb k 9 h)

pub size_other : (d : Descriptor) (k : ℕ) → 9 ≤ k → size_of d k ≡ mode_size d k (mode_of d k)
unfolding size_of
size_other d k h = rw (le-ltb k 9 h)

pub size_absent : (d : Descriptor) (k : ℕ) → 9 ≤ k → mode_of d k ≡ 0 → size_of d k ≡ 0
size_absent d k h e = size_other d k h ∙ rw (eq-eqb (mode_of d k) 0 e)

pub size_direct : (d : Descriptor) (k : ℕ) → 9 ≤ k → mode_of d k ≡ 1 → size_of d k ≡ direct_of k (count_of d k) (format_of d k)
size_direct d k h e =
    size_other d k h ∙ ap (λ (m : ℕ). mode_size d k m) e

pub size_indexed : (d : Descriptor) (k : ℕ) → 9 ≤ k → (mode_of d k ≡ 0 → ⊥) → (mode_of d k ≡ 1 → ⊥)
    → size_of d k ≡ indices_of d k * index_width (mode_of d k)
size_indexed d k h a b = size_other d k h ∙ rw (ne_eqb (mode_of d k) 0 a, ne_eqb (mode_of d k) 1 b)

-- ---- the sums
pub sum_none : (d : Descriptor) → 0 ≡ offset_of d 0
unfolding offset_of
sum_none d = refl

pub sum_next : (d : Descriptor) (i t n : ℕ) → t ≡ offset_of d i → n ≡ size_of d i → t + n ≡ offset_of d (i + 1)
unfolding offset_of
sum_next d i t n p q = rw add-one (ap (λ (x : ℕ). x + n) p ∙ ap (λ (x : ℕ). offset_of d i + x) q)

-- ---- the formats that are none
pub unknown_absent : (d : Descriptor) (k : ℕ) → mode_of d k ≡ 0 → unknown_at d k ≡ false
unfolding unknown_at
unknown_absent d k e = rw (eq-eqb (mode_of d k) 0 e)

pub any_next : (d : Descriptor) (i : ℕ) (a b : Bool) → a ≡ any_unknown d i → b ≡ unknown_at d i → a || b ≡ any_unknown d (i + 1)
unfolding any_unknown
any_next d i a b p q = rw add-one (ap (λ (x : Bool). x || b) p ∙ ap (λ (x : Bool). any_unknown d i || x) q)
