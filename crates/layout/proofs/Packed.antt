-- The bytes of direct attributes from tables of half bytes: each table is one computed test over its sixteen entries.
use mathlib.Core.Path.{◌≡◌}
use Prim.Native.Nat.{ℕ, ◌+◌, ◌*◌, ◌/◌, ◌%◌, ◌<◌}
use native.Mathlib.Omega.{arith}
use lib.Dec.{T, eqb}
use borrow.Author.Tests.{eqb-true}
use Rattle.component.specs.Component.{width_of}
use Rattle.laws.proofs.Cases.{is_true}
use Rattle.laws.proofs.Table.{every, at}
use Rattle.layout.specs.Sizes.{direct_of}
use Rattle.layout.specs.Inner.{half_byte}

-- entries that follow a rule of the count bit and the format
packed : (h : ℕ → ℕ) (g : ℕ → ℕ → ℕ) → T (every (λ i. eqb (h i) (g (i % 2) (i / 2))) 16) → (c f : ℕ) → c < 2 → f < 8 → h (2 * f + c) ≡ g c f
packed h g t c f hc hf =
    let e : h (2 * f + c) ≡ g ((2 * f + c) % 2) ((2 * f + c) / 2) =
    eqb-true _ _ (is_true _ (at (λ i. eqb (h i) (g (i % 2) (i / 2))) 16 t (2 * f + c) (omega arith))) in
    let m : (2 * f + c) % 2 ≡ c = omega arith in
    let q : (2 * f + c) / 2 ≡ f = omega arith in
    rw (m, q) at e

pub position_entry : (c f : ℕ) → c < 2 → f < 8 → half_byte 0xC8C8C8C864643232 (2 * f + c) ≡ direct_of 9 c f
unfolding direct_of
position_entry = packed (λ i. half_byte 0xC8C8C8C864643232 i) (λ c f. (2 + c % 2) * width_of f) tt

pub normal_entry : (c f : ℕ) → c < 2 → f < 8 → 3 * half_byte 0xC4C4C4C462623131 (2 * f + c) ≡ direct_of 10 c f
unfolding direct_of
normal_entry = packed (λ i. 3 * half_byte 0xC4C4C4C462623131 i) (λ c f. (3 + 6 * (c % 2)) * width_of f) tt

pub texture_entry : (c f : ℕ) → c < 2 → f < 8 → half_byte 0x8484848442422121 (2 * f + c) ≡ direct_of 13 c f
unfolding direct_of
texture_entry = packed (λ i. half_byte 0x8484848442422121 i) (λ c f. (1 + c % 2) * width_of f) tt
