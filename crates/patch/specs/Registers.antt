-- The BP registers that a patch is applied to, when two patches agree, and what a single load does bit by bit.
use Rattle.std.specs.Prelude.{◌≡◌, true, cond, List, ℕ, ◌^◌, ◌<◌, length, get_or}
use Rattle.laws.specs.Bits.{bit}
use Rattle.effect.specs.Effect.{mask_place, loaded_bp}
use Rattle.patch.specs.Patch.{Patch, bp_count, mask_at, number_at}

-- registers that 1 does not refuse, with FE at FFFFFF
pub record Open (bp : List ℕ) : Type 0 where
  pub size : length bp ≡ bp_count
  pub wide : (r : ℕ) → r < bp_count → get_or bp r 0 < 2 ^ 24
  pub unmasked : get_or bp mask_place 0 ≡ 0xFFFFFF

-- every bit that both masks name has the same value in both numbers
abbrev pub AgreeAt : ℕ → ℕ → ℕ → ℕ → Type 0
AgreeAt mask n mask' n' = (k : ℕ) → k < 24 → bit k mask ≡ true → bit k mask' ≡ true → bit k n ≡ bit k n'

-- "every bit that both name has the same value in both"
abbrev pub Agree : Patch → Patch → Type 0
Agree a b = (r : ℕ) → r < bp_count → AgreeAt (mask_at a r) (number_at a r) (mask_at b r) (number_at b r)

-- the BP registers after a load of n to register r, bit by bit
pub record LoadedBits (bp : List ℕ) (r n : ℕ) : Type 0 where
  -- each bit of the register is the number's where the mask in FE has it, and the old one's elsewhere; so for FE itself
  pub own : (k : ℕ) → k < 24
      → bit k (get_or (loaded_bp bp r n) r 0) ≡ cond (bit k (get_or bp mask_place 0)) (bit k n) (bit k (get_or bp r 0))
  -- FE is FFFFFF, unless it was the load's register
  pub mask : (r ≡ mask_place → ⊥) → get_or (loaded_bp bp r n) mask_place 0 ≡ 0xFFFFFF
  -- all others stay
  pub others : (i : ℕ) → (i ≡ r → ⊥) → (i ≡ mask_place → ⊥) → get_or (loaded_bp bp r n) i 0 ≡ get_or bp i 0
