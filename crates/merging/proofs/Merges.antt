-- The loop that merges two patches register by register, and what `merge` promises, answer by answer.
use mathlib.Core.Path.{◌≡◌, ◌∙◌}
use mathlib.Core.List.{List}
use Prim.Native.Nat.{ℕ, ◌+◌, ◌≤◌, ◌<◌, zero-le}
use native.Mathlib.Omega.{arith}
use lib.Bits.{bit_or}
use lib.ListN.{take, set, length-set}
use Rattle.laws.specs.Values.{up_to}
use Rattle.laws.proofs.Filled.{fill_none, fill_next, fill_all}
use Rattle.effect.specs.Effect.{masked}
use Rattle.patch.specs.Patch.{bp_count, Patch, patch_of, mask_at, number_at, merged_of}
use Rattle.merging.specs.Merging.{SizedBy, MergesAll}

-- ---- the loop

abbrev merged_mask : Patch → Patch → ℕ → ℕ
merged_mask a b r = bit_or (mask_at a r) (mask_at b r)

abbrev merged_number : Patch → Patch → ℕ → ℕ
merged_number a b r = masked (number_at a r) (mask_at b r) (number_at b r)

-- the registers before r are merged
pub record Merging (a b : Patch) (masks numbers : List ℕ) (r : ℕ) : Type 0 where
  pub up_to_lem : r ≤ bp_count
  pub sized : SizedBy (patch_of masks numbers)
  pub masks_are : take r masks ≡ up_to (merged_mask a b) r
  pub numbers_are : take r numbers ≡ up_to (merged_number a b) r

module _ (a b : Patch) (masks numbers : List ℕ) where
  pub merging_none : SizedBy (patch_of masks numbers) → Merging a b masks numbers 0
  merging_none z =
      record {
        up_to_lem = zero-le;
        sized = z;
        masks_are = fill_none (merged_mask a b) masks;
        numbers_are = fill_none (merged_number a b) numbers;
      }

  pub merging_next : (r : ℕ) {m n : ℕ} → r < bp_count → m ≡ merged_mask a b r → n ≡ merged_number a b r → Merging a b masks numbers r
      → Merging a b (set masks r m) (set numbers r n) (r + 1)
  merging_next r {m} {n} h e f g =
      record {
        up_to_lem = omega arith;
        sized =
            record {
              masks_size = length-set masks r m ∙ g.sized.masks_size;
              numbers_size = length-set numbers r n ∙ g.sized.numbers_size;
            };
        masks_are = fill_next (merged_mask a b) masks r m (omega (arith, g.sized.masks_size)) g.masks_are e;
        numbers_are = fill_next (merged_number a b) numbers r n (omega (arith, g.sized.numbers_size)) g.numbers_are f;
      }

  pub merging_all : (r : ℕ) → r ≡ bp_count → Merging a b masks numbers r → MergesAll a b masks numbers
  unfolding merged_of
  merging_all r e g =
      record {
        masks_are = fill_all (merged_mask a b) masks bp_count r g.sized.masks_size e g.masks_are;
        numbers_are = fill_all (merged_number a b) numbers bp_count r g.sized.numbers_size e g.numbers_are;
      }
