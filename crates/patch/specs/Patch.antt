-- "Sheets and the writer", "Sheets in a row": document 01's correction sheets, here patches of the BP registers. Nothing is executed here.
use Rattle.std.specs.Prelude.{◌≡◌, Bool, cond, not, ◌&&◌, ◌||◌, List, [], ◌∷◌, ℕ, zero, suc, eqb, ltb, length, get_or}
use Rattle.std.specs.Int.Bits.{bit_and, bit_or}
use Rattle.laws.specs.Values.{up_to}
pub use Rattle.refusal.specs.Number.{or_else}
pub use Rattle.places.specs.Places.{bp_count}
use Rattle.effect.specs.Effect.{masked, mask_place}

-- ---- a patch

-- "A sheet is 256 masks and 256 numbers."
pub record Patch : Type 0 where
  pub masks : List ℕ
  pub numbers : List ℕ

abbrev pub patch_of : List ℕ → List ℕ → Patch
patch_of masks numbers = record { masks = masks; numbers = numbers }

abbrev pub mask_at : Patch → ℕ → ℕ
mask_at p r = get_or p.masks r 0

abbrev pub number_at : Patch → ℕ → ℕ
number_at p r = get_or p.numbers r 0

-- ---- the faults 12 to 15

-- 12, "a sheet's masks or numbers not 256 entries", does not apply
abbrev pub is_sized : Patch → Bool
is_sized p = eqb (length p.masks) bp_count && eqb (length p.numbers) bp_count

-- 13, "sheet names register FE or gives it a number"; 14, "mask above FFFFFF"; 15, "number sets a bit outside its mask": the first that
-- applies to register r with its mask and number, 0 where none does
unfoldable pub fault_at : ℕ → ℕ → ℕ → ℕ
fault_at r mask n =
    cond (eqb r mask_place && (not (eqb mask 0) || not (eqb n 0))) 13
    (cond (ltb 0xFFFFFF mask) 14
    (cond (eqb (bit_and n mask) n) 0 15))

-- the first fault of n registers from r on: "Sheets are searched by register ascending .. the search ends at the first fault."
unfoldable pub fault_from : ℕ → ℕ → Patch → ℕ
fault_from zero r p = 0
fault_from (suc n) r p = or_else (fault_at r (mask_at p r) (number_at p r)) (fault_from n (suc r) p)

-- the number of a patch's first fault, 0 where it has none
unfoldable pub fault_of : Patch → ℕ
fault_of p = cond (is_sized p) (fault_from bp_count 0 p) 12

-- "is accepted if 12 to 15 aren't found"
abbrev pub IsAccepted : Patch → Type 0
IsAccepted p = fault_of p ≡ 0

-- ---- what it means

-- "What the rules give for a sheet: BP register r is the start's outside mask r, number r inside .."
unfoldable pub applied_to : List ℕ → Patch → List ℕ
applied_to bp p = up_to (λ r. masked (get_or bp r 0) (mask_at p r) (number_at p r)) bp_count

-- "A merge names the bits that either sheet names; each is B's where B names it, else A's, and all other number bits are 0" (as in A)
unfoldable pub merged_of : Patch → Patch → Patch
merged_of a b =
    record {
      masks = up_to (λ r. bit_or (mask_at a r) (mask_at b r)) bp_count;
      numbers = up_to (λ r. masked (number_at a r) (mask_at b r) (number_at b r)) bp_count;
    }

-- all zeros: it names nothing
unfoldable pub blank : Patch
blank = record { masks = up_to (λ r. 0) bp_count; numbers = up_to (λ r. 0) bp_count }

-- "A list of sheets merges from all zeros, each in turn as B."
unfoldable pub merged_from : Patch → List Patch → Patch
merged_from a [] = a
merged_from a (p ∷ ps) = merged_from (merged_of a p) ps

unfoldable pub merged_all : List Patch → Patch
merged_all ps = merged_from blank ps

-- every patch of a list is accepted
abbrev pub AllAccepted : List Patch → Type 0
AllAccepted [] = Unit {0}
AllAccepted (p ∷ ps) = IsAccepted p × AllAccepted ps
