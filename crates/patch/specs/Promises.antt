-- What merging and applying do to each bit, clause by clause, proved as one by `patch_promises` (proofs/Promises). Bit 23 is the highest
-- that an accepted patch names, and that a register holds.
use Rattle.std.specs.Prelude.{◌≡◌, true, false, ◌||◌, List, ℕ, ◌<◌, get_or}
use Rattle.laws.specs.Bits.{bit}
use Rattle.patch.specs.Patch.{Patch, bp_count, mask_at, number_at, IsAccepted, applied_to, merged_of}
use Rattle.patch.specs.Registers.{Open}

pub record PatchPromises : Type 0 where
  -- "A merge names the bits that either sheet names"
  pub names_either : (a b : Patch) (r : ℕ) → r < bp_count → (k : ℕ)
      → bit k (mask_at (merged_of a b) r) ≡ (bit k (mask_at a r) || bit k (mask_at b r))
  -- "each is B's where B names it"
  pub named_by_b : (a b : Patch) (r : ℕ) → r < bp_count → (k : ℕ) → k < 24 → bit k (mask_at b r) ≡ true
      → bit k (number_at (merged_of a b) r) ≡ bit k (number_at b r)
  -- "else A's"
  pub else_of_a : (a b : Patch) (r : ℕ) → r < bp_count → (k : ℕ) → k < 24 → bit k (mask_at b r) ≡ false
      → bit k (number_at (merged_of a b) r) ≡ bit k (number_at a r)
  -- "and all other number bits are 0", of every height
  pub others_zero : (a b : Patch) → IsAccepted a → IsAccepted b → (r : ℕ) → r < bp_count → (k : ℕ)
      → bit k (mask_at (merged_of a b) r) ≡ false → bit k (number_at (merged_of a b) r) ≡ false
  -- "BP register r is the start's outside mask r"
  pub outside : (bp : List ℕ) (p : Patch) (r : ℕ) → r < bp_count → (k : ℕ) → k < 24 → bit k (mask_at p r) ≡ false
      → bit k (get_or (applied_to bp p) r 0) ≡ bit k (get_or bp r 0)
  -- "number r inside"
  pub inside : (bp : List ℕ) (p : Patch) (r : ℕ) → r < bp_count → (k : ℕ) → k < 24 → bit k (mask_at p r) ≡ true
      → bit k (get_or (applied_to bp p) r 0) ≡ bit k (number_at p r)
  -- "Compared are all 256 BP registers", of 24 bits: there are as many after it as before, none has a bit from 24 on, and FE is still
  -- FFFFFF
  pub stays_open : (bp : List ℕ) (p : Patch) → IsAccepted p → Open bp → Open (applied_to bp p)
