-- What `merge` promises.
use Rattle.std.specs.Prelude.{◌≡◌, cond, ◌&&◌, List, ℕ, eqb, length, Result}
use Rattle.refusal.specs.declared.Reason.{Reason}
use Rattle.patch.specs.Patch.{Patch, bp_count, is_sized, fault_of, or_else, merged_of}
use Rattle.patch.specs.Answers.{meaning}

-- "For a sheet merge all three pairs must have 256 entries; A is searched before B": the first refusal, 0 where there is none
unfoldable pub merge_refusal : Patch → Patch → Patch → ℕ
merge_refusal a b out = cond ((is_sized a && is_sized b) && is_sized out) (or_else (fault_of a) (fault_of b)) 12

-- the lent pair holds the merged patch, or what it held: "The refused call .. changes nothing."
pub record Merges (a b out : Patch) (r : Result (Unit {0}) Reason) (out' : Patch) : Type 0 where
  pub answer_is : meaning r ≡ merge_refusal a b out
  pub out_is : out' ≡ cond (eqb (merge_refusal a b out) 0) (merged_of a b) out

-- what the loop is given, and what it leaves
pub record SizedBy (p : Patch) : Type 0 where
  pub masks_size : length p.masks ≡ bp_count
  pub numbers_size : length p.numbers ≡ bp_count

pub record AllSized (a b out : Patch) : Type 0 where
  pub of_a : SizedBy a
  pub of_b : SizedBy b
  pub of_out : SizedBy out

pub record MergesAll (a b : Patch) (masks numbers : List ℕ) : Type 0 where
  pub masks_are : masks ≡ (merged_of a b).masks
  pub numbers_are : numbers ≡ (merged_of a b).numbers
