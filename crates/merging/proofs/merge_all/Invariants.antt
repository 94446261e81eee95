-- `merging::merge_all` meets its contract: the registers before r are merged.
use Rattle.merging.proofs.Merges.{Merging}
use Rattle.patch.specs.Patch.{patch_of}
use Rattle.merging.proofs.merge_all.Given as goal

abbrev pub invariant-loop-r : goal.invariant-loop-r
invariant-loop-r l =
    Merging (patch_of l.a_masks l.a_numbers) (patch_of l.b_masks l.b_numbers) l.masks l.numbers l.r
