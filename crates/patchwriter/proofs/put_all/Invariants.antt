-- `patchwriter::put_all` meets its contract: the registers before r are written, and the next load goes into what is left.
use Rattle.patchwriter.proofs.Writing.{Writing}
use Rattle.patch.specs.Patch.{patch_of}
use Rattle.patchwriter.proofs.put_all.Given as goal

abbrev pub invariant-loop-r : goal.invariant-loop-r
invariant-loop-r l = Writing (patch_of l.masks l.numbers) l.initial.out l.out l.at l.r
