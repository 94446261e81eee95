-- `patch::check` meets its contract: the search from a register on is the whole search as long as nothing was found.
use mathlib.Core.Path.{◌≡◌}
use Prim.Native.Nat.{◌-◌, ◌≤◌}
use Rattle.patch.specs.Patch.{bp_count, patch_of, fault_from, fault_of}
use Rattle.patch.proofs.check.Given as goal

abbrev pub invariant-loop-r : goal.invariant-loop-r
invariant-loop-r l =
    (l.r ≤ bp_count) × (fault_of (patch_of l.masks l.numbers) ≡ fault_from (bp_count - l.r) l.r (patch_of l.masks l.numbers))

abbrev pub decreases-loop-r : goal.decreases-loop-r
decreases-loop-r l = bp_count - l.r
