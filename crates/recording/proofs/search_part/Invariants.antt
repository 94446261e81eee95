-- `recording::search_part` meets its contract: the search from a number on is the search of the part as long as nothing was found.
use mathlib.Core.Path.{◌≡◌}
use Prim.Native.Nat.{◌*◌, ◌≤◌}
use lib.ListN.{length}
use Rattle.recording.specs.Faults.{stream_limit}
use Rattle.recording.specs.Searching.{found_from}
use Rattle.recording.proofs.search_part.Given as goal

abbrev pub invariant-loop-k : goal.invariant-loop-k
invariant-loop-k l = (found_from stream_limit l.file l.from ≡ found_from stream_limit l.file l.k) × (4 * l.k ≤ length l.file)
