-- `Pending::gather` meets its contract: after k bytes the first k stand.
use mathlib.Core.Path.{◌≡◌}
use lib.ListN.{take}
use Rattle.laws.specs.Values.{up_to}
use Rattle.cursor.specs.Cursor.{byte_of}
use Rattle.reading.proofs.Pending.gather.Given as goal

abbrev pub invariant-loop-k : goal.invariant-loop-k
invariant-loop-k l = take l.k l.out ≡ up_to (byte_of l.self.cursor l.self.ring.now) l.k
