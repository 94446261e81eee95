-- After i turns the kind and the components below i stand.
use mathlib.Core.Path.{◌≡◌}
use Prim.Native.Nat.{◌+◌}
use lib.ListN.{length, take}
use Rattle.laws.specs.Values.{up_to}
use Rattle.whole.proofs.Tens.{framed}
use Rattle.whole.proofs.components.Components.frame.Given as goal

abbrev pub invariant-loop-i : goal.invariant-loop-i
invariant-loop-i l =
    let s = l.self in
    (length l.frame ≡ 10) × (take (l.i + 1) l.frame ≡ up_to (framed s.vertex.now s.at s.format s.fraction) (l.i + 1))
