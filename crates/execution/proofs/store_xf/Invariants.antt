-- `execution::store_xf` meets its contract: after so many words, four at a time and then one, these are stored.
use mathlib.Core.Path.{◌≡◌}
use Prim.Native.Nat.{◌*◌}
use Rattle.effect.specs.Effect.{stored_xf}
use Rattle.execution.proofs.store_xf.Given as goal

abbrev pub invariant-loop-four : goal.invariant-loop-four
invariant-loop-four l = l.xf ≡ stored_xf l.initial.xf l.bytes l.address (4 * l.four)

abbrev pub invariant-loop-i : goal.invariant-loop-i
invariant-loop-i l = l.xf ≡ stored_xf l.fn.xf l.bytes l.address l.i
