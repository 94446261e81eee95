-- `plain::bits` meets its contract: where the bits so far are none, each of the bytes so far is zero.
use mathlib.Core.Path.{◌≡◌}
use Prim.Native.Nat.{ℕ, ◌<◌}
use lib.ListN.{get_or}
use Rattle.plain.proofs.zeros.bits.Given as goal

abbrev pub invariant-loop-byte : goal.invariant-loop-byte
invariant-loop-byte l = l.all ≡ 0 → (k : ℕ) → k < l.byte-index → get_or l.block k 0 ≡ 0
