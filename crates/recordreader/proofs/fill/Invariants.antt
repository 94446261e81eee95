-- `recordreader::fill` meets its contract: after i turns the first i numbers stand there.
use mathlib.Core.Path.{◌≡◌}
use mathlib.Core.List.{List}
use Prim.Native.Nat.{ℕ, ◌+◌, ◌*◌}
use lib.ListN.{length, take}
use Rattle.laws.specs.Values.{up_to}
use Rattle.octets.specs.BigEndian.{big_endian}
use Rattle.recordreader.proofs.fill.Given as goal

-- number i from a place on
abbrev pub word : List ℕ → ℕ → ℕ → ℕ
word file at i = big_endian file (at + 4 * i) 4

abbrev pub invariant-loop-i : goal.invariant-loop-i
invariant-loop-i l = (length l.out ≡ length l.initial.out) × (take l.i l.out ≡ up_to (word l.file l.at) l.i)
