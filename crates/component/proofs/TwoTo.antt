-- The pattern (127 - s) * 2 ^ 23 is 2 ^ -s, for an s below 32.
use mathlib.Core.Path.{◌≡◌, sym, ap, ◌∙◌}
use mathlib.Core.Bool.{Bool}
use Prim.Native.Nat.{ℕ, ◌-◌, ◌*◌, ◌<◌}
use lib.Dec.{T, eqb, eqb→eq}
use lib.Ieee.{binary32, fits, of_bits, to_bits}
use lib.Ieee.Bits.{of_bits-to_bits}
use Rattle.component.specs.Component.{two_to}
use Rattle.laws.proofs.Table.{both, both_left, both_right, every, at}

right : ℕ → Bool
unfolding fits to_bits
right s = both (eqb (to_bits binary32 (two_to s)) ((127 - s) * 8388608)) (fits binary32 (two_to s))

all : T (every right 32)
unfolding right fits to_bits
all = tt

pub pattern : (s : ℕ) → s < 32 → of_bits binary32 ((127 - s) * 8388608) ≡ two_to s
unfolding right
pattern s h =
    let t = at right 32 all s h in
    let e : to_bits binary32 (two_to s) ≡ (127 - s) * 8388608 = eqb→eq (to_bits binary32 (two_to s)) ((127 - s) * 8388608)
    (both_left (eqb (to_bits binary32 (two_to s)) ((127 - s) * 8388608)) (fits binary32 (two_to s)) t) in
    ap (λ (b : ℕ). of_bits binary32 b) (sym e) ∙ of_bits-to_bits binary32 (two_to s)
    (both_right (eqb (to_bits binary32 (two_to s)) ((127 - s) * 8388608)) (fits binary32 (two_to s)) t)
