-- The bytes of a unit: a part of the ring, or a copy.
use mathlib.Core.Path.{◌≡◌, ap, ◌∙◌}
use mathlib.Core.Bool.{true}
use mathlib.Core.List.{List, ◌++◌}
use Prim.Native.Nat.{ℕ, ◌+◌, ◌-◌, ◌≤◌, min}
use native.Mathlib.Omega.{arith}
use lib.ListN.{length, take, drop}
use lib.Seq.{take_at}
use Rattle.laws.proofs.Filled.{length_up_to}
use Rattle.cursor.specs.declared.Cursor.{Cursor}
use Rattle.cursor.specs.Cursor.{byte_of, copied, straight_by}
use Rattle.cursor.proofs.CursorLaws.{straight_true, straight_bytes}
use Rattle.unit.specs.Cursor.{bytes_at}

-- a straight part of the ring
pub lent_is : (cursor : Cursor) (ring : List ℕ) (n : ℕ) → straight_by cursor n ≡ true → cursor.at + n ≤ length ring
    → take (cursor.at + n - cursor.at) (drop cursor.at ring) ≡ bytes_at cursor ring n
lent_is cursor ring n s h =
    let e : cursor.at + n - cursor.at ≡ n = omega arith in
    ap (λ (k : ℕ). take k (drop cursor.at ring)) e ∙ straight_bytes cursor ring n (straight_true cursor n s) h

-- the front of a copy into a longer list
pub copied_is : (cursor : Cursor) (ring out : List ℕ) (n : ℕ) → n ≤ length out → take n (copied cursor ring out n) ≡ bytes_at cursor ring n
unfolding copied
copied_is cursor ring out n h =
    let m : min n (length out) ≡ n = omega arith in
    ap (λ (k : ℕ). take n (bytes_at cursor ring k ++ drop k out)) m
    ∙ take_at (bytes_at cursor ring n) (drop n out) n (length_up_to (byte_of cursor ring) n)
