-- Four words stored at once are four turns.
use mathlib.Core.Path.{◌≡◌}
use mathlib.Core.List.{List}
use Prim.Native.Nat.{ℕ, suc, ◌+◌, ◌*◌}
use native.Mathlib.Omega.{arith}
use Rattle.effect.specs.Effect.{stored_xf}
use Rattle.execution.specs.Inner.{four_stored}

pub four_more : (xf₀ : List ℕ) {xf xf' : List ℕ} (bytes : List ℕ) (a i : ℕ) {j : ℕ} → xf ≡ stored_xf xf₀ bytes a i
    → xf' ≡ four_stored xf bytes (a + i) (5 + 4 * i) → j ≡ i + 4 → xf' ≡ stored_xf xf₀ bytes a j
unfolding stored_xf four_stored
four_more xf₀ {xf} bytes a i e f j =
    let n : i + 4 ≡ suc (suc (suc (suc i))) = omega arith in
    let p1 : a + i + 1 ≡ a + suc i = omega arith in
    let p2 : a + i + 2 ≡ a + suc (suc i) = omega arith in
    let p3 : a + i + 3 ≡ a + suc (suc (suc i)) = omega arith in
    let b1 : 5 + 4 * i + 4 ≡ 5 + 4 * suc i = omega arith in
    let b2 : 5 + 4 * i + 8 ≡ 5 + 4 * suc (suc i) = omega arith in
    let b3 : 5 + 4 * i + 12 ≡ 5 + 4 * suc (suc (suc i)) = omega arith in
    rw (f, j, n, e, p1, p2, p3, b1, b2, b3)
