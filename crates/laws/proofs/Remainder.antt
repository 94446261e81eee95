-- Remainders of numbers that pass the divisor at most once.
use Prim.Native.Nat.{ℕ, ◌+◌, ◌-◌, ◌%◌, ◌≤◌, ◌<◌}
use mathlib.Core.Path.{◌≡◌, ap, ◌∙◌}
use mathlib.Core.Logic.{◌⊎◌, inl, inr, ⊎_elim}
use native.Mathlib.Nat.{add-mod_right, mod-eq_of_lt, mod-lt, mod-add-mod}
use native.Mathlib.Omega.{arith}
use Rattle.std.proofs.lemmas.Bool.{cases_lt}

pub mod_once : {x s : ℕ} → x < s → (x + s) % s ≡ x
mod_once {x} {s} h = add-mod_right x s ∙ mod-eq_of_lt h

-- the remainder of a number below twice the divisor
pub mod_two : (x s : ℕ) → x < s + s → ((x < s) × (x % s ≡ x)) ⊎ ((s ≤ x) × (x % s + s ≡ x))
mod_two x s h =
    ⊎_elim
    (λ l. inl (l, mod-eq_of_lt l))
    (λ l.
    let e : x ≡ x - s + s = omega arith in
    let m : (x - s + s) % s ≡ x - s = mod_once (omega arith) in
    let n : x % s ≡ x - s = ap (λ (y : ℕ). y % s) e ∙ m in
    inr (l, omega arith))
    (cases_lt x s)

-- places less than the divisor apart have different remainders
pub mod_distinct : (a d s : ℕ) → 0 < d → d < s → a % s ≡ (a + d) % s → ⊥
mod_distinct a d s p l e =
    let r : a % s < s = mod-lt a (omega arith) in
    let m : (a % s + d) % s ≡ (a + d) % s = mod-add-mod a s d in
    ⊎_elim (λ h. omega (arith, h, e, m)) (λ h. omega (arith, h, e, m)) (mod_two (a % s + d) s (omega arith))
