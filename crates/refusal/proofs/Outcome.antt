-- What a call answers is determined by its numbers.
use mathlib.Core.Path.{◌≡◌, refl, ap}
use mathlib.Core.List.{List, ◌∷◌}
use Prim.Native.Nat.{ℕ, ◌≤◌}
use native.Mathlib.Omega.{arith}
use lib.ListN.{get_or}
use Rattle.std.specs.Prelude.{Result, Ok, Err, drop}
use Rattle.refusal.specs.Number.{number}
use Rattle.refusal.specs.Outcome.{outcome, answer_of}
use Rattle.refusal.specs.declared.Reason.{Reason}
use Rattle.refusal.proofs.Positive.{number_some}
use Rattle.refusal.proofs.Injective.{number_injective}

-- of a call that gives nothing its number alone
pub outcome_injective : (a b : Result (Unit {0}) Reason) → outcome a ≡ outcome b → a ≡ b
outcome_injective (Ok x) (Ok y) e = refl
outcome_injective (Ok x) (Err s) e = absurd (omega (arith, number_some s))
outcome_injective (Err r) (Ok y) e = absurd (omega (arith, number_some r))
outcome_injective (Err r) (Err s) e = ap Err (number_injective r s e)

-- of one that gives values its numbers, where those determine the values
pub answer_injective : {T : Type 0} (numbers : T → List ℕ) → ((x y : T) → numbers x ≡ numbers y → x ≡ y) → (a b : Result T Reason)
    → answer_of numbers a ≡ answer_of numbers b → a ≡ b
answer_injective numbers h (Ok x) (Ok y) e = ap Ok (h x y (ap (λ (l : List ℕ). drop 1 l) e))
answer_injective numbers h (Ok x) (Err s) e = absurd (omega (arith, number_some s, ap (λ (l : List ℕ). get_or l 0 0) e))
answer_injective numbers h (Err r) (Ok y) e = absurd (omega (arith, number_some r, ap (λ (l : List ℕ). get_or l 0 0) e))
answer_injective numbers h (Err r) (Err s) e = ap Err (number_injective r s (ap (λ (l : List ℕ). get_or l 0 0) e))
