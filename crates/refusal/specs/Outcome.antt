-- What a call answers that is accepted or refused, as numbers: 0 and the values, or the refusal's number alone.
use Rattle.std.specs.Prelude.{ℕ, List, [], ◌∷◌, Result, Ok, Err}
use Rattle.refusal.specs.Number.{number}
use Rattle.refusal.specs.declared.Reason.{Reason}

-- 0 where a call was accepted, or the refusal's number
abbrev pub outcome : {T : Type 0} → Result T Reason → ℕ
outcome (Ok _) = 0
outcome (Err reason) = number reason

-- 0 and the numbers of what a call gives, or the refusal's number alone
abbrev pub answer_of : {T : Type 0} → (T → List ℕ) → Result T Reason → List ℕ
answer_of numbers (Ok value) = 0 ∷ numbers value
answer_of numbers (Err reason) = number reason ∷ []
