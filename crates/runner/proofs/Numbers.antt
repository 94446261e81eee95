-- The number of an answer that is one number.
use mathlib.Core.Path.{◌≡◌}
use mathlib.Core.List.{[], ◌∷◌}
use Prim.Native.Nat.{ℕ}
use Rattle.std.specs.Prelude.{Result, Ok, Err}
use Rattle.refusal.specs.Outcome.{outcome}
use Rattle.refusal.specs.declared.Reason.{Reason}
use Rattle.machine.specs.Gate.{meaning_of_gate}

pub number_told : (r : Result (Unit {0}) Reason) {n : ℕ} → meaning_of_gate r ≡ n ∷ [] → outcome r ≡ n
number_told (Ok x) e = cc
number_told (Err reason) e = cc
