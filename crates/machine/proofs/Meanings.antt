-- What the answer of the test of 1 to 5 says determines the answer.
use mathlib.Core.Path.{◌≡◌, refl, ap}
use native.Mathlib.Omega.{arith}
use Rattle.std.specs.Prelude.{Result, Ok, Err}
use Rattle.refusal.specs.Number.{number}
use Rattle.refusal.specs.declared.Reason.{Reason}
use Rattle.refusal.proofs.Injective.{number_injective}
use Rattle.refusal.proofs.Positive.{number_some}
use Rattle.machine.specs.Gate.{meaning_of_gate}

pub gate_injective : (a b : Result (Unit {0}) Reason) → meaning_of_gate a ≡ meaning_of_gate b → a ≡ b
gate_injective (Ok a) (Ok b) e = refl
gate_injective (Ok a) (Err r) e = let z : 0 ≡ number r = cc in absurd (omega (arith, number_some r))
gate_injective (Err r) (Ok b) e = let z : number r ≡ 0 = cc in absurd (omega (arith, number_some r))
gate_injective (Err r) (Err s) e = let z : number r ≡ number s = cc in ap Err (number_injective r s z)
