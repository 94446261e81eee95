-- The numbers of an answer determine it, so that the promises do.
use mathlib.Core.Path.{◌≡◌, refl, ap}
use mathlib.Core.List.{List}
use Prim.Native.Nat.{ℕ}
use native.Mathlib.Omega.{arith}
use lib.ListN.{get_or}
use Rattle.std.specs.Prelude.{Option, None, Some, Result}
use Rattle.refusal.specs.declared.Reason.{Reason}
use Rattle.refusal.proofs.Injective.{number_injective}
use Rattle.refusal.proofs.Outcome.{outcome_injective}
use Rattle.refusal.proofs.Positive.{number_some}
use Rattle.recording.specs.declared.Fault.{Fault}
use Rattle.recording.specs.Answers.{meaning_of_verdict, meaning_of_fault}

-- number k of an answer
abbrev nth : ℕ → List ℕ → ℕ
nth k l = get_or l k 0

pub verdict_injective : (a b : Result (Unit {0}) Reason) → meaning_of_verdict a ≡ meaning_of_verdict b → a ≡ b
verdict_injective = outcome_injective

pub fault_injective : (a b : Option Fault) → meaning_of_fault a ≡ meaning_of_fault b → a ≡ b
fault_injective None None e = refl
fault_injective None (Some b) e = absurd (omega (arith, number_some b.reason, ap (nth 0) e))
fault_injective (Some a) None e = absurd (omega (arith, number_some a.reason, ap (nth 0) e))
fault_injective (Some a) (Some b) e =
    let places = ap (nth 1) e in
    let reasons = number_injective a.reason b.reason (ap (nth 0) e) in
    λ i. Some (record { place = places i; reason = reasons i })
