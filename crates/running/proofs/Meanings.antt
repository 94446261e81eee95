-- What a run's stop says determines the stop.
use mathlib.Core.Path.{◌≡◌, refl, ap}
use mathlib.Core.List.{List}
use Prim.Native.Nat.{ℕ}
use native.Mathlib.Omega.{arith}
use lib.ListN.{length, get_or}
use Rattle.refusal.specs.Number.{number}
use Rattle.refusal.proofs.Injective.{number_injective}
use Rattle.refusal.proofs.Positive.{number_some}
use Rattle.running.specs.declared.Stop.{Stop}
use Rattle.running.specs.declared.Stop.TheVariants as T
use Rattle.running.specs.Run.{meaning_of_stop}

-- how many numbers a meaning has, and the first of them
size : {k l : List ℕ} → k ≡ l → length k ≡ length l
size e = ap length e

first : {k l : List ℕ} → k ≡ l → get_or k 0 0 ≡ get_or l 0 0
first e = ap (λ (x : List ℕ). get_or x 0 0) e

pub stop_injective : (a b : Stop) → meaning_of_stop a ≡ meaning_of_stop b → a ≡ b
stop_injective T.Limit T.Limit e = refl
stop_injective T.Limit (T.Waiting k) e = let z : ◌≡◌ {A = ℕ} 1 2 = size e in absurd (omega arith)
stop_injective T.Limit (T.Refused r) e = let z : 0 ≡ number r = first e in absurd (omega (arith, number_some r))
stop_injective (T.Waiting k) T.Limit e = let z : ◌≡◌ {A = ℕ} 2 1 = size e in absurd (omega arith)
stop_injective (T.Waiting k) (T.Waiting j) e = ap T.Waiting (ap (λ (x : List ℕ). get_or x 1 0) e)
stop_injective (T.Waiting k) (T.Refused r) e = let z : ◌≡◌ {A = ℕ} 2 1 = size e in absurd (omega arith)
stop_injective (T.Refused r) T.Limit e = let z : number r ≡ 0 = first e in absurd (omega (arith, number_some r))
stop_injective (T.Refused r) (T.Waiting k) e = let z : ◌≡◌ {A = ℕ} 1 2 = size e in absurd (omega arith)
stop_injective (T.Refused r) (T.Refused s) e = ap T.Refused (number_injective r s (first e))
