-- A run by its units: what holds of one that ends, and stays when a unit comes before it, holds of every run.
use mathlib.Core.Path.{◌≡◌, refl, ap}
use mathlib.Core.List.{List, [], ◌∷◌}
use Prim.Native.Nat.{ℕ, zero, suc, min}
use native.Mathlib.Omega.{arith}
use lib.ListN.{length}
use Rattle.command.specs.Command.{Found, unit, waiting, refused}
use Rattle.command.specs.Look.{unless_refused}
use Rattle.machine.specs.State.{State}
use Rattle.machine.specs.Gate.{gate_of}
use Rattle.processor.specs.Step.{look_at, step_found, step_of}
use Rattle.running.specs.Run.{Ended, stop_of, ended, gone_on, steps, gated, run_limit, run_of}

-- a property of the state that a run is at and of how it ends
pub record Inductive (ring : List ℕ) (P : State → Ended → Type 0) : Type 0 where
  pub at_limit : (s : State) → P s (ended [] (0 ∷ []) s)
  pub at_waiting : (s : State) (k : ℕ) → step_found ring s ≡ waiting k → P s (ended [] (stop_of (waiting k)) s)
  pub at_refusal : (s : State) (r : ℕ) → step_found ring s ≡ refused r → P s (ended [] (stop_of (refused r)) s)
  pub at_unit : (s : State) (c : List ℕ) (m n : ℕ) (e : Ended) → step_found ring s ≡ unit c m n → P (step_of ring s) e
      → P s (gone_on (unit c m n) s e)

module _ (ring : List ℕ) (P : State → Ended → Type 0) (h : Inductive ring P) where
  gone_holds : (found : Found) (s : State) (e : Ended) → step_found ring s ≡ found → P (step_of ring s) e → P s (gone_on found s e)
  gone_holds (unit c m n) s e f k = h.at_unit s c m n e f k
  gone_holds (waiting j) s e f k = h.at_waiting s j f
  gone_holds (refused r) s e f k = h.at_refusal s r f

  steps_hold : (n : ℕ) (s : State) → P s (steps ring n s)
  unfolding steps
  steps_hold zero s = h.at_limit s
  steps_hold (suc n) s = gone_holds (step_found ring s) s (steps ring n (step_of ring s)) refl (steps_hold n (step_of ring s))

  gated_holds : (r : ℕ) (s : State) (e : Ended) → gate_of s (length ring) ≡ r → P s e → P s (gated r s e)
  unfolding step_found
  gated_holds zero s e g k = k
  gated_holds (suc r) s e g k = h.at_refusal s (suc r) (ap (λ (x : ℕ). unless_refused x (look_at ring s)) g)

  pub run_holds : (limit : ℕ) (s : State) → P s (run_of ring limit s)
  unfolding run_of
  run_holds limit s =
      gated_holds (gate_of s (length ring)) s (steps ring (min limit run_limit) s) refl (steps_hold (min limit run_limit) s)

-- what a state has, and keeps through every taking, the state that a run leaves has
pub run_keeps : (ring : List ℕ) (Has : State → Type 0) → ((s : State) → Has s → Has (step_of ring s))
    → (limit : ℕ) (s : State) → Has s → Has (run_of ring limit s).state
run_keeps ring Has stays =
    run_holds ring (λ s e. Has s → Has e.state)
    (record {
      at_limit = λ s h. h;
      at_waiting = λ s k f h. h;
      at_refusal = λ s r f h. h;
      at_unit = λ s c m n e f k h. k (stays s h);
    })

-- a run of no unit leaves the state
pub none_run : (ring : List ℕ) (limit : ℕ) (s : State) → length (run_of ring limit s).units ≡ 0 → (run_of ring limit s).state ≡ s
none_run ring =
    run_holds ring (λ s e. length e.units ≡ 0 → e.state ≡ s)
    (record {
      at_limit = λ s z. refl;
      at_waiting = λ s k f z. refl;
      at_refusal = λ s r f z. refl;
      at_unit = λ s c m n e f k z. absurd (omega (arith, z));
    })
