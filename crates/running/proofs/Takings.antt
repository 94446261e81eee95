-- A run is takings, one after the other.
use mathlib.Core.Path.{◌≡◌, refl, ap, ◌∙◌}
use mathlib.Core.List.{List}
use Prim.Native.Nat.{ℕ, zero, suc, min, ◌<◌}
use native.Mathlib.Nat.{min-eq_left}
use native.Mathlib.Omega.{arith}
use lib.ListN.{length}
use Rattle.octets.specs.BigEndian.{Octets}
use Rattle.command.specs.Look.{unless_refused}
use Rattle.machine.specs.State.{State}
use Rattle.machine.specs.Gate.{gate_of}
use Rattle.processor.specs.Step.{look_at, step_found, step_of}
use Rattle.processor.proofs.Valid.{runs_on}
use Rattle.running.specs.Run.{Ended, gone_on, steps, gated, run_limit, run_of}
use Rattle.running.specs.Promises.{RunTakes}

-- past the gate it is the takings alone
passed_run : (ring : List ℕ) (n : ℕ) (s : State) → n < run_limit → gate_of s (length ring) ≡ 0 → run_of ring n s ≡ steps ring n s
unfolding run_of
passed_run ring n s h g =
    ap (λ (r : ℕ). gated r s (steps ring (min n run_limit) s)) g ∙ ap (λ (k : ℕ). steps ring k s) (min-eq_left (omega arith))

module _ (ring : List ℕ) (o : Octets ring) (n : ℕ) (s : State) (h : n < run_limit) where
  by_gate : (g : ℕ) → gate_of s (length ring) ≡ g → {e : Ended} → e ≡ gated g s (steps ring (suc n) s)
      → e ≡ gone_on (unless_refused g (look_at ring s)) s (run_of ring n (step_of ring s))
  unfolding steps step_found
  by_gate zero g e =
      rw (passed_run ring n (step_of ring s) h (runs_on ring o s g)) (rw g at e)
  by_gate (suc r) g e = e

pub run_takes : RunTakes
unfolding run_of step_found
run_takes ring o n s h =
    by_gate ring o n s h (gate_of s (length ring)) refl
    (ap (λ (k : ℕ). gated (gate_of s (length ring)) s (steps ring k s)) (min-eq_left (omega arith)))
