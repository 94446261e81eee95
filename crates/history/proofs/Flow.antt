-- What a call does to the queue: the bytes that it accepts come to the end, and those of the units that it answers leave the front.
use mathlib.Core.Path.{◌≡◌, refl, sym, ap, ◌∙◌}
use mathlib.Core.List.{List, [], ◌∷◌}
use Prim.Native.Nat.{ℕ, ◌+◌, ◌-◌, ◌≤◌}
use native.Mathlib.Nat.{add-zero}
use native.Mathlib.Omega.{arith}
use lib.ListN.{length, drop, length-drop}
use lib.Seq.{drop-drop}
use Rattle.command.specs.Command.{Found, unit, waiting, refused}
use Rattle.command.proofs.Refusals.{unless_unit}
use Rattle.cursor.proofs.CursorLaws.{reads_pending}
use Rattle.queue.proofs.Pending.{length_pending}
use Rattle.machine.specs.State.{State}
use Rattle.machine.specs.Gate.{gate_of}
use Rattle.processor.specs.Step.{queue_of, look_at, executed, step_found, step_of}
use Rattle.processor.specs.Step as S
use Rattle.running.specs.Run.{Taken, run_of}
use Rattle.running.proofs.Invariant.{run_holds}
use Rattle.machine.proofs.Passing.{Passes, gate_passes}
use Rattle.processor.proofs.Bridge.{unit_fits}
use Rattle.history.specs.Calls.{after, answered, consumed_by}

module _ (ring : List ℕ) (s : State) where
  -- a unit is answered only past the gate
  pub step_unit : (c : List ℕ) (m n : ℕ) → step_found ring s ≡ unit c m n → Passes s (length ring) × (look_at ring s ≡ unit c m n)
  unfolding step_found
  step_unit c m n e =
      let u = unless_unit (gate_of s (length ring)) (look_at ring s) c m n e in
      (gate_passes s (length ring) u.0, u.1)

  -- one answer: what it leaves of the queue, and that its bytes were there
  pub flow_found : (found : Found) → step_found ring s ≡ found
      → (queue_of ring (S.after ring s found) ≡ drop (consumed_by (answered found)) (queue_of ring s))
      × (consumed_by (answered found) ≤ length (queue_of ring s))
  unfolding executed consumed_by
  flow_found (unit c m n) e =
      let u = step_unit c m n e in
      let p : Passes s (length ring) = u.0 in
      let f = unit_fits ring s p.ready c m n (sym u.1) in (
        (reads_pending s.fifo ring p.ready).drop_is n f.1.0 ∙ ap (λ (k : ℕ). drop k (queue_of ring s)) (sym (add-zero n)),
        omega (arith, f.1.0, length_pending s.fifo.window ring),
      )
  flow_found (waiting k) e = (refl, omega arith)
  flow_found (refused r) e = (refl, omega arith)

-- ---- takings in a row
unfoldable pub Flows : List ℕ → State → List Taken → State → Type 0
Flows ring s us t = (queue_of ring t ≡ drop (consumed_by us) (queue_of ring s)) × (consumed_by us ≤ length (queue_of ring s))

flow_none : (ring : List ℕ) (s : State) → Flows ring s [] s
unfolding Flows consumed_by
flow_none ring s = (refl, omega arith)

flow_then : (ring : List ℕ) (s t r : State) (u : Taken) (us : List Taken) → Flows ring s (u ∷ []) t → Flows ring t us r
    → Flows ring s (u ∷ us) r
unfolding Flows consumed_by
flow_then ring s t r u us a b =
    let n : u.length + 0 ≡ u.length = add-zero u.length in
    let q : queue_of ring t ≡ drop u.length (queue_of ring s) = rw n at a.0 in
    let l : length (drop u.length (queue_of ring s)) ≡ length (queue_of ring s) - u.length = length-drop u.length (queue_of ring s) in
    let h : consumed_by us ≤ length (drop u.length (queue_of ring s)) = rw q at b.1 in
    (b.0 ∙ ap (drop (consumed_by us)) q ∙ drop-drop (consumed_by us) u.length (queue_of ring s), omega (arith, a.1, h, l))

flow_step : (ring : List ℕ) (s : State) (c : List ℕ) (m n : ℕ) → step_found ring s ≡ unit c m n
    → Flows ring s (record { command = c; memory = m; length = n } ∷ []) (step_of ring s)
unfolding Flows step_of
flow_step ring s c m n f = rw f (flow_found ring s (unit c m n) f)

pub flow_run : (ring : List ℕ) (limit : ℕ) (s : State) → Flows ring s (run_of ring limit s).units (run_of ring limit s).state
flow_run ring =
    run_holds ring (λ s e. Flows ring s e.units e.state)
    (record {
      at_limit = λ s. flow_none ring s;
      at_waiting = λ s k f. flow_none ring s;
      at_refusal = λ s r f. flow_none ring s;
      at_unit = λ s c m n e f k. flow_then ring s (step_of ring s) e.state _ e.units (flow_step ring s c m n f) k;
    })
