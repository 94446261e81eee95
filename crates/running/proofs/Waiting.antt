-- What a look, a taking and a run that wait promise: at least one byte is lacking and never more than there is room for.
use mathlib.Core.Path.{◌≡◌, ap, subst, ◌∙◌}
use mathlib.Core.List.{List}
use Prim.Native.Nat.{ℕ, zero, suc, ◌≤◌}
use native.Mathlib.Omega.{arith}
use lib.ListN.{length, get_or}
use Rattle.command.specs.Command.{Found, waiting, refused}
use Rattle.command.specs.Look.{unless_refused}
use Rattle.command.specs.Bounds.{Fair}
use Rattle.command.proofs.Refusals.{unless_waiting}
use Rattle.command.proofs.Bounds.{look_fair}
use Rattle.queue.proofs.Pending.{length_pending}
use Rattle.machine.specs.State.{State}
use Rattle.machine.specs.Gate.{gate_of}
use Rattle.processor.specs.Step.{queue_of, look_at, step_found}
use Rattle.machine.proofs.Passing.{Passes, gate_passes, gate_most}
use Rattle.running.specs.Run.{run_of}
use Rattle.running.specs.Promises.{LackingFits, RunWaits, RunLackingFits}
use Rattle.running.proofs.Invariant.{run_holds}

-- what the queue begins with is fair
fair : (ring : List ℕ) (s : State) → Fair (length (queue_of ring s)) (look_at ring s)
unfolding look_at
fair ring s = look_fair (queue_of ring s) (length (queue_of ring s)) s.cp s.draw

pub lacking_fits : LackingFits
unfolding step_found
lacking_fits ring s k e =
    let u = unless_waiting (gate_of s (length ring)) (look_at ring s) k e in
    let p : Passes s (length ring) = gate_passes s (length ring) u.0 in
    let l : Fair (length (queue_of ring s)) (waiting k) = subst (Fair (length (queue_of ring s))) u.1 (fair ring s) in
    (l.0, omega (arith, l.1, length_pending s.fifo.window ring, p.ready.valid.least))

-- ---- refusals of a look and of a taking are 1 to 10
within_ten : (n g r : ℕ) (x : Found) → g ≤ 5 → Fair n x → unless_refused g x ≡ refused r → (1 ≤ r) × (r ≤ 10)
within_ten n zero r x h f e =
    let q : Fair n (refused r) = subst (Fair n) e f in
    (omega (arith, q), q.1)
within_ten n (suc g) r x h f e =
    let z : suc g ≡ r = cc in
    (omega (arith, z), omega (arith, h, z))

pub step_refuses : (ring : List ℕ) (s : State) (r : ℕ) → step_found ring s ≡ refused r → (1 ≤ r) × (r ≤ 10)
unfolding step_found
step_refuses ring s r e = within_ten _ (gate_of s (length ring)) r (look_at ring s) (gate_most s (length ring)) (fair ring s) e

-- ---- a run

-- a run whose stop begins with 255 has come to a unit that lacks what the stop says next
pub run_stopped : (ring : List ℕ) (limit : ℕ) (s : State) → get_or (run_of ring limit s).stop 0 0 ≡ 255
    → step_found ring (run_of ring limit s).state ≡ waiting (get_or (run_of ring limit s).stop 1 0)
run_stopped ring =
    run_holds ring (λ s e. get_or e.stop 0 0 ≡ 255 → step_found ring e.state ≡ waiting (get_or e.stop 1 0))
    (record {
      at_limit = λ s z. absurd (omega (arith, z));
      at_waiting = λ s k f z. f;
      at_refusal = λ s r f z. absurd (omega (arith, step_refuses ring s r f, z));
      at_unit = λ s c m n e f k. k;
    })

pub run_waits : RunWaits
run_waits ring limit s k q =
    run_stopped ring limit s (ap (λ (l : List ℕ). get_or l 0 0) q) ∙ ap (λ (l : List ℕ). waiting (get_or l 1 0)) q

pub run_lacking_fits : RunLackingFits
run_lacking_fits ring limit s k q = lacking_fits ring (run_of ring limit s).state k (run_waits ring limit s k q)
