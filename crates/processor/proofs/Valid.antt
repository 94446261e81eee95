-- A state that passes 1 to 5 passes them after a unit, so a run passes them once.
use mathlib.Core.Path.{◌≡◌, refl, sym, ap, ◌∙◌, subst}
use mathlib.Core.List.{List}
use Prim.Native.Nat.{ℕ, ◌<◌}
use lib.Dec.{lit<}
use lib.ListN.{length, take}
use Rattle.octets.proofs.Number.{Octets}
use Rattle.command.specs.Command.{Found, unit, waiting, refused}
use Rattle.command.specs.Look.{unless_refused}
use Rattle.command.proofs.Ranges.{Ranged, Ranges, look_ranges}
use Rattle.effect.proofs.Lengths.{length_xf, length_buffer}
use Rattle.fifo.specs.Window.{consume}
use Rattle.queue.proofs.Moves.{ready_consume}
use Rattle.queue.proofs.Pending.{pending_each}
use Rattle.machine.specs.State.{State}
use Rattle.processor.specs.Step.{queue_of, look_at, executed, after, step_found, step_of, Runnable}
use Rattle.machine.proofs.Passing.{Passes, gate_passes, passes_gate}
use Rattle.processor.proofs.Stays.{bp_stays, cp_stays, draw_stays}

-- pending bytes are bytes
pub queue_octets : (ring : List ℕ) (s : State) → Octets ring → Octets (queue_of ring s)
queue_octets ring s o k = pending_each (λ (x : ℕ). x < 256) s.fifo.window ring (lit< tt) o k

-- a command whose fields fit their registers
pub executed_passes : (ring : List ℕ) (s : State) (c : List ℕ) (n : ℕ) → Ranged c → Passes s (length ring)
    → Passes (executed ring s c n) (length ring)
unfolding executed consume
executed_passes ring s c n r p =
    let u : List ℕ = take n (queue_of ring s) in
    record {
      ready = ready_consume s.fifo (length ring) p.ready n;
      control = p.control;
      bp = bp_stays c s.bp r p.bp;
      cp = cp_stays c s.cp p.cp;
      draw = draw_stays c s.draw r p.draw;
      xf = length_xf c u s.xf ∙ p.xf;
      buffer = rw (length_buffer c u s.buffer) p.buffer;
      enabled = p.enabled;
      unlinked = p.unlinked;
    }

-- past the gate a look finds what the queue begins with
pub runs_found : (ring : List ℕ) (s : State) → Runnable ring s → step_found ring s ≡ look_at ring s
unfolding step_found
runs_found ring s e = ap (λ (r : ℕ). unless_refused r (look_at ring s)) e

-- and a taking takes it
pub step_after : (ring : List ℕ) (s : State) → Runnable ring s → step_of ring s ≡ after ring s (look_at ring s)
unfolding step_of
step_after ring s e = ap (after ring s) (runs_found ring s e)

module _ (ring : List ℕ) (o : Octets ring) (s : State) where
  ranged : (c : List ℕ) (m n : ℕ) → unit c m n ≡ look_at ring s → Ranged c
  unfolding look_at
  ranged c m n e = subst Ranges (sym e) (look_ranges (queue_of ring s) (queue_octets ring s o) (length (queue_of ring s)) s.cp s.draw)

  pub after_passes : (found : Found) → found ≡ look_at ring s → Passes s (length ring) → Passes (after ring s found) (length ring)
  after_passes (unit c m n) e p = executed_passes ring s c n (ranged c m n e) p
  after_passes (waiting k) e p = p
  after_passes (refused r) e p = p

  -- a state that passes 1 to 5 passes them after a taking
  pub runs_on : Runnable ring s → Runnable ring (step_of ring s)
  runs_on e =
      let p = after_passes (look_at ring s) refl (gate_passes s (length ring) e) in
      rw (step_after ring s e) (passes_gate (after ring s (look_at ring s)) (length ring) p)
