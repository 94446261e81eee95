-- The promises over feeds and takings, of the machine: answers that more bytes don't change, a full ring that never waits, a written
-- command that is taken.
use mathlib.Core.Path.{◌≡◌, refl, sym, ap₂, ◌∙◌}
use mathlib.Core.Logic.{⊎_elim}
use mathlib.Core.List.{List, [], ◌++◌, append-nil}
use Prim.Native.Nat.{ℕ, ◌+◌}
use native.Mathlib.Omega.{arith}
use lib.ListN.{length}
use lib.Seq.{take_all}
use borrow.Author.Tests.{eqb-false}
use Rattle.std.proofs.lemmas.Bool.{cases_Bool, cond_both}
use Rattle.command.specs.declared.Command.TheVariants.{LoadXf}
use Rattle.command.specs.Command.{numbers_of, load_xf}
use Rattle.writer.specs.Write.{words_of, command_bytes}
use Rattle.writer.specs.Again.{held_words}
use Rattle.writer.proofs.Back.{looks_back}
use Rattle.writer.proofs.Loads.{loads_back}
use Rattle.fifo.specs.declared.Fifo.{Fifo}
use Rattle.fifo.specs.Window.{ready_by}
use Rattle.queue.specs.Feeding.{accepted, bytes_accepted, fifo_after, ring_after}
use Rattle.fifo.proofs.WindowLaws.{true_ready}
use Rattle.queue.proofs.FeedLaws.{Fits, accepted_fits, pending_after, ready_after, refused_left}
use Rattle.fifo.specs.Window.{accept}
use Rattle.machine.specs.State.{State}
use Rattle.machine.specs.Gate.{state_fits, gate_by, gate_of}
use Rattle.processor.specs.Step.{look_at, executed, step_found, step_of, Runnable}
use Rattle.machine.proofs.Passing.{Passes, gate_passes}
use Rattle.running.proofs.Waiting.{lacking_fits}
use Rattle.history.specs.Calls.{World, feed, after}
use Rattle.history.specs.More.{Longer}
use Rattle.history.specs.Promises.{StepFed, RunFed, FullNeverWaits, StepWritten, StepWords}
use Rattle.history.proofs.Bytes.{fed_octets}
use Rattle.history.proofs.More.{step_longer, run_longer}

-- ---- a feed makes the queue longer, and leaves 1 to 5
ready_same : (f : Fifo) (ring bytes : List ℕ)
    → ready_by (fifo_after f ring bytes) (length (ring_after f ring bytes)) ≡ ready_by f (length ring)
ready_same f ring bytes =
    ⊎_elim
    (λ t.
    let a : Fits f (length ring) (length bytes) = accepted_fits f ring bytes t in
    true_ready (fifo_after f ring bytes) (length (ring_after f ring bytes)) (ready_after f ring bytes a.ready)
    ∙ sym (true_ready f (length ring) a.ready))
    (λ t.
    let l = refused_left f ring bytes t in
    ap₂ (λ (g : Fifo) (r : List ℕ). ready_by g (length r)) l.0 l.1)
    (cases_Bool (accepted f ring bytes))

control_same : (f : Fifo) (ring bytes : List ℕ) → (fifo_after f ring bytes).control ≡ f.control
unfolding fifo_after accept
control_same f ring bytes = cond_both (accepted f ring bytes) _ _ (λ (g : Fifo). g.control ≡ f.control) (λ _. refl) (λ _. refl)

module _ (w : World) (bytes : List ℕ) where
  abbrev s : State
  s = w.state

  abbrev t : State
  t = (after w (feed bytes)).state

  abbrev ring' : List ℕ
  ring' = (after w (feed bytes)).ring

  gate_same : gate_of t (length ring') ≡ gate_of s (length w.ring)
  unfolding gate_by state_fits
  gate_same = rw (ready_same s.fifo w.ring bytes, control_same s.fifo w.ring bytes)

  -- a state that passes 1 to 5 passes them after a feed
  pub runs_fed : Runnable w.ring s → Runnable ring' t
  runs_fed e = gate_same ∙ e

  pub feed_longer : Longer w.ring s ring' t (bytes_accepted s.fifo w.ring bytes)
  feed_longer =
      record {
        cp_is = refl;
        bp_is = refl;
        draw_is = refl;
        xf_is = refl;
        buffer_is = refl;
        gate_is = gate_same;
        queue_is = pending_after s.fifo w.ring bytes;
      }

-- "Answers other than waiting don't change when more bytes are fed."
pub step_fed : StepFed
step_fed w bytes = step_longer (feed_longer w bytes)

pub run_fed : RunFed
run_fed w bytes o h limit = run_longer limit o (fed_octets w.state.fifo w.ring bytes o h) (feed_longer w bytes)

-- ---- "A full ring is never answered with waiting."
pub full_never_waits : FullNeverWaits
full_never_waits w r full k e = omega (arith, lacking_fits w.ring w.state k e, full)

-- ---- "Stepping a written command, alone in a ring that passes 1 to 5 with no draw open, gives it back, for a draw head unless 9 or 10."
pub step_written : StepWritten
unfolding step_found look_at
step_written w command words h d =
    let cp : List ℕ = w.state.cp in
    let bytes : List ℕ = command_bytes (numbers_of command) words in
    let alone : bytes ++ [] ≡ bytes = append-nil bytes in
    let t = h.taken in
    rw (h.passes, h.alone, h.closed)
    (rw alone at (looks_back words [] cp command h.typed t.writable t.addressed t.within d))

-- an XF load's words are then in the XF memory
pub step_words : StepWords
unfolding step_of executed held_words words_of
step_words w n address words h fits =
    let s : State = w.state in
    let c : List ℕ = load_xf n address in
    let bytes : List ℕ = command_bytes c words in
    let found = step_written w (LoadXf n address) words h (λ e. absurd (eqb-false 0x10 0x80 refl e)) in
    let p : Passes s (length w.ring) = gate_passes s (length w.ring) h.passes in
    rw (found, h.alone, take_all (length bytes) bytes (omega arith)) (loads_back n address words s.xf h.taken fits p.xf)
