-- What `look` and `take` promise, for a refusal by 1 to 5 and past these.
use mathlib.Core.Path.{◌≡◌, sym, ap, ◌∙◌}
use mathlib.Core.List.{List, [], ◌∷◌}
use Prim.Native.Nat.{ℕ}
use lib.ListN.{length}
use Rattle.refusal.specs.Number.{number}
use Rattle.refusal.specs.declared.Reason.{Reason}
use Rattle.command.specs.declared.Draw.{Draw}
use Rattle.command.specs.Command.{Found, unit, waiting, refused}
use Rattle.command.proofs.Refusals.{unless_refused_lem}
use Rattle.cursor.specs.declared.Cursor.{Cursor}
use Rattle.fifo.specs.declared.Fifo.{Fifo}
use Rattle.fifo.specs.Window.{Ready, consume}
use Rattle.cursor.specs.Cursor.{opened, closed}
use Rattle.cursor.proofs.CursorLaws.{reads_pending}
use Rattle.queue.proofs.Moves.{consume_none}
use Rattle.command.specs.declared.StepAnswer.{StepAnswer}
use Rattle.command.specs.declared.StepAnswer.TheVariants.{Refused}
use Rattle.machine.specs.State.{State, state_of}
use Rattle.machine.specs.Gate.{gate_of}
use Rattle.processor.specs.Step.{look_at, executed, after, step_found, step_of, Steps}
use Rattle.machine.proofs.Passing.{Passes, gate_passes}
use Rattle.unit.specs.Cursor.{seen}
use Rattle.processor.proofs.Bridge.{TakesUnit, seen_is}

module _ (ring : List ℕ) (fifo : Fifo) (cp bp : List ℕ) (draw : Draw) (xf buffer : List ℕ) where
  abbrev s : State
  s = state_of fifo cp bp draw xf buffer

  pub found_refused : (r : Reason) → number r ∷ [] ≡ gate_of s (length ring) ∷ [] → refused (number r) ≡ step_found ring s
  unfolding step_found
  found_refused r e = unless_refused_lem r (gate_of s (length ring)) (look_at ring s) e

  pub steps_refused : (r : Reason) → number r ∷ [] ≡ gate_of s (length ring) ∷ []
      → Steps ring s (record { fifo = fifo; draw = draw; answer = Refused r }) cp bp xf buffer
  unfolding step_of
  steps_refused r e =
      let f = found_refused r e in
      record { answer_is = f; state_is = ap (after ring s) f }

module _ (ring : List ℕ) (s : State) (ready : Ready s.fifo (length ring)) where
  closed_same : closed s.fifo (opened s.fifo) ≡ s.fifo
  closed_same =
      let e : consume s.fifo 0 ≡ s.fifo = consume_none s.fifo ready.valid in
      ap (λ (f : Fifo). closed s.fifo (opened f)) (sym e) ∙ (reads_pending s.fifo ring ready).close_is 0 ∙ e

  -- the cursor closed is the fifo after what was found
  pub closed_after : (found : Found) → closed s.fifo (opened (after ring s found).fifo) ≡ (after ring s found).fifo
  unfolding executed
  closed_after (unit c m n) = (reads_pending s.fifo ring ready).close_is n
  closed_after (waiting k) = closed_same
  closed_after (refused r) = closed_same

module _ (ring : List ℕ) (s : State) where
  pub steps_taken : {answer : StepAnswer} {cursor : Cursor} {draw : Draw} {cp bp xf buffer : List ℕ} {fifo : Fifo}
      → gate_of s (length ring) ≡ 0 → TakesUnit ring s answer cursor draw cp bp xf buffer → fifo ≡ closed s.fifo cursor
      → Steps ring s (record { fifo = fifo; draw = draw; answer = answer }) cp bp xf buffer
  unfolding step_of step_found
  steps_taken {cursor = cursor} g t f =
      let p : Passes s (length ring) = gate_passes s (length ring) g in
      let h = f ∙ ap (closed s.fifo) t.cursor_is ∙ closed_after ring s p.ready (look_at ring s) in
      record { answer_is = rw g t.answer_is; state_is = rw (g, h) t.state_is }

  -- a look past the gate
  pub looks_passed : gate_of s (length ring) ≡ 0 → {cursor : Cursor} {found : Found} → cursor ≡ opened s.fifo
      → found ≡ seen cursor ring s.cp s.draw → found ≡ step_found ring s
  unfolding step_found
  looks_passed g e f =
      let p : Passes s (length ring) = gate_passes s (length ring) g in
      rw g (f ∙ ap (λ (x : Cursor). seen x ring s.cp s.draw) e ∙ seen_is ring s p.ready)
