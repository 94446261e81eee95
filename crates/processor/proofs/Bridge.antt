-- The cursor of a ready fifo is its queue: what is found at the cursor, and what it leaves, is a unit of the queue.
use mathlib.Core.Path.{◌≡◌, refl, sym, ap, ◌∙◌, subst}
use mathlib.Core.List.{List}
use Prim.Native.Nat.{ℕ, ◌<◌, ◌≤◌}
use native.Mathlib.Omega.{arith}
use lib.ListN.{length, get_or}
use Rattle.laws.proofs.Filled.{get_d_up_to}
use Rattle.command.specs.declared.Draw.{Draw}
use Rattle.command.specs.Command.{Found, unit, waiting, refused}
use Rattle.command.specs.Look.{look_of}
use Rattle.command.proofs.Bounds.{Fair, look_fair}
use Rattle.command.proofs.Prefix.{look_nine}
use Rattle.effect.specs.Effect.{xf_after, vertex_after}
use Rattle.cursor.specs.declared.Cursor.{Cursor}
use Rattle.fifo.specs.Window.{Ready, count_of}
use Rattle.cursor.specs.Cursor.{opened, peeked}
use Rattle.cursor.proofs.CursorLaws.{reads_pending}
use Rattle.queue.proofs.Pending.{length_pending}
use Rattle.command.specs.declared.StepAnswer.{StepAnswer}
use Rattle.machine.specs.State.{State}
use Rattle.unit.specs.Answers.{meaning}
use Rattle.processor.specs.Step.{queue_of, look_at, executed, after}
use Rattle.unit.specs.Cursor.{seen, cursor_by, cp_by, bp_by, draw_by, xf_by, buffer_by, Takes}

-- a unit taken at the state s, or none: the answer, the cursor, and the state
pub record TakesUnit (ring : List ℕ) (s : State) (answer : StepAnswer) (cursor : Cursor) (draw : Draw)
    (cp bp xf buffer : List ℕ) : Type 0 where
  pub answer_is : meaning answer ≡ look_at ring s
  pub cursor_is : cursor ≡ opened (after ring s (look_at ring s)).fifo
  pub state_is :
      ◌≡◌ {A = State} (record { fifo = (after ring s (look_at ring s)).fifo; cp = cp; bp = bp; draw = draw; xf = xf; buffer = buffer })
      (after ring s (look_at ring s))

module _ (ring : List ℕ) (s : State) (ready : Ready s.fifo (length ring)) where
  abbrev count : ℕ
  count = count_of s.fifo.window

  peek_same : (k : ℕ) → k < 9 → get_or (peeked (opened s.fifo) ring) k 0 ≡ get_or (queue_of ring s) k 0
  peek_same k h =
      ap (λ (l : List ℕ). get_or l k 0) (reads_pending s.fifo ring ready).peek_is ∙ get_d_up_to (λ i. get_or (queue_of ring s) i 0) 9 k h

  -- what is found at the cursor is what the queue begins with
  pub seen_is : seen (opened s.fifo) ring s.cp s.draw ≡ look_at ring s
  unfolding seen look_at
  seen_is =
      let e : (opened s.fifo).left ≡ length (queue_of ring s) =
      (reads_pending s.fifo ring ready).left_is ∙ sym (length_pending s.fifo.window ring) in
      ap (λ (n : ℕ). look_of (peeked (opened s.fifo) ring) n s.cp s.draw) e
      ∙ look_nine (peeked (opened s.fifo) ring) (queue_of ring s) peek_same (length (queue_of ring s)) s.cp s.draw

  -- a unit's bytes are pending
  pub unit_fits : (c : List ℕ) (m n : ℕ) → unit c m n ≡ look_at ring s → (1 ≤ n) × ((n ≤ count) × (n ≤ 129))
  unfolding look_at
  unit_fits c m n e =
      let f : Fair (length (queue_of ring s)) (unit c m n) =
      subst (Fair (length (queue_of ring s))) (sym e) (look_fair (queue_of ring s) (length (queue_of ring s)) s.cp s.draw) in
      (f.0, (omega (arith, length_pending s.fifo.window ring), f.1.1))

  moved : (found : Found) → found ≡ look_at ring s → cursor_by found (opened s.fifo) ≡ opened (after ring s found).fifo
  unfolding executed
  moved (unit c m n) e = (reads_pending s.fifo ring ready).skip_is n (unit_fits c m n e).1.0
  moved (waiting k) e = refl
  moved (refused r) e = refl

  xf_moved : (found : Found) → found ≡ look_at ring s → xf_by found (opened s.fifo) ring s.xf ≡ (after ring s found).xf
  unfolding executed
  xf_moved (unit c m n) e =
      ap (λ (b : List ℕ). xf_after c b s.xf) ((reads_pending s.fifo ring ready).bytes_are n (unit_fits c m n e).1.0)
  xf_moved (waiting k) e = refl
  xf_moved (refused r) e = refl

  buffer_moved : (found : Found) → found ≡ look_at ring s → buffer_by found (opened s.fifo) ring s.buffer ≡ (after ring s found).buffer
  unfolding executed
  buffer_moved (unit c m n) e =
      ap (λ (b : List ℕ). vertex_after c b s.buffer) ((reads_pending s.fifo ring ready).bytes_are n (unit_fits c m n e).1.0)
  buffer_moved (waiting k) e = refl
  buffer_moved (refused r) e = refl

  cp_moved : (found : Found) → cp_by found s.cp ≡ (after ring s found).cp
  unfolding executed
  cp_moved (unit c m n) = refl
  cp_moved (waiting k) = refl
  cp_moved (refused r) = refl

  bp_moved : (found : Found) → bp_by found s.bp ≡ (after ring s found).bp
  unfolding executed
  bp_moved (unit c m n) = refl
  bp_moved (waiting k) = refl
  bp_moved (refused r) = refl

  draw_moved : (found : Found) → draw_by found s.draw ≡ (after ring s found).draw
  unfolding executed
  draw_moved (unit c m n) = refl
  draw_moved (waiting k) = refl
  draw_moved (refused r) = refl

  -- what `take_at` leaves at the cursor of a ready fifo is the state after what was found
  pub takes_after : {answer : StepAnswer} {cursor : Cursor} {draw : Draw} {cp bp xf buffer : List ℕ}
      → Takes (seen (opened s.fifo) ring s.cp s.draw) (opened s.fifo) ring s.cp s.bp s.draw s.xf s.buffer
      answer cursor draw cp bp xf buffer
      → TakesUnit ring s answer cursor draw cp bp xf buffer
  takes_after {answer} {cursor} {draw} {cp} {bp} {xf} {buffer} t =
      let found : Found = look_at ring s in
      let u : Takes found (opened s.fifo) ring s.cp s.bp s.draw s.xf s.buffer answer cursor draw cp bp xf buffer =
      rw seen_is at t in
      let p : cp ≡ (after ring s found).cp = u.cp_is ∙ cp_moved found in
      let q : bp ≡ (after ring s found).bp = u.bp_is ∙ bp_moved found in
      let d : draw ≡ (after ring s found).draw = u.draw_is ∙ draw_moved found in
      let x : xf ≡ (after ring s found).xf = u.xf_is ∙ xf_moved found refl in
      let b : buffer ≡ (after ring s found).buffer = u.buffer_is ∙ buffer_moved found refl in
      record { answer_is = u.answer_is; cursor_is = u.cursor_is ∙ moved found refl; state_is = rw (p, q, d, x, b) }

  -- the same at a cursor that is the fifo's
  pub takes_opened : {at : Cursor} {answer : StepAnswer} {cursor : Cursor} {draw : Draw} {cp bp xf buffer : List ℕ} → at ≡ opened s.fifo
      → Takes (seen at ring s.cp s.draw) at ring s.cp s.bp s.draw s.xf s.buffer answer cursor draw cp bp xf buffer
      → TakesUnit ring s answer cursor draw cp bp xf buffer
  takes_opened e t = takes_after (rw e at t)
