-- The words and the memory after a call say the state after it.
use mathlib.Core.Path.{◌≡◌, refl, sym, ap, ◌∙◌}
use mathlib.Core.Bool.{Bool, true, false, cond, false≢true}
use mathlib.Core.List.{List, [], ◌∷◌}
use Prim.Native.Nat.{ℕ}
use lib.Dec.{eqb}
use lib.ListN.{length}
use borrow.Author.Tests.{eqb-true}
use Rattle.octets.specs.BigEndian.{Octets}
use Rattle.command.specs.Command.{Found, unit, waiting, refused}
use Rattle.fifo.specs.declared.Fifo.{Fifo}
use Rattle.registers.specs.Registers.{writable, write_answer, written}
use Rattle.queue.specs.Feeding.{accepted, fifo_after, ring_after}
use Rattle.queue.proofs.FeedLaws.{refused_left}
use Rattle.machine.specs.State.{State}
use Rattle.processor.specs.Step.{after, step_found, step_of}
use Rattle.running.specs.Run.{run_of}
use Rattle.running.proofs.Invariant.{none_run}
use Rattle.words.specs.State.{fifo_of, state_at, fifo_stored}
use Rattle.words.specs.Promises.{state_with}
use Rattle.words.proofs.Holding.{words_promises}
use Rattle.encoding.specs.Told.{first_of, answer_number}
use Rattle.access.specs.Calls.{WritesRegister, Feeds}
use Rattle.stepping.specs.Calls.{Lent, lent_of, lent_by}
use Rattle.duckhammock.specs.Promises.{said_by, CallsPromises}

-- ---- a call that is not accepted leaves the fifo and the state

write_kept : (f : Fifo) (offset value : ℕ) (b : Bool) → writable offset ≡ b → eqb (first_of (write_answer offset)) 0 ≡ false
    → written f offset value ≡ f
unfolding written write_answer
write_kept f offset value true w e = absurd (false≢true (sym e ∙ ap (λ (x : Bool). eqb (first_of (cond x (0 ∷ []) (17 ∷ []))) 0) w))
write_kept f offset value false w e = rw w

take_kept : (ring : List ℕ) (s : State) (found : Found) → eqb (answer_number found) 0 ≡ false → after ring s found ≡ s
take_kept ring s (unit c m n) e = absurd (false≢true (sym e))
take_kept ring s (waiting k) e = refl
take_kept ring s (refused r) e = refl

module _ (words xf vertex : List ℕ) where
  -- a fifo that is stored, or is the one that was there
  fifo_said : (b : Bool) (f : Fifo) {words' : List ℕ} → words' ≡ cond b (fifo_stored words f) words → (b ≡ false → f ≡ fifo_of words)
      → state_at words' xf vertex ≡ state_with words xf vertex f
  fifo_said true f e h = ap (λ (l : List ℕ). state_at l xf vertex) e ∙ words_promises.of_fifo words xf vertex f
  fifo_said false f e h = ap (λ (l : List ℕ). state_at l xf vertex) e ∙ ap (state_with words xf vertex) (sym (h refl))

  write_said : (offset value r : ℕ) (words' : List ℕ) → WritesRegister words offset value r words'
      → state_at words' xf vertex ≡ state_with words xf vertex (written (fifo_of words) offset value)
  write_said offset value r words' h =
      fifo_said (eqb r 0) (written (fifo_of words) offset value) h.state_is
      (λ e. write_kept (fifo_of words) offset value (writable offset) refl (ap (λ (n : ℕ). eqb n 0) (sym h.answer_is) ∙ e))

  module _ (ring bytes : List ℕ) (r : ℕ) (words' ring' : List ℕ) (h : Feeds words ring bytes r words' ring') where
    kept : eqb r 0 ≡ false → (fifo_after (fifo_of words) ring bytes ≡ fifo_of words) × (ring_after (fifo_of words) ring bytes ≡ ring)
    unfolding accepted
    kept e = refused_left (fifo_of words) ring bytes (ap (λ (n : ℕ). eqb n 0) (sym h.answer_is) ∙ e)

    ring_fed : (b : Bool) → eqb r 0 ≡ b → ring' ≡ ring_after (fifo_of words) ring bytes
    ring_fed true e = rw e at h.ring_is
    ring_fed false e = h.ring_is ∙ rw e (sym (kept e).1)

    feed_said : (state_at words' xf vertex ≡ state_with words xf vertex (fifo_after (fifo_of words) ring bytes))
        × (ring' ≡ ring_after (fifo_of words) ring bytes)
    feed_said =
        (fifo_said (eqb r 0) (fifo_after (fifo_of words) ring bytes) h.state_is (λ e. (kept e).0), ring_fed (eqb r 0) refl)

  module _ (ring : List ℕ) (o : Octets ring) (long : length words ≡ 327) where
    take_said : (b : Bool) {r : ℕ} {lent' : Lent} → eqb r 0 ≡ b → r ≡ answer_number (step_found ring (state_at words xf vertex))
        → lent' ≡ cond b (lent_by (step_of ring (state_at words xf vertex))) (lent_of words xf vertex)
        → said_by lent' ≡ step_of ring (state_at words xf vertex)
    unfolding step_of
    take_said true b e l = ap said_by l ∙ words_promises.of_take ring words xf vertex o long
    take_said false b e l =
        let s = state_at words xf vertex in
        ap said_by l ∙ sym (take_kept ring s (step_found ring s) (ap (λ (n : ℕ). eqb n 0) (sym e) ∙ b))

    run_said : (limit : ℕ) (b : Bool) {lent' : Lent} → eqb (length (run_of ring limit (state_at words xf vertex)).units) 0 ≡ b
        → lent' ≡ cond b (lent_of words xf vertex) (lent_by (run_of ring limit (state_at words xf vertex)).state)
        → said_by lent' ≡ (run_of ring limit (state_at words xf vertex)).state
    run_said limit true b l = ap said_by l ∙ sym (none_run ring limit (state_at words xf vertex) (eqb-true _ 0 b))
    run_said limit false b l = ap said_by l ∙ words_promises.of_run ring words xf vertex limit o long

pub calls_promises : CallsPromises
calls_promises = record {
  after_write = write_said;
  after_feed_lem = feed_said;
  after_take = λ ring words xf vertex unit lacking r lent' unit' lacking' o n h.
      take_said words xf vertex ring o n (eqb r 0) refl h.told.answer_is h.lent_is;
  after_run = λ ring words xf vertex limit r lent' report' o n h. run_said words xf vertex ring o n limit _ refl h.lent_is;
}
