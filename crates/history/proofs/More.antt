-- "Answers other than waiting don't change when more bytes are fed": of a look and a taking, and of a run that ended by its limit or a
-- refusal.
use mathlib.Core.Path.{◌≡◌, refl, sym, ap, ◌∙◌}
use mathlib.Core.List.{List, ◌∷◌, ◌++◌}
use Prim.Native.Nat.{ℕ, zero, suc, ◌+◌, min, ◌≤◌}
use native.Mathlib.Omega.{arith}
use lib.ListN.{length, take, drop}
use lib.Seq.{take-append-le, drop-append-le}
use Rattle.octets.proofs.Number.{Octets}
use Rattle.command.specs.Command.{Found, unit, waiting, refused}
use Rattle.command.specs.Look.{unless_refused}
use Rattle.command.specs.Prefix.{Settled}
use Rattle.command.proofs.Extends.{unit_settled, refused_settled}
use Rattle.command.proofs.Prefix.{look_prefix}
use Rattle.effect.specs.Effect.{cp_after, bp_after, draw_after}
use Rattle.cursor.proofs.CursorLaws.{reads_pending}
use Rattle.queue.proofs.Pending.{length_pending}
use Rattle.machine.specs.State.{State}
use Rattle.machine.specs.Gate.{gate_of}
use Rattle.processor.specs.Step.{queue_of, look_at, executed, step_found, step_of, Runnable}
use Rattle.processor.specs.Step as S
use Rattle.running.specs.Run.{Taken, Ended, gone_on, steps, gated, run_limit, run_of}
use Rattle.machine.proofs.Passing.{passes_gate}
use Rattle.processor.proofs.Bridge.{unit_fits}
use Rattle.processor.proofs.Valid.{runs_on}
use Rattle.history.specs.More.{Longer, NotWaiting, SameRun}
use Rattle.history.proofs.Flow.{step_unit}

-- a taking that found a unit executed it
stepped : (ring : List ℕ) (s : State) (c : List ℕ) (m n : ℕ) → step_found ring s ≡ unit c m n → step_of ring s ≡ executed ring s c n
unfolding step_of
stepped ring s c m n e = ap (S.after ring s) e

module _ {ring : List ℕ} {s : State} {ring' : List ℕ} {t : State} {more : List ℕ} (l : Longer ring s ring' t more) where
  look_longer : Settled (look_at ring s) → look_at ring' t ≡ look_at ring s
  unfolding look_at
  look_longer h = rw (l.queue_is, l.cp_is, l.draw_is) (sym (look_prefix (queue_of ring s) more s.cp s.draw h))

  unless_settled : (r : ℕ) (x y : Found) → (Settled x → y ≡ x) → Settled (unless_refused r x) → unless_refused r y ≡ unless_refused r x
  unless_settled zero x y f h = f h
  unless_settled (suc r) x y f h = refl

  -- the answer of a look, and of a taking
  pub step_longer : Settled (step_found ring s) → step_found ring' t ≡ step_found ring s
  unfolding step_found
  step_longer h = rw l.gate_is (unless_settled (gate_of s (length ring)) (look_at ring s) (look_at ring' t) look_longer h)

  -- after the same unit the queue is longer by the same bytes
  executed_longer : Octets ring → Octets ring' → (c : List ℕ) (m n : ℕ) → step_found ring s ≡ unit c m n
      → Longer ring (executed ring s c n) ring' (executed ring' t c n) more
  unfolding executed
  executed_longer o o' c m n e =
      let q : List ℕ = queue_of ring s in
      let u = step_unit ring s c m n e in
      let settled : Settled (step_found ring s) = λ k h. unit_settled c m n k (sym e ∙ h) in
      let e' : step_found ring' t ≡ unit c m n = step_longer settled ∙ e in
      let u' = step_unit ring' t c m n e' in
      let f = unit_fits ring s u.0.ready c m n (sym u.1) in
      let f' = unit_fits ring' t u'.0.ready c m n (sym u'.1) in
      let here : n ≤ length q = omega (arith, f.1.0, length_pending s.fifo.window ring) in
      let bytes : take n (queue_of ring' t) ≡ take n q = ap (take n) l.queue_is ∙ take-append-le n q more here in
      let passed = runs_on ring o s (passes_gate s (length ring) u.0) in
      let passed' = runs_on ring' o' t (passes_gate t (length ring') u'.0) in
      let g : Runnable ring (executed ring s c n) = rw (stepped ring s c m n e) at passed in
      let g' : Runnable ring' (executed ring' t c n) = rw (stepped ring' t c m n e') at passed' in
      record {
        cp_is = ap (cp_after c) l.cp_is;
        bp_is = ap (bp_after c) l.bp_is;
        draw_is = ap (draw_after c) l.draw_is;
        xf_is = rw (bytes, l.xf_is);
        buffer_is = rw (bytes, l.buffer_is);
        gate_is = g' ∙ sym g;
        queue_is =
            (reads_pending t.fifo ring' u'.0.ready).drop_is n f'.1.0
            ∙ ap (drop n) l.queue_is
            ∙ drop-append-le n q more here
            ∙ ap (λ (x : List ℕ). x ++ more) (sym ((reads_pending s.fifo ring u.0.ready).drop_is n f.1.0));
      }

-- ---- takings in a row
gone_longer : {ring : List ℕ} {s : State} {ring' : List ℕ} {t : State} {more : List ℕ} → Longer ring s ring' t more
    → (found : Found) (e d : Ended)
    → ((c : List ℕ) (m n : ℕ) → found ≡ unit c m n → NotWaiting e.stop → SameRun ring e ring' d more)
    → NotWaiting (gone_on found s e).stop → SameRun ring (gone_on found s e) ring' (gone_on found t d) more
gone_longer l (unit c m n) e d f h =
    let r = f c m n refl h in
    record {
      units_are = ap (λ (us : List Taken). record { command = c; memory = m; length = n } ∷ us) r.units_are;
      stop_is = r.stop_is;
      state_is = r.state_is;
    }
gone_longer l (waiting k) e d f h = absurd (h k refl)
gone_longer l (refused r) e d f h = record { units_are = refl; stop_is = refl; state_is = l }

-- a first answer that ends by waiting is one
first_settled : (found : Found) (s : State) (e : Ended) → NotWaiting (gone_on found s e).stop → Settled found
first_settled (unit c m n) s e h = unit_settled c m n
first_settled (waiting j) s e h = λ k x. h j refl
first_settled (refused r) s e h = refused_settled r

pub steps_longer : (n : ℕ) {ring : List ℕ} {s : State} {ring' : List ℕ} {t : State} {more : List ℕ} → Octets ring → Octets ring'
    → Longer ring s ring' t more → NotWaiting (steps ring n s).stop → SameRun ring (steps ring n s) ring' (steps ring' n t) more
unfolding steps
steps_longer zero o o' l h = record { units_are = refl; stop_is = refl; state_is = l }
steps_longer (suc n) {ring} {s} {ring'} {t} {more} o o' l h =
    let settled : Settled (step_found ring s) = first_settled (step_found ring s) s (steps ring n (step_of ring s)) h in
    rw (step_longer l settled)
    (gone_longer l (step_found ring s) (steps ring n (step_of ring s)) (steps ring' n (step_of ring' t))
    (λ c m k e g.
    let e' : step_found ring' t ≡ unit c m k = step_longer l settled ∙ e in
    rw (stepped ring s c m k e, stepped ring' t c m k e')
    (steps_longer n o o' (executed_longer l o o' c m k e) (rw (stepped ring s c m k e) at g)))
    h)

-- a run
pub run_longer : (limit : ℕ) {ring : List ℕ} {s : State} {ring' : List ℕ} {t : State} {more : List ℕ} → Octets ring → Octets ring'
    → Longer ring s ring' t more → NotWaiting (run_of ring limit s).stop
    → SameRun ring (run_of ring limit s) ring' (run_of ring' limit t) more
unfolding run_of
run_longer limit {ring} {s} {ring'} {t} o o' l h =
    rw l.gate_is (gated_longer (gate_of s (length ring)) l (λ g. steps_longer (min limit run_limit) o o' l g) h)
  where
    gated_longer : (r : ℕ) {ring : List ℕ} {s : State} {ring' : List ℕ} {t : State} {more : List ℕ} {e d : Ended}
        → Longer ring s ring' t more → (NotWaiting e.stop → SameRun ring e ring' d more) → NotWaiting (gated r s e).stop
        → SameRun ring (gated r s e) ring' (gated r t d) more
    gated_longer zero l f h = f h
    gated_longer (suc r) l f h = record { units_are = refl; stop_is = refl; state_is = l }
