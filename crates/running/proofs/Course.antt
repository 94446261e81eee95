-- The course of a run: after some units the whole run is those and the run from here.
use mathlib.Core.Path.{◌≡◌, refl, sym, ap, ◌∙◌}
use mathlib.Core.List.{List, [], ◌∷◌}
use Prim.Native.Nat.{ℕ, suc, ◌+◌, ◌-◌, ◌<◌, ◌≤◌}
use native.Mathlib.Nat.{add-zero, sub-zero, zero-add}
use native.Mathlib.Omega.{arith}
use lib.ListN.{length}
use Rattle.octets.proofs.Number.{Octets}
use Rattle.command.specs.declared.Draw.{Draw}
use Rattle.command.specs.Command.{Found, unit, waiting, refused}
use Rattle.command.specs.Prefix.{NoUnit}
use Rattle.cursor.specs.declared.Cursor.{Cursor}
use Rattle.fifo.specs.declared.Fifo.{Fifo}
use Rattle.fifo.specs.Window.{consume}
use Rattle.cursor.specs.Cursor.{opened, closed}
use Rattle.cursor.proofs.CursorLaws.{reads_pending}
use Rattle.queue.proofs.Moves.{consume_none, consume_consume}
use Rattle.command.specs.declared.Command.{Command}
use Rattle.command.specs.declared.StepAnswer.{StepAnswer}
use Rattle.command.specs.declared.StepAnswer.TheVariants.{Done, Waiting, Refused}
use Rattle.machine.specs.State.{State}
use Rattle.machine.specs.Gate.{gate_of}
use Rattle.unit.specs.Answers.{meaning}
use Rattle.processor.specs.Step.{look_at, executed, after, step_of}
use Rattle.running.specs.Run.{Taken, Ended, stop_of, gone_on, steps, Arrives}
use Rattle.machine.proofs.Passing.{Passes, gate_passes, passes_gate}
use Rattle.processor.proofs.Bridge.{TakesUnit}
use Rattle.processor.proofs.Valid.{after_passes, runs_found, step_after}

-- the state of a run that began with a fifo and has consumed so many bytes
abbrev pub here_of : Fifo → ℕ → List ℕ → List ℕ → Draw → List ℕ → List ℕ → State
here_of f n cp bp draw xf buffer = record { fifo = consume f n; cp = cp; bp = bp; draw = draw; xf = xf; buffer = buffer }

-- a run of so many units at most, from s, that has come to here after some
pub record Course (ring : List ℕ) (limit : ℕ) (s : State) (cursor : Cursor)
    (cp bp : List ℕ) (draw : Draw) (xf buffer : List ℕ) (units : ℕ) : Type 0 where
  pub consumed : ℕ
  pub cursor_is : cursor ≡ opened (consume s.fifo consumed)
  pub passes : Passes (here_of s.fifo consumed cp bp draw xf buffer) (length ring)
  pub within : units ≤ limit
  pub count_is :
      length (steps ring limit s).units
      ≡ units + length (steps ring (limit - units) (here_of s.fifo consumed cp bp draw xf buffer)).units
  pub stop_is : (steps ring limit s).stop ≡ (steps ring (limit - units) (here_of s.fifo consumed cp bp draw xf buffer)).stop
  pub state_is : (steps ring limit s).state ≡ (steps ring (limit - units) (here_of s.fifo consumed cp bp draw xf buffer)).state

module _ (ring : List ℕ) (limit : ℕ) (s : State) (g : gate_of s (length ring) ≡ 0) where
  begun : consume s.fifo 0 ≡ s.fifo
  begun = consume_none s.fifo (gate_passes s (length ring) g).ready.valid

  pub course_begins : {cursor : Cursor} → cursor ≡ opened s.fifo
      → Course ring limit s cursor s.cp s.bp s.draw s.xf s.buffer 0
  course_begins e =
      let p : Passes s (length ring) = gate_passes s (length ring) g in
      record {
        consumed = 0;
        cursor_is = rw begun e;
        passes = rw begun p;
        within = omega arith;
        count_is = rw (begun, sub-zero limit, zero-add);
        stop_is = rw (begun, sub-zero limit);
        state_is = rw (begun, sub-zero limit);
      }

-- the fifo closed at the cursor has consumed the bytes of the units before
course_closed : {ring : List ℕ} {limit : ℕ} {s : State} {cursor : Cursor} {cp bp : List ℕ} {draw : Draw} {xf buffer : List ℕ}
    {units : ℕ} {fifo : Fifo} → gate_of s (length ring) ≡ 0 → (at : Course ring limit s cursor cp bp draw xf buffer units)
    → fifo ≡ closed s.fifo cursor → fifo ≡ consume s.fifo at.consumed
course_closed {ring} {s = s} g at fi =
    fi ∙ ap (closed s.fifo) at.cursor_is
    ∙ (reads_pending s.fifo ring (gate_passes s (length ring) g).ready).close_is at.consumed

-- an answer that is not done is no unit
pub not_unit : (a : StepAnswer) → ((c : Command) (m l : ℕ) → a ≡ Done c m l → ⊥) → NoUnit (meaning a)
not_unit (Done d m l) other c k n e = other d m l refl
not_unit (Waiting j) other c k n e = let z : ◌≡◌ {A = ℕ} 0 1 = cc in omega arith
not_unit (Refused r) other c k n e = let z : ◌≡◌ {A = ℕ} 0 1 = cc in omega arith

-- what is no unit ends a run where it stands
ends_units : (found : Found) → NoUnit found → (h : State) (e : Ended) → (gone_on found h e).units ≡ []
ends_units (unit c m n) out h e = absurd (out c m n refl)
ends_units (waiting k) out h e = refl
ends_units (refused r) out h e = refl

ends_stop : (found : Found) → NoUnit found → (h : State) (e : Ended) → (gone_on found h e).stop ≡ stop_of found
ends_stop (unit c m n) out h e = absurd (out c m n refl)
ends_stop (waiting k) out h e = refl
ends_stop (refused r) out h e = refl

ends_state : (found : Found) → NoUnit found → (h : State) (e : Ended) → (gone_on found h e).state ≡ h
ends_state (unit c m n) out h e = absurd (out c m n refl)
ends_state (waiting k) out h e = refl
ends_state (refused r) out h e = refl

ends_after : (ring : List ℕ) (found : Found) → NoUnit found → (h : State) → after ring h found ≡ h
ends_after ring (unit c m n) out h = absurd (out c m n refl)
ends_after ring (waiting k) out h = refl
ends_after ring (refused r) out h = refl

module _ (ring : List ℕ) (o : Octets ring) where
  pub unit_step : (k : ℕ) (h : State) → Passes h (length ring) → (c : List ℕ) (m n : ℕ) → look_at ring h ≡ unit c m n
      → steps ring (suc k) h ≡ gone_on (unit c m n) h (steps ring k (executed ring h c n))
  unfolding steps
  unit_step k h p c m n e =
      let g = passes_gate h (length ring) p in
      rw (runs_found ring h g, step_after ring h g, e)

  other_step : (k : ℕ) (h : State) → Passes h (length ring)
      → steps ring (suc k) h ≡ gone_on (look_at ring h) h (steps ring k (step_of ring h))
  unfolding steps
  other_step k h p = rw (runs_found ring h (passes_gate h (length ring) p))

  module _ {limit : ℕ} {s : State} {cursor : Cursor} {cp bp : List ℕ} {draw : Draw} {xf buffer : List ℕ} {units : ℕ}
      (at : Course ring limit s cursor cp bp draw xf buffer units) (less : units < limit) where
    abbrev here : State
    here = here_of s.fifo at.consumed cp bp draw xf buffer

    one_more : limit - units ≡ suc (limit - (units + 1))
    one_more = omega arith

    module _ {answer : StepAnswer} {cursor' : Cursor} {draw' : Draw} {cp' bp' xf' buffer' : List ℕ}
        (t : TakesUnit ring here answer cursor' draw' cp' bp' xf' buffer') where
      -- the state after a unit
      next_here : (c : List ℕ) (m n : ℕ) → meaning answer ≡ unit c m n
          → here_of s.fifo (at.consumed + n) cp' bp' draw' xf' buffer' ≡ executed ring here c n
      unfolding executed
      next_here c m n e =
          let f : look_at ring here ≡ unit c m n = sym t.answer_is ∙ e in
          rw (← consume_consume s.fifo at.consumed n) (rw f at t.state_is)

      pub course_goes : (c : List ℕ) (m n : ℕ) → meaning answer ≡ unit c m n
          → Course ring limit s cursor' cp' bp' draw' xf' buffer' (units + 1)
      unfolding executed
      course_goes c m n e =
          let f : look_at ring here ≡ unit c m n = sym t.answer_is ∙ e in
          let k : ℕ = limit - (units + 1) in
          let next : State = here_of s.fifo (at.consumed + n) cp' bp' draw' xf' buffer' in
          let q : steps ring (limit - units) here ≡ gone_on (unit c m n) here (steps ring k next) =
          ap (λ (x : ℕ). steps ring x here) one_more ∙ unit_step k here at.passes c m n f
          ∙ ap (λ (x : State). gone_on (unit c m n) here (steps ring k x)) (sym (next_here c m n e)) in
          record {
            consumed = at.consumed + n;
            cursor_is = rw (← consume_consume s.fifo at.consumed n) (rw f at t.cursor_is);
            passes = rw (next_here c m n e) (after_passes ring o here (unit c m n) (sym f) at.passes);
            within = omega arith;
            count_is = at.count_is ∙ ap (λ (x : Ended). units + length x.units) q ∙ omega arith;
            stop_is = at.stop_is ∙ ap (λ (x : Ended). x.stop) q;
            state_is = at.state_is ∙ ap (λ (x : Ended). x.state) q;
          }

      pub course_stops : NoUnit (meaning answer) → {stop : List ℕ} {fifo : Fifo}
          → stop ≡ stop_of (meaning answer) → fifo ≡ closed s.fifo cursor → gate_of s (length ring) ≡ 0
          → Arrives ring limit s stop fifo cp' bp' draw xf' buffer' units
      course_stops out {stop} {fifo} st fi g =
          let found : Found = look_at ring here in
          let none : NoUnit found = λ c m n e. out c m n (t.answer_is ∙ e) in
          let k : ℕ = limit - (units + 1) in
          let rest : Ended = steps ring k (step_of ring here) in
          let q : steps ring (limit - units) here ≡ gone_on found here rest =
          ap (λ (x : ℕ). steps ring x here) one_more ∙ other_step k here at.passes in
          let a : after ring here found ≡ here = ends_after ring found none here in
          let f : fifo ≡ consume s.fifo at.consumed = course_closed g at fi in
          let same : here_of s.fifo at.consumed cp' bp' draw' xf' buffer' ≡ here = rw a at t.state_is in
          record {
            units_are =
                sym (at.count_is ∙ ap (λ (x : Ended). units + length x.units) q
                ∙ ap (λ (x : List Taken). units + length x) (ends_units found none here rest) ∙ add-zero units);
            stop_is = st ∙ ap stop_of t.answer_is ∙ sym (at.stop_is ∙ ap (λ (x : Ended). x.stop) q ∙ ends_stop found none here rest);
            state_is =
                rw (
                  f,
                  ap (λ (x : State). x.cp) same,
                  ap (λ (x : State). x.bp) same,
                  ap (λ (x : State). x.xf) same,
                  ap (λ (x : State). x.buffer) same,
                )
                (sym (at.state_is ∙ ap (λ (x : Ended). x.state) q ∙ ends_state found none here rest));
          }

-- the limit reached
pub course_ends : {ring : List ℕ} {limit : ℕ} {s : State} {cursor : Cursor} {cp bp : List ℕ} {draw : Draw} {xf buffer : List ℕ}
    {units : ℕ} {fifo : Fifo}
    → gate_of s (length ring) ≡ 0 → Course ring limit s cursor cp bp draw xf buffer units → limit ≤ units → fifo ≡ closed s.fifo cursor
    → Arrives ring limit s (0 ∷ []) fifo cp bp draw xf buffer units
unfolding steps
course_ends {ring} {limit} {s} {units = units} g at h fi =
    let z : limit - units ≡ 0 = omega arith in
    let f = course_closed g at fi in
    record {
      units_are = sym (rw z at at.count_is ∙ add-zero units);
      stop_is = sym (rw z at at.stop_is);
      state_is = rw f (sym (rw z at at.state_is));
    }
