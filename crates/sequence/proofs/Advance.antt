-- The history of a list of calls: the loads that were executed, as the calls answered them, and the bytes of those that are left.
use mathlib.Core.Path.{◌≡◌, refl, sym, ap, ap₂, ◌∙◌}
use mathlib.Core.Logic.{⊎_elim}
use mathlib.Core.List.{List, [], ◌∷◌, ◌++◌, append_assoc}
use Prim.Native.Nat.{ℕ, zero, suc, ◌+◌, ◌^◌, min, ◌<◌}
use native.Mathlib.Omega.{arith}
use lib.ListN.{length, take}
use Rattle.command.specs.declared.Draw.TheVariants.{Closed}
use Rattle.command.specs.Command.{Found, unit, waiting, refused, load_bp}
use Rattle.command.specs.Look.{look_of}
use Rattle.command.proofs.Ranges.{Ranged}
use Rattle.cursor.proofs.CursorLaws.{reads_pending}
use Rattle.machine.specs.State.{State}
use Rattle.processor.specs.Step.{queue_of, look_at, executed, step_found, step_of}
use Rattle.processor.specs.Step as S
use Rattle.running.specs.Run.{Taken, Ended, gone_on, steps, run_limit, run_of}
use Rattle.machine.proofs.Passing.{Passes, passes_gate}
use Rattle.processor.proofs.Bridge.{unit_fits}
use Rattle.processor.proofs.Valid.{executed_passes, runs_found}
use Rattle.history.specs.Calls.{answered, commands_in}
use Rattle.patchwriter.specs.Commands.{bytes_of_commands, bp_after_all}
use Rattle.patchwriter.specs.Stream.{IsLoad, AllLoads, Begins}
use Rattle.patchwriter.proofs.Stream.{look_either}
use Rattle.patchwriter.proofs.Execution.{after_append}
use Rattle.patchwriter.proofs.Loads.{load_cp_lem, load_xf_lem, load_draw}

-- from s to t, with t's ring and bytes that come later: of the loads left some were executed, those of the units answered, and the rest are
-- still to come
pub record Advance (ring : List ℕ) (s t : State) (later : List ℕ) (left : List (List ℕ)) (units : List Taken) : Type 0 where
  pub done : List (List ℕ)
  pub still : List (List ℕ)
  pub split : left ≡ done ++ still
  pub units_are : commands_in units ≡ done
  pub loads : AllLoads still
  pub bp_is : t.bp ≡ bp_after_all done s.bp
  pub cp_is : t.cp ≡ s.cp
  pub xf_is : t.xf ≡ s.xf
  pub closed : t.draw ≡ Closed
  pub passes : Passes t (length ring)
  pub queue_is : queue_of ring t ++ later ≡ bytes_of_commands still

-- what a state must be to begin with
pub record Ahead (ring : List ℕ) (s : State) (later : List ℕ) (left : List (List ℕ)) : Type 0 where
  pub loads : AllLoads left
  pub closed : s.draw ≡ Closed
  pub passes : Passes s (length ring)
  pub queue_is : queue_of ring s ++ later ≡ bytes_of_commands left

-- nothing was executed
pub advance_none : {ring : List ℕ} {s t : State} {later : List ℕ} {left : List (List ℕ)} → Ahead ring t later left
    → t.bp ≡ s.bp → t.cp ≡ s.cp → t.xf ≡ s.xf → Advance ring s t later left []
unfolding bp_after_all
advance_none {left = left} a bp cp xf =
    record {
      done = [];
      still = left;
      split = refl;
      units_are = refl;
      loads = a.loads;
      bp_is = bp;
      cp_is = cp;
      xf_is = xf;
      closed = a.closed;
      passes = a.passes;
      queue_is = a.queue_is;
    }

pub advance_same : {ring : List ℕ} {s : State} {later : List ℕ} {left : List (List ℕ)} → Ahead ring s later left
    → Advance ring s s later left []
advance_same a = advance_none a refl refl refl

pub advance_ahead : {ring : List ℕ} {s t : State} {later : List ℕ} {left : List (List ℕ)} {units : List Taken}
    (v : Advance ring s t later left units) → Ahead ring t later v.still
advance_ahead v = record { loads = v.loads; closed = v.closed; passes = v.passes; queue_is = v.queue_is }

commands_append : (us vs : List Taken) → commands_in (us ++ vs) ≡ commands_in us ++ commands_in vs
commands_append [] vs = refl
commands_append (u ∷ us) vs = ap (λ (x : List (List ℕ)). u.command ∷ x) (commands_append us vs)

pub advance_then : {ring ring' : List ℕ} {s t r : State} {later later' : List ℕ} {left : List (List ℕ)} {us vs : List Taken}
    (v : Advance ring s t later left us) → Advance ring' t r later' v.still vs → Advance ring' s r later' left (us ++ vs)
advance_then {s = s} {us = us} {vs = vs} v u =
    record {
      done = v.done ++ u.done;
      still = u.still;
      split = v.split ∙ ap (λ (x : List (List ℕ)). v.done ++ x) u.split ∙ sym (append_assoc v.done u.done u.still);
      units_are = commands_append us vs ∙ ap₂ ◌++◌ v.units_are u.units_are;
      loads = u.loads;
      bp_is = u.bp_is ∙ ap (bp_after_all u.done) v.bp_is ∙ sym (after_append v.done u.done s.bp);
      cp_is = u.cp_is ∙ v.cp_is;
      xf_is = u.xf_is ∙ v.xf_is;
      closed = u.closed;
      passes = u.passes;
      queue_is = u.queue_is;
    }

-- a load of 24 bits fits its register
load_ranged : (register n : ℕ) → n < 2 ^ 24 → Ranged (load_bp register n)
load_ranged register n h = record { bp = λ _. h; head = λ e. absurd (omega (arith, e)); count = λ e. absurd (omega (arith, e)) }

module _ {ring : List ℕ} {s : State} {later : List ℕ} {left : List (List ℕ)} (a : Ahead ring s later left) where
  abbrev q : List ℕ
  q = queue_of ring s

  found_is : {x : Found} → look_of q (length q) s.cp Closed ≡ x → look_at ring s ≡ x
  unfolding look_at
  found_is e = rw a.closed e

  -- a whole load at the front is executed
  advance_unit : Begins q later s.cp left → Advance ring s (S.after ring s (look_at ring s)) later left (answered (look_at ring s))
  unfolding executed bp_after_all
  advance_unit b =
      let c : List ℕ = b.command in
      let l : IsLoad c = b.load in
      let f : look_at ring s ≡ unit c 0 5 = found_is b.look_is in
      let fits = unit_fits ring s a.passes.ready c 0 5 (sym f) in
      let ranged : Ranged c = rw l.load_is (load_ranged l.register l.number l.narrow) in
      rw f
      (record {
        done = c ∷ [];
        still = b.others;
        split = b.first_is;
        units_are = refl;
        loads = b.loads;
        bp_is = refl;
        cp_is = rw l.load_is (load_cp_lem l.register l.number s.cp);
        xf_is = rw l.load_is (load_xf_lem l.register l.number (take 5 q) s.xf);
        closed = rw l.load_is (load_draw l.register l.number s.draw ∙ a.closed);
        passes = executed_passes ring s c 5 ranged a.passes;
        queue_is = ap (λ (x : List ℕ). x ++ later) ((reads_pending s.fifo ring a.passes.ready).drop_is 5 fits.1.0) ∙ b.rest_is;
      })

  advance_look : Advance ring s (S.after ring s (look_at ring s)) later left (answered (look_at ring s))
  advance_look =
      ⊎_elim advance_unit (λ h. rw (found_is h.1) (advance_same a)) (look_either q later s.cp left a.loads a.queue_is)

  -- past the gate a taking finds what the queue begins with
  found_first : step_found ring s ≡ look_at ring s
  found_first = runs_found ring s (passes_gate s (length ring) a.passes)

  pub advance_take : Advance ring s (step_of ring s) later left (answered (step_found ring s))
  unfolding step_of
  advance_take = rw found_first advance_look

-- a taking at a whole load executes it, and what is left of the queue is the others' bytes
pub record Whole (ring : List ℕ) (s : State) (later : List ℕ) (left others : List (List ℕ)) : Type 0 where
  pub advance : Advance ring s (step_of ring s) later left (answered (step_found ring s))
  pub rest : queue_of ring (step_of ring s) ++ later ≡ bytes_of_commands others

pub advance_whole : {ring : List ℕ} {s : State} {later : List ℕ} {left : List (List ℕ)} (a : Ahead ring s later left)
    (b : Begins (queue_of ring s) later s.cp left) → Whole ring s later left b.others
unfolding step_of executed
advance_whole {ring} {s} {later} a b =
    let f : look_at ring s ≡ unit b.command 0 5 = found_is a b.look_is in
    let e : step_of ring s ≡ executed ring s b.command 5 = ap (S.after ring s) (found_first a ∙ f) in
    let fits = unit_fits ring s a.passes.ready b.command 0 5 (sym f) in
    record {
      advance = advance_take a;
      rest =
          ap (λ (x : State). queue_of ring x ++ later) e
          ∙ ap (λ (x : List ℕ). x ++ later) ((reads_pending s.fifo ring a.passes.ready).drop_is 5 fits.1.0)
          ∙ b.rest_is;
    }

-- ---- a run
gone_advance : {ring : List ℕ} {s : State} {later : List ℕ} {left : List (List ℕ)} (found : Found) (e : Ended)
    → Advance ring s e.state later left (answered found ++ e.units) → Advance ring s s later left []
    → Advance ring s (gone_on found s e).state later left (gone_on found s e).units
gone_advance (unit c m n) e on here = on
gone_advance (waiting k) e on here = here
gone_advance (refused r) e on here = here

pub advance_steps : (n : ℕ) {ring : List ℕ} {s : State} {later : List ℕ} {left : List (List ℕ)} → Ahead ring s later left
    → Advance ring s (steps ring n s).state later left (steps ring n s).units
unfolding steps
advance_steps zero a = advance_same a
advance_steps (suc n) {ring} {s} a =
    let v = advance_take a in
    gone_advance (step_found ring s) (steps ring n (step_of ring s)) (advance_then v (advance_steps n (advance_ahead v))) (advance_same a)

pub advance_run : (limit : ℕ) {ring : List ℕ} {s : State} {later : List ℕ} {left : List (List ℕ)} → Ahead ring s later left
    → Advance ring s (run_of ring limit s).state later left (run_of ring limit s).units
unfolding run_of
advance_run limit {ring} {s} a = rw (passes_gate s (length ring) a.passes) (advance_steps (min limit run_limit) a)
