-- Units ahead: n units lead from one state of a run to another.
use mathlib.Core.Path.{◌≡◌, sym, ap, ◌∙◌}
use mathlib.Core.List.{List}
use Prim.Native.Nat.{ℕ, suc, ◌+◌, ◌-◌, ◌≤◌}
use native.Mathlib.Nat.{zero-add}
use native.Mathlib.Omega.{arith}
use lib.ListN.{length}
use Rattle.octets.proofs.Number.{Octets}
use Rattle.command.specs.Command.{unit}
use Rattle.command.specs.declared.Draw.{Draw}
use Rattle.cursor.specs.declared.Cursor.{Cursor}
use Rattle.fifo.specs.Window.{consume}
use Rattle.cursor.specs.Cursor.{opened}
use Rattle.machine.specs.State.{State}
use Rattle.processor.specs.Step.{look_at, executed}
use Rattle.running.specs.Run.{Ended, gone_on, steps}
use Rattle.machine.proofs.Passing.{Passes}
use Rattle.processor.proofs.Valid.{after_passes}
use Rattle.running.proofs.Course.{Course, here_of, unit_step}

-- n units lead from one state to another: whatever the limit, a run from the one is those units and the run from the other
pub record Ahead (ring : List ℕ) (n : ℕ) (h h' : State) : Type 0 where
  pub passes : Passes h' (length ring)
  pub count_is : (m : ℕ) → length (steps ring (n + m) h).units ≡ n + length (steps ring m h').units
  pub stop_is : (m : ℕ) → (steps ring (n + m) h).stop ≡ (steps ring m h').stop
  pub state_is : (m : ℕ) → (steps ring (n + m) h).state ≡ (steps ring m h').state

module _ (ring : List ℕ) (o : Octets ring) where
  pub ahead_none : (h : State) → Passes h (length ring) → Ahead ring 0 h h
  ahead_none h p =
      record {
        passes = p;
        count_is = λ m. rw zero-add (sym (zero-add _));
        stop_is = λ m. rw zero-add;
        state_is = λ m. rw zero-add;
      }

  -- one unit more
  pub ahead_next : (n : ℕ) (h h' : State) (c : List ℕ) (k l : ℕ) → Ahead ring n h h' → look_at ring h' ≡ unit c k l
      → Ahead ring (suc n) h (executed ring h' c l)
  ahead_next n h h' c k l a e =
      let q : (m : ℕ) → steps ring (suc m) h' ≡ gone_on (unit c k l) h' (steps ring m (executed ring h' c l)) =
      λ m. unit_step ring o m h' a.passes c k l e in
      let s : (m : ℕ) → suc n + m ≡ n + suc m = λ m. omega arith in
      record {
        passes = after_passes ring o h' (unit c k l) (sym e) a.passes;
        count_is = λ m. rw (s m) (a.count_is (suc m) ∙ ap (λ (x : Ended). n + length x.units) (q m) ∙ omega arith);
        stop_is = λ m. rw (s m) (a.stop_is (suc m) ∙ ap (λ (x : Ended). x.stop) (q m));
        state_is = λ m. rw (s m) (a.state_is (suc m) ∙ ap (λ (x : Ended). x.state) (q m));
      }

-- a run that has come to a state comes to the state that some units more lead to
pub course_ahead : {ring : List ℕ} {limit : ℕ} {s : State} {cursor : Cursor} {cp bp : List ℕ} {draw : Draw} {xf buffer : List ℕ} {units : ℕ}
    (at : Course ring limit s cursor cp bp draw xf buffer units) (n consumed : ℕ) → units + n ≤ limit
    → {cursor' : Cursor} {cp' bp' : List ℕ} {draw' : Draw} {xf' buffer' : List ℕ} → cursor' ≡ opened (consume s.fifo consumed)
    → Ahead ring n (here_of s.fifo at.consumed cp bp draw xf buffer) (here_of s.fifo consumed cp' bp' draw' xf' buffer')
    → Course ring limit s cursor' cp' bp' draw' xf' buffer' (units + n)
course_ahead {ring} {limit} {s} {cursor} {cp} {bp} {draw} {xf} {buffer} {units} at n consumed h c a =
    let here : State = here_of s.fifo at.consumed cp bp draw xf buffer in
    let m : ℕ = limit - (units + n) in
    let e : limit - units ≡ n + m = omega arith in
    record {
      consumed = consumed;
      cursor_is = c;
      passes = a.passes;
      within = h;
      count_is =
          at.count_is ∙ ap (λ (x : ℕ). units + length (steps ring x here).units) e
          ∙ ap (λ (x : ℕ). units + x) (a.count_is m) ∙ omega arith;
      stop_is = at.stop_is ∙ ap (λ (x : ℕ). (steps ring x here).stop) e ∙ a.stop_is m;
      state_is = at.state_is ∙ ap (λ (x : ℕ). (steps ring x here).state) e ∙ a.state_is m;
    }
