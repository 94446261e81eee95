-- Units of a straight stretch are that many units of the ring's queue, of which the stretch is the front.
use mathlib.Core.Path.{◌≡◌, refl, sym, ap, ◌∙◌}
use mathlib.Core.Bool.{true}
use mathlib.Core.List.{List, ◌++◌}
use Prim.Native.Nat.{ℕ, zero, suc, ◌+◌, ◌-◌, ◌≤◌}
use native.Mathlib.Nat.{add-zero}
use native.Mathlib.Omega.{arith}
use lib.ListN.{length, take, drop, length-append, length-drop, take-append-drop}
use lib.Seq.{take-append-le, drop-append-le, length-take-le}
use Rattle.octets.proofs.Number.{Octets}
use Rattle.command.specs.declared.Draw.{Draw}
use Rattle.command.specs.Command.{unit}
use Rattle.command.proofs.Prefix.{look_prefix}
use Rattle.command.proofs.Extends.{unit_settled}
use Rattle.walk.specs.Flat.{Core, core_of, core_after, flat_found}
use Rattle.walk.specs.Walk.{Walk, TakesMany}
use Rattle.walk.proofs.Reading.{fair}
use Rattle.fifo.specs.declared.Fifo.{Fifo}
use Rattle.cursor.specs.declared.Cursor.{Cursor}
use Rattle.fifo.specs.Window.{consume, count_of}
use Rattle.queue.specs.Pending.{pending}
use Rattle.cursor.specs.Cursor.{opened, skipped, straight_by}
use Rattle.cursor.proofs.CursorLaws.{straight_true, reads_pending}
use Rattle.queue.proofs.Moves.{consume_consume}
use Rattle.queue.proofs.Pending.{length_pending}
use Rattle.machine.specs.State.{State}
use Rattle.processor.specs.Step.{queue_of, look_at, executed}
use Rattle.command.specs.declared.StepAnswer.{StepAnswer}
use Rattle.unit.specs.Cursor.{seen, bytes_at, Takes}
use Rattle.running.specs.Stretch.{TakesStretch}
use Rattle.unit.proofs.Bytes.{lent_is}
use Rattle.machine.proofs.Passing.{Passes}
use Rattle.processor.proofs.Bridge.{TakesUnit, takes_opened}
use Rattle.running.proofs.Course.{Course, here_of}
use Rattle.running.proofs.Ahead.{Ahead, ahead_none, ahead_next, course_ahead}

-- nothing taken
pub stretch_none : (cursor : Cursor) (ring cp bp : List ℕ) (draw : Draw) (xf buffer : List ℕ) (most : ℕ) {cursor' : Cursor}
    → cursor' ≡ skipped cursor 0
    → TakesStretch cursor ring cp bp draw xf buffer most cursor' draw 0 cp bp xf buffer
unfolding Walk
stretch_none cursor ring cp bp draw xf buffer most e =
    record {
      lent = 0;
      used = 0;
      there = omega arith;
      taken = record {
        within = omega arith;
        inside = omega arith;
        walk =
            (refl, refl);
      };
      moved = e;
    }

-- the part that is lent is the cursor's first bytes
pub stretch_some : (cursor : Cursor) (ring : List ℕ) (n : ℕ) → straight_by cursor n ≡ true → cursor.at + n ≤ length ring
    → {s s' : Core} {most units used : ℕ} {cursor' : Cursor}
    → TakesMany (take (cursor.at + n - cursor.at) (drop cursor.at ring)) s most units used s' → cursor' ≡ skipped cursor used
    → TakesStretch cursor ring s.cp s.bp s.draw s.xf s.buffer most cursor' s'.draw units s'.cp s'.bp s'.xf
    s'.buffer
stretch_some cursor ring n e h {used = used} t m =
    record { lent = n; used = used; there = (straight_true cursor n e).there; taken = rw (lent_is cursor ring n e h) at t; moved = m }

-- bytes that come later do not change a unit
unit_later : (b later : List ℕ) (s : Core) (c : List ℕ) (m l : ℕ) → flat_found b s ≡ unit c m l → flat_found (b ++ later) s ≡ unit c m l
unit_later b later s c m l e =
    sym (look_prefix b later s.cp s.draw (λ k z. unit_settled c m l k (sym e ∙ z))) ∙ e

module _ (ring : List ℕ) (o : Octets ring) (f : Fifo) (k : ℕ) (s : Core) where
  -- the state after some bytes
  abbrev there : ℕ → Core → State
  there n t = here_of f (k + n) t.cp t.bp t.draw t.xf t.buffer

  abbrev start : State
  start = here_of f k s.cp s.bp s.draw s.xf s.buffer

  module _ (passes : Passes start (length ring)) (bytes later : List ℕ) (front : queue_of ring start ≡ bytes ++ later) where
    within : length bytes ≤ count_of (consume f k).window
    within = omega (arith, simp length-append at (ap length front), length_pending (consume f k).window ring)

    -- the queue after some of the stretch
    queue_is : (n : ℕ) (t : Core) → n ≤ length bytes → queue_of ring (there n t) ≡ drop n bytes ++ later
    queue_is n t h =
        ap (λ (x : Fifo). pending x.window ring) (sym (consume_consume f k n))
        ∙ (reads_pending (consume f k) ring passes.ready).drop_is n (omega (arith, within))
        ∙ ap (drop n) front ∙ drop-append-le n bytes later h

    look_is : (n : ℕ) (t : Core) → n ≤ length bytes → (c : List ℕ) (m l : ℕ) → flat_found (drop n bytes) t ≡ unit c m l
        → look_at ring (there n t) ≡ unit c m l
    unfolding look_at
    look_is n t h c m l e = rw (queue_is n t h) (unit_later (drop n bytes) later t c m l e)

    next_is : (n : ℕ) (t u : Core) → n ≤ length bytes → (c : List ℕ) (m l : ℕ) → flat_found (drop n bytes) t ≡ unit c m l
        → u ≡ core_after c (take l (drop n bytes)) t → executed ring (there n t) c l ≡ there (n + l) u
    unfolding executed
    next_is n t u h c m l e a =
        let i : k + n + l ≡ k + (n + l) = omega arith in
        let b : take l (queue_of ring (there n t)) ≡ take l (drop n bytes) =
        ap (take l) (queue_is n t h) ∙ take-append-le l (drop n bytes) later (fair (drop n bytes) t c m l e).1 in
        rw (a, b, consume_consume f (k + n) l, i)

    record Reached (n to : ℕ) (t : Core) : Type 0 where
      inside : to ≤ length bytes
      ahead : Ahead ring n start (there to t)

    step : (n to : ℕ) (t u : Core) → Reached n to t → (c : List ℕ) (m l : ℕ) → flat_found (drop to bytes) t ≡ unit c m l
        → u ≡ core_after c (take l (drop to bytes)) t → Reached (suc n) (to + l) u
    step n to t u r c m l e a =
        let i = r.inside in
        record {
          inside = omega (arith, (fair (drop to bytes) t c m l e).1, length-drop to bytes);
          ahead =
              rw (next_is to t u r.inside c m l e a) at
              (ahead_next ring o n start (there to t) c m l r.ahead (look_is to t r.inside c m l e));
        }

    walk_ahead : (n to : ℕ) (t : Core) → Walk bytes 0 s n to t → Reached n to t
    unfolding Walk
    walk_ahead zero to t w =
        rw (w.0, w.1) (record { inside = omega arith; ahead = rw (add-zero k) (ahead_none ring o start passes) })
    walk_ahead (suc n) to t w =
        rw w.moved (step n w.place w.core t (walk_ahead n w.place w.core w.came) w.command w.memory w.size
        w.found w.after)

-- a run goes on after them
module _ (ring : List ℕ) (o : Octets ring) {limit : ℕ} {s : State} {cursor : Cursor} {cp bp : List ℕ} {draw : Draw} {xf buffer : List ℕ}
    {units most : ℕ} {cursor' : Cursor} {draw' : Draw} {n : ℕ} {cp' bp' xf' buffer' : List ℕ} where
  pub course_stretch : Course ring limit s cursor cp bp draw xf buffer units
      → TakesStretch cursor ring cp bp draw xf buffer most cursor' draw' n cp' bp' xf' buffer' → units + most ≤ limit
      → Course ring limit s cursor' cp' bp' draw' xf' buffer' (units + n)
  course_stretch at t h =
      let f : Fifo = s.fifo in
      let k : ℕ = at.consumed in
      let here : Fifo = consume f k in
      let r = reads_pending here ring at.passes.ready in
      let queue : List ℕ = pending here.window ring in
      let c : cursor.left ≡ count_of here.window = ap (λ (x : Cursor). x.left) at.cursor_is ∙ r.left_is in
      let fits : t.lent ≤ count_of here.window = omega (arith, t.there) in
      let b : bytes_at cursor ring t.lent ≡ take t.lent queue =
      ap (λ (x : Cursor). bytes_at x ring t.lent) at.cursor_is ∙ r.bytes_are t.lent fits in
      let m : TakesMany (take t.lent queue) (core_of cp bp draw xf buffer) most n t.used (core_of cp' bp' draw' xf' buffer') = rw b at
      t.taken in
      let w = walk_ahead ring o f k (core_of cp bp draw xf buffer) at.passes (take t.lent queue) (drop t.lent queue)
      (sym (take-append-drop t.lent queue)) n t.used (core_of cp' bp' draw' xf' buffer') m.walk in
      let used : t.used ≤ count_of here.window = omega (
        arith,
        m.inside,
        length-take-le t.lent queue
            (omega (arith, length_pending here.window ring)),
      ) in
      course_ahead at n (k + t.used) (omega (arith, m.within))
      (t.moved ∙ ap (λ (x : Cursor). skipped x t.used) at.cursor_is ∙ r.skip_is t.used used
      ∙ ap opened (consume_consume f k t.used))
      w.ahead

-- a unit taken where a run has come to
pub takes_course : {ring : List ℕ} {limit : ℕ} {s : State} {cursor : Cursor} {cp bp : List ℕ} {draw : Draw} {xf buffer : List ℕ} {units : ℕ}
    (at : Course ring limit s cursor cp bp draw xf buffer units) {answer : StepAnswer} {cursor' : Cursor} {draw' : Draw}
    {cp' bp' xf' buffer' : List ℕ}
    → Takes (seen cursor ring cp draw) cursor ring cp bp draw xf buffer answer cursor' draw' cp' bp' xf' buffer'
    → TakesUnit ring (here_of s.fifo at.consumed cp bp draw xf buffer) answer cursor' draw' cp' bp' xf' buffer'
takes_course {ring} {s = s} {cp = cp} {bp = bp} {draw = draw} {xf = xf} {buffer = buffer} at t =
    takes_opened ring (here_of s.fifo at.consumed cp bp draw xf buffer) at.passes.ready at.cursor_is t
