-- A loader that always feeds the lacking number: each of its feeds is accepted, and three are enough for a unit.
use mathlib.Core.Path.{◌≡◌, refl, sym, subst}
use mathlib.Core.Bool.{◌&&◌}
use mathlib.Core.Logic.{◌⊎◌, inl, inr, ⊎_elim}
use mathlib.Core.List.{List, [], ◌∷◌, ◌++◌}
use Prim.Native.Nat.{ℕ, ◌+◌, ◌*◌, ◌<◌, ◌≤◌}
use native.Mathlib.Omega.{arith}
use lib.Dec.{ltb, eqb, lit≤}
use lib.ListN.{length, length-append}
use borrow.Author.Tests.{le-leb}
use Rattle.std.proofs.lemmas.Bool.{cases_lt, cond_both}
use Rattle.command.specs.declared.Draw.{Draw}
use Rattle.command.specs.declared.Draw.TheVariants.{Closed, Open}
use Rattle.command.specs.Command.{Found, unit, waiting, refused}
use Rattle.command.specs.Prefix.{stage_of}
use Rattle.command.specs.Promises.{look_all}
use Rattle.command.proofs.Refusals.{unless_waiting}
use Rattle.command.proofs.Waiting.{waiting_promises}
use Rattle.fifo.proofs.WindowLaws.{true_ready}
use Rattle.queue.specs.Feeding.{room_of, feed_refusal, accepted, bytes_accepted}
use Rattle.machine.specs.State.{State}
use Rattle.machine.specs.Gate.{gate_of}
use Rattle.processor.specs.Step.{look_at, step_found, step_of}
use Rattle.machine.proofs.Passing.{gate_passes}
use Rattle.running.specs.Run.{run_of}
use Rattle.running.proofs.Invariant.{none_run}
use Rattle.running.proofs.Waiting.{lacking_fits}
use Rattle.history.specs.Calls.{World, Call, feed, take, look, run, write, read, queue, after, units_of, units_all}
use Rattle.history.specs.Calls.{Harmless, AllHarmless}
use Rattle.history.specs.Loading.{stage_at, feeds_of, feeds_in, FeedLacks, FeedsLacking}
use Rattle.history.specs.Promises.{LackingAccepted, NextStage, ThreeFeeds}
use Rattle.history.proofs.Fed.{feed_longer}
use Rattle.history.proofs.Conserved.{written_kept}

pub lacking_accepted : LackingAccepted
unfolding step_found accepted feed_refusal
lacking_accepted w bytes k e l =
    let s : State = w.state in
    let u = unless_waiting (gate_of s (length w.ring)) (look_at w.ring s) k e in
    let ready = (gate_passes s (length w.ring) u.0).ready in
    let room : length bytes ≤ room_of s.fifo.window = omega (arith, (lacking_fits w.ring s k e).1, l) in
    rw (true_ready s.fifo (length w.ring) ready, le-leb (length bytes) (room_of s.fifo.window) room)

-- what a world's queue begins with, and a taking, or a look, that waits
abbrev found : World → Found
found w = look_all (queue w) w.state.cp w.state.draw

looks : (w : World) (k : ℕ) → step_found w.ring w.state ≡ waiting k → found w ≡ waiting k
unfolding step_found look_at
looks w k e = (unless_waiting (gate_of w.state (length w.ring)) (look_at w.ring w.state) k e).1

module _ (w : World) (bytes : List ℕ) (waits : step_found w.ring w.state ≡ waiting (length bytes)) where
  abbrev w' : World
  w' = after w (feed bytes)

  -- all bytes are at the end of the queue then
  queue_fed : queue w' ≡ queue w ++ bytes
  unfolding bytes_accepted
  queue_fed = rw (lacking_accepted w bytes (length bytes) waits (omega arith)) at (feed_longer w bytes).queue_is

  later : (j : ℕ) → found w' ≡ waiting j → stage_at w < stage_at w'
  later j e =
      let s : State = w.state in
      let again : look_all (queue w ++ bytes) s.cp s.draw ≡ waiting j = rw queue_fed at e in
      rw queue_fed (waiting_promises.next (queue w) bytes s.cp s.draw (length bytes) j (looks w (length bytes) waits) refl again)

pub next_stage : NextStage
next_stage w bytes j waits e = later w bytes waits j (looks (after w (feed bytes)) j e)

-- ---- at most three feeds

stage_bounds : (draw : Draw) (p : List ℕ) → (1 ≤ stage_of draw p) × (stage_of draw p ≤ 3)
stage_bounds Closed [] = (lit≤ tt, lit≤ tt)
stage_bounds Closed (op ∷ p) =
    cond_both (eqb op 0x10 && ltb (length (op ∷ p)) 5) _ _
    (λ (n : ℕ). (1 ≤ n) × (n ≤ 3)) (λ _. (lit≤ tt, lit≤ tt)) (λ _. (lit≤ tt, lit≤ tt))
stage_bounds (Open primitive format left) p = (lit≤ tt, lit≤ tt)

-- a world waits, if it does, at a stage from g on
abbrev From : ℕ → World → Type 0
From g w = (j : ℕ) → found w ≡ waiting j → g ≤ stage_at w

from_first : (w : World) → From 1 w
from_first w j e = (stage_bounds w.state.draw (queue w)).0

-- a call takes a unit, or the world waits from g on as before, and after a feed from the next stage on
abbrev Goes : ℕ → World → Call → Type 0
Goes g w c = ((g + feeds_of c ≤ 4) × From (g + feeds_of c) (after w c)) ⊎ ((feeds_of c ≡ 0) × (1 ≤ length (units_of w c)))

module _ (w : World) (g : ℕ) (most : g ≤ 4) (from : From g w) where
  same_from : From (g + 0) w
  same_from j e = omega (arith, from j e)

  goes_feed : (bytes : List ℕ) → FeedLacks w (feed bytes) → Goes g w (feed bytes)
  goes_feed bytes waits =
      let here = from (length bytes) (looks w (length bytes) waits) in
      let last = (stage_bounds w.state.draw (queue w)).1 in
      inl (omega (arith, here, last), λ j e. omega (arith, here, later w bytes waits j e))

  goes_take : (x : Found) → step_found w.ring w.state ≡ x → Goes g w take
  unfolding step_of
  goes_take (unit c m n) e = inr (refl, rw e (lit≤ tt))
  goes_take (waiting k) e = inl (omega arith, rw e same_from)
  goes_take (refused r) e = inl (omega arith, rw e same_from)

  goes_run : (limit : ℕ) → Goes g w (run limit)
  goes_run limit =
      ⊎_elim
      (λ none.
      let left = none_run w.ring limit w.state (omega (arith, none)) in
      inl (omega arith, subst (λ (s : State). From (g + 0) (record { state = s; ring = w.ring })) (sym left) same_from))
      (λ some. inr (refl, some))
      (cases_lt (length (run_of w.ring limit w.state).units) 1)

  goes_write : (offset value : ℕ) → Harmless (write offset value) → Goes g w (write offset value)
  goes_write offset value h = inl (omega arith, rw (written_kept w.state.fifo offset value w.ring h) same_from)

  goes : (c : Call) → Harmless c → FeedLacks w c → Goes g w c
  goes (feed bytes) h l = goes_feed bytes l
  goes take h l = goes_take (step_found w.ring w.state) refl
  goes look h l = inl (omega arith, same_from)
  goes (run limit) h l = goes_run limit
  goes (write offset value) h l = goes_write offset value h
  goes (read offset) h l = inl (omega arith, same_from)

feeds_few : (w : World) (cs : List Call) → AllHarmless cs → FeedsLacking w cs → (g : ℕ) → g ≤ 4 → From g w
    → feeds_in cs + g ≤ 3 * length (units_all w cs) + 4
unfolding units_all feeds_in
feeds_few w [] h l g most from = omega (arith, most)
feeds_few w (c ∷ cs) h l g most from =
    let rest = feeds_few (after w c) cs h.1 l.1 in
    let both = length-append (units_of w c) (units_all (after w c) cs) in
    ⊎_elim
    (λ on. omega (arith, both, rest (g + feeds_of c) on.0 on.1))
    (λ took. omega (arith, both, took.0, took.1, most, rest 1 (lit≤ tt) (from_first (after w c))))
    (goes w g most from c h.0 l.0)

pub three_feeds : ThreeFeeds
three_feeds w cs h l = omega (arith, feeds_few w cs h l 1 (lit≤ tt) (from_first w))
