-- The premises of demand 3 can be met: from every start, for every list of accepted patches, some list of calls delivers them.
use mathlib.Core.Path.{◌≡◌, refl, sym, ap, ◌∙◌}
use mathlib.Core.Bool.{true}
use mathlib.Core.List.{List, [], ◌∷◌, ◌++◌, append-nil}
use Prim.Native.Nat.{ℕ, ◌+◌, ◌≤◌}
use native.Mathlib.Omega.{arith}
use lib.ListN.{length}
use Rattle.command.specs.declared.Draw.TheVariants.{Closed}
use Rattle.writer.specs.Write.{command_bytes}
use Rattle.fifo.specs.Window.{count_of}
use Rattle.queue.specs.Feeding.{accepted, bytes_accepted}
use Rattle.queue.proofs.FeedLaws.{fits_accepted}
use Rattle.queue.proofs.Pending.{length_pending}
use Rattle.machine.proofs.Passing.{Passes, gate_passes, passes_gate}
use Rattle.history.specs.Calls.{World, feed, take, queue, after, fed, after_all, fed_all, AllListed}
use Rattle.history.proofs.Fed.{feed_longer, runs_fed}
use Rattle.patch.specs.Patch.{Patch, AllAccepted}
use Rattle.patchwriter.specs.Commands.{commands_of_all, bytes_of_commands}
use Rattle.patchwriter.specs.Stream.{IsLoad, AllLoads, Begins}
use Rattle.patchwriter.proofs.Stream.{five_bytes, look_whole, patches_loads, patches_bytes}
use Rattle.sequence.specs.Promise.{Start, Delivers}
use Rattle.sequence.specs.Exist.{calls_of}
use Rattle.sequence.proofs.Advance.{Ahead, advance_whole}

-- a world whose queue is empty, with no draw open, that passes 1 to 5
record Idle (w : World) : Type 0 where
  empty : queue w ≡ []
  closed : w.state.draw ≡ Closed
  passes : Passes w.state (length w.ring)

calls_listed : (cs : List (List ℕ)) → AllListed (calls_of cs)
unfolding calls_of
calls_listed [] = tt
calls_listed (c ∷ cs) = (tt, (tt, calls_listed cs))

module _ (w : World) (i : Idle w) (c : List ℕ) (l : IsLoad c) where
  abbrev bytes : List ℕ
  bytes = command_bytes c []

  abbrev w1 : World
  w1 = after w (feed bytes)

  abbrev w2 : World
  w2 = after w1 take

  taken : accepted w.state.fifo w.ring bytes ≡ true
  taken =
      let r = i.passes.ready in
      let n : length (queue w) ≡ count_of w.state.fifo.window = length_pending w.state.fifo.window w.ring in
      let z : length (queue w) ≡ 0 = ap (λ (x : List ℕ). length x) i.empty in
      let f : length bytes ≡ 5 = five_bytes c l in
      fits_accepted w.state.fifo w.ring bytes (record { ready = r; room = omega (arith, r.valid.least) })

  fed_all_lem : fed w (feed bytes) ≡ bytes
  unfolding bytes_accepted
  fed_all_lem = rw taken

  queue_one : queue w1 ≡ bytes
  queue_one = (feed_longer w bytes).queue_is ∙ ap (λ (x : List ℕ). x ++ fed w (feed bytes)) i.empty ∙ fed_all_lem

  one_ahead : Ahead w1.ring w1.state [] (c ∷ [])
  unfolding bytes_of_commands
  one_ahead =
      record {
        loads = (l, tt);
        closed = i.closed;
        passes = gate_passes w1.state (length w1.ring) (runs_fed w bytes (passes_gate w.state (length w.ring) i.passes));
        queue_is = ap (λ (x : List ℕ). x ++ []) queue_one;
      }

  idle_again : Idle w2
  unfolding bytes_of_commands
  idle_again =
      let long : 5 ≤ length (queue w1) = rw queue_one (omega (arith, five_bytes c l)) in
      let b : Begins (queue w1) [] w1.state.cp (c ∷ []) =
      look_whole (queue w1) [] w1.state.cp (c ∷ []) (l, tt) one_ahead.queue_is long in
      let none : b.others ≡ [] = cc b.first_is in
      let v = advance_whole one_ahead b in
      record {
        empty = sym (append-nil (queue w2)) ∙ v.rest ∙ ap bytes_of_commands none;
        closed = v.advance.closed;
        passes = v.advance.passes;
      }

-- commands fed and taken one after the other
record Delivered (w : World) (cs : List (List ℕ)) : Type 0 where
  fed_is : fed_all w (calls_of cs) ≡ bytes_of_commands cs
  emptied : queue (after_all w (calls_of cs)) ≡ []

delivered : (cs : List (List ℕ)) (w : World) → Idle w → AllLoads cs → Delivered w cs
unfolding calls_of fed_all after_all bytes_of_commands
delivered [] w i h = record { fed_is = refl; emptied = i.empty }
delivered (c ∷ cs) w i h =
    let r : Delivered (w2 w i c h.0) cs = delivered cs (w2 w i c h.0) (idle_again w i c h.0) h.1 in
    record {
      fed_is =
          ap (λ (x : List ℕ). x ++ fed_all (w2 w i c h.0) (calls_of cs)) (fed_all_lem w i c h.0)
          ∙ ap (λ (x : List ℕ). command_bytes c [] ++ x) r.fed_is;
      emptied = r.emptied;
    }

-- some list of calls delivers them
pub calls_exist : (w : World) → Start w → (ps : List Patch) → AllAccepted ps → Delivers w (calls_of (commands_of_all ps)) ps
calls_exist w st ps oks =
    let i : Idle w = record { empty = st.empty; closed = st.closed; passes = gate_passes w.state (length w.ring) st.passes } in
    let d : Delivered w (commands_of_all ps) = delivered (commands_of_all ps) w i (patches_loads ps oks) in
    record {
      listed = calls_listed (commands_of_all ps);
      accepted = oks;
      fed_is = d.fed_is ∙ sym (patches_bytes ps);
      emptied = d.emptied;
    }
