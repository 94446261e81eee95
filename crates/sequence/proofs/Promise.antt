-- Demand 3, over the calls' own definitions.
use mathlib.Core.Path.{◌≡◌, refl, sym, ap, ◌∙◌}
use mathlib.Core.List.{List, [], ◌∷◌, ◌++◌, append-nil, append_assoc}
use mathlib.Core.Logic.{◌↔◌}
use Prim.Native.Nat.{ℕ, ◌+◌, ◌^◌, ◌<◌}
use native.Mathlib.Omega.{arith}
use lib.Dec.{lit<}
use lib.ListN.{length, length-append}
use Rattle.std.proofs.lemmas.Bool.{cond_both}
use Rattle.writer.specs.Write.{command_bytes}
use Rattle.fifo.specs.declared.Fifo.{Fifo}
use Rattle.registers.specs.Registers.{stored, writable, written}
use Rattle.machine.specs.Gate.{bp_fits}
use Rattle.machine.proofs.Below.{below_at}
use Rattle.machine.proofs.Passing.{Passes, gate_passes, passes_gate}
use Rattle.running.specs.Run.{Taken}
use Rattle.history.specs.Calls.{World, Call, feed, take, look, run, write, read, queue, after, fed, units_of, after_all, fed_all, units_all}
use Rattle.history.specs.Calls.{commands_in, Listed, AllListed}
use Rattle.history.proofs.Fed.{feed_longer, runs_fed}
use Rattle.patch.specs.Patch.{Patch, merged_all}
use Rattle.patch.specs.Registers.{Open, Agree}
use Rattle.patchwriter.specs.Commands.{commands_of_all, bytes_of_commands, bp_after_all}
use Rattle.patchwriter.specs.Stream.{AllLoads}
use Rattle.patchwriter.proofs.Stream.{five_bytes, patches_loads, patches_bytes}
use Rattle.patchwriter.proofs.Execution.{executed_all, merged_swap}
use Rattle.sequence.specs.Promise.{Start, Delivers, SameRegisters, RulesGive}
use Rattle.sequence.proofs.Advance.{Advance, Ahead, advance_none, advance_same, advance_ahead, advance_then}
use Rattle.sequence.proofs.Advance.{advance_take, advance_run}

-- from one world to another
abbrev Moves : World → World → List ℕ → List (List ℕ) → List Taken → Type 0
Moves w v later left units = Advance v.ring w.state v.state later left units

-- a clear changes nothing
clear_kept : (f : Fifo) (value : ℕ) → written f 4 value ≡ f
unfolding written stored
clear_kept f value = cond_both (writable 4) _ _ (λ (g : Fifo). g ≡ f) (λ _. refl) (λ _. refl)

-- one call
call_moves : (w : World) (c : Call) (later : List ℕ) (left : List (List ℕ)) → Listed c → Ahead w.ring w.state (fed w c ++ later) left
    → Moves w (after w c) later left (units_of w c)
call_moves w (feed bytes) later left h a =
    let f = feed_longer w bytes in
    let g = runs_fed w bytes (passes_gate w.state (length w.ring) a.passes) in
    let b : Ahead (after w (feed bytes)).ring (after w (feed bytes)).state later left =
    record {
      loads = a.loads;
      closed = a.closed;
      passes = gate_passes (after w (feed bytes)).state (length (after w (feed bytes)).ring) g;
      queue_is =
          ap (λ (x : List ℕ). x ++ later) f.queue_is ∙ append_assoc (queue w) (fed w (feed bytes)) later ∙ a.queue_is;
    } in
    advance_none b refl refl refl
call_moves w take later left h a = advance_take a
call_moves w look later left h a = advance_same a
call_moves w (run limit) later left h a = advance_run limit a
call_moves w (write offset value) later left h a = rw (h, clear_kept w.state.fifo value) (advance_same a)
call_moves w (read offset) later left h a = absurd h

-- a list of calls
all_moves : (cs : List Call) (w : World) (left : List (List ℕ)) → AllListed cs → Ahead w.ring w.state (fed_all w cs) left
    → Moves w (after_all w cs) [] left (units_all w cs)
unfolding after_all fed_all units_all
all_moves [] w left h a = advance_same a
all_moves (c ∷ cs) w left h a =
    let m : Moves w (after w c) (fed_all (after w c) cs) left (units_of w c) = call_moves w c (fed_all (after w c) cs) left h.0 a in
    advance_then m (all_moves cs (after w c) m.still h.1 (advance_ahead m))

-- loads without a byte are none
no_bytes : (cs : List (List ℕ)) → AllLoads cs → bytes_of_commands cs ≡ [] → cs ≡ []
unfolding bytes_of_commands
no_bytes [] h e = refl
no_bytes (c ∷ cs) h e =
    let l : length (command_bytes c [] ++ bytes_of_commands cs) ≡ 0 = ap (λ (x : List ℕ). length x) e in
    absurd (omega (arith, length-append (command_bytes c []) (bytes_of_commands cs), five_bytes c h.0))

-- registers that 1 does not refuse, with the mask at FFFFFF
pub start_open : (w : World) → Start w → Open w.state.bp
unfolding bp_fits
start_open w st =
    let p : Passes w.state (length w.ring) = gate_passes w.state (length w.ring) st.passes in
    record { size = st.size; wide = λ r h. below_at (2 ^ 24) w.state.bp (lit< tt) p.bp r; unmasked = st.unmasked }

module _ (w : World) (cs : List Call) (ps : List Patch) (st : Start w) (d : Delivers w cs ps) where
  left : List (List ℕ)
  left = commands_of_all ps

  all_ahead : Ahead w.ring w.state (fed_all w cs) left
  unfolding left
  all_ahead =
      record {
        loads = patches_loads ps d.accepted;
        closed = st.closed;
        passes = gate_passes w.state (length w.ring) st.passes;
        queue_is = ap (λ (x : List ℕ). x ++ fed_all w cs) st.empty ∙ d.fed_is ∙ patches_bytes ps;
      }

  moves : Moves w (after_all w cs) [] left (units_all w cs)
  moves = all_moves cs w left d.listed all_ahead

  -- with the ring empty every load was executed
  all_done : left ≡ moves.done
  all_done =
      let still = moves.still in
      let none : still ≡ [] =
      no_bytes still moves.loads (sym moves.queue_is ∙ append-nil (queue (after_all w cs)) ∙ d.emptied) in
      moves.split ∙ ap (λ (x : List (List ℕ)). moves.done ++ x) none ∙ append-nil moves.done

  -- "After the list the BP, CP and XF registers are those that the rules give for one merged sheet, a later sheet's bits winning."
  pub promise : RulesGive w (merged_all ps) (after_all w cs)
  unfolding left
  promise =
      record {
        bp_is =
            moves.bp_is ∙ ap (λ (x : List (List ℕ)). bp_after_all x w.state.bp) (sym all_done)
            ∙ executed_all ps w.state.bp d.accepted (start_open w st);
        cp_is = moves.cp_is;
        xf_is = moves.xf_is;
      }

  pub units_answered : commands_in (units_all w cs) ≡ commands_of_all ps
  unfolding left
  units_answered = moves.units_are ∙ sym all_done

-- "From any one such start, A then B leaves the same BP, CP and XF registers as B then A exactly when every bit that both name has the same
-- value in both": for every two lists of calls from it
pub either_order : (w : World) → Start w → (a b : Patch) (cs ds : List Call) → Delivers w cs (a ∷ b ∷ []) → Delivers w ds (b ∷ a ∷ [])
    → SameRegisters (after_all w cs) (after_all w ds) ↔ Agree a b
either_order w st a b cs ds d e =
    let p = promise w cs (a ∷ b ∷ []) st d in
    let q = promise w ds (b ∷ a ∷ []) st e in
    let swap = merged_swap a b w.state.bp d.accepted.0 d.accepted.1.0 (start_open w st) in (
      (λ s. swap.0 (sym p.bp_is ∙ s.bp_is ∙ q.bp_is)),
      (λ g. record { bp_is = p.bp_is ∙ swap.1 g ∙ sym q.bp_is; cp_is = p.cp_is ∙ sym q.cp_is; xf_is = p.xf_is ∙ sym q.xf_is }),
    )
