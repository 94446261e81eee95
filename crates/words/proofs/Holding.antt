-- A state that 327 words say has its arrays' lengths and a draw's count of 16 bits, and so has the state after every taking and run: words
-- say them whole.
use mathlib.Core.Path.{◌≡◌, refl, ap, ◌∙◌}
use mathlib.Core.Bool.{◌&&◌}
use mathlib.Core.List.{List}
use Prim.Native.Nat.{ℕ, zero, suc, ◌-◌, ◌^◌, ◌<◌}
use native.Mathlib.Omega.{arith}
use lib.Dec.{eqb, ltb, lit<}
use lib.ListN.{length, get_or, take}
use lib.Seq.{get_or-drop, drop-drop}
use borrow.Author.Tests.{eqb-true, ltb-true}
use Rattle.std.proofs.lemmas.Bool.{and_parts, cond_both}
use Rattle.octets.specs.BigEndian.{Octets}
use Rattle.command.specs.declared.Draw.{Draw}
use Rattle.command.specs.declared.Draw.TheVariants.{Closed, Open}
use Rattle.command.specs.Command.{Found, unit, waiting, refused, kind_of, field_of}
use Rattle.command.specs.Bounds.{Ranged, Ranges}
use Rattle.command.proofs.Ranges.{of_unless, look_ranges}
use Rattle.effect.specs.Effect.{opened_by, counted_down, draw_after}
use Rattle.effect.proofs.Lengths.{length_cp, length_bp}
use Rattle.fifo.specs.declared.Fifo.{Fifo}
use Rattle.machine.specs.State.{State, state_of, fresh_machine}
use Rattle.machine.specs.Gate.{gate_of}
use Rattle.processor.specs.Step.{queue_of, look_at, executed, after, step_found, step_of}
use Rattle.processor.proofs.Valid.{queue_octets}
use Rattle.running.proofs.Invariant.{run_keeps}
use Rattle.words.specs.State.{fifo_of, left_of, draw_of, cp_of, bp_of, state_at, fifo_stored, HoldsDraw, Holds}
use Rattle.words.specs.Promises.{fresh_at, state_with, WordsPromises}
use Rattle.words.proofs.Saving.{cp_length, bp_length}
use Rattle.words.proofs.ReadBack.{read_back}

-- ---- a draw's count has 16 bits

opened_holds : (p f n : ℕ) → n < 2 ^ 16 → HoldsDraw (opened_by p f n)
opened_holds p f zero h = tt
opened_holds p f (suc n) h = h

counted_holds : (d : Draw) → HoldsDraw d → HoldsDraw (counted_down d)
counted_holds Closed h = tt
counted_holds (Open p f n) h = opened_holds p f (n - 1) (omega (arith, h))

draw_holds : (c : List ℕ) (d : Draw) → Ranged c → HoldsDraw d → HoldsDraw (draw_after c d)
unfolding draw_after
draw_holds c d r h =
    cond_both (eqb (kind_of c) 0x80) _ _ HoldsDraw
    (λ e. opened_holds (field_of c 1) (field_of c 2) (field_of c 3) (r.count (eqb-true (kind_of c) 0x80 e)))
    (λ _. cond_both (eqb (kind_of c) 0x01) _ _ HoldsDraw (λ _. counted_holds d h) (λ _. h))

left_lt : (flag left : ℕ) → left_of flag left < 2 ^ 16
left_lt flag left =
    cond_both (eqb flag 1 && ltb left (2 ^ 16)) _ _ (λ n. n < 2 ^ 16)
    (λ e. ltb-true left (2 ^ 16) (and_parts (eqb flag 1) (ltb left (2 ^ 16)) e).1)
    (λ _. lit< tt)

-- ---- the state that words say, and the state after a taking

holds_words : (l xf vertex : List ℕ) → length l ≡ 327 → Holds (state_at l xf vertex)
unfolding draw_of
holds_words l xf vertex n = record {
  cp_length = cp_length l n;
  bp_length = bp_length l n;
  of_draw = cond_both (eqb (get_or l 7 0) 0) _ _ HoldsDraw (λ _. tt) (λ _. left_lt (get_or l 7 0) (get_or l 10 0));
}

after_holds : (ring : List ℕ) (s : State) (found : Found) → Ranges found → Holds s → Holds (after ring s found)
unfolding executed
after_holds ring s (unit c m n) r h = record {
  cp_length = length_cp c s.cp ∙ h.cp_length;
  bp_length = length_bp c s.bp ∙ h.bp_length;
  of_draw = draw_holds c s.draw r h.of_draw;
}
after_holds ring s (waiting k) r h = h
after_holds ring s (refused k) r h = h

module _ (ring : List ℕ) (o : Octets ring) where
  step_ranges : (s : State) → Ranges (step_found ring s)
  unfolding step_found look_at
  step_ranges s =
      of_unless (gate_of s (length ring)) (look_at ring s)
      (look_ranges (queue_of ring s) (queue_octets ring s o) (length (queue_of ring s)) s.cp s.draw)

  step_holds : (s : State) → Holds s → Holds (step_of ring s)
  unfolding step_of
  step_holds s h = after_holds ring s (step_found ring s) (step_ranges s) h

-- ---- another fifo stored

module _ (l : List ℕ) (f : Fifo) where
  fifo_stored_lem : fifo_of (fifo_stored l f) ≡ f
  unfolding fifo_stored fifo_of
  fifo_stored_lem = refl

  cp_stored : cp_of (fifo_stored l f) ≡ cp_of l
  unfolding fifo_stored cp_of
  cp_stored = ap (λ (x : List ℕ). take 60 x) (drop-drop 4 7 l)

  bp_stored : bp_of (fifo_stored l f) ≡ bp_of l
  unfolding fifo_stored bp_of
  bp_stored = ap (λ (x : List ℕ). take 256 x) (drop-drop 64 7 l)

  draw_stored : draw_of (fifo_stored l f) ≡ draw_of l
  unfolding fifo_stored draw_of
  draw_stored = simp get_or-drop

  stored_is : (xf vertex : List ℕ) → state_at (fifo_stored l f) xf vertex ≡ state_with l xf vertex f
  stored_is xf vertex = λ i. state_of (fifo_stored_lem i) (cp_stored i) (bp_stored i) (draw_stored i) xf vertex

fresh_holds : (xf vertex : List ℕ) → Holds (fresh_at xf vertex)
unfolding fresh_machine
fresh_holds xf vertex = record { cp_length = refl; bp_length = refl; of_draw = tt }

pub words_promises : WordsPromises
words_promises = record {
  of_fresh = λ xf vertex. read_back _ (fresh_holds xf vertex);
  of_take = λ ring l xf vertex o n. read_back _ (step_holds ring o _ (holds_words l xf vertex n));
  of_run = λ ring l xf vertex limit o n. read_back _ (run_keeps ring Holds (step_holds ring o) limit _ (holds_words l xf vertex n));
  of_fifo = λ l xf vertex f. stored_is l f xf vertex;
}
