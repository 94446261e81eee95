-- What a look, a taking and a run promise: the state that the words say is handed on, and its words are stored where a unit was done.
use mathlib.Core.Path.{◌≡◌, refl, sym, ap, ◌∙◌}
use mathlib.Core.Bool.{false, cond}
use mathlib.Core.Logic.{⊎_elim}
use mathlib.Core.List.{List, [], ◌∷◌}
use Prim.Native.Nat.{ℕ, zero, suc, min}
use native.Mathlib.Nat.{min-eq_left}
use native.Mathlib.Omega.{arith}
use lib.Dec.{eqb}
use lib.ListN.{length}
use borrow.Author.Tests.{ne_eqb}
use Rattle.std.proofs.lemmas.Bool.{cases_Bool}
use Rattle.refusal.specs.Number.{number}
use Rattle.refusal.specs.declared.Reason.TheVariants.{InvalidState}
use Rattle.refusal.proofs.Positive.{not_zero}
use Rattle.command.specs.declared.Command.{Command}
use Rattle.command.specs.declared.Draw.{Draw}
use Rattle.command.specs.Command.{Found, kind_of, numbers_of}
use Rattle.effect.specs.Effect.{cp_after}
use Rattle.fifo.specs.declared.Fifo.{Fifo}
use Rattle.command.specs.declared.StepAnswer.{StepAnswer}
use Rattle.command.specs.declared.StepAnswer.TheVariants.{Done, Waiting, Refused}
use Rattle.processor.specs.declared.taking.TakenUnit.{TakenUnit}
use Rattle.running.specs.declared.Ran.{Ran}
use Rattle.machine.specs.State.{State, state_of}
use Rattle.machine.specs.Gate.{gate_of}
use Rattle.unit.specs.Answers.{meaning}
use Rattle.processor.specs.Step.{executed, after, step_found, step_of, Steps}
use Rattle.running.specs.Run.{Ended, ended, steps, gated, run_limit, run_of, meaning_of_stop, Reports}
use Rattle.running.proofs.Invariant.{none_run}
use Rattle.std.specs.Prelude.{Some}
use Rattle.words.specs.declared.Front.{Front}
use Rattle.words.specs.State.{cp_of, bp_of, state_at, words_by}
use Rattle.words.specs.Front.{front_of, words_after_unit}
use Rattle.encoding.specs.Told.{first_of, second_of, answer_number, Tells}
use Rattle.words.proofs.Fits.{held_is}
use Rattle.stepping.specs.Calls.{lent_of, lent_by, Looks, TakesOne, Ends}
use Rattle.stepping.specs.InPlace.{AheadKept}
use Rattle.stepping.proofs.Placed.{kept_cp, kept_whole}

-- the state that is handed on is the one that the words say
pub handed : (l xf vertex : List ℕ) {f : Front} {cp bp : List ℕ} → Some f ≡ front_of l → cp ≡ cp_of l → bp ≡ bp_of l
    → state_of f.fifo cp bp f.draw xf vertex ≡ state_at l xf vertex
handed l xf vertex h p q =
    let k = held_is l h in
    λ i. state_of (k.0 i) (p i) (q i) (k.1 i) xf vertex

-- a state that is left as it was: so are the words, where nothing but their BP registers was lent
as_lent : {words words' : List ℕ} {s : State} {f : Fifo} {cp xf vertex : List ℕ} {draw : Draw} → s.bp ≡ bp_of words
    → AheadKept words words' → state_of f cp (bp_of words') draw xf vertex ≡ s → lent_of words' xf vertex ≡ lent_of words s.xf s.buffer
as_lent of_bp kept left =
    let same = kept_whole kept (ap (λ (x : State). x.bp) left ∙ of_bp) in
    λ i. lent_of (same i) (left i).xf (left i).buffer

-- ---- a look and a taking

-- an answer that is no unit
abbrev pub NotDone : StepAnswer → Type 0
NotDone a = (c : Command) (m l : ℕ) → a ≡ Done c m l → ⊥

module _ (ring : List ℕ) (s : State) (told : List ℕ) (lacking : ℕ) where
  -- words too wide: 1
  pub look_wide : {r : ℕ} → gate_of s (length ring) ≡ 1 → r ≡ number InvalidState → Looks ring s told lacking r told lacking
  unfolding step_found
  look_wide g e = record { answer_is = rw g e; unit_is = rw g; lacking_is = rw g }

  -- an answer told is what was found told
  pub looks : {found : Found} {told' : List ℕ} {r lacking' : ℕ} → found ≡ step_found ring s → Tells found told lacking r told' lacking'
      → Looks ring s told lacking r told' lacking'
  looks e t = rw e at t

  -- waiting or a refusal
  none_number : (a : StepAnswer) → NotDone a → {r : ℕ} → r ≡ answer_number (meaning a) → eqb r 0 ≡ false
  none_number (Done c m n) h e = absurd (h c m n refl)
  none_number (Waiting k) h {r} e = ne_eqb r 0 (λ z. omega (arith, e, z))
  none_number (Refused reason) h e = not_zero reason e

  none_after : (a : StepAnswer) → NotDone a → after ring s (meaning a) ≡ s
  none_after (Done c m n) h = absurd (h c m n refl)
  none_after (Waiting k) h = refl
  none_after (Refused reason) h = refl

  -- CP registers are those of the words where a command loads none
  whole_cp : (c cp held : List ℕ) → s.cp ≡ held → cp ≡ cp_after c s.cp → cond (eqb (kind_of c) 0x08) cp held ≡ cp
  unfolding cp_after
  whole_cp c cp held e h = ⊎_elim (λ z. rw z) (λ z. rw z (sym (rw z at h ∙ e))) (cases_Bool (eqb (kind_of c) 0x08))

  module _ (words : List ℕ) where
    pub take_wide : {r : ℕ} → gate_of s (length ring) ≡ 1 → r ≡ number InvalidState
        → TakesOne ring s (lent_of words s.xf s.buffer) told lacking r (lent_of words s.xf s.buffer) told lacking
    take_wide g e = record { told = look_wide g e; lent_is = rw (not_zero InvalidState e) }

    module _ {c : TakenUnit} {cp xf vertex taken told' : List ℕ} {r lacking' : ℕ} (h : Steps ring s c cp (bp_of taken) xf vertex)
        (kept : AheadKept words taken) where
      pub take_none : s.bp ≡ bp_of words → NotDone c.answer → Tells (meaning c.answer) told lacking r told' lacking'
          → TakesOne ring s (lent_of words s.xf s.buffer) told lacking r (lent_of taken xf vertex) told' lacking'
      unfolding step_of
      take_none of_bp n t =
          let z = none_number c.answer n t.answer_is in
          let left : _ ≡ s = h.state_is ∙ ap (after ring s) (sym h.answer_is) ∙ none_after c.answer n in
          record { told = looks h.answer_is t; lent_is = rw z (as_lent of_bp kept left) }

      pub take_done : {words' : List ℕ} (command : Command) (memory n : ℕ) → s.cp ≡ cp_of words → c.answer ≡ Done command memory n
          → words' ≡ words_after_unit taken (kind_of (numbers_of command)) c.fifo cp c.draw
          → Tells (meaning c.answer) told lacking r told' lacking'
          → TakesOne ring s (lent_of words s.xf s.buffer) told lacking r (lent_of words' xf vertex) told' lacking'
      unfolding words_after_unit step_of executed
      take_done command memory n of_cp d w t =
          let found = ap meaning (sym d) ∙ h.answer_is in
          let left = h.state_is ∙ ap (after ring s) (sym found) in
          let p = whole_cp (numbers_of command) cp (cp_of taken) (of_cp ∙ sym (kept_cp kept)) (ap (λ (x : State). x.cp) left) in
          let z : r ≡ 0 = t.answer_is ∙ ap (λ (x : StepAnswer). answer_number (meaning x)) d in
          let stored = w ∙ (λ i. words_by c.fifo (p i) (bp_of taken) c.draw) in
          record {
            told = looks h.answer_is t;
            lent_is = rw z (ap (λ (x : List ℕ). lent_of x xf vertex) stored ∙ ap lent_by h.state_is);
          }

-- ---- a run

module _ (ring : List ℕ) (limit : ℕ) (s : State) (words : List ℕ) where
  pub run_wide : {r : ℕ} {report : List ℕ} → gate_of s (length ring) ≡ 1 → r ≡ number InvalidState → report ≡ 0 ∷ 0 ∷ []
      → Ends (run_of ring limit s) (lent_of words s.xf s.buffer) r (lent_of words s.xf s.buffer) report
  unfolding run_of
  run_wide g e k = record { answer_is = rw g e; report_is = rw g k; lent_is = rw g }

  -- a run of limit 0 gives 1 to 5
  by_gate : (g : ℕ) {e : Ended} → e ≡ gated g s (ended [] (0 ∷ []) s) → {r : ℕ} → r ≡ g
      → Ends e (lent_of words s.xf s.buffer) r (lent_of words s.xf s.buffer) (0 ∷ 0 ∷ [])
  by_gate zero z e = rw z (record { answer_is = e; report_is = refl; lent_is = refl })
  by_gate (suc g) z e = rw z (record { answer_is = e; report_is = refl; lent_is = refl })

  pub run_zero : {r : ℕ} → limit ≡ 0 → r ≡ gate_of s (length ring)
      → Ends (run_of ring limit s) (lent_of words s.xf s.buffer) r (lent_of words s.xf s.buffer) (0 ∷ 0 ∷ [])
  unfolding run_of steps
  run_zero z e =
      let m : min limit run_limit ≡ 0 = ap (λ (n : ℕ). min n run_limit) z ∙ min-eq_left (omega arith) in
      by_gate (gate_of s (length ring)) (ap (λ (n : ℕ). gated (gate_of s (length ring)) s (steps ring n s)) m) e

  module _ {c : Ran} {cp xf vertex report : List ℕ} (ran : List ℕ) {r lacking : ℕ}
      (h : Reports (run_of ring limit s) c cp (bp_of ran) xf vertex)
      (e : r ≡ first_of (meaning_of_stop c.stop)) (k : lacking ≡ second_of (meaning_of_stop c.stop))
      (p : report ≡ c.units ∷ lacking ∷ []) where
    told_by : report ≡ length (run_of ring limit s).units ∷ second_of (run_of ring limit s).stop ∷ []
    told_by = p ∙ (λ i. h.units_are i ∷ (k ∙ ap second_of h.stop_is) i ∷ [])

    pub run_none : s.bp ≡ bp_of words → AheadKept words ran → c.units ≡ 0
        → Ends (run_of ring limit s) (lent_of words s.xf s.buffer) r (lent_of ran xf vertex) report
    run_none of_bp kept z =
        let n = sym h.units_are ∙ z in
        record {
          answer_is = e ∙ ap first_of h.stop_is;
          report_is = told_by;
          lent_is = rw n (as_lent of_bp kept (h.state_is ∙ none_run ring limit s n));
        }

    pub run_some : {words' : List ℕ} → (c.units ≡ 0 → ⊥) → words' ≡ words_by c.fifo cp (bp_of ran) c.draw
        → Ends (run_of ring limit s) (lent_of words s.xf s.buffer) r (lent_of words' xf vertex) report
    run_some z w =
        let n = ne_eqb (length (run_of ring limit s).units) 0 (λ x. z (h.units_are ∙ x)) in
        record {
          answer_is = e ∙ ap first_of h.stop_is;
          report_is = told_by;
          lent_is = rw n (ap (λ (x : List ℕ). lent_of x xf vertex) w ∙ ap lent_by h.state_is);
        }
