-- What the calls on a window promise: of the fifo the control word alone is not used by them, and is read and written as its word.
use mathlib.Core.Path.{◌≡◌, refl, sym, ap, ◌∙◌, subst}
use mathlib.Core.Bool.{Bool, true, false, cond, not, ◌&&◌, ◌||◌, false≢true}
use mathlib.Core.Logic.{⊎_elim}
use mathlib.Core.List.{List, [], ◌∷◌}
use Prim.Native.Nat.{ℕ, ◌%◌, ◌≤◌}
use native.Mathlib.Omega.{arith}
use lib.Dec.{eqb, leb, ltb}
use lib.ListN.{length, get_or}
use borrow.Author.Tests.{eqb-true, eqb-false, leb-true, le-ltb, not-true}
use Rattle.std.proofs.lemmas.Bool.{and_parts, cases_Bool, or_cases}
use Rattle.std.specs.Prelude.{Result, Ok, Err}
use Rattle.refusal.specs.Number.{number}
use Rattle.refusal.specs.declared.Reason.{Reason}
use Rattle.refusal.proofs.Positive.{not_zero}
use Rattle.command.specs.declared.Draw.TheVariants.{Closed, Open}
use Rattle.fifo.specs.declared.Window.{Window}
use Rattle.fifo.specs.declared.Fifo.{Fifo}
use Rattle.fifo.specs.Answers.{meaning_of, meaning_of_reading, ChangedBy}
use Rattle.queue.specs.Feeding.{feed_refusal, accepted, fifo_after, ring_after, FedBy}
use Rattle.fifo.specs.Window.{ready_by, accept, with_window, with_control, with_write}
use Rattle.registers.specs.Registers.{listed, computed, readable, writable, value_of, read_answer}
use Rattle.registers.specs.Registers.{with_register, stored, written, write_answer}
use Rattle.machine.specs.State.{drawing_of}
use Rattle.words.specs.State.{window_of, fifo_of, draw_of, left_of, fifo_stored}
use Rattle.encoding.specs.Told.{first_of, second_of}
use Rattle.access.specs.Calls.{reading_of, ReadsRegister, WritesRegister, Feeds}
use Rattle.encoding.proofs.Refusals.{stays, stays_number}

-- the fifo that the code hands on: the window with no control word
abbrev pub bare : Window → Fifo
bare w = record { window = w; control = 0 }

-- of the listed offsets below 20 hex that are not 0 or 4, there is only 2
only_control : (o : ℕ) → listed o ≡ true → (o ≡ 0 → ⊥) → (o ≡ 4 → ⊥) → (o ≡ 2 → ⊥) → 0x20 ≤ o
unfolding listed
only_control o e z f t =
    let rest = leb o 4 || leb 0x20 o && leb o 0x3A in
    let even : o % 2 ≡ 0 = eqb-true _ _ (and_parts (eqb (o % 2) 0) rest e).0 in
    ⊎_elim
    (λ h. let k = leb-true o 4 h in absurd (omega arith))
    (λ h. leb-true 0x20 o (and_parts (leb 0x20 o) (leb o 0x3A) h).0)
    (or_cases (leb o 4) (leb 0x20 o && leb o 0x3A) (and_parts (eqb (o % 2) 0) rest e).1)

-- ---- reading

drawing_by : (flag p f n : ℕ) (t : Bool) → drawing_of (cond t Closed (Open p f n)) ≡ not t
drawing_by flag p f n true = refl
drawing_by flag p f n false = refl

drawing_is : (l : List ℕ) → not (eqb (get_or l 7 0) 0) ≡ drawing_of (draw_of l)
unfolding draw_of
drawing_is l =
    sym (drawing_by 0 (get_or l 8 0) (get_or l 9 0) (left_of (get_or l 7 0) (get_or l 10 0)) (eqb (get_or l 7 0) 0))

module _ (w : Window) (control : ℕ) (drawing : Bool) (o : ℕ) (other : o ≡ 2 → ⊥) where
  same_value : readable o ≡ true → value_of (bare w) drawing o ≡ value_of (record { window = w; control = control }) drawing o
  unfolding value_of readable
  same_value e =
      ⊎_elim
      (λ h. rw h)
      (λ h.
      let k = eqb-false o 4 (not-true (eqb o 4) (and_parts (listed o) (not (eqb o 4)) e).1) in
      let n = only_control o (and_parts (listed o) (not (eqb o 4)) e).0 (eqb-false o 0 h) k other in
      rw (h, le-ltb o 0x20 n))
      (cases_Bool (eqb o 0))

  same_reading : read_answer (bare w) drawing o ≡ read_answer (record { window = w; control = control }) drawing o
  unfolding read_answer
  same_reading =
      ⊎_elim
      (λ h. rw (h, same_value h))
      (λ h. rw h)
      (cases_Bool (readable o))

module _ (l : List ℕ) {offset : ℕ} (value : ℕ) where
  pub reads_control : offset ≡ 2 → ReadsRegister l offset value 0 (get_or l 6 0)
  unfolding read_answer readable listed computed value_of fifo_of
  reads_control e = rw e (record { answer_is = refl; value_is = refl })

  module _ (a : Result ℕ Reason) {f : Fifo} (other : offset ≡ 2 → ⊥) (of-bare : f ≡ bare (window_of l))
      (h : meaning_of_reading a ≡ read_answer f (not (eqb (get_or l 7 0) 0)) offset) where
    read_by : meaning_of_reading a ≡ reading_of l offset
    unfolding fifo_of
    read_by =
        h ∙ ap (λ (x : Fifo). read_answer x (not (eqb (get_or l 7 0) 0)) offset) of-bare
        ∙ same_reading (window_of l) (get_or l 6 0) (not (eqb (get_or l 7 0) 0)) offset other
        ∙ ap (λ (t : Bool). read_answer (fifo_of l) t offset) (drawing_is l)

    pub reads_refused : (reason : Reason) {r : ℕ} → a ≡ Err reason → r ≡ number reason → ReadsRegister l offset value r value
    reads_refused reason t e =
        record {
          answer_is = e ∙ ap first_of (ap meaning_of_reading (sym t) ∙ read_by);
          value_is = stays_number reason e _ value;
        }

    pub reads_done : (v : ℕ) → a ≡ Ok v → ReadsRegister l offset value 0 v
    reads_done v t =
        let m = ap meaning_of_reading (sym t) ∙ read_by in
        record { answer_is = ap first_of m; value_is = ap second_of m }

-- ---- writing

accepted_by : (o : ℕ) → 0 ∷ [] ≡ write_answer o → writable o ≡ true
unfolding write_answer
accepted_by o e =
    ⊎_elim
    (λ h. h)
    (λ h. let q : 0 ∷ [] ≡ 17 ∷ [] = rw h at e in absurd (let z : ◌≡◌ {A = ℕ} 0 17 = cc in omega (arith, z)))
    (cases_Bool (writable o))

-- a register other than control leaves the control word, and goes by the window alone
module _ (w : Window) (control o v : ℕ) (other : o ≡ 2 → ⊥) (e : writable o ≡ true) where
  past : (o ≡ 4 → ⊥) → ltb o 0x20 ≡ false
  unfolding writable computed
  past f =
      let n = not-true (computed o) (and_parts (listed o) (not (computed o)) e).1 in
      let z : o ≡ 0 → ⊥ = λ h. false≢true (sym n ∙ rw h) in
      le-ltb o 0x20 (only_control o (and_parts (listed o) (not (computed o)) e).0 z f other)

  by_place : (s t : Bool) (a b : Fifo) (r : Window) → (s ≡ false → t ≡ false)
      → with_window (record { window = w; control = control }) (cond s (bare w) (cond t a (with_window (bare w) r))).window
      ≡ cond s (record { window = w; control = control }) (cond t b (with_window (record { window = w; control = control }) r))
  by_place true t a b r h = refl
  by_place false true a b r h = absurd (false≢true (sym (h refl)))
  by_place false false a b r h = refl

  same_window : with_window (record { window = w; control = control }) (written (bare w) o v).window
      ≡ written (record { window = w; control = control }) o v
  unfolding written stored
  same_window = rw e (by_place (eqb o 4) (ltb o 0x20) _ _ (with_register w o v) (λ h. past (eqb-false o 4 h)))

module _ (l : List ℕ) {offset : ℕ} (value : ℕ) {f : Fifo} {c : Result (Unit {0}) Reason} {left : Fifo} (of-bare : f ≡ bare (window_of l))
    (h : ChangedBy c left (write_answer offset) (written f offset value)) where
  -- the window that is stored
  window_is : (offset ≡ 2 → ⊥) → 0 ∷ [] ≡ write_answer offset
      → with_window (fifo_of l) left.window ≡ written (fifo_of l) offset value
  unfolding fifo_of
  window_is other a =
      ap (λ (f : Fifo). with_window (fifo_of l) f.window) (h.fifo_is ∙ ap (λ (x : Fifo). written x offset value) of-bare)
      ∙ same_window (window_of l) (get_or l 6 0) offset value other (accepted_by offset a)

  -- the control word that is stored
  control_is : offset ≡ 2 → with_control (fifo_of l) left.control ≡ written (fifo_of l) offset value
  unfolding written stored writable listed computed
  control_is e =
      let f : left.control ≡ value % 64 = ap (λ (x : Fifo). x.control) (rw e at h.fifo_is) in
      rw e (ap (λ (n : ℕ). with_control (fifo_of l) n) f)

  pub writes_control : {l' : List ℕ} → l' ≡ fifo_stored l (with_control (fifo_of l) left.control) → {u : Unit {0}} → c ≡ Ok u
      → offset ≡ 2 → WritesRegister l offset value 0 l'
  writes_control saved t e =
      record {
        answer_is = ap first_of (ap meaning_of (sym t) ∙ h.answer_is);
        state_is = saved ∙ ap (fifo_stored l) (control_is e);
      }

  pub writes_window : {l' : List ℕ} → l' ≡ fifo_stored l (with_window (fifo_of l) left.window) → {u : Unit {0}} → c ≡ Ok u
      → (offset ≡ 2 → ⊥) → WritesRegister l offset value 0 l'
  writes_window saved t other =
      let a = ap meaning_of (sym t) ∙ h.answer_is in
      record {
        answer_is = ap first_of a;
        state_is = saved ∙ ap (fifo_stored l) (window_is other a);
      }

-- ---- feeding: the control word is not used

module _ (l : List ℕ) {ring bytes ring' : List ℕ} {f : Fifo} {c : Result (Unit {0}) Reason} {left : Fifo}
    (of-bare : f ≡ bare (window_of l)) (h : FedBy f ring bytes c left ring') where
  fed_by : FedBy (bare (window_of l)) ring bytes c left ring'
  fed_by = subst (λ (x : Fifo). FedBy x ring bytes c left ring') of-bare h

  answer_by : meaning_of c ≡ feed_refusal (fifo_of l) (length ring) (length bytes) ∷ []
  unfolding feed_refusal ready_by fifo_of
  answer_by = fed_by.answer_is

  ring_by : ring' ≡ ring_after (fifo_of l) ring bytes
  unfolding ring_after accepted feed_refusal ready_by fifo_of
  ring_by = fed_by.ring_is

  pub feeds_refused : (reason : Reason) {r : ℕ} → c ≡ Err reason → r ≡ number reason → Feeds l ring bytes r l ring'
  unfolding ring_after accepted
  feeds_refused reason t e =
      let q = e ∙ ap first_of (ap meaning_of (sym t) ∙ answer_by) in
      record {
        answer_is = q;
        state_is = stays reason e _ l;
        ring_is = ring_by ∙ rw (← q, not_zero reason e);
      }

  after_is : (f : Fifo) → 0 ≡ feed_refusal f (length ring) (length bytes) → fifo_after f ring bytes ≡ accept f (length bytes)
  unfolding fifo_after accepted
  after_is f q = rw (← q)

  pub feeds_done : {l' : List ℕ} → l' ≡ fifo_stored l (with_window (fifo_of l) (with_write (window_of l) left.window.write))
      → {u : Unit {0}} → c ≡ Ok u → Feeds l ring bytes 0 l' ring'
  unfolding accept fifo_of
  feeds_done saved t =
      let q = ap first_of (ap meaning_of (sym t) ∙ answer_by) in
      let b = ap first_of (ap meaning_of (sym t) ∙ fed_by.answer_is) in
      let x = ap (λ (f : Fifo). f.window.write) (fed_by.fifo_is ∙ after_is (bare (window_of l)) b) in
      record {
        answer_is = q;
        state_is =
            saved
            ∙ ap (λ (p : ℕ). fifo_stored l (with_window (fifo_of l) (with_write (window_of l) p))) x
            ∙ ap (fifo_stored l) (sym (after_is (fifo_of l) q));
        ring_is = ring_by;
      }
