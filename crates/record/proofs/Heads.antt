-- What the program's own definitions say of a head, from what the library answers.
use mathlib.Core.Path.{◌≡◌, refl, sym, ap, subst, ◌∙◌}
use mathlib.Core.Bool.{cond}
use mathlib.Core.List.{List, [], ◌∷◌}
use Prim.Native.Nat.{ℕ, zero, suc, ◌≤◌}
use native.Mathlib.Omega.{arith}
use lib.Dec.{eqb}
use borrow.Author.Tests.{ne_eqb}
use lib.ListN.{length, get_or}
use Rattle.std.specs.Prelude.{Ok, Err}
use Rattle.refusal.specs.Number.{number, or_else}
use Rattle.refusal.specs.declared.Reason.{Reason}
use Rattle.refusal.proofs.Positive.{number_some}
use Rattle.command.specs.Look.{xf_count}
use Rattle.recording.specs.Format.{head_bytes, stream_at, stream_count_at, file_number, content_of}
use Rattle.recording.specs.Faults.{stream_limit, head_fault}
use Rattle.recording.specs.Answers.{head_refusal, head_record_refusal}
use Rattle.recordreader.specs.declared.HeadRead.{HeadRead}
use Rattle.recordreader.specs.Reading.{ReadsHead}
use Rattle.recordwriter.specs.Writing.{WritesHead}
use Rattle.record.specs.declared.start.Start.{Start}
use Rattle.record.specs.Start.{start_in, LoadsHead, start_refusal, head_over}

-- the numbers of an answer that this refuses, where it is not 0, and that gives one number else
abbrev Tells : ℕ → ℕ → List ℕ → Type 0
Tells refusal value numbers = numbers ≡ cond (eqb refusal 0) (0 ∷ value ∷ []) (refusal ∷ [])

-- number k of an answer
abbrev nth : ℕ → List ℕ → ℕ
nth k l = get_or l k 0

-- what a refused call leaves
kept : {T : Type 0} (refusal : ℕ) (new old : T) → 1 ≤ refusal → cond (eqb refusal 0) new old ≡ old
kept refusal new old h = rw (ne_eqb refusal 0 (λ e. omega arith)) refl

-- an answer that gives a number is not refused
not_refused : (refusal value n : ℕ) → Tells refusal value (0 ∷ n ∷ []) → refusal ≡ 0
not_refused zero value n e = refl
not_refused (suc refusal) value n e =
    absurd (omega (arith, ap (nth 0) (e ∙ kept (suc refusal) (0 ∷ value ∷ []) (suc refusal ∷ []) (omega arith))))

-- one that gives a reason is refused by its number
refused_by : (refusal value : ℕ) (reason : Reason) → Tells refusal value (number reason ∷ []) → number reason ≡ refusal
refused_by zero value reason e = absurd (omega (arith, number_some reason, ap (nth 0) e))
refused_by (suc refusal) value reason e = ap (nth 0) (e ∙ kept (suc refusal) (0 ∷ value ∷ []) (suc refusal ∷ []) (omega arith))

no_other : (refusal : ℕ) → or_else refusal 0 ≡ refusal
no_other zero = refl
no_other (suc refusal) = refl

module _ (start : Start) (head xf' : List ℕ) (of_xf : length start.xf ≡ xf_count) where
  of_head : head_refusal stream_limit head (length start.xf) ≡ head_fault stream_limit head
  unfolding head_refusal
  of_head = rw of_xf refl

  -- a head that is read is loaded
  pub loaded : (read : HeadRead) → ReadsHead head start.xf (Ok read) xf'
      → LoadsHead start head (Ok read.stream) (record { registers = read.registers; xf = xf' })
  loaded read h =
      let answer = subst (λ (n : ℕ). Tells n (file_number head stream_count_at) (0 ∷ read.stream ∷ [])) of_head h.answer_is in
      let sound : head_fault stream_limit head ≡ 0 = not_refused _ _ _ answer in
      let words = subst (λ (n : ℕ). xf' ≡ cond (eqb n 0) (content_of head).xf start.xf) (of_head ∙ sound) h.loads.xf_is in
      let registers = h.loads.registers_are in
      record { answer_is = answer; start_is = rw sound (λ i. record { registers = registers i; xf = words i }) }

  -- one that is refused changes nothing
  pub not_loaded : (reason : Reason) → ReadsHead head start.xf (Err reason) xf'
      → LoadsHead start head (Err reason) (record { registers = start.registers; xf = xf' })
  not_loaded reason h =
      let answer = subst (λ (n : ℕ). Tells n (file_number head stream_count_at) (number reason ∷ [])) of_head h.answer_is in
      let some : 1 ≤ head_fault stream_limit head = omega (arith, number_some reason, refused_by _ _ _ answer) in
      let words = subst (λ (n : ℕ). xf' ≡ cond (eqb n 0) (content_of head).xf start.xf) of_head h.loads.xf_is in
      let same = words ∙ kept (head_fault stream_limit head) (content_of head).xf start.xf some in
      let stays = kept (head_fault stream_limit head) (start_in head) start some in
      record { answer_is = answer; start_is = (λ i. record { registers = start.registers; xf = same i }) ∙ sym stays }

module _ (start : Start) (n : ℕ) (out out' : List ℕ) (of_xf : length start.xf ≡ xf_count) (room : length out ≡ stream_at) where
  abbrev bytes : List ℕ
  bytes = head_bytes start.registers.cp start.registers.bp start.xf n

  of_start :
      head_record_refusal stream_limit start.registers.cp start.registers.bp (length start.xf) n (length out)
      ≡ start_refusal start n
  unfolding head_record_refusal
  of_start = rw (of_xf, room) (no_other (start_refusal start n))

  -- a head that is written stands at the front of the output
  pub written : (k : ℕ) → WritesHead start.registers.cp start.registers.bp start.xf n out (Ok k) out'
      → (start_refusal start n ≡ 0) × (out' ≡ head_over start n out)
  written k h =
      let answer = subst (λ (m : ℕ). Tells m (length bytes) (0 ∷ k ∷ [])) of_start h.answer_is in
      let sound : start_refusal start n ≡ 0 = not_refused _ _ _ answer in
      (sound, subst (λ (m : ℕ). out' ≡ cond (eqb m 0) (head_over start n out) out) (of_start ∙ sound) h.out_is)

  -- one that is refused leaves it
  pub not_written : (reason : Reason) → WritesHead start.registers.cp start.registers.bp start.xf n out (Err reason) out'
      → (number reason ≡ start_refusal start n) × (out' ≡ out)
  not_written reason h =
      let answer = subst (λ (m : ℕ). Tells m (length bytes) (number reason ∷ [])) of_start h.answer_is in
      let refused : number reason ≡ start_refusal start n = refused_by _ _ _ answer in
      let some : 1 ≤ start_refusal start n = omega (arith, number_some reason, refused) in
      let left = subst (λ (m : ℕ). out' ≡ cond (eqb m 0) (head_over start n out) out) of_start h.out_is in
      (refused, left ∙ kept (start_refusal start n) (head_over start n out) out some)
