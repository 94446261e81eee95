-- What `read` promises of a file, refused or accepted.
use mathlib.Core.Path.{◌≡◌, sym, ap, ◌∙◌}
use mathlib.Core.Bool.{false}
use mathlib.Core.List.{List, [], ◌∷◌}
use Prim.Native.Nat.{ℕ, ◌-◌}
use lib.ListN.{length, length-drop}
use lib.Dec.{eqb}
use borrow.Author.Tests.{eq-eqb}
use Rattle.std.specs.Prelude.{Ok, Err}
use Rattle.refusal.specs.Number.{number}
use Rattle.refusal.specs.declared.Reason.{Reason}
use Rattle.refusal.proofs.Positive.{not_zero}
use Rattle.command.specs.Look.{xf_count}
use Rattle.machine.specs.declared.Registers.{Registers}
use Rattle.recording.specs.Format.{stream_count_at, stream_at, file_number, content_of}
use Rattle.recording.specs.Faults.{stream_limit, head_fault, rest_fault, file_fault}
use Rattle.recording.specs.Answers.{read_refusal, registers_in}
use Rattle.recording.proofs.Sound.{rest_is}
use Rattle.recordreader.specs.Reading.{ReadsFile}

-- of a file that is refused nothing is loaded
pub file_refused : (file xf : List ℕ) (r : Reason) → read_refusal stream_limit file (length xf) ≡ number r → ReadsFile file xf (Err r) xf
file_refused file xf r e =
    let f : eqb (read_refusal stream_limit file (length xf)) 0 ≡ false = not_zero r e in
    record { answer_is = rw f (ap (λ (n : ℕ). n ∷ []) (sym e)); loads = record { registers_are = record {}; xf_is = rw f } }

module _ (file xf : List ℕ) (n : ℕ) (many : length xf ≡ xf_count) (sound : head_fault stream_limit file ≡ 0)
    (told : n ≡ file_number file stream_count_at) (rest : ◌≡◌ {A = ℕ} 0 (rest_fault n (length file - stream_at))) where
  accepted : read_refusal stream_limit file (length xf) ≡ 0
  unfolding read_refusal file_fault
  accepted = rw (eq-eqb (length xf) xf_count many, sound, ← told) (sym rest)

  pub file_read : (g : Registers) (xf' : List ℕ) → g ≡ registers_in file → xf' ≡ (content_of file).xf
      → ReadsFile file xf (Ok (record { registers = g; at = stream_at; length = n })) xf'
  unfolding content_of
  file_read g xf' q x =
      let l : n ≡ length (content_of file).stream = sym (length-drop stream_at file ∙ rest_is n (length file - stream_at) (sym rest)) in
      record { answer_is = rw (accepted, l); loads = record { registers_are = q; xf_is = rw accepted x } }
