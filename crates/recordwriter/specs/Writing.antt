-- What the writers of a recording answer and leave.
use Rattle.std.specs.Prelude.{◌≡◌, cond, List, [], ◌∷◌, ℕ, eqb, length, Result}
use Rattle.refusal.specs.declared.Reason.{Reason}
use Rattle.writer.specs.Write as writer
use Rattle.recording.specs.Format.{Recording, head_bytes, file_bytes}
use Rattle.recording.specs.Faults.{stream_limit}
use Rattle.recording.specs.Answers.{record_refusal, head_record_refusal}

-- bytes written to the front of an output, unless this refuses it: "A 16 writes nothing; otherwise bytes past what is written stay."
pub record WritesBytes (refusal : ℕ) (bytes out : List ℕ) (r : Result ℕ Reason) (out' : List ℕ) : Type 0 where
  pub answer_is : writer.meaning r ≡ cond (eqb refusal 0) (0 ∷ length bytes ∷ []) (refusal ∷ [])
  pub out_is : out' ≡ cond (eqb refusal 0) (writer.placed bytes out) out

-- a whole file written
abbrev pub WritesFile : Recording → List ℕ → Result ℕ Reason → List ℕ → Type 0
WritesFile c out r out' =
    WritesBytes (record_refusal stream_limit c.cp c.bp (length c.xf) (length c.stream) (length out)) (file_bytes c) out r out'

-- a head written, for a stream of n bytes
abbrev pub WritesHead : List ℕ → List ℕ → List ℕ → ℕ → List ℕ → Result ℕ Reason → List ℕ → Type 0
WritesHead cp bp xf n out r out' =
    WritesBytes (head_record_refusal stream_limit cp bp (length xf) n (length out)) (head_bytes cp bp xf n) out r out'
