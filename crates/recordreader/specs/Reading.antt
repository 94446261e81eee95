-- What the readers of a recording answer and leave. "The refused call or unit changes nothing."
use Rattle.std.specs.Prelude.{◌≡◌, cond, List, [], ◌∷◌, ℕ, eqb, length, Result, MatchResult, IfOk}
use Rattle.std.specs.Result.{result_map_both}
use Rattle.refusal.specs.Number.{number}
use Rattle.refusal.specs.Outcome.{answer_of}
use Rattle.refusal.specs.declared.Reason.{Reason}
use Rattle.command.specs.Look.{xf_count}
use Rattle.machine.specs.declared.Registers.{Registers}
use Rattle.recording.specs.Format.{stream_count_at, stream_at, file_number, content_of}
use Rattle.recording.specs.Faults.{stream_limit, head_fault}
use Rattle.recording.specs.Answers.{head_refusal, read_refusal, registers_in}
use Rattle.recordreader.specs.declared.HeadRead.{HeadRead}
use Rattle.recordreader.specs.declared.FileRead.{FileRead}

-- what is told of the stream: by a head how long it is, by a whole file where it stands, and how long it is
abbrev pub head_told : Result HeadRead Reason → Result ℕ Reason
head_told = result_map_both (λ head. head.stream) (λ reason. reason)

abbrev pub file_told : Result FileRead Reason → Result (ℕ × ℕ) Reason
file_told = result_map_both (λ file. (file.at, file.length)) (λ reason. reason)

-- the registers that they give
abbrev pub head_registers : Result HeadRead Reason → Result Registers Reason
head_registers = result_map_both (λ head. head.registers) (λ reason. reason)

abbrev pub file_registers : Result FileRead Reason → Result Registers Reason
file_registers = result_map_both (λ file. file.registers) (λ reason. reason)

-- the numbers of an answer: 0 and what it tells, or the refusal's
abbrev pub meaning_of_head : Result ℕ Reason → List ℕ
meaning_of_head = answer_of (λ n. n ∷ [])

abbrev pub meaning_of_read : Result (ℕ × ℕ) Reason → List ℕ
meaning_of_read = answer_of (λ stream. stream.0 ∷ stream.1 ∷ [])

-- registers and XF words read from a file, unless this refuses it: then no registers are given, and the XF words stay
pub record Loads (refusal : ℕ) (file xf : List ℕ) (registers : Result Registers Reason) (xf' : List ℕ) : Type 0 where
  pub registers_are : IfOk registers (λ held. held ≡ registers_in file)
  pub xf_is : xf' ≡ cond (eqb refusal 0) (content_of file).xf xf

-- a head read: the length of the stream, as its count tells it
pub record ReadsHead (file xf : List ℕ) (r : Result HeadRead Reason) (xf' : List ℕ) : Type 0 where
  pub answer_is :
      meaning_of_head (head_told r)
      ≡ cond (eqb (head_refusal stream_limit file (length xf)) 0) (0 ∷ file_number file stream_count_at ∷ [])
      (head_refusal stream_limit file (length xf) ∷ [])
  pub loads : Loads (head_refusal stream_limit file (length xf)) file xf (head_registers r) xf'

-- a whole file read: it "tells where the stream stands", and how long it is
pub record ReadsFile (file xf : List ℕ) (r : Result FileRead Reason) (xf' : List ℕ) : Type 0 where
  pub answer_is :
      meaning_of_read (file_told r)
      ≡ cond (eqb (read_refusal stream_limit file (length xf)) 0) (0 ∷ stream_at ∷ length (content_of file).stream ∷ [])
      (read_refusal stream_limit file (length xf) ∷ [])
  pub loads : Loads (read_refusal stream_limit file (length xf)) file xf (file_registers r) xf'

-- ---- for the code's own functions

-- a head searched, with so many XF words lent: the length of the stream, as its count tells it, where there are as many as must be and no
-- number has a fault; else the refusal, which is that of the head and comes first of the whole file's
abbrev pub SearchesHead : List ℕ → ℕ → Result ℕ Reason → Type 0
SearchesHead file xf r =
    MatchResult r (λ n. (xf ≡ xf_count) × ((head_fault stream_limit file ≡ 0) × (n ≡ file_number file stream_count_at)))
    (λ reason. cond (eqb xf xf_count) (head_fault stream_limit file) 2 ≡ number reason)
