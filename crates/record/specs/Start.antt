-- What a recording starts from, and what the program makes of a head and of what stands behind it, told by the definitions of the library.
use Rattle.std.specs.Prelude.{◌≡◌, cond, List, [], ◌∷◌, ◌++◌, ℕ, ◌+◌, ◌%◌, ◌^◌, eqb, min, length, drop, replicate, Result, MatchResult}
use Rattle.refusal.specs.Number.{number}
use Rattle.refusal.specs.declared.Reason.{Reason}
use Rattle.command.specs.Look.{xf_count}
use Rattle.machine.specs.State.{fresh_machine}
use Rattle.recording.specs.declared.Fault.{Fault}
use Rattle.recording.specs.Format.{head_bytes, stream_at, stream_count_at, file_number, content_of}
use Rattle.recording.specs.Faults.{stream_limit, head_fault, head_place, rest_fault}
use Rattle.recording.specs.Answers.{registers_in, content_refusal}
use Rattle.recordreader.specs.Reading.{meaning_of_head}
use Rattle.record.specs.declared.start.Start.{Start}

-- "Fresh state": the registers of the fresh machine, and no XF word set
abbrev pub fresh_start : Start
fresh_start = record { registers = fresh_machine.registers; xf = replicate xf_count 0 }

-- the registers, with no draw open, and the XF words that a head holds
abbrev pub start_in : List ℕ → Start
start_in head = record { registers = registers_in head; xf = (content_of head).xf }

-- a head loaded: the length of the stream, as its count tells it, or the refusal of the head's first fault. "The refused call or unit
-- changes nothing."
pub record LoadsHead (start : Start) (head : List ℕ) (r : Result ℕ Reason) (start' : Start) : Type 0 where
  pub answer_is :
      meaning_of_head r
      ≡ cond (eqb (head_fault stream_limit head) 0) (0 ∷ file_number head stream_count_at ∷ []) (head_fault stream_limit head ∷ [])
  pub start_is : start' ≡ cond (eqb (head_fault stream_limit head) 0) (start_in head) start

-- the refusal of a head of these registers and XF words, for a stream of n bytes
abbrev pub start_refusal : Start → ℕ → ℕ
start_refusal start n = content_refusal stream_limit start.registers.cp start.registers.bp xf_count n

-- that head at the front of an output; what stands behind it stays
abbrev pub head_over : Start → ℕ → List ℕ → List ℕ
head_over start n out =
    let head = head_bytes start.registers.cp start.registers.bp start.xf n in
    head ++ drop (length head) out

-- a head written, or a refusal that leaves the output. An output is as long as a head, so no other refusal comes
abbrev pub PutsHead : Start → ℕ → List ℕ → Result (Unit {0}) Reason → List ℕ → Type 0
PutsHead start n out r out' =
    MatchResult r (λ _. (start_refusal start n ≡ 0) × (out' ≡ head_over start n out))
    (λ reason. (number reason ≡ start_refusal start n) × (out' ≡ out))

-- the first fault of a head, and its place; of a head that has none this reason, where its stream begins
abbrev pub FaultOf : List ℕ → Reason → Fault → Type 0
FaultOf head reason fault =
    (number fault.reason ∷ fault.place ∷ [])
    ≡ cond (eqb (head_fault stream_limit head) 0) (number reason ∷ stream_at ∷ [])
    (head_fault stream_limit head ∷ head_place stream_limit head ∷ [])

-- the byte where so many bytes behind a head end, or ought to, as a number of 32 bits
abbrev pub rest_end : ℕ → ℕ → ℕ
rest_end told rest = (stream_at + min rest told) % 2 ^ 32

-- the bytes behind a head tested: none is lacking or too much, or which of the two it is, and where
abbrev pub ChecksRest : ℕ → ℕ → Result (Unit {0}) Fault → Type 0
ChecksRest told rest r =
    MatchResult r (λ _. rest_fault told rest ≡ 0)
    (λ fault. (number fault.reason ≡ rest_fault told rest) × (fault.place ≡ rest_end told rest))
