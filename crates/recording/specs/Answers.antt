-- The refusals of the calls on recordings, in their order, and the numbers of what a search and a test answer.
use Rattle.std.specs.Prelude.{cond, List, [], ◌∷◌, ℕ, ◌+◌, leb, ltb, eqb, Option, None, Some, Result}
use Rattle.refusal.specs.Number.{number, or_else}
use Rattle.refusal.specs.Outcome.{outcome}
use Rattle.refusal.specs.declared.Reason.{Reason}
use Rattle.command.specs.declared.Draw.TheVariants.{Closed}
use Rattle.command.specs.Look.{xf_count}
use Rattle.machine.specs.declared.Registers.{Registers}
use Rattle.machine.specs.Gate.{registers_fit}
use Rattle.recording.specs.declared.Fault.{Fault}
use Rattle.recording.specs.Format.{stream_at, content_of}
use Rattle.recording.specs.Faults.{head_fault, file_fault}

-- ---- the numbers of an answer

-- of a test: 0, or the refusal's

abbrev pub meaning_of_verdict : Result (Unit {0}) Reason → ℕ
meaning_of_verdict = outcome

-- of a search: the refusal's and its place, or 0 and the place where the stream begins
abbrev pub meaning_of_fault : Option Fault → List ℕ
meaning_of_fault None = 0 ∷ stream_at ∷ []
meaning_of_fault (Some fault) = number fault.reason ∷ fault.place ∷ []

-- ---- reading

-- "The reader gives 2 before these": the refusal of a head and of a whole file, with so many XF words lent
unfoldable pub head_refusal : ℕ → List ℕ → ℕ → ℕ
head_refusal limit file xf = cond (eqb xf xf_count) (head_fault limit file) 2

unfoldable pub read_refusal : ℕ → List ℕ → ℕ → ℕ
read_refusal limit file xf = cond (eqb xf xf_count) (file_fault limit file) 2

-- "A loaded recording starts with no draw open": the registers that a file holds
abbrev pub registers_in : List ℕ → Registers
registers_in file = record { cp = (content_of file).cp; bp = (content_of file).bp; draw = Closed }

-- ---- writing

-- "The writer gives 1, 2, 20 for a long stream": of registers, and so many XF words and bytes of a stream. Of 1 it tests the registers
-- that it writes; it is handed neither window, control word nor open draw
unfoldable pub content_refusal : ℕ → List ℕ → List ℕ → ℕ → ℕ → ℕ
content_refusal limit cp bp xf stream =
    cond (registers_fit cp bp Closed) (cond (eqb xf xf_count) (cond (leb stream limit) 0 20) 2) 1

-- "then 16": of an output of so many bytes
unfoldable pub record_refusal : ℕ → List ℕ → List ℕ → ℕ → ℕ → ℕ → ℕ
record_refusal limit cp bp xf stream room = or_else (content_refusal limit cp bp xf stream) (cond (ltb room (stream_at + stream)) 16 0)

-- the same of a head alone, for a stream of so many bytes
unfoldable pub head_record_refusal : ℕ → List ℕ → List ℕ → ℕ → ℕ → ℕ → ℕ
head_record_refusal limit cp bp xf stream room = or_else (content_refusal limit cp bp xf stream) (cond (ltb room stream_at) 16 0)
