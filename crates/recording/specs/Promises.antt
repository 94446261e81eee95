-- What reading and writing recordings promise together, for every longest stream, proved as one by `recording_promises` (proofs/Promises).
use Rattle.std.specs.Prelude.{◌≡◌, cond, List, ◌++◌, ℕ, ◌+◌, ◌-◌, ◌^◌, ◌<◌, ◌≤◌, ltb, length, take}
use Rattle.refusal.specs.Number.{or_else}
use Rattle.octets.specs.BigEndian.{Octets, WordsFit}
use Rattle.places.specs.Places.{cp_count, bp_count}
use Rattle.recording.specs.Format.{Recording, head_bytes, file_bytes, stream_count_at, stream_at, file_number, content_of}
use Rattle.recording.specs.Faults.{head_fault, head_place, rest_fault, file_fault}
use Rattle.recording.specs.Answers.{head_refusal, read_refusal, registers_in, content_refusal, record_refusal, head_record_refusal}

-- a content that the writer takes: none of 1, 2 and 20 refuses it, and its numbers are as the parameters' types say
pub record Recordable (limit : ℕ) (r : Recording) : Type 0 where
  pub passes : content_refusal limit r.cp r.bp (length r.xf) (length r.stream) ≡ 0
  pub cp_length : length r.cp ≡ cp_count
  pub bp_length : length r.bp ≡ bp_count
  pub cp_words : WordsFit r.cp
  pub xf_words_lem : WordsFit r.xf

-- what the writer answers for a content and an output of so many bytes
abbrev pub writer_answer : ℕ → Recording → ℕ → ℕ
writer_answer limit r room = record_refusal limit r.cp r.bp (length r.xf) (length r.stream) room

-- what a reader of the head tells is the same by the first 18,016 bytes as by the whole file
pub record HeadAlone (limit : ℕ) (file : List ℕ) : Type 0 where
  pub fault : head_fault limit (take stream_at file) ≡ head_fault limit file
  pub place : head_place limit (take stream_at file) ≡ head_place limit file
  pub told : file_number (take stream_at file) stream_count_at ≡ file_number file stream_count_at
  pub registers : registers_in (take stream_at file) ≡ registers_in file
  pub words : (content_of (take stream_at file)).xf ≡ (content_of file).xf

-- where the first fault of a file's numbers stands: before the stream just where there is one, and never past the file's end
pub record PlaceTold (limit : ℕ) (file : List ℕ) : Type 0 where
  pub none : head_fault limit file ≡ 0 → head_place limit file ≡ stream_at
  pub some : (head_fault limit file ≡ 0 → ⊥) → head_place limit file < stream_at
  pub within : head_place limit file ≤ length file

-- A file is a list of bytes, which is the parameter's type. Of a limit it is asked that a number of 4 bytes can tell it.
pub record RecordingPromises : Type 0 where
  -- "An accepted file is exactly what the writer gives for its content": the file's bytes are those written for it
  pub rewrites : (limit : ℕ) (file : List ℕ) → Octets file → file_fault limit file ≡ 0 → file_bytes (content_of file) ≡ file
  -- and the writer takes that content, into an output just as long as the file
  pub writable : (limit : ℕ) (file : List ℕ) → Octets file → file_fault limit file ≡ 0
      → Recordable limit (content_of file) × (writer_answer limit (content_of file) (length file) ≡ 0)
  -- "one file, written and read back": what is written is accepted
  pub accepted : (limit : ℕ) (r : Recording) → limit < 2 ^ 32 → Recordable limit r → file_fault limit (file_bytes r) ≡ 0
  -- and holds what was written
  pub reads_back : (limit : ℕ) (r : Recording) → limit < 2 ^ 32 → Recordable limit r → content_of (file_bytes r) ≡ r
  -- two different contents never give one file
  pub apart : (limit : ℕ) (r s : Recording) → limit < 2 ^ 32 → Recordable limit r → Recordable limit s → file_bytes r ≡ file_bytes s → r ≡ s
  -- the head decides alone as far as its numbers go
  pub head_alone : (limit : ℕ) (file : List ℕ) → HeadAlone limit file
  -- reading the whole is reading the head and checking the rest
  pub in_parts : (limit : ℕ) (file : List ℕ) (xf : ℕ)
      → read_refusal limit file xf
      ≡ or_else (head_refusal limit (take stream_at file) xf)
      (rest_fault (file_number (take stream_at file) stream_count_at) (length file - stream_at))
  -- the place of the first fault
  pub place_told : (limit : ℕ) (file : List ℕ) → PlaceTold limit file
  -- writing the whole is writing the head, and then the stream where there is room for it
  pub written_in_parts : (limit : ℕ) (cp bp : List ℕ) (xf stream room : ℕ)
      → record_refusal limit cp bp xf stream room
      ≡ or_else (head_record_refusal limit cp bp xf stream room) (cond (ltb room (stream_at + stream)) 16 0)
  pub head_then_stream : (r : Recording) → file_bytes r ≡ head_bytes r.cp r.bp r.xf (length r.stream) ++ r.stream
