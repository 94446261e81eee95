-- Document 02, L9, "Files written before keep their meaning byte by byte. An earlier reader refuses a file written with a longer stream by
-- 20.": two readers, or two writers, that differ in the longest stream alone.
use Rattle.std.specs.Prelude.{◌≡◌, cond, ◌⊎◌, List, ℕ, ◌*◌, ◌^◌, ◌<◌, ◌≤◌, eqb, length}
use Rattle.command.specs.Look.{xf_count}
use Rattle.recording.specs.Format.{Recording, file_bytes, stream_count_at}
use Rattle.recording.specs.Faults.{head_place, file_fault}
use Rattle.recording.specs.Answers.{head_refusal, read_refusal, record_refusal, head_record_refusal}
use Rattle.recording.specs.Promises.{Recordable}

-- L1, "stream bytes (0 to 65,535)": the longest stream before L9
abbrev pub earlier_limit : ℕ
earlier_limit = 65535

-- two readers make the same of a file, however many XF words they are lent: they answer alike, of the whole or of its head alone, and find
-- the first fault at the same place. What they load of a file that they accept is `content_of`, and what they tell of its stream is
-- `stream_at` and its length, which know no limit
pub record ReadAlike (a b : ℕ) (file : List ℕ) : Type 0 where
  pub whole : (xf : ℕ) → read_refusal a file xf ≡ read_refusal b file xf
  pub head : (xf : ℕ) → head_refusal a file xf ≡ head_refusal b file xf
  pub place : head_place a file ≡ head_place b file

-- two writers make the same of registers, and so many XF words and bytes of a stream, whatever room they have: they answer alike. What they
-- write is `file_bytes` or `head_bytes`, which know no limit
pub record WrittenAlike (a b : ℕ) (cp bp : List ℕ) (xf stream : ℕ) : Type 0 where
  pub whole : (room : ℕ) → record_refusal a cp bp xf stream room ≡ record_refusal b cp bp xf stream room
  pub head : (room : ℕ) → head_record_refusal a cp bp xf stream room ≡ head_record_refusal b cp bp xf stream room

-- a reader refuses a file by 20 for its stream's count, at whose first byte the fault stands: the whole or its head alone, after 2
pub record LongStream (limit : ℕ) (file : List ℕ) : Type 0 where
  pub whole : (xf : ℕ) → read_refusal limit file xf ≡ cond (eqb xf xf_count) 20 2
  pub head : (xf : ℕ) → head_refusal limit file xf ≡ cond (eqb xf xf_count) 20 2
  pub place : head_place limit file ≡ 4 * stream_count_at

-- for every two longest streams, proved as one by `limit_promises` (proofs/Limits)
pub record LimitPromises : Type 0 where
  -- "Files written before keep their meaning byte by byte": a file that the earlier reader accepts is read alike by the later one
  pub read_alike : (earlier later : ℕ) (file : List ℕ) → earlier ≤ later → file_fault earlier file ≡ 0 → ReadAlike earlier later file
  -- and so is every other file, a bad one too, but one that the earlier reader refuses for its stream's count
  pub alike_or_long : (earlier later : ℕ) (file : List ℕ) → earlier ≤ later → ReadAlike earlier later file ⊎ LongStream earlier file
  -- a content whose stream the earlier writer takes is written alike
  pub written_alike : (earlier later : ℕ) (cp bp : List ℕ) (xf stream : ℕ) → earlier ≤ later → stream ≤ earlier
      → WrittenAlike earlier later cp bp xf stream
  -- "An earlier reader refuses a file written with a longer stream by 20"
  pub long_stream : (earlier later : ℕ) (r : Recording) → later < 2 ^ 32 → Recordable later r → earlier < length r.stream
      → LongStream earlier (file_bytes r)
