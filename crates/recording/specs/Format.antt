-- Document 02, L1, "one file, written and read back: sections in a fixed order, each after its count. BP (256 numbers), CP (in order: the
-- four registers 3X to 6X, 24 VAT words by format then group, 16 bases, 16 strides; 60 in all), XF (4,184), stream bytes .. Counts and
-- numbers are 4 bytes, big-endian; nothing follows."
use Rattle.std.specs.Prelude.{List, ◌++◌, ℕ, ◌+◌, ◌*◌, length, drop}
use Rattle.octets.specs.BigEndian.{big_endian, bytes_of, words_at, word_bytes}
use Rattle.places.specs.Places.{cp_count, bp_count}
use Rattle.command.specs.Look.{xf_count}

-- what a recording holds; the CP registers stand in the file's order
pub record Recording : Type 0 where
  pub bp : List ℕ
  pub cp : List ℕ
  pub xf : List ℕ
  pub stream : List ℕ

abbrev pub recording_of : List ℕ → List ℕ → List ℕ → List ℕ → Recording
recording_of cp bp xf stream = record { bp = bp; cp = cp; xf = xf; stream = stream }

-- ---- the bytes of a recording

-- numbers, "each after its count"
abbrev pub section : List ℕ → List ℕ
section numbers = bytes_of 4 (length numbers) ++ word_bytes numbers

-- all that stands before the bytes of a stream of n bytes: "sections in a fixed order", and the stream's count
unfoldable pub head_bytes : List ℕ → List ℕ → List ℕ → ℕ → List ℕ
head_bytes cp bp xf n = section bp ++ (section cp ++ (section xf ++ bytes_of 4 n))

-- the whole file
unfoldable pub file_bytes : Recording → List ℕ
file_bytes r = head_bytes r.cp r.bp r.xf (length r.stream) ++ r.stream

-- ---- where each number stands: the numbers of a file by their place among them, from 0, each of 4 bytes. Number 0 is the count of BP

-- the first BP register
abbrev pub bp_from : ℕ
bp_from = 1

-- the count of CP, and its first register
abbrev pub cp_count_at : ℕ
cp_count_at = bp_from + bp_count

abbrev pub cp_from : ℕ
cp_from = cp_count_at + 1

-- the count of XF, and its first word
abbrev pub xf_count_at : ℕ
xf_count_at = cp_from + cp_count

abbrev pub xf_from : ℕ
xf_from = xf_count_at + 1

-- the count of the stream, the last number
abbrev pub stream_count_at : ℕ
stream_count_at = xf_from + xf_count

-- how many numbers there are: 4,504
abbrev pub number_count : ℕ
number_count = stream_count_at + 1

-- the byte where the stream begins: 18,016
abbrev pub stream_at : ℕ
stream_at = 4 * number_count

-- number k of a file
abbrev pub file_number : List ℕ → ℕ → ℕ
file_number file k = big_endian file (4 * k) 4

-- ---- what the bytes of a file hold
unfoldable pub content_of : List ℕ → Recording
content_of file =
    record {
      bp = words_at file (4 * bp_from) bp_count;
      cp = words_at file (4 * cp_from) cp_count;
      xf = words_at file (4 * xf_from) xf_count;
      stream = drop stream_at file;
    }
