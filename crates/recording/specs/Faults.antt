-- Document 02, L1, "Refused at the first place in the file: a wrong count 20, a number too wide for its register 21, a short file, cut
-- inside a number too, 22, a file too long 23." The longest stream is a parameter of each definition.
use Rattle.std.specs.Prelude.{cond, List, ℕ, zero, suc, ◌+◌, ◌-◌, ◌*◌, ◌^◌, leb, ltb, eqb, length}
use Rattle.refusal.specs.Number.{or_else}
use Rattle.places.specs.Places.{cp_count, bp_count, base_place, stride_place}
use Rattle.command.specs.Look.{xf_count}
use Rattle.recording.specs.Format.{cp_count_at, cp_from, xf_count_at, stream_count_at, number_count, stream_at, file_number}

-- "stream bytes (0 to 65,535)", and L9, "Raise .. the recording's stream to 1,048,575": the longest stream
abbrev pub stream_limit : ℕ
stream_limit = 1048575

-- "a wrong count 20": of a count v that must be n
abbrev pub unless_equal : ℕ → ℕ → ℕ
unless_equal v n = cond (eqb v n) 0 20

-- "a number too wide for its register 21": of a number v that must be below n
abbrev pub unless_below : ℕ → ℕ → ℕ
unless_below v n = cond (ltb v n) 0 21

-- 20 of the stream's count, where it is above the limit
abbrev pub unless_within : ℕ → ℕ → ℕ
unless_within v limit = cond (leb v limit) 0 20

-- among the numbers of a file the first array base, and the first stride
abbrev pub bases_from : ℕ
bases_from = cp_from + base_place 0

abbrev pub strides_from : ℕ
strides_from = cp_from + stride_place 0

-- the fault of number k that is v, 0 where it has none. BP registers have 24 bits, bases 26 and strides 8; the other CP registers and the
-- XF words have 32, as every number of 4 bytes
unfoldable pub number_fault : ℕ → ℕ → ℕ → ℕ
number_fault limit k v =
    cond (eqb k 0) (unless_equal v bp_count)
    (cond (ltb k cp_count_at) (unless_below v (2 ^ 24))
    (cond (eqb k cp_count_at) (unless_equal v cp_count)
    (cond (ltb k bases_from) 0
    (cond (ltb k strides_from) (unless_below v (2 ^ 26))
    (cond (ltb k xf_count_at) (unless_below v (2 ^ 8))
    (cond (eqb k xf_count_at) (unless_equal v xf_count)
    (cond (ltb k stream_count_at) 0
    (unless_within v limit))))))))

-- the first fault of n numbers from number k on, 0 where there is none; a number that is not whole is no number, but 22
unfoldable pub first_fault : ℕ → List ℕ → ℕ → ℕ → ℕ
first_fault limit file zero k = 0
first_fault limit file (suc n) k =
    cond (ltb (length file) (4 * k + 4)) 22 (or_else (number_fault limit k (file_number file k)) (first_fault limit file n (suc k)))

-- where it stands: the first byte of its number, or, of a number that is not whole, the first byte that is not there; behind the numbers
-- where there is no fault
unfoldable pub first_place : ℕ → List ℕ → ℕ → ℕ → ℕ
first_place limit file zero k = 4 * k
first_place limit file (suc n) k =
    cond (ltb (length file) (4 * k + 4)) (length file)
    (cond (eqb (number_fault limit k (file_number file k)) 0) (first_place limit file n (suc k)) (4 * k))

-- the first fault of a file's numbers, and its place
unfoldable pub head_fault : ℕ → List ℕ → ℕ
head_fault limit file = first_fault limit file number_count 0

unfoldable pub head_place : ℕ → List ℕ → ℕ
head_place limit file = first_place limit file number_count 0

-- behind the numbers: fewer bytes than the stream's count tells are 22, more are 23
unfoldable pub rest_fault : ℕ → ℕ → ℕ
rest_fault told rest = cond (ltb rest told) 22 (cond (ltb told rest) 23 0)

-- the first fault of a file
unfoldable pub file_fault : ℕ → List ℕ → ℕ
file_fault limit file = or_else (head_fault limit file) (rest_fault (file_number file stream_count_at) (length file - stream_at))
