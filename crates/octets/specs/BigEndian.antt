-- "All multi-byte numbers in the stream are big-endian." Of a recording: "Counts and numbers are 4 bytes, big-endian" (document 02, L1).
use Rattle.std.specs.Prelude.{cond, List, [], ◌∷◌, ◌++◌, ℕ, zero, suc, ◌+◌, ◌*◌, ◌/◌, ◌%◌, ◌^◌, ◌<◌, leb, ltb, length, get_or, drop}
use Rattle.laws.specs.Values.{up_to}

-- a list of bytes
abbrev pub Octets : List ℕ → Type 0
Octets l = (k : ℕ) → get_or l k 0 < 256

-- the number of the n bytes from place `at` on; a place past the end holds 0
unfoldable pub big_endian : List ℕ → ℕ → ℕ → ℕ
big_endian l at zero = 0
big_endian l at (suc n) = big_endian l at n * 256 + get_or l (at + n) 0

-- the n bytes of a number
unfoldable pub bytes_of : ℕ → ℕ → List ℕ
bytes_of zero v = []
bytes_of (suc n) v = bytes_of n (v / 256) ++ (v % 256 ∷ [])

-- at most four bytes make a 32-bit number
abbrev pub at_most_four : ℕ → ℕ
at_most_four n = cond (ltb n 4) n 4

-- words of 32 bits, as lent ones are
abbrev pub WordsFit : List ℕ → Type 0
WordsFit ws = (k : ℕ) → get_or ws k 0 < 2 ^ 32

-- the n words of four bytes each from place `at` on
abbrev pub words_at : List ℕ → ℕ → ℕ → List ℕ
words_at l at n = up_to (λ i. big_endian l (at + 4 * i) 4) n

-- words as they stand in bytes, one after the other
unfoldable pub word_bytes : List ℕ → List ℕ
word_bytes [] = []
word_bytes (w ∷ ws) = bytes_of 4 w ++ word_bytes ws

-- words over the front of an output that has room for all of them, and else the output as it was
abbrev pub with_words : List ℕ → List ℕ → List ℕ
with_words ws out = cond (leb (4 * length ws) (length out)) (word_bytes ws ++ drop (4 * length ws) out) out
