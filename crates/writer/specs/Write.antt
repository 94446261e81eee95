-- "The writer takes any single command but a vertex, its fields in the widths above, an XF load's words lent beside it, 1 to 16, .."
-- A command is its list of numbers, kind and fields.
use Rattle.std.specs.Prelude.{◌≡◌, cond, List, [], ◌∷◌, ◌++◌, ℕ, ◌+◌, ◌*◌, ◌%◌, ltb, eqb, length, take, drop, Result}
use Rattle.octets.specs.BigEndian.{bytes_of}
unfoldable pub use Rattle.octets.specs.BigEndian.{word_bytes}
use Rattle.refusal.specs.Outcome.{answer_of}
use Rattle.command.specs.Command.{kind_of, field_of}
use Rattle.writable.specs.Writable.{unwritable, unaddressed, past_end}
use Rattle.refusal.specs.declared.Reason.{Reason}

-- ---- the bytes of a command

-- the length of an XF or indexed load, its words less one, in four bits
abbrev pub length_field : ℕ → ℕ
length_field words = (words + 15) % 16

-- what stands before the words of an XF load, and the whole of every other command; a vertex has none
unfoldable pub head_of : List ℕ → List ℕ
head_of c =
    cond (eqb (kind_of c) 0x08) (0x08 ∷ field_of c 1 ∷ bytes_of 4 (field_of c 2))
    (cond (eqb (kind_of c) 0x10) (0x10 ∷ (bytes_of 2 (length_field (field_of c 1)) ++ bytes_of 2 (field_of c 2)))
    (cond (eqb (kind_of c) 0x20)
    ((0x20 + 8 * (field_of c 1 % 4)) ∷ (bytes_of 2 (field_of c 2) ++ bytes_of 2 (length_field (field_of c 3) * 4096 + field_of c 4 % 4096)))
    (cond (eqb (kind_of c) 0x40) (0x40 ∷ (bytes_of 4 (field_of c 1) ++ bytes_of 4 (field_of c 2)))
    (cond (eqb (kind_of c) 0x61) (0x61 ∷ field_of c 1 ∷ bytes_of 3 (field_of c 2))
    (cond (eqb (kind_of c) 0x80) ((0x80 + 8 * (field_of c 1 % 8) + field_of c 2 % 8) ∷ bytes_of 2 (field_of c 3))
    (cond (eqb (kind_of c) 0x01) []
    (kind_of c ∷ [])))))))

-- the words that an XF load names; other commands name none
unfoldable pub words_of : List ℕ → ℕ
words_of c = cond (eqb (kind_of c) 0x10) (field_of c 1) 0

-- the bytes of a command with its lent words
unfoldable pub command_bytes : List ℕ → List ℕ → List ℕ
command_bytes c words = head_of c ++ word_bytes (take (words_of c) words)

-- ---- the refusals: 18, "then tests 7 and 8, then 16"

-- the first refusal that applies, 0 where none does, of a command, its lent words and an output of so many bytes
unfoldable pub refusal_of : List ℕ → List ℕ → ℕ → ℕ
refusal_of c words room =
    cond (unwritable c (length words)) 18
    (cond (unaddressed c) 7
    (cond (past_end c) 8
    (cond (ltb room (length (command_bytes c words))) 16 0)))

-- ---- the promise

-- bytes at the front of the output; "bytes past what is written stay"
abbrev pub placed : List ℕ → List ℕ → List ℕ
placed bytes out = bytes ++ drop (length bytes) out

-- the numbers of an answer: 0 and the bytes written, or the refusal's
abbrev pub meaning : Result ℕ Reason → List ℕ
meaning = answer_of (λ n. n ∷ [])

-- what is written, or a refusal that writes nothing
pub record Writes (c words out : List ℕ) (r : Result ℕ Reason) (out' : List ℕ) : Type 0 where
  pub answer_is :
      meaning r
      ≡ cond (eqb (refusal_of c words (length out)) 0) (0 ∷ length (command_bytes c words) ∷ []) (refusal_of c words (length out) ∷ [])
  pub out_is : out' ≡ cond (eqb (refusal_of c words (length out)) 0) (placed (command_bytes c words) out) out
