-- Answers as numbers: the answer's number, 0 for accepted or done or a unit told, 255 for waiting, else the refusal's; and the words beside
-- it.
use Rattle.std.specs.Prelude.{◌≡◌, cond, List, [], ◌∷◌, ◌++◌, ℕ, ◌+◌, ◌*◌, ◌-◌, eqb, get_or, take, replicate}
use Rattle.command.specs.Command.{Found, unit, waiting, refused, kind_of, field_of}

-- the first and the second number of an answer, 0 where it has none
abbrev pub first_of : List ℕ → ℕ
first_of l = get_or l 0 0

abbrev pub second_of : List ℕ → ℕ
second_of l = get_or l 1 0

-- n numbers: those of a list, then zeros
abbrev pub padded : ℕ → List ℕ → List ℕ
padded n l = take n (l ++ replicate n 0)

-- an indexed load's kind is its opcode: 20, 28, 30 or 38 hex for the arrays 12 to 15
abbrev pub indexed_kind : ℕ → ℕ
indexed_kind array = 0x20 + 8 * (array - 12)

-- a command as five words: the kind, a, b, c, d; of an indexed load the opcode, the index, the words, the XF address, the memory address
abbrev pub command_words : List ℕ → ℕ → List ℕ
command_words c memory =
    cond (eqb (kind_of c) 0x20) (indexed_kind (field_of c 1) ∷ field_of c 2 ∷ field_of c 3 ∷ field_of c 4 ∷ memory ∷ []) (padded 5 c)

-- the six words of a unit: its command and its bytes
abbrev pub unit_words : List ℕ → ℕ → ℕ → List ℕ
unit_words c memory n = command_words c memory ++ (n ∷ [])

-- the number of what a look or a taking answers
abbrev pub answer_number : Found → ℕ
answer_number (unit c memory n) = 0
answer_number (waiting lacking) = 255
answer_number (refused r) = r

-- what was lent for a unit's words: those of the unit where there is one, and else what it was
abbrev pub unit_of : Found → List ℕ → List ℕ
unit_of (unit c memory n) old = unit_words c memory n
unit_of (waiting lacking) old = old
unit_of (refused r) old = old

-- what was lent for the bytes lacking: how many they are where a unit is waited for, and else what it was
abbrev pub lacking_of : Found → ℕ → ℕ
lacking_of (unit c memory n) old = old
lacking_of (waiting lacking) old = lacking
lacking_of (refused r) old = old

-- what was found, told: the number, the unit and the bytes lacking
pub record Tells (found : Found) (told : List ℕ) (lacking r : ℕ) (told' : List ℕ) (lacking' : ℕ) : Type 0 where
  pub answer_is : r ≡ answer_number found
  pub unit_is : told' ≡ unit_of found told
  pub lacking_is : lacking' ≡ lacking_of found lacking
