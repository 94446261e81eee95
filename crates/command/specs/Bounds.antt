-- What holds of every answer: how many bytes a unit has or lacks, which refusals there are, and how wide the fields of a command are.
use Rattle.std.specs.Prelude.{◌≡◌, List, ℕ, ◌+◌, ◌^◌, ◌<◌, ◌≤◌}
use Rattle.layout.specs.Answers.{largest_vertex}
use Rattle.command.specs.Command.{Found, unit, waiting, refused, kind_of, field_of}

-- at n bytes: a unit has 1 to 129 bytes and all of them are there; what waits lacks a byte or more, and 129 are always enough
-- ("A full ring is never answered with waiting"); a refusal is one of 6 to 10
abbrev pub Fair : ℕ → Found → Type 0
Fair n (unit c m l) = (1 ≤ l) × ((l ≤ n) × (l ≤ largest_vertex))
Fair n (waiting k) = (1 ≤ k) × (n + k ≤ largest_vertex)
Fair n (refused r) = (6 ≤ r) × (r ≤ 10)

-- the fields of a command that was read have their widths: a BP number 24 bits, a primitive and a format three, a vertex count 16
pub record Ranged (c : List ℕ) : Type 0 where
  pub bp : kind_of c ≡ 0x61 → field_of c 2 < 2 ^ 24
  pub head : kind_of c ≡ 0x80 → (field_of c 1 < 8) × (field_of c 2 < 8)
  pub count : kind_of c ≡ 0x80 → field_of c 3 < 2 ^ 16

-- of an answer: its command, where it is a unit
abbrev pub Ranges : Found → Type 0
Ranges (unit c m l) = Ranged c
Ranges (waiting k) = Unit {0}
Ranges (refused r) = Unit {0}
