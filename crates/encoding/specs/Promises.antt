-- A unit that was told can be handed back to the writer: the words that tell a command name it. Proved as one by `encoding_promises`
-- (proofs/Handed).
use Rattle.std.specs.Prelude.{◌≡◌, List, ℕ, ◌^◌, ◌<◌, ◌≤◌, take}
use Rattle.octets.specs.BigEndian.{Octets}
use Rattle.command.specs.declared.Draw.{Draw}
use Rattle.command.specs.declared.Command.{Command}
use Rattle.command.specs.declared.Command.TheVariants.{NoOperation, InvalidateCache, Metrics, LoadCp, LoadXf, LoadIndexed}
use Rattle.command.specs.declared.Command.TheVariants.{CallList, LoadBp, DrawHead, Vertex}
use Rattle.command.specs.Command.{unit, numbers_of}
use Rattle.command.specs.Look.{look_of}
use Rattle.encoding.specs.Told.{command_words, unit_words}
use Rattle.encoding.specs.Named.{command_named}

-- fields of 8 and 16 bits are within their types, as they are of every command that code can hold, and "Bits 3 and 4 pick array 12 to 15";
-- a field of 32 bits is told whole
abbrev pub Tellable : Command → Type 0
Tellable NoOperation = Unit {0}
Tellable InvalidateCache = Unit {0}
Tellable Metrics = Unit {0}
Tellable (LoadCp address n) = address < 2 ^ 8
Tellable (LoadXf words address) = (words < 2 ^ 8) × (address < 2 ^ 16)
Tellable (LoadIndexed array index words address) =
    ((12 ≤ array) × (array ≤ 15)) × ((index < 2 ^ 16) × ((words < 2 ^ 8) × (address < 2 ^ 16)))
Tellable (CallList address size) = Unit {0}
Tellable (LoadBp register n) = register < 2 ^ 8
Tellable (DrawHead primitive format count) = (primitive < 2 ^ 8) × ((format < 2 ^ 8) × (count < 2 ^ 16))
Tellable Vertex = Unit {0}

pub record EncodingPromises : Type 0 where
  -- the five words of a command, whatever memory address is told beside it, name the command; a vertex's name a vertex, which the writer
  -- refuses by 18
  pub command_named_lem : (x : Command) (memory : ℕ) → Tellable x → command_named (command_words (numbers_of x) memory) ≡ numbers_of x
  -- so do the first five of the six words of a unit
  pub unit_named : (x : Command) (memory n : ℕ) → Tellable x → command_named (take 5 (unit_words (numbers_of x) memory n)) ≡ numbers_of x
  -- so of every unit that a look tells, at any bytes: its command is `Tellable`
  pub look_named : (b : List ℕ) → Octets b → (n : ℕ) (cp : List ℕ) (draw : Draw) (c : List ℕ) (memory length : ℕ)
      → look_of b n cp draw ≡ unit c memory length → command_named (take 5 (unit_words c memory length)) ≡ c
