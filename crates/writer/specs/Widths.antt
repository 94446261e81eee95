-- What the types of a command's fields hold, and what a look reports of a command.
use Rattle.std.specs.Prelude.{cond, List, ℕ, ◌^◌, ◌<◌, eqb}
use Rattle.command.specs.declared.Command.{Command}
use Rattle.command.specs.declared.Command.TheVariants.{NoOperation, InvalidateCache, Metrics, LoadCp, LoadXf, LoadIndexed}
use Rattle.command.specs.declared.Command.TheVariants.{CallList, LoadBp, DrawHead, Vertex}
use Rattle.command.specs.Command.{kind_of, field_of}
use Rattle.command.specs.Look.{memory_of}

-- each field is within its type, as it is of every command that code can hold
abbrev pub Typed : Command → Type 0
Typed NoOperation = Unit {0}
Typed InvalidateCache = Unit {0}
Typed Metrics = Unit {0}
Typed (LoadCp address n) = (address < 256) × (n < 2 ^ 32)
Typed (LoadXf words address) = (words < 256) × (address < 65536)
Typed (LoadIndexed array index words address) = ((array < 256) × (index < 65536)) × ((words < 256) × (address < 65536))
Typed (CallList address size) = (address < 2 ^ 32) × (size < 2 ^ 32)
Typed (LoadBp register n) = (register < 256) × (n < 2 ^ 32)
Typed (DrawHead primitive format count) = (primitive < 256) × ((format < 256) × (count < 65536))
Typed Vertex = Unit {0}

-- the memory address that is reported beside a command
unfoldable pub reported : List ℕ → List ℕ → ℕ
reported c cp = cond (eqb (kind_of c) 0x20) (memory_of cp (field_of c 1) (field_of c 2)) 0
