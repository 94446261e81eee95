-- A queue of bytes that are those of BP loads, as the feeds of patches make it: what it begins with.
use Rattle.std.specs.Prelude.{◌≡◌, List, [], ◌∷◌, ◌++◌, ℕ, zero, suc, ◌-◌, ◌^◌, ◌<◌, length, take, drop}
use Rattle.command.specs.Command.{unit, load_bp}
use Rattle.command.specs.Look.{look_of}
use Rattle.command.specs.declared.Draw.TheVariants.{Closed}
use Rattle.writer.specs.Write.{command_bytes}
use Rattle.patchwriter.specs.Commands.{bytes_of_commands}

-- a command that is a BP load of 24 bits
pub record IsLoad (c : List ℕ) : Type 0 where
  pub register : ℕ
  pub number : ℕ
  pub load_is : c ≡ load_bp register number
  pub narrow : number < 2 ^ 24

abbrev pub AllLoads : List (List ℕ) → Type 0
AllLoads [] = Unit {0}
AllLoads (c ∷ cs) = IsLoad c × AllLoads cs

-- the bytes that a part of n bytes of a load lacks; no byte lacks one
abbrev pub lacking : ℕ → ℕ
lacking zero = 1
lacking (suc n) = 4 - n

-- the queue, with the bytes that come later, is that of commands, of which the first is there whole: the unit that a look finds
pub record Begins (queue later cp : List ℕ) (commands : List (List ℕ)) : Type 0 where
  pub command : List ℕ
  pub others : List (List ℕ)
  pub first_is : commands ≡ command ∷ others
  pub load : IsLoad command
  pub loads : AllLoads others
  pub look_is : look_of queue (length queue) cp Closed ≡ unit command 0 5
  pub bytes_are : take 5 queue ≡ command_bytes command []
  pub rest_is : drop 5 queue ++ later ≡ bytes_of_commands others
