-- "Stepping a written command .. gives it back": as far as the look, and the words of an XF load.
use Rattle.std.specs.Prelude.{◌≡◌, false, List, ◌++◌, ℕ, length}
use Rattle.command.specs.declared.Command.{Command}
use Rattle.command.specs.declared.Draw.TheVariants.{Closed}
use Rattle.command.specs.Command.{unit, numbers_of}
use Rattle.command.specs.Look.{look_of}
use Rattle.writer.specs.Write.{command_bytes}
use Rattle.writable.specs.Writable.{unwritable, unaddressed, past_end}
use Rattle.writer.specs.Widths.{reported}
use Rattle.writer.specs.Again.{held_words}

-- the writer's tests but that of the room, 16, do not refuse a command with these lent words
pub record Writable (c words : List ℕ) : Type 0 where
  pub writable : unwritable c (length words) ≡ false
  pub addressed : unaddressed c ≡ false
  pub within : past_end c ≡ false

-- a look at what is written for a command, with anything after it, is a unit of that command and of just those bytes
abbrev pub LooksBack : Command → List ℕ → List ℕ → List ℕ → Type 0
LooksBack command words rest cp =
    look_of (command_bytes (numbers_of command) words ++ rest) (length (command_bytes (numbers_of command) words ++ rest)) cp Closed
    ≡ unit (numbers_of command) (reported (numbers_of command) cp) (length (command_bytes (numbers_of command) words))

-- executing what is written for an XF load leaves the lent words in the XF memory, from its address on
abbrev pub LoadsBack : List ℕ → List ℕ → List ℕ → Type 0
LoadsBack c words xf = held_words c (command_bytes c words) xf ≡ words
