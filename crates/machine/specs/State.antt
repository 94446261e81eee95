-- "The bench holds a ring window, a control word, CP registers, 256 BP registers, an open draw or none, and lent memory .."
use Rattle.std.specs.Prelude.{Bool, true, false, List, ℕ, replicate, set}
use Rattle.command.specs.declared.Draw.{Draw}
use Rattle.command.specs.declared.Draw.TheVariants.{Closed, Open}
use Rattle.effect.specs.Effect.{mask_place}
use Rattle.fifo.specs.declared.Fifo.{Fifo}
use Rattle.fifo.specs.Window.{fresh_fifo}
use Rattle.machine.specs.declared.Machine.{Machine}

-- all that a unit can change: the fifo, the registers and open draw, and of the lent memory the XF words and the vertex buffer. The ring is
-- lent too; a unit leaves it.
pub record State : Type 0 where
  pub fifo : Fifo
  pub cp : List ℕ
  pub bp : List ℕ
  pub draw : Draw
  pub xf : List ℕ
  pub buffer : List ℕ

-- the state of these parts
abbrev pub state_of : Fifo → List ℕ → List ℕ → Draw → List ℕ → List ℕ → State
state_of f cp bp draw xf buffer = record { fifo = f; cp = cp; bp = bp; draw = draw; xf = xf; buffer = buffer }

-- whether a draw is open
abbrev pub drawing_of : Draw → Bool
drawing_of Closed = false
drawing_of (Open primitive format left) = true

-- "Fresh state: control 0010 (hex), BP register FE holding FFFFFF, every other register zero, no draw open."
unfoldable pub fresh_machine : Machine
fresh_machine =
    record {
      fifo = fresh_fifo;
      registers = record { cp = replicate 60 0; bp = set (replicate 256 0) mask_place 0xFFFFFF; draw = Closed };
    }
