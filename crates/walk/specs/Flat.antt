-- "a stream as one slice, with no ring, no pointers and no feeding" (document 02, L5, which lands later): what it goes on with, and what a
-- unit leaves. Refusals 1 to 3 are not tested here: they come before the first unit.
use Rattle.std.specs.Prelude.{List, ℕ, length}
use Rattle.command.specs.declared.Draw.{Draw}
use Rattle.command.specs.Command.{Found}
use Rattle.command.specs.Look.{look_of}
use Rattle.effect.specs.Effect.{cp_after, bp_after, xf_after, vertex_after, draw_after}

-- what a unit can change, but for the fifo: the registers, the open draw and the lent memory
pub record Core : Type 0 where
  pub cp : List ℕ
  pub bp : List ℕ
  pub draw : Draw
  pub xf : List ℕ
  pub buffer : List ℕ

-- the five as one
abbrev pub core_of : List ℕ → List ℕ → Draw → List ℕ → List ℕ → Core
core_of cp bp draw xf buffer = record { cp = cp; bp = bp; draw = draw; xf = xf; buffer = buffer }

-- what the stream goes on with
abbrev pub flat_found : List ℕ → Core → Found
flat_found bytes s = look_of bytes (length bytes) s.cp s.draw

-- what the command c of the unit u leaves
abbrev pub core_after : List ℕ → List ℕ → Core → Core
core_after c u s =
    core_of (cp_after c s.cp) (bp_after c s.bp) (draw_after c s.draw) (xf_after c u s.xf) (vertex_after c u s.buffer)

-- a unit that was taken: its command, the reported memory address, and how many bytes it has
pub record Taken : Type 0 where
  pub command : List ℕ
  pub memory : ℕ
  pub length : ℕ
