-- A world that demand 3 may begin with: the fresh registers, a window of 256 bytes, reading allowed, and lent memory of zeros.
use Rattle.std.specs.Prelude.{replicate}
use Rattle.command.specs.Look.{xf_count, largest_vertex}
use Rattle.fifo.specs.declared.Fifo.{Fifo}
use Rattle.machine.specs.State.{state_of, fresh_machine}
use Rattle.history.specs.Calls.{World}

abbrev pub first_fifo : Fifo
first_fifo =
    record {
      window = record { start = 0; end = 256; high = 0; low = 0; write = 0; read = 0 };
      control = 1;
    }

unfoldable pub first_world : World
first_world =
    record {
      state =
          state_of first_fifo fresh_machine.registers.cp fresh_machine.registers.bp fresh_machine.registers.draw
          (replicate xf_count 0) (replicate largest_vertex 0);
      ring = replicate 256 0;
    }
