-- `show::bench::Bench::fresh`: it is made of what the fresh machine ensures.
use Rattle.std.proofs.Common.{replicate, ap}
use Rattle.fifo.specs.Window.{fresh_fifo}
use Rattle.machine.specs.State.{fresh_machine}
use Rattle.machine.specs.declared.Machine.{Machine}
use Rattle.show.specs.declared.bench.Bench.{Bench}
use Rattle.show.specs.Bench.{fresh_bench}
use Rattle.show.proofs.bench.Bench.fresh.Goals as goal

-- the bench that a machine's fifo and registers go to
abbrev made : Machine → Bench
made m =
    record {
      fifo =
          record {
            window =
                record {
                  start = m.fifo.window.start;
                  end = 65536;
                  high = m.fifo.window.high;
                  low = m.fifo.window.low;
                  write = m.fifo.window.write;
                  read = m.fifo.window.read;
                };
            control = 1;
          };
      registers = m.registers;
      ring = replicate 65536 0;
      xf = replicate 4184 0;
      vertex = replicate 129 0;
    }

pub returns : goal.returns
unfolding fresh_bench fresh_machine fresh_fifo
returns c = ap made c.fresh-fresh.ensures
