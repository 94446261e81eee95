-- What the writer and the reader promise together.
use Rattle.writer.specs.Promises.{WriterPromises}
use Rattle.writer.proofs.Back.{looks_back}
use Rattle.writer.proofs.Loads.{loads_back}
use Rattle.writer.proofs.Accepts.{rewrites}

pub writer_promises : WriterPromises
writer_promises =
    record {
      looks_back =
          λ command words rest cp typed t d.
          looks_back words rest cp command typed t.writable t.addressed t.within d;
      loads_back = loads_back;
      rewrites = rewrites;
    }
