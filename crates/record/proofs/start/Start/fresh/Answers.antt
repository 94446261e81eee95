-- `record::start::Start::fresh` meets its contract: the registers are those of the fresh machine.
use mathlib.Core.Path.{refl}
use Rattle.record.proofs.start.Start.fresh.Goals as goal

pub returns : goal.returns
returns c = rw c.fresh.ensures refl
