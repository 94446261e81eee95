-- `running::run` meets its contract: past the gate it is the takings, and the limit is cut to the most.
use Rattle.running.proofs.Runs.{run_refused, run_taken}
use Rattle.machine.proofs.Passing.{passed}
use Rattle.running.specs.Run.{run_limit}
use Rattle.running.proofs.run.Goals as goal

pub take_units-requires : goal.take_units-requires
take_units-requires c = passed _ c.in-Ok.ensures

pub returns-in-Err : goal.returns-in-Err
returns-in-Err c = run_refused _ _ _ _ _ _ _ _ c.in-Err.reason c.in-Err.ensures

pub returns-in-Ok : goal.returns-in-Ok
unfolding run_limit
returns-in-Ok c = run_taken _ _ _ _ _ _ _ _ (passed _ c.in-Ok.ensures) c.min-most.ensures c.take_units.ensures
