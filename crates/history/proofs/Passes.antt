-- A state that passes 1 to 5 passes them after a run.
use Rattle.processor.specs.Step.{Runnable}
use Rattle.processor.proofs.Valid.{runs_on}
use Rattle.running.proofs.Invariant.{run_keeps}
use Rattle.history.specs.Promises.{RunPasses}

pub run_passes : RunPasses
run_passes ring o limit s h = run_keeps ring (Runnable ring) (runs_on ring o) limit s h
