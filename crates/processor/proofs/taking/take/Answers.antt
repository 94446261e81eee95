-- `processor::take` meets its contract: past the gate it is one unit of the queue, and the cursor closed is the fifo after it.
use Rattle.processor.proofs.Stepping.{steps_refused, steps_taken}
use Rattle.processor.proofs.Bridge.{takes_opened}
use Rattle.machine.proofs.Passing.{gate_passes, passed}
use Rattle.machine.specs.State.{State, state_of}
use Rattle.processor.proofs.taking.take.Goals as goal

pub returns-in-Err : goal.returns-in-Err
returns-in-Err c = steps_refused _ _ _ _ _ _ _ c.in-Err.reason c.in-Err.ensures

pub returns-in-Ok : goal.returns-in-Ok
returns-in-Ok c =
    let a = c.args in
    let s : State = state_of a.fifo a.cp.now a.bp.now a.draw a.xf.now a.buffer.now in
    let g = passed _ c.in-Ok.ensures in
    let k = gate_passes s _ g in
    steps_taken _ s g (takes_opened _ s k.ready c.open.ensures c.take_at-moved.ensures) c.close.ensures
