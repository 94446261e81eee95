-- `processor::look` meets its contract: past the gate it is what the queue begins with.
use Rattle.processor.proofs.Stepping.{found_refused, looks_passed}
use Rattle.machine.proofs.Passing.{passed}
use Rattle.machine.specs.State.{State, state_of}
use Rattle.processor.proofs.viewing.look.Goals as goal

pub returns-in-Err : goal.returns-in-Err
returns-in-Err c = found_refused _ _ _ _ _ _ _ c.in-Err.reason c.in-Err.ensures

pub returns-in-Ok : goal.returns-in-Ok
returns-in-Ok c =
    let a = c.args in
    let s : State = state_of a.fifo a.cp.now a.bp.now a.draw a.xf.now a.buffer.now in
    looks_passed _ s (passed _ c.in-Ok.ensures) c.open.ensures c.look_at.ensures
