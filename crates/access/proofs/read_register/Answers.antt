-- `access::read_register` meets its contract: the control register is its word, and every other is read of the window.
use Rattle.access.proofs.Windows.{reads_control, reads_refused, reads_done}
use Rattle.access.proofs.read_register.Goals as goal

pub returns-then-offset-eq-CONTROL : goal.returns-then-offset-eq-CONTROL
returns-then-offset-eq-CONTROL c = reads_control _ _ c.if-offset-eq-CONTROL.true

pub returns-in-Err : goal.returns-in-Err
returns-in-Err c =
    reads_refused _ _ _ c.if-offset-eq-CONTROL.false c.bare.ensures c.read_register.ensures _ c.in-Err.is c.from.ensures

pub returns-in-Ok : goal.returns-in-Ok
returns-in-Ok c =
    rw c.from-in-Ok.ensures
    (reads_done _ _ _ c.if-offset-eq-CONTROL.false c.bare.ensures c.read_register.ensures _ c.in-Ok.is)
