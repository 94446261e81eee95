-- `access::write_register` meets its contract: the control word or the window is stored, where the register is written.
use Rattle.access.proofs.Windows.{writes_control, writes_window}
use Rattle.access.proofs.write_register.Goals as goal

pub returns-then-offset-eq-CONTROL : goal.returns-then-offset-eq-CONTROL
returns-then-offset-eq-CONTROL c =
    writes_control _ _ c.bare-fifo.ensures c.write_register.ensures c.save_control.ensures c.in_default.is
    c.if-offset-eq-CONTROL.true

pub returns : goal.returns
returns c =
    writes_window _ _ c.bare-fifo.ensures c.write_register.ensures c.save_window.ensures c.in_default.is
    c.if-offset-eq-CONTROL.false
