-- It is the layout of the format that the words say.
use mathlib.Core.Path.{sym}
use Rattle.formats.proofs.Lending.{layout_refused, layout_done}
use Rattle.formats.proofs.lay_out.Goals as goal

pub returns-in-Err : goal.returns-in-Err
returns-in-Err c = rw (sym c.descriptor.ensures) (layout_refused _ _ _ c.in-Err.reason c.in-Err.ensures c.from.ensures)

pub returns : goal.returns
returns c = rw (sym c.descriptor.ensures) (layout_done _ _ _ c.in-Ok.laid c.in-Ok.ensures)
