-- It reads by the format that the words say.
use mathlib.Core.Path.{sym}
use Rattle.formats.proofs.Lending.{raw_refused, raw_done}
use Rattle.formats.proofs.raw_words.Goals as goal

pub returns-in-Err : goal.returns-in-Err
returns-in-Err c = rw (sym c.descriptor.ensures) (raw_refused _ _ c.in-Err.ensures c.from.ensures)

pub returns-in-Ok : goal.returns-in-Ok
returns-in-Ok c = rw (sym c.descriptor.ensures) (raw_done _ _ c.in-Ok.ensures c.raw_list.ensures)
