-- It decodes by the format that the words say.
use mathlib.Core.Path.{sym}
use Rattle.formats.proofs.Lending.{one_told}
use Rattle.formats.proofs.decode.Goals as goal

pub returns : goal.returns
returns c = rw (sym c.descriptor.ensures) (one_told c.decode_one.ensures c.answer_number.ensures)
