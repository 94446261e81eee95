-- It decodes by the format that the words say.
use mathlib.Core.Path.{sym}
use native.Mathlib.Omega.{arith}
use Rattle.formats.proofs.Lending.{all_told}
use Rattle.formats.proofs.decode_all.Goals as goal

pub returns : goal.returns
returns c = rw (sym c.descriptor.ensures) (all_told c.decode_all.ensures (omega arith))
