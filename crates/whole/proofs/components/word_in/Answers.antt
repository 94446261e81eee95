-- Four bytes, the highest first.
use mathlib.Core.Path.{sym, ◌∙◌}
use Rattle.octets.proofs.Number.{four_bytes}
use Rattle.whole.proofs.components.word_in.Goals as goal

pub returns : goal.returns
returns c = c.word.ensures ∙ sym (four_bytes _ _)
