-- The byte as it stands.
use mathlib.Core.Path.{sym, ◌∙◌}
use Rattle.octets.proofs.Number.{one_byte}
use Rattle.whole.proofs.components.byte_in.Goals as goal

pub returns : goal.returns
returns c = c.from.ensures ∙ sym (one_byte _ _)
