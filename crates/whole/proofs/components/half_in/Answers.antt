-- Two bytes, the highest first.
use mathlib.Core.Path.{sym, ◌∙◌}
use Rattle.octets.proofs.Number.{two_bytes}
use Rattle.whole.proofs.components.half_in.Goals as goal

pub returns : goal.returns
returns c = c.from.ensures ∙ c.half.ensures ∙ sym (two_bytes _ _)
