-- `looking::look_head` meets its contract:
-- the measure's answer is the definition's refusal, and the count stands big-endian after the opcode.
use mathlib.Core.Path.{◌∙◌}
use Rattle.command.proofs.Refusals.{unless_accepted}
use Rattle.command.specs.Look.{look_head}
use Rattle.octets.proofs.Number.{two_bytes}
use Rattle.looking.proofs.look_head.Goals as goal

pub returns : goal.returns
unfolding look_head
returns c =
    rw (← c.descriptor.ensures, two_bytes _ 1, ← c.half.ensures)
    (c.unit.ensures ∙ unless_accepted _ _ c.in_default.ensures.answer_is)
