-- `unit::take_at` meets its contract: what the look finds decides; a unit is executed and skipped, and else nothing changes.
use mathlib.Core.Path.{sym, ap, ◌∙◌}
use Rattle.unit.proofs.Found.{seen_by, seen_most, takes_unit, takes_none}
use Rattle.command.specs.Command.{meaning}
use Rattle.unit.proofs.take_at.Goals as goal

pub returns-in_default : goal.returns-in_default
returns-in_default c =
    takes_none (seen_by _ _ _ _ c.peek-bytes.ensures c.look-answer.ensures) c.in_default.not-Done

pub execute-requires : goal.execute-requires
execute-requires c =
    seen_most _ _ _ _ _ _ _ (sym (ap meaning c.in-Done.is) ∙ seen_by _ _ _ _ c.peek-bytes.ensures c.look-answer.ensures)

pub returns : goal.returns
returns c =
    takes_unit (sym (ap meaning c.in-Done.is) ∙ seen_by _ _ _ _ c.peek-bytes.ensures c.look-answer.ensures)
    c.execute.ensures c.skip.ensures c.next_draw.ensures
