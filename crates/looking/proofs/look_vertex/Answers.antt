-- `looking::look_vertex` meets its contract: the layout's answer is the definition's refusal, and its length the vertex's.
use mathlib.Core.Path.{◌∙◌}
use Rattle.command.proofs.Refusals.{unless_refused_lem, unless_accepted}
use Rattle.command.specs.Look.{look_vertex}
use Rattle.looking.proofs.look_vertex.Goals as goal

pub returns-in-Err : goal.returns-in-Err
unfolding look_vertex
returns-in-Err c = rw (← c.descriptor.ensures) (unless_refused_lem c.in-Err.reason _ _ c.in-Err.ensures.answer_is)

pub returns-in-Ok : goal.returns-in-Ok
unfolding look_vertex
returns-in-Ok c =
    rw (← c.descriptor.ensures, ← c.in-Ok.ensures.length_is) (c.unit.ensures ∙ unless_accepted _ _ c.in-Ok.ensures.answer_is)
