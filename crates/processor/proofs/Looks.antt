-- A look and then a taking answer the same, and the taking leaves what the look told.
use mathlib.Core.Path.{sym, ap, ◌∙◌}
use Rattle.processor.specs.Step.{after, step_of}
use Rattle.processor.specs.Promises.{LookThenTake}
use Rattle.command.proofs.Meanings.{meaning_injective}

pub look_then_take : LookThenTake
unfolding step_of
look_then_take =
    record {
      same_answer = λ ring s looked r cp bp xf buffer e t. meaning_injective r.answer looked (t.answer_is ∙ sym e);
      takes_it = λ ring s looked r cp bp xf buffer e t. t.state_is ∙ ap (after ring s) (sym e);
    }
