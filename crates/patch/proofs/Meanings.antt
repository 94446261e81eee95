-- The numbers of an answer determine it, so that the promises do.
use Rattle.std.specs.Prelude.{◌≡◌, Result}
use Rattle.refusal.specs.declared.Reason.{Reason}
use Rattle.refusal.proofs.Outcome.{outcome_injective}
use Rattle.patch.specs.Answers.{meaning}

pub meaning_injective : (a b : Result (Unit {0}) Reason) → meaning a ≡ meaning b → a ≡ b
meaning_injective a b e = outcome_injective a b e
