-- The numbers of a writer's answer determine it.
use Rattle.std.specs.Prelude.{◌≡◌, ℕ, Result, get_or, List, [], ◌∷◌}
use Rattle.std.proofs.Common.{ap}
use Rattle.refusal.specs.declared.Reason.{Reason}
use Rattle.refusal.proofs.Outcome.{answer_injective}
use Rattle.writer.specs.Write.{meaning}

pub meaning_injective : (a b : Result ℕ Reason) → meaning a ≡ meaning b → a ≡ b
meaning_injective = answer_injective (λ n. n ∷ []) (λ n m e. ap (λ (l : List ℕ). get_or l 0 0) e)
