-- The numbers of an answer determine it, so that the promises do.
use mathlib.Core.Path.{◌≡◌, ap}
use mathlib.Core.List.{List, [], ◌∷◌}
use Prim.Native.Nat.{ℕ}
use lib.ListN.{get_or}
use Rattle.std.specs.Prelude.{Result}
use Rattle.refusal.specs.declared.Reason.{Reason}
use Rattle.refusal.proofs.Outcome.{answer_injective}
use Rattle.recordreader.specs.Reading.{meaning_of_head, meaning_of_read}

-- number k of an answer
abbrev nth : ℕ → List ℕ → ℕ
nth k l = get_or l k 0

pub head_injective : (a b : Result ℕ Reason) → meaning_of_head a ≡ meaning_of_head b → a ≡ b
head_injective = answer_injective (λ n. n ∷ []) (λ n m e. ap (nth 0) e)

pub read_injective : (a b : Result (ℕ × ℕ) Reason) → meaning_of_read a ≡ meaning_of_read b → a ≡ b
read_injective =
    answer_injective (λ stream. stream.0 ∷ stream.1 ∷ [])
    (λ s t e. let places = ap (nth 0) e in let lengths = ap (nth 1) e in λ i. (places i, lengths i))
