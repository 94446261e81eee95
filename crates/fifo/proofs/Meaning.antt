-- An answer is determined by its meaning: two answers with the same list of numbers are the same.
use Prim.Native.Nat.{ℕ}
use mathlib.Core.Path.{◌≡◌, refl, ap, sym}
use mathlib.Core.List.{[], ◌∷◌}
use native.Mathlib.Omega.{arith}
use Rattle.std.specs.Prelude.{Result, Ok, Err}
use Rattle.refusal.specs.Number.{number}
use Rattle.refusal.specs.declared.Reason.{Reason}
use Rattle.refusal.proofs.Injective.{number_injective}
use Rattle.refusal.proofs.Positive.{number_some}
use Rattle.fifo.specs.Answers.{meaning_of_count, meaning_of_reading, meaning_of}

none : (r : Reason) → 0 ∷ [] ≡ number r ∷ [] → ⊥
none r e = let z : 0 ≡ number r = cc in omega (arith, number_some r)

same : (r s : Reason) → number r ∷ [] ≡ number s ∷ [] → r ≡ s
same r s e = number_injective r s (cc)

-- of a number, as a count and a register's value are
number_of : (a b : Result ℕ Reason) → meaning_of_count a ≡ meaning_of_count b → a ≡ b
number_of (Ok m) (Ok n) e = cc
number_of (Ok m) (Err r) e = cc
number_of (Err r) (Ok n) e = cc
number_of (Err r) (Err s) e = ap Err (same r s e)

pub count_injective : (a b : Result ℕ Reason) → meaning_of_count a ≡ meaning_of_count b → a ≡ b
count_injective = number_of

pub reading_injective : (a b : Result ℕ Reason) → meaning_of_reading a ≡ meaning_of_reading b → a ≡ b
reading_injective = number_of

pub answer_injective : (a b : Result (Unit {0}) Reason) → meaning_of a ≡ meaning_of b → a ≡ b
answer_injective (Ok _) (Ok _) e = refl
answer_injective (Ok _) (Err r) e = absurd (none r e)
answer_injective (Err r) (Ok _) e = absurd (none r (sym e))
answer_injective (Err r) (Err s) e = ap Err (same r s e)
