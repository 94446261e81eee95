-- "For any answer that is an enum, a definition gives this paper's number and values for each case":
-- 0 and the values, or the number of the refusal.
use Rattle.std.specs.Prelude.{ℕ, ◌≡◌, cond, List, [], ◌∷◌, Result}
use Rattle.refusal.specs.Outcome.{answer_of}
use Rattle.refusal.specs.declared.Reason.{Reason}
use Rattle.fifo.specs.declared.Fifo.{Fifo}
use Rattle.fifo.specs.Window.{valid_by, count_of}

-- the bytes pending, or why they are not counted
abbrev pub meaning_of_count : Result ℕ Reason → List ℕ
meaning_of_count = answer_of (λ n. n ∷ [])

-- a hardware register's value, or why it is not read
abbrev pub meaning_of_reading : Result ℕ Reason → List ℕ
meaning_of_reading = answer_of (λ v. v ∷ [])

-- whether a call that changes the fifo was accepted
abbrev pub meaning_of : Result (Unit {0}) Reason → List ℕ
meaning_of = answer_of (λ _. [])

-- "Count and status reads test the window numbers": the count, or 1
unfoldable pub count_answer : Fifo → List ℕ
count_answer f = cond (valid_by f.window) (0 ∷ count_of f.window ∷ []) (1 ∷ [])

-- what a call that changes the fifo gives: its answer, and the fifo that it leaves
pub record ChangedBy (r : Result (Unit {0}) Reason) (left : Fifo) (answer : List ℕ) (after : Fifo) : Type 0 where
  pub answer_is : meaning_of r ≡ answer
  pub fifo_is : left ≡ after
