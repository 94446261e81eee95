-- What a call that writes answers and leaves, as numbers.
use Rattle.std.specs.Prelude.{◌≡◌, cond, List, ℕ, eqb, length, Result}
use Rattle.refusal.specs.declared.Reason.{Reason}
use Rattle.writer.specs.Write as writer
use Rattle.encoding.specs.Told.{first_of, second_of}

-- bytes written to the front of an output, and how many, unless this refuses it: then what was lent is what it was
pub record PutsBytes (refusal : ℕ) (bytes out : List ℕ) (count r : ℕ) (out' : List ℕ) (count' : ℕ) : Type 0 where
  pub answer_is : r ≡ refusal
  pub out_is : out' ≡ cond (eqb r 0) (writer.placed bytes out) out
  pub count_is : count' ≡ cond (eqb r 0) (length bytes) count

-- a writer's answer: the number told, and the count of bytes changed where the number is 0
pub record CountsBytes (answer : Result ℕ Reason) (count r count' : ℕ) : Type 0 where
  pub answer_is : r ≡ first_of (writer.meaning answer)
  pub count_is : count' ≡ cond (eqb r 0) (second_of (writer.meaning answer)) count
