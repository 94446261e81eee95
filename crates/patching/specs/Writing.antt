-- What the calls on a command to write and on patches answer and leave. Where they are refused, what was lent is what it was.
use Rattle.std.specs.Prelude.{◌≡◌, cond, List, ℕ, eqb, length}
use Rattle.writer.specs.Write as writer
use Rattle.answers.specs.Counting.{PutsBytes}
use Rattle.patch.specs.Patch.{Patch, merged_of}
use Rattle.patchwriter.specs.Commands.{patch_bytes}
use Rattle.patchwriter.specs.Answers.{write_refusal}
use Rattle.merging.specs.Merging.{merge_refusal}

-- one command with its lent words, written
abbrev pub PutsCommand : List ℕ → List ℕ → List ℕ → ℕ → ℕ → List ℕ → ℕ → Type 0
PutsCommand c words out count r out' count' =
    PutsBytes (writer.refusal_of c words (length out)) (writer.command_bytes c words) out count r out' count'

-- a patch written
abbrev pub PutsPatch : Patch → List ℕ → ℕ → ℕ → List ℕ → ℕ → Type 0
PutsPatch p out count r out' count' = PutsBytes (write_refusal p (length out)) (patch_bytes p) out count r out' count'

-- two patches merged into a third
pub record MergesInto (a b out : Patch) (r : ℕ) (out' : Patch) : Type 0 where
  pub answer_is : r ≡ merge_refusal a b out
  pub out_is : out' ≡ cond (eqb r 0) (merged_of a b) out
