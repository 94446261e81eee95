-- What `write` promises.
use Rattle.std.specs.Prelude.{◌≡◌, cond, List, [], ◌∷◌, ℕ, eqb, ltb, length, Result}
use Rattle.refusal.specs.declared.Reason.{Reason}
use Rattle.writer.specs.Write as writer
use Rattle.patch.specs.Patch.{Patch, fault_of, or_else}
use Rattle.patchwriter.specs.Commands.{patch_bytes}

-- "12 to 15", then "16: output shorter than what is written": 0 where a patch is written into an output of so many bytes
unfoldable pub write_refusal : Patch → ℕ → ℕ
write_refusal p room = or_else (fault_of p) (cond (ltb room (length (patch_bytes p))) 16 0)

-- what is written, or a refusal: "A 16 writes nothing; otherwise bytes past what is written stay."
pub record WritesPatch (p : Patch) (out : List ℕ) (r : Result ℕ Reason) (out' : List ℕ) : Type 0 where
  pub answer_is :
      writer.meaning r
      ≡ cond (eqb (write_refusal p (length out)) 0) (0 ∷ length (patch_bytes p) ∷ []) (write_refusal p (length out) ∷ [])
  pub out_is : out' ≡ cond (eqb (write_refusal p (length out)) 0) (writer.placed (patch_bytes p) out) out
