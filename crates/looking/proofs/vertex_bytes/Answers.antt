-- The measure's length, of the descriptor that the registers give.
use mathlib.Core.Path.{◌≡◌, ap, ◌∙◌}
use Prim.Native.Nat.{ℕ}
use Rattle.std.specs.Prelude.{Result, Ok, Err}
use Rattle.std.specs.Result.{result_unwrap_or}
use Rattle.refusal.specs.Number.{number}
use Rattle.refusal.specs.declared.Reason.{Reason}
use Rattle.refusal.proofs.Positive.{not_zero}
use Rattle.fields.specs.declared.Descriptor.{Descriptor}
use Rattle.layout.specs.Answers.{refusal_of, length_of, Measured}
use Rattle.looking.proofs.vertex_bytes.Goals as goal

-- a refused layout has the length 0
measured : (d : Descriptor) (r : Result ℕ Reason) → Measured d r → result_unwrap_or r 0 ≡ length_of d
unfolding length_of
measured d (Ok n) m = m.length_is
measured d (Err reason) m =
    let e : refusal_of d ≡ number reason = cc (m.answer_is) in
    rw (not_zero reason e)

pub returns : goal.returns
returns c = c.unwrap_or.ensures ∙ measured _ _ c.measure.ensures ∙ ap length_of c.descriptor.ensures
