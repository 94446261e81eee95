-- A look and then a taking tell the same.
use mathlib.Core.Path.{◌≡◌, refl, sym, ◌∙◌}
use mathlib.Core.List.{List}
use Prim.Native.Nat.{ℕ}
use native.Mathlib.Omega.{arith}
use Rattle.command.specs.Command.{Found, unit, waiting, refused}
use Rattle.machine.specs.State.{State}
use Rattle.processor.specs.Step.{step_found}
use Rattle.running.proofs.Waiting.{step_refuses}
use Rattle.encoding.specs.Told.{Tells}
use Rattle.duckhammock.specs.Promises.{ToldAlike, TellsAlike}

-- what is found decides both: no refusal has the number 0 or 255
alike : (ring : List ℕ) (s : State) (found : Found) → step_found ring s ≡ found
    → {shown : List ℕ} {lacks p : ℕ} {shown' : List ℕ} {lacks' : ℕ} {told : List ℕ} {lacking r : ℕ} {told' : List ℕ} {lacking' : ℕ}
    → Tells found shown lacks p shown' lacks' → Tells found told lacking r told' lacking' → ToldAlike p shown' lacks' r told' lacking'
alike ring s (unit c m n) f a b =
    record {
      number_is = a.answer_is ∙ sym b.answer_is;
      unit_is = λ z. a.unit_is ∙ sym b.unit_is;
      lacking_is = λ z. absurd (omega (arith, a.answer_is, z));
    }
alike ring s (waiting k) f a b =
    record {
      number_is = a.answer_is ∙ sym b.answer_is;
      unit_is = λ z. absurd (omega (arith, a.answer_is, z));
      lacking_is = λ z. a.lacking_is ∙ sym b.lacking_is;
    }
alike ring s (refused r) f a b =
    let q = step_refuses ring s r f in
    record {
      number_is = a.answer_is ∙ sym b.answer_is;
      unit_is = λ z. absurd (omega (arith, q, a.answer_is, z));
      lacking_is = λ z. absurd (omega (arith, q, a.answer_is, z));
    }

pub tells_alike : TellsAlike
tells_alike ring s shown lacks p shown' lacks' lent told lacking r lent' told' lacking' a b =
    alike ring s (step_found ring s) refl a b.told
