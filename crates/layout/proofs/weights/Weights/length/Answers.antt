-- Where nothing is refused the length is the sum of all attributes.
use mathlib.Core.Path.{◌≡◌, sym, ◌∙◌}
use Rattle.layout.specs.Answers.{refusal_of}
use Rattle.layout.proofs.Bounds.{length_accepted}
use Rattle.layout.proofs.weights.Weights.length.Goals as goal

pub returns : goal.returns
returns c =
    let e = rw c.in_ok-check.was at c.check.ensures in
    let none : refusal_of c.args.self.now.d ≡ 0 = cc in
    record { answer_is = e; length_is = c.total.ensures ∙ sym (length_accepted c.args.self.now.d none) }
