-- `runner::gate_number` meets its contract: it is the gate of the registers that the words say.
use mathlib.Core.Path.{ap, ◌∙◌}
use mathlib.Core.List.{List}
use Prim.Native.Nat.{ℕ}
use Rattle.words.specs.State.{bp_of}
use Rattle.machine.specs.Gate.{gate_by}
use Rattle.runner.proofs.Numbers.{number_told}
use Rattle.runner.proofs.gate_number.Goals as goal

pub returns : goal.returns
unfolding bp_of
returns c =
    let a = c.args in
    c.answer_number.ensures ∙ number_told _ c.pass.ensures
    ∙ ap (λ (cp : List ℕ). gate_by a.fifo cp (bp_of a.state.now) a.draw a.ring a.xf a.vertex) c.cp-cp.ensures
