-- `stepping::take_words` meets its contract: the part that is lent is the BP registers, and they come back in their place.
use mathlib.Core.List.{List}
use Prim.Native.Nat.{ℕ}
use Rattle.machine.specs.State.{state_of}
use Rattle.processor.specs.Step.{Steps}
use Rattle.stepping.proofs.Placed.{in_place}
use borrow.Author.Rules.{rules}
use Rattle.stepping.proofs.take_words.Goals as goal

pub returns : goal.returns
returns c =
    let a = c.args in
    in_place a.state.now _ c.requires (search rules)
    (λ (b b' : List ℕ). Steps a.ring.now (state_of a.fifo a.cp.now b a.draw a.xf.now a.vertex.now) c.take.result
    c.take.new.cp b' c.take.new.xf c.take.new.buffer)
    c.take.ensures
