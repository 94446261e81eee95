-- `runner::run_words` meets its contract: as of a taking.
use mathlib.Core.List.{List}
use Prim.Native.Nat.{ℕ}
use Rattle.machine.specs.State.{state_of}
use Rattle.running.specs.Run.{run_of, Reports}
use Rattle.stepping.proofs.Placed.{in_place}
use borrow.Author.Rules.{rules}
use Rattle.runner.proofs.run_words.Goals as goal

pub returns : goal.returns
returns c =
    let a = c.args in
    in_place a.state.now _ c.requires (search rules)
    (λ (b b' : List ℕ). Reports
    (run_of a.ring.now a.limit (state_of a.fifo a.cp.now b a.draw a.xf.now a.vertex.now)) c.run.result
    c.run.new.cp b' c.run.new.xf c.run.new.buffer)
    c.run.ensures
