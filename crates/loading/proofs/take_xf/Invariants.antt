-- `loading::take_xf` meets its contract: each turn's load goes on where the last one ended.
use Rattle.walk.specs.Moves.{MovesXf}
use Rattle.loading.proofs.take_xf.Given as goal

abbrev pub invariant-loop-units : goal.invariant-loop-units
invariant-loop-units l = MovesXf l.bytes l.from l.initial.xf l.most l.units l.at l.xf
