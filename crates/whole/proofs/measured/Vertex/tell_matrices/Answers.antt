-- After k turns the first k matrices are told.
use mathlib.Core.Path.{refl, sym}
use native.Mathlib.Omega.{arith}
use Rattle.fields.proofs.Modes.{matrix_mode}
use Rattle.whole.proofs.Tens.{moves_none, moves_then}
use Rattle.whole.proofs.Untold.{matrix_told}
use Rattle.whole.proofs.measured.Vertex.tell_matrices.Goals as goal

pub loop-k-init : goal.loop-k-init
loop-k-init c =
    let s = c.args.self.now in
    record {
      vcd_is = refl;
      least = omega arith;
      moved = moves_none s.descriptor s.vertex.now c.args.values.now;
    }

pub loop-k-preserved : goal.loop-k-preserved
loop-k-preserved c =
    let lp = c.loop-k in
    let s = c.args.self.now in
    let d = s.descriptor in
    let h = c.loop-k-test.true in
    let one =
    matrix_told d s.vertex.now lp.k lp.values c.matrix_words.result lp.at _ h lp.invariant.moved.at_is
    (sym (matrix_mode d lp.k h)) c.matrix_words.ensures c.put.ensures in
    record {
      vcd_is = refl;
      least = omega (arith, lp.invariant.least);
      moved = moves_then d s.vertex.now lp.invariant.moved one;
    }
