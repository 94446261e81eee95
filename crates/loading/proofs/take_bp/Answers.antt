-- `loading::take_bp` meets its contract: after so many turns that many loads led from the first place to this one.
use native.Mathlib.Omega.{arith}
use Rattle.walk.proofs.Walks.{moves_next}
use Rattle.loading.proofs.Stored.{one_bp}
use Rattle.loading.proofs.take_bp.Goals as goal

pub loop-units-preserved : goal.loop-units-preserved
loop-units-preserved c =
    let w = c.word-word in
    let l = c.loop-units in (
      (omega arith, omega arith),
      record {
        any = λ cp xf buffer.
            moves_next (l.invariant.1.any cp xf buffer) c.loop-units-test.true (omega arith)
            (one_bp _ (λ k. (c.type_inv.bytes k).fits)
            l.at c.if-bytes-at-lt5.false (omega arith)
            w.result w.ensures c.load_bp.ensures cp xf buffer);
      },
    )
