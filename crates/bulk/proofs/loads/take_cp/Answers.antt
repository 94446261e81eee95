-- `bulk::take_cp` meets its contract: after so many turns that many loads led from the first place to this one.
use mathlib.Core.Path.{sym, ◌∙◌}
use native.Mathlib.Omega.{arith}
use Rattle.walk.proofs.Walks.{moves_none, moves_next}
use Rattle.bulk.proofs.Executed.{one_cp}
use Rattle.bulk.proofs.loads.take_cp.Goals as goal

pub loop-units-init : goal.loop-units-init
loop-units-init c = (c.requires.0, record { any = λ _ _ _. moves_none; known = c.requires.1 })

pub loop-units-preserved : goal.loop-units-preserved
loop-units-preserved c =
    let l = c.loop-units in
    let w = c.word-number in
    let t = c.if-not-execute_cp.false in
    let e = c.execute_cp.ensures in (
      omega arith,
      record {
        any = λ bp xf buffer.
            moves_next (l.invariant.1.any bp xf buffer) c.loop-units-test.true (omega arith)
            (one_cp _ l.at c.if-bytes-at-lt6.false c.if-bytes-at-ne-CP.false (sym e.accepted_is ∙ t) w.result w.ensures
            (e.loaded t).0 bp xf buffer);
        known = (e.loaded t).1;
      },
    )
