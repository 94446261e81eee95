-- `recordwriter::Head::write` meets its contract: nothing is written before all tests are passed.
use mathlib.Core.Path.{sym}
use native.Mathlib.Omega.{arith}
use Rattle.recording.proofs.Content.{passes}
use Rattle.recordwriter.proofs.Head.write.Goals as goal

pub put-requires : goal.put-requires
put-requires c =
    let p = passes _ _ _ _ _ (sym c.in_ok-test.ensures) in
    (omega (arith, c.requires, c.if-out-size.false), (p.words, p.short))
