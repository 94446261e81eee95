-- `recordreader::fill` meets its contract: after i turns the first i numbers stand there.
use mathlib.Core.Path.{refl}
use native.Mathlib.Omega.{arith}
use lib.ListN.{length-set}
use Rattle.laws.proofs.Filled.{fill_none, fill_next}
use Rattle.recordreader.proofs.fill.Invariants.{word}
use Rattle.recordreader.proofs.fill.Goals as goal

pub loop-i-init : goal.loop-i-init
loop-i-init c = (refl, fill_none (word c.args.file.now c.args.at) c.args.out.now)

pub loop-i-preserved : goal.loop-i-preserved
loop-i-preserved c =
    let l = c.loop-i in
    let a = c.args in
    let next = fill_next (word a.file.now a.at) l.out l.i c.word_at.result (omega arith) l.invariant.1 c.word_at.ensures in
    (simp length-set l.invariant.0, next)
