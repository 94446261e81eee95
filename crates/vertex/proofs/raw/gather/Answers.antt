-- After i turns the array holds the words below i.
use mathlib.Core.Path.{refl}
use Prim.Native.Nat.{◌<◌}
use native.Mathlib.Omega.{arith}
use lib.ListN.{length, replicate, length-set}
use Rattle.laws.proofs.Filled.{fill_none, fill_next, fill_all}
use Rattle.vertex.specs.Attributes.{word_at, words_of}
use Rattle.vertex.proofs.raw.gather.Goals as goal

pub loop-i-init : goal.loop-i-init
loop-i-init c =
    let a = c.args in
    (refl, fill_none (word_at a.vertex.now a.at a.n) (replicate 9 0))

pub loop-i-preserved : goal.loop-i-preserved
loop-i-preserved c =
    let lp = c.loop-i in
    let a = c.args in
    let inside : lp.i < length lp.words = omega (arith, lp.invariant.0) in (
      simp length-set lp.invariant.0,
      fill_next (word_at a.vertex.now a.at a.n) lp.words lp.i c.word_at.result inside lp.invariant.1 c.word_at.ensures,
    )

pub returns : goal.returns
unfolding words_of
returns c =
    let lp = c.loop-i in
    let a = c.args in
    fill_all (word_at a.vertex.now a.at a.n) lp.words 9 lp.i lp.invariant.0 (omega arith) lp.invariant.1
