-- `merging::merge_all` meets its contract: the registers before r are merged.
use mathlib.Core.Path.{refl}
use native.Mathlib.Omega.{arith}
use Rattle.merging.proofs.Merges.{merging_none, merging_next, merging_all}
use Rattle.merging.proofs.merge_all.Goals as goal

pub loop-r-init : goal.loop-r-init
loop-r-init c = merging_none _ _ _ _ c.requires.of_out

pub loop-r-preserved : goal.loop-r-preserved
loop-r-preserved c = merging_next _ _ _ _ _ (omega arith) refl c.replace_bits.ensures c.loop-r.invariant

pub returns : goal.returns
returns c = merging_all _ _ _ _ _ (omega arith) c.loop-r.invariant
