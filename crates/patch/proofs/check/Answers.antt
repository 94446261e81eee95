-- `patch::check` meets its contract: the search from a register on is the whole search as long as nothing was found.
use mathlib.Core.Path.{sym, ap, ◌∙◌}
use Prim.Native.Nat.{◌<◌}
use native.Mathlib.Omega.{arith}
use Rattle.patch.specs.Answers.{meaning}
use Rattle.patch.specs.Patch.{bp_count}
use Rattle.patch.proofs.Faults.{fault_next, fault_here, fault_end}
use Rattle.patch.proofs.check.Goals as goal

pub loop-r-preserved : goal.loop-r-preserved
loop-r-preserved c =
    let h : c.loop-r.r < bp_count = omega arith in
    (omega arith, c.loop-r.invariant.1 ∙ fault_next _ _ h (sym c.test.ensures ∙ ap meaning c.in_default.is))

pub returns-then-r-eq256 : goal.returns-then-r-eq256
returns-then-r-eq256 c = sym (c.loop-r.invariant.1 ∙ fault_end _ _ c.if-r-eq256.true)

pub returns-in-Err : goal.returns-in-Err
returns-in-Err c =
    let h : c.loop-r.r < bp_count = omega arith in
    sym (c.loop-r.invariant.1 ∙ fault_here _ _ h c.in-Err.reason (ap meaning (sym c.in-Err.is) ∙ c.test.ensures))
