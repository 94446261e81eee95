-- `bulk::execute_cp` meets its contract: a load of the VCD or a VAT leaves no size known, and every other load leaves them all.
use mathlib.Core.Path.{sym, ◌∙◌}
use mathlib.Core.Logic.{inl, inr}
use native.Mathlib.Omega.{arith}
use Rattle.bulk.proofs.Executed.{known_loaded, load_accepted}
use Rattle.bulk.proofs.loads.execute_cp.Goals as goal

pub returns-then-address-ge-ARRAYS : goal.returns-then-address-ge-ARRAYS
returns-then-address-ge-ARRAYS c =
    let l = c.load_cp.ensures in
    load_accepted (sym c.cp_accepted.ensures ∙ c.if-not-cp_accepted.false) l
    (known_loaded c.args.address c.args.number l (inr (omega arith)) c.requires)

pub returns-then-address-lt-VCD : goal.returns-then-address-lt-VCD
returns-then-address-lt-VCD c =
    let l = c.load_cp.ensures in
    load_accepted (sym c.cp_accepted.ensures ∙ c.if-not-cp_accepted.false) l
    (known_loaded c.args.address c.args.number l (inl (omega arith)) c.requires)
