-- `plain::take_zeros` meets its contract: three times past zeros is past zeros, and each of them is a unit.
use Rattle.walk.proofs.Walks.{moves_none}
use Rattle.plain.proofs.Idle.{zeros_then, zeros_on}
use Rattle.plain.proofs.zeros.take_zeros.Goals as goal

pub returns-then-bytes-from : goal.returns-then-bytes-from
returns-then-bytes-from c = record { any = λ _ _ _ _. moves_none }

pub returns : goal.returns
returns c =
    let e = c.end_of-end.ensures in
    zeros_on (zeros_then c.skim-far.ensures (zeros_then c.skim-near.ensures c.skim-at.ensures)) e.1.0
    e.1.1
