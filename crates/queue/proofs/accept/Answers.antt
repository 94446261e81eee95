-- `queue::accept` meets its contract: the place after is the pointer plus n, less a turn where it passes the end.
use native.Mathlib.Omega.{arith}
use Rattle.queue.proofs.Moves.{accept_straight, accept_round}
use Rattle.queue.proofs.accept.Goals.{then-n-straight, else-n-straight}
use Rattle.queue.proofs.accept.Goals as goal

pub returns : goal.returns
returns c =
    elim c.if-n-straight.branch [
      | then-n-straight w ↦ rw w.fifo-is (accept_straight c.args.fifo.now c.requires.0 c.args.n (omega arith))
      | else-n-straight w ↦ rw w.fifo-is (accept_round c.args.fifo.now c.requires.0 c.args.n (omega arith) c.requires.1)
    ]
