-- `queue::feed` meets its contract: the tests are made in the definition's order, and each outcome is a law of feeding.
use mathlib.Core.Path.{sym, ◌∙◌}
use native.Mathlib.Omega.{arith}
use Rattle.fifo.proofs.WindowLaws.{ready_true, count_below}
use Rattle.queue.proofs.FeedLaws.{feed_unready, feed_long, feed_fits}
use Rattle.queue.proofs.feed.Goals as goal

pub returns-then-not-ready : goal.returns-then-not-ready
returns-then-not-ready c = feed_unready _ _ _ (sym c.ready.ensures ∙ c.if-not-ready.true)

pub room-requires : goal.room-requires
room-requires c = (ready_true _ _ (sym c.ready.ensures ∙ c.if-not-ready.false)).valid

pub returns-then-bytes-room : goal.returns-then-bytes-room
returns-then-bytes-room c =
    feed_long _ _ _ (ready_true _ _ (sym c.ready.ensures ∙ c.if-not-ready.false)) (omega (arith, c.room.ensures))

pub append-requires : goal.append-requires
append-requires c =
    let ok = ready_true _ _ (sym c.ready.ensures ∙ c.if-not-ready.false) in
    record { ready = ok; room = omega (arith, c.room.ensures, count_below _ ok.valid) }

pub returns : goal.returns
returns c =
    let ok = ready_true _ _ (sym c.ready.ensures ∙ c.if-not-ready.false) in
    feed_fits _ _ _ (record { ready = ok; room = omega (arith, c.room.ensures, count_below _ ok.valid) }) _ _
    c.append.ensures.fifo_is c.append.ensures.ring_is
