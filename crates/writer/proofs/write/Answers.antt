-- `writer::write` meets its contract: the tests are the definition's in its order, and the head and the words stand one after the other.
use mathlib.Core.Path.{sym}
use native.Mathlib.Omega.{arith}
use lib.Seq.{length-take-le}
use Rattle.writer.proofs.Outcomes.{by_room, by_writing, words_lent}
use Rattle.writer.proofs.write.Goals as goal

pub returns-then-out-size : goal.returns-then-out-size
returns-then-out-size c =
    by_room _ _ _ (sym c.if-unwritable.ensures) (sym c.if-unaddressed.ensures) (sym c.if-past_end.ensures)
    (omega (arith, c.head-length.ensures.length_is, c.words_named-n.ensures.0))

pub slice_bounds-put-end-2 : goal.slice_bounds-put-end-2
slice_bounds-put-end-2 c =
    sym (length-take-le _ _ (omega (arith, c.words_named-n.ensures.0, words_lent _ _ (sym c.if-unwritable.ensures))))

pub returns : goal.returns
returns c =
    by_writing _ _ _ (sym c.if-unwritable.ensures) (sym c.if-unaddressed.ensures) (sym c.if-past_end.ensures) _ _ _ _
    c.head-length.ensures.length_is c.head-length.ensures.bytes_are c.words_named-n.ensures.0 c.if-out-size.false c.put.ensures
