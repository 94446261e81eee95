-- `writer::heads::head` meets its contract: a command of one byte is that byte, and each other class has its own function.
use mathlib.Core.Path.{refl}
use lib.Dec.{lit≤}
use Rattle.writer.specs.Write.{head_of}
use Rattle.writer.proofs.Beginnings.{begins}
use Rattle.writer.proofs.heads.head.Goals as goal

pub returns-in-NoOperation : goal.returns-in-NoOperation
unfolding head_of
returns-in-NoOperation c = rw c.in-NoOperation.is (begins _ _ _ (lit≤ tt) refl c.head_plain.ensures)

pub returns-in-InvalidateCache : goal.returns-in-InvalidateCache
unfolding head_of
returns-in-InvalidateCache c = rw c.in-InvalidateCache.is (begins _ _ _ (lit≤ tt) refl c.head_plain-in-InvalidateCache.ensures)

pub returns-in-Metrics : goal.returns-in-Metrics
unfolding head_of
returns-in-Metrics c = rw c.in-Metrics.is (begins _ _ _ (lit≤ tt) refl c.head_plain-in-Metrics.ensures)

pub returns-in-Vertex : goal.returns-in-Vertex
unfolding head_of
returns-in-Vertex c = rw c.in-Vertex.is (begins _ _ _ (lit≤ tt) refl (refl, refl))
