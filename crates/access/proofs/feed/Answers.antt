-- `access::feed` meets its contract: the write pointer is stored, where the bytes are fed.
use Rattle.access.proofs.Windows.{feeds_refused, feeds_done}
use Rattle.access.proofs.feed.Goals as goal

pub returns-in-Err : goal.returns-in-Err
returns-in-Err c = feeds_refused _ c.bare-fifo.ensures c.feed.ensures _ c.in-Err.is c.from.ensures

pub returns : goal.returns
returns c = feeds_done _ c.bare-fifo.ensures c.feed.ensures c.save_write.ensures c.in_default.is
