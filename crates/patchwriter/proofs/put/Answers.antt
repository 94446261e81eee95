-- `patchwriter::put` meets its contract: the load has room and 24 bits, so it is written over the front of what is lent.
use Rattle.patchwriter.proofs.Writing.{put_answered, put_done}
use Rattle.patchwriter.proofs.put.Goals as goal

pub unwrap-written-requires : goal.unwrap-written-requires
unwrap-written-requires c = put_answered _ _ _ _ _ c.requires.0 c.requires.1 c.write.ensures

pub returns : goal.returns
returns c = put_done _ _ _ _ _ c.requires.0 c.requires.1 c.write.ensures _ c.unwrap-written.ensures
