-- `recordwriter::Head::put` meets its contract: the three sections and the count stand one after the other.
use Rattle.std.proofs.Common.{rules}
use Rattle.recordwriter.proofs.Putting.{head_put}
use Rattle.recordwriter.proofs.Head.put.Goals as goal

pub returns : goal.returns
returns c =
    head_put _ _ _ _ (search rules) (search rules) c.requires.1.0 _ _ _ _ _ c.requires.0 c.put_section.ensures
    c.put_section-2.ensures c.put_section-3.ensures c.put_number.ensures
