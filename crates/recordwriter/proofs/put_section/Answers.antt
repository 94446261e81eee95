-- `recordwriter::put_section` meets its contract: the count, and the numbers behind it.
use Rattle.recordwriter.proofs.Putting.{section_put}
use Rattle.recordwriter.proofs.put_section.Goals as goal

pub returns : goal.returns
returns c = section_put _ _ _ _ _ c.requires.0 c.put_number.ensures c.write_words.ensures
