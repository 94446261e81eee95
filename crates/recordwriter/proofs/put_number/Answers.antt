-- `recordwriter::put_number` meets its contract: four bytes go into what is left of the output.
use Rattle.recordwriter.proofs.Putting.{number_put}
use Rattle.recordwriter.proofs.put_number.Goals as goal

pub returns : goal.returns
returns c = number_put _ _ _ _ c.requires c.write_words.ensures
