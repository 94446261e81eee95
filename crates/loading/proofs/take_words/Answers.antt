-- `loading::take_words` meets its contract: the part that is lent is the unit, and its words go where the head says.
use Rattle.loading.proofs.Stored.{one_xf}
use Rattle.loading.proofs.take_words.Goals as goal

pub returns : goal.returns
returns c = one_xf _ _ _ _ c.requires c.if-bytes-at.false c.load_xf.ensures
