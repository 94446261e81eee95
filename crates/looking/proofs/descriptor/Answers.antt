-- `looking::descriptor` meets its contract: each word is read at the definition's place.
use Rattle.command.specs.Look.{descriptor_of}
use Rattle.looking.proofs.descriptor.Goals as goal

pub returns : goal.returns
unfolding descriptor_of
returns c = cc
