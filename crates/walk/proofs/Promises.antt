-- Walks and readings keep their promises.
use Rattle.walk.specs.Promises.{WalkPromises}
use Rattle.walk.proofs.Walks.{walk_one}
use Rattle.walk.proofs.Reading.{opens, stops, walk_reads}

pub walk_promises : WalkPromises
walk_promises = record { opens = opens; stops = stops; reads = walk_reads; one = walk_one }
