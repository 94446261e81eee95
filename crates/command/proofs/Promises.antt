-- What looks at the same stream promise together.
use Rattle.command.specs.Promises.{LookPromises}
use Rattle.command.proofs.Bounds.{progress}
use Rattle.command.proofs.Prefix.{look_prefix, look_alone}

pub look_promises : LookPromises
look_promises = record { prefix = look_prefix; alone = look_alone; progress = progress }
