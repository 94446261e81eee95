-- What a look and a taking answer: what the stream goes on with.
pub use Rattle.command.specs.Command.{meaning}
