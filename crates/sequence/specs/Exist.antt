-- A list of calls that delivers commands: each is fed and taken.
use Rattle.std.specs.Prelude.{List, [], ◌∷◌, ℕ}
use Rattle.writer.specs.Write.{command_bytes}
use Rattle.history.specs.Calls.{Call, feed, take}

unfoldable pub calls_of : List (List ℕ) → List Call
calls_of [] = []
calls_of (c ∷ cs) = feed (command_bytes c []) ∷ take ∷ calls_of cs
