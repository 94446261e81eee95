-- `show::input::Input::begin`: there are never more bytes than the buffer holds.
use Rattle.std.proofs.Common.{◌≤◌, length}
use Rattle.show.proofs.input.Input.begin.Given as goal

abbrev pub invariant-loop : goal.invariant-loop
invariant-loop g l = l.count ≤ length l.head
