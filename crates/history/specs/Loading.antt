-- Lists of calls by a loader that feeds only where the next unit is not all there, and then just the bytes that are lacking
-- (document 02, L4: "Our loader polls a byte at a time").
use Rattle.std.specs.Prelude.{◌≡◌, List, [], ◌∷◌, ℕ, ◌+◌, length}
use Rattle.command.specs.Command.{waiting}
use Rattle.command.specs.Prefix.{stage_of}
use Rattle.processor.specs.Step.{step_found}
use Rattle.history.specs.Calls.{World, Call, feed, take, look, run, write, read, queue, after}

-- what a world waits for, where its next unit is not all there: 1 the opcode, 2 the rest of an XF load's head, 3 the rest of the unit
abbrev pub stage_at : World → ℕ
stage_at w = stage_of w.state.draw (queue w)

-- how many of the calls are feeds
abbrev pub feeds_of : Call → ℕ
feeds_of (feed bytes) = 1
feeds_of take = 0
feeds_of look = 0
feeds_of (run limit) = 0
feeds_of (write offset value) = 0
feeds_of (read offset) = 0

unfoldable pub feeds_in : List Call → ℕ
feeds_in [] = 0
feeds_in (c ∷ cs) = feeds_of c + feeds_in cs

-- a feed is of as many bytes as a taking, or a look, says are lacking there (a run that waits says the same: running/Promises `RunWaits`)
abbrev pub FeedLacks : World → Call → Type 0
FeedLacks w (feed bytes) = step_found w.ring w.state ≡ waiting (length bytes)
FeedLacks w take = Unit {0}
FeedLacks w look = Unit {0}
FeedLacks w (run limit) = Unit {0}
FeedLacks w (write offset value) = Unit {0}
FeedLacks w (read offset) = Unit {0}

-- every feed of a list is of so many
abbrev pub FeedsLacking : World → List Call → Type 0
FeedsLacking w [] = Unit {0}
FeedsLacking w (c ∷ cs) = FeedLacks w c × FeedsLacking (after w c) cs
