-- What several calls promise together: each type here is the statement of the theorem that has its name in `proofs/`.
use Rattle.std.specs.Prelude.{◌≡◌, true, List, ◌∷◌, ◌++◌, map, ℕ, ◌+◌, ◌-◌, ◌*◌, ◌<◌, ◌≤◌, length, take, drop}
use Rattle.octets.specs.BigEndian.{Octets, WordsFit}
use Rattle.layout.specs.Answers.{refusal_of}
use Rattle.command.specs.declared.Command.{Command}
use Rattle.command.specs.declared.Command.TheVariants.{LoadXf}
use Rattle.command.specs.declared.Draw.TheVariants.{Closed}
use Rattle.command.specs.Command.{unit, waiting, kind_of, field_of, numbers_of}
use Rattle.command.specs.Look.{descriptor_of}
use Rattle.command.specs.Prefix.{Settled}
use Rattle.writer.specs.Write.{words_of, command_bytes}
use Rattle.writer.specs.Write as Write
use Rattle.writer.specs.Widths.{Typed, reported}
use Rattle.writer.specs.Back.{Writable}
use Rattle.writer.specs.Again.{lowered}
use Rattle.fifo.specs.Window.{Ready, size_of}
use Rattle.queue.specs.Feeding.{accepted}
use Rattle.queue.specs.Promises.{joined}
use Rattle.machine.specs.State.{State}
use Rattle.processor.specs.Step.{queue_of, step_found, step_of, Runnable}
use Rattle.running.specs.Run.{run_of}
use Rattle.history.specs.Calls.{World, Call, feed, queue, count_at, after, fed, after_all, fed_all, units_all, consumed_by}
use Rattle.history.specs.Calls.{AllHarmless, AllListed}
use Rattle.history.specs.More.{NotWaiting, SameRun}
use Rattle.history.specs.Loading.{stage_at, feeds_in, FeedsLacking}

-- "Over any feeds and steps with no window register written between, bytes accepted minus bytes consumed by answered units equals the
-- change in count." (proofs/Conserved)
abbrev pub Conserved : Type 0
Conserved =
    (w : World) (cs : List Call) → AllHarmless cs
    → count_at (after_all w cs) + consumed_by (units_all w cs) ≡ count_at w + length (fed_all w cs)

-- the calls of demand 3's list write no window register (proofs/Conserved)
abbrev pub ListedHarmless : Type 0
ListedHarmless = (cs : List Call) → AllListed cs → AllHarmless cs

-- "Answers other than waiting don't change when more bytes are fed": of a look, and of a taking (proofs/Fed, and those below up to
-- `StepWords`)
abbrev pub StepFed : Type 0
StepFed =
    (w : World) (bytes : List ℕ) → Settled (step_found w.ring w.state)
    → step_found (after w (feed bytes)).ring (after w (feed bytes)).state ≡ step_found w.ring w.state

-- a run that ended by its limit or a refusal: the same answer, and the same units
abbrev pub RunFed : Type 0
RunFed =
    (w : World) (bytes : List ℕ) → Octets w.ring → Octets bytes → (limit : ℕ) → NotWaiting (run_of w.ring limit w.state).stop
    → SameRun w.ring (run_of w.ring limit w.state) (after w (feed bytes)).ring
    (run_of (after w (feed bytes)).ring limit (after w (feed bytes)).state) (fed w (feed bytes))

-- "A full ring is never answered with waiting."
abbrev pub FullNeverWaits : Type 0
FullNeverWaits =
    (w : World) → Ready w.state.fifo (length w.ring) → count_at w ≡ size_of w.state.fifo.window - 1
    → (k : ℕ) → step_found w.ring w.state ≡ waiting k → ⊥

-- a command that the writer takes, "alone in a ring that passes 1 to 5 with no draw open"
pub record WrittenAlone (w : World) (command : Command) (words : List ℕ) : Type 0 where
  pub passes : Runnable w.ring w.state
  pub closed : w.state.draw ≡ Closed
  pub typed : Typed command
  pub taken : Writable (numbers_of command) words
  pub alone : queue w ≡ command_bytes (numbers_of command) words

-- "Stepping a written command .. gives it back, for a draw head unless 9 or 10."
abbrev pub StepWritten : Type 0
StepWritten =
    (w : World) (command : Command) (words : List ℕ) → WrittenAlone w command words
    → (kind_of (numbers_of command) ≡ 0x80 → refusal_of (descriptor_of w.state.cp (field_of (numbers_of command) 2)) ≡ 0)
    → step_found w.ring w.state
    ≡ unit (numbers_of command) (reported (numbers_of command) w.state.cp) (length (command_bytes (numbers_of command) words))

-- the same of an XF load's words: the lent ones are in the XF memory then, from its address on
abbrev pub StepWords : Type 0
StepWords =
    (w : World) (n address : ℕ) (words : List ℕ) → WrittenAlone w (LoadXf n address) words → WordsFit words
    → take n (drop address (step_of w.ring w.state).xf) ≡ words

-- the words of the command c that a taking took: an XF load's are those that the taking left in the XF memory, as many as it names, from
-- its address on; another command has none
abbrev pub words_left : World → List ℕ → List ℕ
words_left w c = take (words_of c) (drop (field_of c 2) (step_of w.ring w.state).xf)

-- the command c of a taking that consumed n bytes, the first of the queue, which had as many: the writer takes it with those words, and
-- writes those bytes, an XF length below 16, with no refusal wherever there is room for n bytes
pub record WrittenBack (w : World) (c : List ℕ) (n : ℕ) : Type 0 where
  pub consumed : queue w ≡ take n (queue w) ++ queue_of w.ring (step_of w.ring w.state)
  pub many : length (take n (queue w)) ≡ n
  pub taken : Writable c (words_left w c)
  pub bytes_are : command_bytes c (words_left w c) ≡ lowered c (take n (queue w))
  pub unrefused : (room : ℕ) → n ≤ room → Write.refusal_of c (words_left w c) room ≡ 0

-- "Writing a command read from the stream gives its bytes back, save that an XF length is written below 16": of every unit that a taking
-- takes, but a vertex, which the writer refuses by 18 (proofs/Rewritten)
abbrev pub StepRewritten : Type 0
StepRewritten =
    (w : World) → Octets w.ring → (c : List ℕ) (m n : ℕ) → step_found w.ring w.state ≡ unit c m n → (kind_of c ≡ 0x01 → ⊥)
    → WrittenBack w c n

-- pieces that are fed in a row, a call for each, and one feed of all their bytes: every byte is accepted, and the world left is the same
pub record FedAlike (w : World) (ps : List (List ℕ)) : Type 0 where
  pub bytes_are : fed_all w (map feed ps) ≡ joined ps
  pub world_is : after_all w (map feed ps) ≡ after w (feed (joined ps))

-- where a feed is accepted, it may be cut into one or more pieces (proofs/Feeds)
abbrev pub FeedsJoined : Type 0
FeedsJoined =
    (w : World) (p : List ℕ) (ps : List (List ℕ)) → accepted w.state.fifo w.ring (joined (p ∷ ps)) ≡ true → FedAlike w (p ∷ ps)

-- where a taking, or a look, waits, a feed of at most the bytes that are lacking is accepted (proofs/Loading, and the two below)
abbrev pub LackingAccepted : Type 0
LackingAccepted =
    (w : World) (bytes : List ℕ) (k : ℕ) → step_found w.ring w.state ≡ waiting k → length bytes ≤ k
    → accepted w.state.fifo w.ring bytes ≡ true

-- after a feed of just as many as are lacking a taking takes the unit or is refused, or it waits again, as a look then tells, for a later
-- one of these: 1 the opcode, 2 the rest of an XF load's head, 3 the rest of the unit
abbrev pub NextStage : Type 0
NextStage =
    (w : World) (bytes : List ℕ) (j : ℕ) → step_found w.ring w.state ≡ waiting (length bytes)
    → step_found (after w (feed bytes)).ring (after w (feed bytes)).state ≡ waiting j → stage_at w < stage_at (after w (feed bytes))

-- a loader that always feeds the lacking number, whatever takings, looks and runs it makes, needs at most three feeds for each unit, and
-- for the one not taken yet: of calls that take no unit, at most three are feeds. No window register is written between
abbrev pub ThreeFeeds : Type 0
ThreeFeeds = (w : World) (cs : List Call) → AllHarmless cs → FeedsLacking w cs → feeds_in cs ≤ 3 * (length (units_all w cs) + 1)

-- a state that passes 1 to 5 passes them after a run (proofs/Passes)
abbrev pub RunPasses : Type 0
RunPasses =
    (ring : List ℕ) → Octets ring → (limit : ℕ) (s : State) → Runnable ring s → Runnable ring (run_of ring limit s).state
