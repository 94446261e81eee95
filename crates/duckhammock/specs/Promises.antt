-- What one call leaves is what the next one reads: the words and the memory after a call say the state after document 01's call, after
-- refused and waiting calls too (`CallsPromises`, proved in proofs/Chained). What a call that waits tells (`LackingPromises`, in
-- proofs/Waiting). That a look and then a taking tell the same (`TellsAlike`, in proofs/Looks). What a whole vertex by one call tells
-- (`WholePromises`, in proofs/Wholes).
use Rattle.std.specs.Prelude.{◌≡◌, List, ℕ, ◌*◌, ◌<◌, ◌≤◌, length, take, drop}
use Rattle.octets.specs.BigEndian.{Octets}
use Rattle.command.specs.Command.{waiting}
use Rattle.registers.specs.Registers.{written}
use Rattle.queue.specs.Feeding.{room_of, fifo_after, ring_after}
use Rattle.machine.specs.State.{State}
use Rattle.processor.specs.Step.{step_found, step_of}
use Rattle.running.specs.Run.{run_of}
use Rattle.words.specs.State.{window_of, fifo_of, state_at}
use Rattle.words.specs.Promises.{state_with}
use Rattle.encoding.specs.Told.{second_of}
use Rattle.fields.specs.declared.Descriptor.{Descriptor}
use Rattle.formats.specs.Formats.{TellsAttribute, TellsAll}
use Rattle.access.specs.Calls.{WritesRegister, Feeds}
use Rattle.stepping.specs.Calls.{Lent, lent_of, Looks, TakesOne, Ends}

-- the state that what was lent says
abbrev pub said_by : Lent → State
said_by l = state_at l.words l.xf l.vertex

-- Each premise is the contract of a call, as it stands. 327 words and bytes of the ring are the parameters' types. A register read is lent
-- the state to read alone, as a look is; a taking and a run are lent the ring so; the fresh state: words/specs/Promises.
pub record CallsPromises : Type 0 where
  -- a hardware register written
  pub after_write : (words xf vertex : List ℕ) (offset value r : ℕ) (words' : List ℕ) → WritesRegister words offset value r words'
      → state_at words' xf vertex ≡ state_with words xf vertex (written (fifo_of words) offset value)
  -- bytes fed: the state, and the ring
  pub after_feed_lem : (words xf vertex ring bytes : List ℕ) (r : ℕ) (words' ring' : List ℕ) → Feeds words ring bytes r words' ring'
      → (state_at words' xf vertex ≡ state_with words xf vertex (fifo_after (fifo_of words) ring bytes))
      × (ring' ≡ ring_after (fifo_of words) ring bytes)
  -- a taking
  pub after_take : (ring words xf vertex unit : List ℕ) (lacking r : ℕ) (lent' : Lent) (unit' : List ℕ) (lacking' : ℕ)
      → Octets ring → length words ≡ 327
      → TakesOne ring (state_at words xf vertex) (lent_of words xf vertex) unit lacking r lent' unit' lacking'
      → said_by lent' ≡ step_of ring (state_at words xf vertex)
  -- a run, of limit 0 too
  pub after_run : (ring words xf vertex : List ℕ) (limit r : ℕ) (lent' : Lent) (report' : List ℕ) → Octets ring → length words ≡ 327
      → Ends (run_of ring limit (state_at words xf vertex)) (lent_of words xf vertex) r lent' report'
      → said_by lent' ≡ (run_of ring limit (state_at words xf vertex)).state

-- Document 02, L4: "It is at least 1 and never more than the ring's free room", of the number that a call on words tells where it answers
-- 255. The premises are the calls' contracts as they stand, and what the parameters' types say: 327 words, and a ring of bytes.
pub record LackingPromises : Type 0 where
  -- a look
  pub of_look : (ring words xf vertex unit : List ℕ) (lacking r : ℕ) (unit' : List ℕ) (lacking' : ℕ)
      → Looks ring (state_at words xf vertex) unit lacking r unit' lacking' → r ≡ 255
      → (1 ≤ lacking') × (lacking' ≤ room_of (window_of words))
  -- a taking
  pub of_take : (ring words xf vertex unit : List ℕ) (lacking r : ℕ) (lent' : Lent) (unit' : List ℕ) (lacking' : ℕ)
      → TakesOne ring (state_at words xf vertex) (lent_of words xf vertex) unit lacking r lent' unit' lacking' → r ≡ 255
      → (1 ≤ lacking') × (lacking' ≤ room_of (window_of words))
  -- a run, by the room that it leaves
  pub of_run : (ring words xf vertex : List ℕ) (limit r : ℕ) (lent' : Lent) (report' : List ℕ) → Octets ring → length words ≡ 327
      → Ends (run_of ring limit (state_at words xf vertex)) (lent_of words xf vertex) r lent' report' → r ≡ 255
      → (1 ≤ second_of report') × (second_of report' ≤ room_of (window_of lent'.words))
  -- a run that waits stopped at a unit that waits for as much
  pub stopped_at : (ring words xf vertex : List ℕ) (limit r : ℕ) (lent' : Lent) (report' : List ℕ) → Octets ring → length words ≡ 327
      → Ends (run_of ring limit (state_at words xf vertex)) (lent_of words xf vertex) r lent' report' → r ≡ 255
      → step_found ring (said_by lent') ≡ waiting (second_of report')

-- two calls that told the same: the number, where it is 0 the unit, and where it is 255 the bytes lacking, whatever was lent for them
pub record ToldAlike (p : ℕ) (shown : List ℕ) (lacks r : ℕ) (unit : List ℕ) (lacking : ℕ) : Type 0 where
  pub number_is : p ≡ r
  pub unit_is : p ≡ 0 → shown ≡ unit
  pub lacking_is : p ≡ 255 → lacks ≡ lacking

-- Document 02, L6: "Looking and then taking, with nothing between, names the same unit, and refusals and waiting are the same in both,
-- numbers and order" (proofs/Looks). The premises are the contracts of the two calls, as they stand, at one state: a look is lent it to
-- read.
abbrev pub TellsAlike : Type 0
TellsAlike =
    (ring : List ℕ) (s : State) (shown : List ℕ) (lacks p : ℕ) (shown' : List ℕ) (lacks' : ℕ) (lent : Lent) (unit : List ℕ) (lacking r : ℕ)
    (lent' : Lent) (unit' : List ℕ) (lacking' : ℕ)
    → Looks ring s shown lacks p shown' lacks' → TakesOne ring s lent unit lacking r lent' unit' lacking'
    → ToldAlike p shown' lacks' r unit' lacking'

-- A whole vertex decoded is 21 decodes. Each premise is the contract of a call, as it stands.
pub record WholePromises : Type 0 where
  -- it is refused just where the decode of an attribute is, by the same number
  pub refused_alike : (d : Descriptor) (k : ℕ) (vertex values : List ℕ) (r : ℕ) (values' one : List ℕ) (s : ℕ) (one' : List ℕ) → k < 21
      → TellsAll d vertex values r values' → TellsAttribute d k vertex one s one' → r ≡ s
  -- and else the ten words from 10 k on are what the decode of attribute k tells
  pub told_alike : (d : Descriptor) (k : ℕ) (vertex values : List ℕ) (r : ℕ) (values' one : List ℕ) (s : ℕ) (one' : List ℕ) → k < 21
      → TellsAll d vertex values r values' → TellsAttribute d k vertex one s one' → r ≡ 0 → take 10 (drop (10 * k) values') ≡ one'
