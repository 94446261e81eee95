-- Document 02, L1: what the calls on recordings promise together with the other calls (`RecordedPromises`, proved in proofs/Recorded), and
-- L9: what they promise beside those of before (`EarlierPromises`, proved in proofs/Earlier). Where a premise is the contract of a call, it
-- is that contract as it stands; that there are 327 words, that words have 32 bits and that a file is bytes are the parameters' types.
use Rattle.std.specs.Prelude.{◌≡◌, cond, List, [], ◌∷◌, ◌++◌, ℕ, ◌-◌, ◌<◌, ◌≤◌, eqb, length, take, drop}
use Rattle.refusal.specs.Number.{or_else}
use Rattle.octets.specs.BigEndian.{Octets, WordsFit}
use Rattle.command.specs.declared.Draw.TheVariants.{Closed}
use Rattle.command.specs.Look.{xf_count}
use Rattle.writer.specs.Write.{placed}
use Rattle.fifo.specs.declared.Fifo.{Fifo}
use Rattle.fifo.specs.Window.{Ready}
use Rattle.queue.specs.Feeding.{fifo_after}
use Rattle.queue.specs.Pending.{pending}
use Rattle.machine.specs.State.{State, state_of}
use Rattle.words.specs.State.{window_of, fifo_of, cp_of, bp_of, state_at, words_by, fifo_stored}
use Rattle.access.specs.Calls.{Feeds}
use Rattle.recording.specs.Format.{stream_at, content_of}
use Rattle.recording.specs.Faults.{stream_limit, head_fault, rest_fault, file_fault}
use Rattle.recording.specs.Limits.{earlier_limit}
use Rattle.filing.specs.Calls.{LoadsInto, LoadsFile, LoadsHead, PutsFile, PutsHead}

-- "A loaded recording starts with no draw open": the state of a file's registers and XF words behind a fifo
abbrev pub loaded_state : Fifo → List ℕ → List ℕ → State
loaded_state f file vertex = state_of f (content_of file).cp (content_of file).bp Closed (content_of file).xf vertex

-- a ring that the window's rules allow, and that is empty
pub record EmptyRing (f : Fifo) (ring : List ℕ) : Type 0 where
  pub ready : Ready f (length ring)
  pub empty : f.window.read ≡ f.window.write

-- bytes fed behind a loaded recording: they are accepted, the registers and XF words are the file's with no draw open, and the bytes are
-- the queue
pub record LoadedFed (file vertex bytes ring : List ℕ) (f : Fifo) (r : ℕ) (words' xf' ring' : List ℕ) : Type 0 where
  pub accepted : r ≡ 0
  pub state_is : state_at words' xf' vertex ≡ loaded_state (fifo_after f ring bytes) file vertex
  pub queue_is : pending (window_of words') ring' ≡ bytes

-- a file read whole (answer s, and what it left), and its head alone on the same words (answer r, the length told)
pub record InParts (rest r told s : ℕ) (words' xf' words'' xf'' stream' : List ℕ) : Type 0 where
  pub answer_is : s ≡ or_else r (rest_fault told rest)
  pub left_is : s ≡ 0 → (words'' ≡ words') × (xf'' ≡ xf') × (stream' ≡ stream_at ∷ told ∷ [])

-- what was written, read into other words: the registers, the XF words and the stream that were written
pub record ReadAgain (words xf stream other out : List ℕ) (r : ℕ) (words' xf' told' : List ℕ) : Type 0 where
  pub accepted : r ≡ 0
  pub words_are : words' ≡ words_by (fifo_of other) (cp_of words) (bp_of words) Closed
  pub xf_is : xf' ≡ xf
  pub told_is : told' ≡ stream_at ∷ length stream ∷ []
  pub stream_is : take (length stream) (drop stream_at out) ≡ stream

pub record RecordedPromises : Type 0 where
  -- a whole file read, or its head: the words and the XF words say the loaded state, and after a refusal the one before
  pub after_read : (refusal : ℕ) (words file xf vertex : List ℕ) (r : ℕ) (words' xf' : List ℕ)
      → LoadsInto refusal words file xf r words' xf'
      → state_at words' xf' vertex ≡ cond (eqb r 0) (loaded_state (fifo_of words) file vertex) (state_at words xf vertex)
  -- "its stream fed to an empty ring with pointers as the caller sets them": after a reading, with any fifo stored, as register writes
  -- store one, bytes that are fewer than an empty ring's are accepted
  pub loaded_fed : (refusal : ℕ) (words file xf vertex : List ℕ) (r : ℕ) (words' xf' : List ℕ) (f : Fifo) (ring bytes : List ℕ) (s : ℕ)
      (words'' ring' : List ℕ) → LoadsInto refusal words file xf r words' xf' → r ≡ 0 → EmptyRing f ring → length bytes < length ring
      → Feeds (fifo_stored words' f) ring bytes s words'' ring' → LoadedFed file vertex bytes ring f s words'' xf' ring'
  -- reading the whole is reading the head, its first 18,016 bytes, and checking the rest
  pub in_parts : (words file xf : List ℕ) (told r : ℕ) (words' xf' : List ℕ) (told' : ℕ) (stream : List ℕ) (s : ℕ)
      (words'' xf'' stream' : List ℕ) → LoadsHead stream_limit words (take stream_at file) xf told r words' xf' told'
      → LoadsFile stream_limit words file xf stream s words'' xf'' stream'
      → InParts (length file - stream_at) r told' s words' xf' words'' xf'' stream'
  -- "An accepted file is exactly what the writer gives for its content": what was read, written to an output that is long enough
  pub read_written : (words file xf told : List ℕ) (r : ℕ) (words' xf' told' out : List ℕ) (count s : ℕ) (out' : List ℕ) (count' : ℕ)
      → Octets file → LoadsFile stream_limit words file xf told r words' xf' told' → r ≡ 0 → length file ≤ length out
      → PutsFile stream_limit words' xf' (content_of file).stream out count s out' count'
      → (s ≡ 0) × (count' ≡ length file) × (out' ≡ placed file out)
  -- "one file, written and read back": a file that was written is read into any words, and gives what was written
  pub written_read : (words xf stream out : List ℕ) (count r : ℕ) (out' : List ℕ) (count' : ℕ) (other xf₀ told : List ℕ) (s : ℕ)
      (words' xf' told' : List ℕ) → length words ≡ 327 → WordsFit words → WordsFit xf → length xf₀ ≡ xf_count
      → PutsFile stream_limit words xf stream out count r out' count' → r ≡ 0
      → LoadsFile stream_limit other (take count' out') xf₀ told s words' xf' told'
      → ReadAgain words xf stream other out' s words' xf' told'

-- ---- L9: beside the calls of before, which had the same contracts with `earlier_limit` for the longest stream

-- refused by 20, and all that was lent is what it was
pub record LeftAlone (s : ℕ) (words xf told words' xf' told' : List ℕ) : Type 0 where
  pub answer_is : s ≡ 20
  pub words_are : words' ≡ words
  pub xf_is : xf' ≡ xf
  pub told_is : told' ≡ told

pub record EarlierPromises : Type 0 where
  -- "Files written before keep their meaning byte by byte": of a file that the earlier call accepts this one meets the earlier contract
  pub read_alike : (words file xf told : List ℕ) (r : ℕ) (words' xf' told' : List ℕ) → file_fault earlier_limit file ≡ 0
      → LoadsFile stream_limit words file xf told r words' xf' told' → LoadsFile earlier_limit words file xf told r words' xf' told'
  -- and so it does of a head
  pub head_read_alike : (words head xf : List ℕ) (told r : ℕ) (words' xf' : List ℕ) (told' : ℕ) → head_fault earlier_limit head ≡ 0
      → LoadsHead stream_limit words head xf told r words' xf' told' → LoadsHead earlier_limit words head xf told r words' xf' told'
  -- a file that the earlier call wrote is read by this one, and gives what was written
  pub earlier_read : (words xf stream out : List ℕ) (count r : ℕ) (out' : List ℕ) (count' : ℕ) (other xf₀ told : List ℕ) (s : ℕ)
      (words' xf' told' : List ℕ) → length words ≡ 327 → WordsFit words → WordsFit xf → length xf₀ ≡ xf_count
      → PutsFile earlier_limit words xf stream out count r out' count' → r ≡ 0
      → LoadsFile stream_limit other (take count' out') xf₀ told s words' xf' told' → ReadAgain words xf stream other out' s words' xf' told'
  -- for a stream that the earlier call takes this one meets the earlier contract: the bytes are the same
  pub written_alike : (words xf stream out : List ℕ) (count r : ℕ) (out' : List ℕ) (count' : ℕ) → length stream ≤ earlier_limit
      → PutsFile stream_limit words xf stream out count r out' count' → PutsFile earlier_limit words xf stream out count r out' count'
  -- and so it does of a head
  pub head_written_alike : (words xf : List ℕ) (n : ℕ) (out : List ℕ) (count r : ℕ) (out' : List ℕ) (count' : ℕ) → n ≤ earlier_limit
      → PutsHead stream_limit words xf n out count r out' count' → PutsHead earlier_limit words xf n out count r out' count'
  -- "An earlier reader refuses a file written with a longer stream by 20"
  pub long_stream : (words xf stream out : List ℕ) (count r : ℕ) (out' : List ℕ) (count' : ℕ) (other xf₀ told : List ℕ) (s : ℕ)
      (words' xf' told' : List ℕ) → length words ≡ 327 → WordsFit words → WordsFit xf → length xf₀ ≡ xf_count
      → PutsFile stream_limit words xf stream out count r out' count' → r ≡ 0 → earlier_limit < length stream
      → LoadsFile earlier_limit other (take count' out') xf₀ told s words' xf' told' → LeftAlone s other xf₀ told words' xf' told'
  -- also where its head was written, and then the stream
  pub long_stream_in_parts : (words xf stream out : List ℕ) (count r : ℕ) (out' : List ℕ) (count' : ℕ) (other xf₀ told : List ℕ) (s : ℕ)
      (words' xf' told' : List ℕ) → length words ≡ 327 → WordsFit words → WordsFit xf → length xf₀ ≡ xf_count
      → PutsHead stream_limit words xf (length stream) out count r out' count' → r ≡ 0 → earlier_limit < length stream
      → LoadsFile earlier_limit other (take count' out' ++ stream) xf₀ told s words' xf' told' → LeftAlone s other xf₀ told words' xf' told'
