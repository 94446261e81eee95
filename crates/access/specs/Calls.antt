-- What the calls on hardware registers and the feed answer and leave. "A refusal carries its number from document 01; the refused call or
-- unit changes no register, ring byte or output byte": each equation for what was lent says that it is changed where the answer is 0, and
-- else what it was.
use Rattle.std.specs.Prelude.{◌≡◌, cond, List, ℕ, eqb, length}
use Rattle.queue.specs.Feeding.{feed_refusal, fifo_after, ring_after}
use Rattle.registers.specs.Registers.{read_answer, write_answer, written}
use Rattle.machine.specs.State.{drawing_of}
use Rattle.words.specs.State.{fifo_of, draw_of, fifo_stored}
use Rattle.encoding.specs.Told.{first_of, second_of}

-- the answer of a hardware register read
abbrev pub reading_of : List ℕ → ℕ → List ℕ
reading_of words offset = read_answer (fifo_of words) (drawing_of (draw_of words)) offset

-- a hardware register read
pub record ReadsRegister (words : List ℕ) (offset value r value' : ℕ) : Type 0 where
  pub answer_is : r ≡ first_of (reading_of words offset)
  pub value_is : value' ≡ cond (eqb r 0) (second_of (reading_of words offset)) value

-- a hardware register written: of the state's words only the fifo's may change
pub record WritesRegister (words : List ℕ) (offset value r : ℕ) (words' : List ℕ) : Type 0 where
  pub answer_is : r ≡ first_of (write_answer offset)
  pub state_is : words' ≡ cond (eqb r 0) (fifo_stored words (written (fifo_of words) offset value)) words

-- bytes fed: of the state's words only the fifo's may change, and `accept` moves the write pointer alone
pub record Feeds (words ring bytes : List ℕ) (r : ℕ) (words' ring' : List ℕ) : Type 0 where
  pub answer_is : r ≡ feed_refusal (fifo_of words) (length ring) (length bytes)
  pub state_is : words' ≡ cond (eqb r 0) (fifo_stored words (fifo_after (fifo_of words) ring bytes)) words
  pub ring_is : ring' ≡ cond (eqb r 0) (ring_after (fifo_of words) ring bytes) ring
