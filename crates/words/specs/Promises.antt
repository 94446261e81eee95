-- Words lose nothing: the words of the fresh state and of the state after a taking or a run say that state whole, and words with another
-- fifo stored say the state with that fifo. What calls leave: duckhammock/specs/Promises.
use Rattle.std.specs.Prelude.{◌≡◌, List, ℕ, length}
use Rattle.octets.specs.BigEndian.{Octets}
use Rattle.fifo.specs.declared.Fifo.{Fifo}
use Rattle.machine.specs.State.{State, state_of, fresh_machine}
use Rattle.processor.specs.Step.{step_of}
use Rattle.running.specs.Run.{run_of}
use Rattle.words.specs.State.{cp_of, bp_of, draw_of, state_at, state_words, fresh_words, fifo_stored}

-- a state's words, with the memory beside them, say the state
abbrev pub SaidWhole : State → Type 0
SaidWhole s = state_at (state_words s) s.xf s.buffer ≡ s

-- the fresh state, with the memory that is lent
abbrev pub fresh_at : List ℕ → List ℕ → State
fresh_at xf vertex =
    state_of fresh_machine.fifo fresh_machine.registers.cp fresh_machine.registers.bp fresh_machine.registers.draw xf vertex

-- the state that words and memory say, with another fifo
abbrev pub state_with : List ℕ → List ℕ → List ℕ → Fifo → State
state_with words xf vertex f = state_of f (cp_of words) (bp_of words) (draw_of words) xf vertex

pub record WordsPromises : Type 0 where
  -- the fresh state's words say it
  pub of_fresh : (xf vertex : List ℕ) → state_at fresh_words xf vertex ≡ fresh_at xf vertex
  -- so do those of the state after a taking; 327 words and bytes of the ring are the parameters' types
  pub of_take : (ring words xf vertex : List ℕ) → Octets ring → length words ≡ 327 → SaidWhole (step_of ring (state_at words xf vertex))
  -- and after a run
  pub of_run : (ring words xf vertex : List ℕ) (limit : ℕ) → Octets ring → length words ≡ 327
      → SaidWhole (run_of ring limit (state_at words xf vertex)).state
  -- another fifo stored, as an accepted feed or register write does: the rest of the state stays
  pub of_fifo : (words xf vertex : List ℕ) (f : Fifo) → state_at (fifo_stored words f) xf vertex ≡ state_with words xf vertex f
