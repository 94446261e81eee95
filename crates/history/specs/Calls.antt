-- Lists of calls on one machine: "Each call of its list gets what it uses of the window, control word, registers, open draw and lent memory
-- as the calls before returned or left it." Each call is the very definition that the call's contract cites.
use Rattle.std.specs.Prelude.{◌≡◌, List, [], ◌∷◌, ◌++◌, Bool, true, not, ◌&&◌, ◌||◌, ℕ, ◌+◌, leb, eqb}
use Rattle.command.specs.Command.{Found, unit, waiting, refused}
use Rattle.fifo.specs.declared.Fifo.{Fifo}
use Rattle.fifo.specs.Window.{count_of}
use Rattle.queue.specs.Feeding.{bytes_accepted, fifo_after, ring_after}
use Rattle.registers.specs.Registers.{writable, written}
use Rattle.machine.specs.State.{State}
use Rattle.processor.specs.Step.{queue_of, step_found, step_of}
use Rattle.running.specs.Run.{Taken, run_of}

-- what calls are handed and leave: the state and the ring's bytes
pub record World : Type 0 where
  pub state : State
  pub ring : List ℕ

-- feeds, takings, looks, runs, and writes and reads of a hardware register; "clears are writes to 004"
pub data Call : Type 0 where
  feed : List ℕ → Call
  take : Call
  look : Call
  run : ℕ → Call
  write : ℕ → ℕ → Call
  read : ℕ → Call

-- a world with another fifo, and with another state
abbrev pub with_fifo : World → Fifo → World
with_fifo w f =
    record {
      state =
          record {
            fifo = f;
            cp = w.state.cp;
            bp = w.state.bp;
            draw = w.state.draw;
            xf = w.state.xf;
            buffer = w.state.buffer;
          };
      ring = w.ring;
    }

abbrev pub with_state : World → State → World
with_state w s = record { state = s; ring = w.ring }

abbrev pub with_ring : World → List ℕ → World
with_ring w ring = record { state = w.state; ring = ring }

-- the bytes pending in a world
abbrev pub queue : World → List ℕ
queue w = queue_of w.ring w.state

-- how many they are
abbrev pub count_at : World → ℕ
count_at w = count_of w.state.fifo.window

-- the world after a call: what feed, take, run and write_register promise of it; a look and a read leave it
abbrev pub after : World → Call → World
after w (feed bytes) =
    with_ring (with_fifo w (fifo_after w.state.fifo w.ring bytes)) (ring_after w.state.fifo w.ring bytes)
after w take = with_state w (step_of w.ring w.state)
after w look = w
after w (run limit) = with_state w (run_of w.ring limit w.state).state
after w (write offset value) = with_fifo w (written w.state.fifo offset value)
after w (read offset) = w

-- the bytes that a call accepted: a feed's, none of a refused one
abbrev pub fed : World → Call → List ℕ
fed w (feed bytes) = bytes_accepted w.state.fifo w.ring bytes
fed w take = []
fed w look = []
fed w (run limit) = []
fed w (write offset value) = []
fed w (read offset) = []

-- the units that an answer reports
abbrev pub answered : Found → List Taken
answered (unit c m n) = record { command = c; memory = m; length = n } ∷ []
answered (waiting k) = []
answered (refused r) = []

-- the units that a call took and answered: a look takes none
abbrev pub units_of : World → Call → List Taken
units_of w (feed bytes) = []
units_of w take = answered (step_found w.ring w.state)
units_of w look = []
units_of w (run limit) = (run_of w.ring limit w.state).units
units_of w (write offset value) = []
units_of w (read offset) = []

-- ---- lists of calls, one after the other

unfoldable pub after_all : World → List Call → World
after_all w [] = w
after_all w (c ∷ cs) = after_all (after w c) cs

unfoldable pub fed_all : World → List Call → List ℕ
fed_all w [] = []
fed_all w (c ∷ cs) = fed w c ++ fed_all (after w c) cs

unfoldable pub units_all : World → List Call → List Taken
units_all w [] = []
units_all w (c ∷ cs) = units_of w c ++ units_all (after w c) cs

-- the bytes of units
unfoldable pub consumed_by : List Taken → ℕ
consumed_by [] = 0
consumed_by (u ∷ us) = u.length + consumed_by us

-- the commands of units
abbrev pub commands_in : List Taken → List (List ℕ)
commands_in [] = []
commands_in (u ∷ us) = u.command ∷ commands_in us

-- "no window register written between": control, clear and the marks may be, and a refused write writes none
unfoldable pub harmless : ℕ → Bool
harmless offset = (eqb offset 2 || eqb offset 4) || (leb 0x28 offset && leb offset 0x2F)

abbrev pub Harmless : Call → Type 0
Harmless (feed bytes) = Unit {0}
Harmless take = Unit {0}
Harmless look = Unit {0}
Harmless (run limit) = Unit {0}
Harmless (write offset value) = (harmless offset || not (writable offset)) ≡ true
Harmless (read offset) = Unit {0}

abbrev pub AllHarmless : List Call → Type 0
AllHarmless [] = Unit {0}
AllHarmless (c ∷ cs) = Harmless c × AllHarmless cs

-- the calls of demand 3's list, "feeds, steps, runs and clears": a step is a taking, and a clear is a write to 004; a look may stand among
-- them too
abbrev pub Listed : Call → Type 0
Listed (feed bytes) = Unit {0}
Listed take = Unit {0}
Listed look = Unit {0}
Listed (run limit) = Unit {0}
Listed (write offset value) = offset ≡ 4
Listed (read offset) = ⊥

abbrev pub AllListed : List Call → Type 0
AllListed [] = Unit {0}
AllListed (c ∷ cs) = Listed c × AllListed cs
