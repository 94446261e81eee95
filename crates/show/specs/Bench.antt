-- The bench: its state as the library's calls have it, and what each of its functions leaves of it. All that it holds is told each time.
use Rattle.std.specs.Prelude.{ℕ, Bool, cond, ◌&&◌, not, List, [], ◌∷◌, eqb, length, replicate, Option, None, Some}
use Rattle.command.specs.declared.Draw.{Draw}
use Rattle.command.specs.declared.Draw.TheVariants.{Closed, Open}
use Rattle.command.specs.Look.{xf_count, largest_vertex}
use Rattle.fifo.specs.declared.Window.{Window}
use Rattle.fifo.specs.Window.{with_window, with_control}
use Rattle.machine.specs.State.{State, state_of, drawing_of, fresh_machine}
use Rattle.processor.specs.Step.{step_of}
use Rattle.recording.specs.Answers.{head_refusal, registers_in}
use Rattle.recording.specs.Faults.{stream_limit}
use Rattle.recording.specs.Format.{stream_count_at, file_number, content_of}
use Rattle.show.specs.declared.bench.Bench.{Bench}

-- all that a unit can change of a bench
abbrev pub state_in : Bench → State
state_in b = state_of b.fifo b.registers.cp b.registers.bp b.registers.draw b.xf b.vertex

-- the bench with all that changed; its ring stays
abbrev pub with_state : Bench → State → Bench
with_state b s =
    record {
      fifo = s.fifo;
      registers = record { cp = s.cp; bp = s.bp; draw = s.draw };
      ring = b.ring;
      xf = s.xf;
      vertex = s.buffer;
    }

-- the window of the whole ring, from 0 to 65,536, in which no byte waits
abbrev pub ring_window : Window
ring_window = record { start = 0; end = 65536; high = 0; low = 0; write = 0; read = 0 }

-- the fresh machine with that window, which may be read from in multi-buffer mode: control bit 0 set, bit 4 clear. What is lent is zeros.
unfoldable pub fresh_bench : Bench
fresh_bench =
    record {
      fifo = with_control (with_window fresh_machine.fifo ring_window) 1;
      registers = fresh_machine.registers;
      ring = replicate 65536 0;
      xf = replicate xf_count 0;
      vertex = replicate largest_vertex 0;
    }

-- the bench after a taking
unfoldable pub taken : Bench → Bench
taken b = with_state b (step_of b.ring (state_in b))

-- the number of the refusal of a head, 0 where it is read
abbrev pub load_refusal : Bench → List ℕ → ℕ
load_refusal b head = head_refusal stream_limit head (length b.xf)

-- the numbers of a load's answer: 0 and how long the stream is, as its count tells it, or the refusal's
unfoldable pub load_answer : Bench → List ℕ → List ℕ
load_answer b head = cond (eqb (load_refusal b head) 0) (0 ∷ file_number head stream_count_at ∷ []) (load_refusal b head ∷ [])

-- the bench after a load: the registers and XF words of the head; a refused one changes nothing
unfoldable pub loaded : Bench → List ℕ → Bench
loaded b head =
    cond (eqb (load_refusal b head) 0) (record b { registers = registers_in head; xf = (content_of head).xf }) b

-- the vertices that a draw has left, if it is open
abbrev pub left_in : Draw → Option ℕ
left_in Closed = None
left_in (Open primitive format left) = Some left

-- whether a bench has no draw open, where so many bytes wait, and none does
abbrev pub whole_by : Bench → ℕ → Bool
whole_by b n = not (drawing_of b.registers.draw) && eqb n 0
