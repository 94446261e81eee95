-- One unit of the stream: looked at, executed, consumed ("Units of the stream"; demand 2). Document 02, L6: "where the mission, document 01
-- or another ticket says step, read taking". What a look answers, and a taking too, is `step_found`; what a taking leaves is `step_of`, and
-- a look leaves everything as it was.
use Rattle.std.specs.Prelude.{◌≡◌, List, ℕ, length, take}
use Rattle.command.specs.Command.{Found, unit, waiting, refused}
use Rattle.command.specs.Look.{unless_refused, look_of}
use Rattle.effect.specs.Effect.{cp_after, bp_after, xf_after, vertex_after, draw_after}
use Rattle.fifo.specs.Window.{consume}
use Rattle.queue.specs.Pending.{pending}
use Rattle.unit.specs.Answers.{meaning}
use Rattle.processor.specs.declared.taking.TakenUnit.{TakenUnit}
use Rattle.machine.specs.State.{State, state_of}
use Rattle.machine.specs.Gate.{gate_of}

-- the queue of a state's fifo
abbrev pub queue_of : List ℕ → State → List ℕ
queue_of ring s = pending s.fifo.window ring

-- what the queue begins with, as the registers and the draw stand
unfoldable pub look_at : List ℕ → State → Found
look_at ring s = look_of (queue_of ring s) (length (queue_of ring s)) s.cp s.draw

-- a command of a unit of so many bytes executed, and the bytes consumed
unfoldable pub executed : List ℕ → State → List ℕ → ℕ → State
executed ring s c n =
    record {
      fifo = consume s.fifo n;
      cp = cp_after c s.cp;
      bp = bp_after c s.bp;
      draw = draw_after c s.draw;
      xf = xf_after c (take n (queue_of ring s)) s.xf;
      buffer = vertex_after c (take n (queue_of ring s)) s.buffer;
    }

-- the state after what was found: "An unfinished unit waits and changes nothing either", nor does a refused one
abbrev pub after : List ℕ → State → Found → State
after ring s (unit c m n) = executed ring s c n
after ring s (waiting k) = s
after ring s (refused r) = s

-- the answer of a look and of a taking: one of 1 to 5, or what is found
unfoldable pub step_found : List ℕ → State → Found
step_found ring s = unless_refused (gate_of s (length ring)) (look_at ring s)

-- the state after a taking
unfoldable pub step_of : List ℕ → State → State
step_of ring s = after ring s (step_found ring s)

-- past 1 to 5: a look finds what the queue begins with, and a taking takes it
abbrev pub Runnable : List ℕ → State → Type 0
Runnable ring s = gate_of s (length ring) ≡ 0

-- what a taking at the state s leaves and answers
pub record Steps (ring : List ℕ) (s : State) (r : TakenUnit) (cp bp xf buffer : List ℕ) : Type 0 where
  pub answer_is : meaning r.answer ≡ step_found ring s
  pub state_is : state_of r.fifo cp bp r.draw xf buffer ≡ step_of ring s
