-- Document 02, L4, "Waiting must say for how much", of a look, a taking and a run: each type is the statement of the theorem that has its
-- name in `proofs/Waiting`. How many bytes they are: command/specs/Promises `WaitingPromises`. And L6, of a run (proofs/Takings).
use Rattle.std.specs.Prelude.{◌≡◌, List, [], ◌∷◌, ℕ, suc, ◌≤◌, ◌<◌}
use Rattle.octets.specs.BigEndian.{Octets}
use Rattle.command.specs.Command.{waiting}
use Rattle.queue.specs.Feeding.{room_of}
use Rattle.machine.specs.State.{State}
use Rattle.processor.specs.Step.{step_found, step_of}
use Rattle.running.specs.Run.{gone_on, run_limit, run_of}

-- "It is at least 1 and never more than the ring's free room": of a look or a taking that waits
abbrev pub LackingFits : Type 0
LackingFits = (ring : List ℕ) (s : State) (k : ℕ) → step_found ring s ≡ waiting k → (1 ≤ k) × (k ≤ room_of s.fifo.window)

-- a run that waits stopped at a unit that waits for as much
abbrev pub RunWaits : Type 0
RunWaits =
    (ring : List ℕ) (limit : ℕ) (s : State) (k : ℕ) → (run_of ring limit s).stop ≡ 255 ∷ k ∷ []
    → step_found ring (run_of ring limit s).state ≡ waiting k

-- the same bounds of a run that waits, by the room that it left
abbrev pub RunLackingFits : Type 0
RunLackingFits =
    (ring : List ℕ) (limit : ℕ) (s : State) (k : ℕ) → (run_of ring limit s).stop ≡ 255 ∷ k ∷ []
    → (1 ≤ k) × (k ≤ room_of (run_of ring limit s).state.fifo.window)

-- "Run .. put on the two calls", its answers unchanged: a run of limit n + 1 is a taking and then a run of limit n, and where the taking
-- waits or is refused it ends there
abbrev pub RunTakes : Type 0
RunTakes =
    (ring : List ℕ) → Octets ring → (n : ℕ) (s : State) → n < run_limit
    → run_of ring (suc n) s ≡ gone_on (step_found ring s) s (run_of ring n (step_of ring s))
