-- A state with more bytes pending than another, and all else the same.
use Rattle.std.specs.Prelude.{◌≡◌, List, ◌∷◌, [], ◌++◌, ℕ, length}
use Rattle.machine.specs.State.{State}
use Rattle.machine.specs.Gate.{gate_of}
use Rattle.processor.specs.Step.{queue_of}
use Rattle.running.specs.Run.{Ended}

-- the state t, over its ring, is s with more bytes at the end of its queue
pub record Longer (ring : List ℕ) (s : State) (ring' : List ℕ) (t : State) (more : List ℕ) : Type 0 where
  pub cp_is : t.cp ≡ s.cp
  pub bp_is : t.bp ≡ s.bp
  pub draw_is : t.draw ≡ s.draw
  pub xf_is : t.xf ≡ s.xf
  pub buffer_is : t.buffer ≡ s.buffer
  pub gate_is : gate_of t (length ring') ≡ gate_of s (length ring)
  pub queue_is : queue_of ring' t ≡ queue_of ring s ++ more

-- a run that ended by its limit or a refusal
abbrev pub NotWaiting : List ℕ → Type 0
NotWaiting stop = (k : ℕ) → stop ≡ 255 ∷ k ∷ [] → ⊥

-- two runs with the same units and the same end, the second with more bytes still pending
pub record SameRun (ring : List ℕ) (e : Ended) (ring' : List ℕ) (d : Ended) (more : List ℕ) : Type 0 where
  pub units_are : d.units ≡ e.units
  pub stop_is : d.stop ≡ e.stop
  pub state_is : Longer ring e.state ring' d.state more
