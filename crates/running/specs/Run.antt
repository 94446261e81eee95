-- "A run stops at its limit, at waiting or at a refusal, the limit tested first; it keeps the units before and reports how many
-- there were."
use Rattle.std.specs.Prelude.{◌≡◌, List, [], ◌∷◌, ℕ, zero, suc, min, length}
use Rattle.refusal.specs.Number.{number}
use Rattle.command.specs.Command.{Found, unit, waiting, refused}
use Rattle.command.specs.declared.Draw.{Draw}
use Rattle.fifo.specs.declared.Fifo.{Fifo}
use Rattle.running.specs.declared.Stop.{Stop}
use Rattle.running.specs.declared.Stop.TheVariants.{Limit, Waiting, Refused}
use Rattle.running.specs.declared.Ran.{Ran}
use Rattle.machine.specs.State.{State, state_of}
use Rattle.machine.specs.Gate.{gate_of}
use Rattle.processor.specs.Step.{step_found, step_of}
pub use Rattle.walk.specs.Flat.{Taken}

-- how a run ended: the units that it took, why it stopped, and the state that it left
pub record Ended : Type 0 where
  pub units : List Taken
  pub stop : List ℕ
  pub state : State

-- why a run stopped, by numbers: 0 at its limit, 255 and the bytes lacking, or the refusal's number
abbrev pub stop_of : Found → List ℕ
stop_of (unit c m n) = 0 ∷ []
stop_of (waiting k) = 255 ∷ k ∷ []
stop_of (refused r) = r ∷ []

-- the same of the code's enum
abbrev pub meaning_of_stop : Stop → List ℕ
meaning_of_stop Limit = 0 ∷ []
meaning_of_stop (Waiting k) = 255 ∷ k ∷ []
meaning_of_stop (Refused r) = number r ∷ []

-- a run that ended so
abbrev pub ended : List Taken → List ℕ → State → Ended
ended units stop s = record { units = units; stop = stop; state = s }

-- a run that found this first at the state s, and went on so where it was a unit
abbrev pub gone_on : Found → State → Ended → Ended
gone_on (unit c m n) s e = ended (record { command = c; memory = m; length = n } ∷ e.units) e.stop e.state
gone_on (waiting k) s e = ended [] (stop_of (waiting k)) s
gone_on (refused r) s e = ended [] (stop_of (refused r)) s

-- takings until the limit, waiting or a refusal, the limit tested first
unfoldable pub steps : List ℕ → ℕ → State → Ended
steps ring zero s = ended [] (0 ∷ []) s
steps ring (suc n) s = gone_on (step_found ring s) s (steps ring n (step_of ring s))

-- where these arrive: how many there were, why they ended, and what they left
pub record Arrives (ring : List ℕ) (limit : ℕ) (s : State)
    (stop : List ℕ) (fifo : Fifo) (cp bp : List ℕ) (draw : Draw) (xf buffer : List ℕ) (units : ℕ) : Type 0 where
  pub units_are : units ≡ length (steps ring limit s).units
  pub stop_is : stop ≡ (steps ring limit s).stop
  pub state_is : state_of fifo cp bp draw xf buffer ≡ (steps ring limit s).state

-- document 02, L9, "Raise .. a run's limit .. to 1,048,575": the most units of a run
unfoldable pub run_limit : ℕ
run_limit = 1048575

-- "A run of limit 0 still gives 1 to 5."
abbrev pub gated : ℕ → State → Ended → Ended
gated zero s e = e
gated (suc r) s e = ended [] (suc r ∷ []) s

-- a run; of a limit above the most units: "a run's higher limit counts as that"
unfoldable pub run_of : List ℕ → ℕ → State → Ended
run_of ring limit s = gated (gate_of s (length ring)) s (steps ring (min limit run_limit) s)

-- what a run leaves and answers, as it ended
pub record Reports (e : Ended) (r : Ran) (cp bp xf buffer : List ℕ) : Type 0 where
  pub units_are : r.units ≡ length e.units
  pub stop_is : meaning_of_stop r.stop ≡ e.stop
  pub state_is : state_of r.fifo cp bp r.draw xf buffer ≡ e.state
