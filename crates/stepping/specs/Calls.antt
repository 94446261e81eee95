-- What a look, a taking and a run answer and leave. "A refusal carries its number from document 01; the refused call or unit changes no
-- register, ring byte or output byte. An unfinished unit waits and changes nothing either": each equation for what was lent says that it is
-- changed where the answer is 0, of a run where it did a unit, and else what it was; but the bytes lacking are told where a unit is waited
-- for, and a run's report whatever its answer.
use Rattle.std.specs.Prelude.{◌≡◌, cond, List, [], ◌∷◌, ℕ, eqb, length}
use Rattle.machine.specs.State.{State}
use Rattle.processor.specs.Step.{step_found, step_of}
use Rattle.running.specs.Run.{Ended}
use Rattle.words.specs.State.{state_words}
use Rattle.encoding.specs.Told.{first_of, second_of, Tells}

-- what a call was lent: the state's words, the XF words and the vertex buffer
pub record Lent : Type 0 where
  pub words : List ℕ
  pub xf : List ℕ
  pub vertex : List ℕ

-- these three
abbrev pub lent_of : List ℕ → List ℕ → List ℕ → Lent
lent_of words xf vertex = record { words = words; xf = xf; vertex = vertex }

-- the same, lent as a state's words and memory
abbrev pub lent_by : State → Lent
lent_by s = lent_of (state_words s) s.xf s.buffer

-- a look at the state s: the number, the unit's words, where there is one, and the bytes lacking, where it waits. All else is lent to read
abbrev pub Looks : List ℕ → State → List ℕ → ℕ → ℕ → List ℕ → ℕ → Type 0
Looks ring s unit lacking r unit' lacking' = Tells (step_found ring s) unit lacking r unit' lacking'

-- a taking at the state s that was lent so: it tells what a look tells, and the unit is done
pub record TakesOne (ring : List ℕ) (s : State) (lent : Lent) (unit : List ℕ) (lacking r : ℕ) (lent' : Lent) (unit' : List ℕ)
    (lacking' : ℕ) : Type 0 where
  pub told : Looks ring s unit lacking r unit' lacking'
  pub lent_is : lent' ≡ cond (eqb r 0) (lent_by (step_of ring s)) lent

-- a run that ended so, of a state that was lent so: the units done and the bytes lacking, 0 unless it waits, are told whatever its answer.
-- A run of no unit changes nothing.
pub record Ends (e : Ended) (lent : Lent) (r : ℕ) (lent' : Lent) (report' : List ℕ) : Type 0 where
  pub answer_is : r ≡ first_of e.stop
  pub report_is : report' ≡ length e.units ∷ second_of e.stop ∷ []
  pub lent_is : lent' ≡ cond (eqb (length e.units) 0) lent (lent_by e.state)
