-- Document 02, L6, "Looking and taking are two things": each field is a law of the two calls' contracts, as they stand (proofs/Looks).
use Rattle.std.specs.Prelude.{◌≡◌, List, ℕ}
use Rattle.command.specs.declared.StepAnswer.{StepAnswer}
use Rattle.processor.specs.declared.taking.TakenUnit.{TakenUnit}
use Rattle.machine.specs.State.{State, state_of}
use Rattle.unit.specs.Answers.{meaning}
use Rattle.processor.specs.Step.{after, step_found, Steps}

pub record LookThenTake : Type 0 where
  -- "Looking and then taking, with nothing between, names the same unit, and refusals and waiting are the same in both, numbers and order"
  pub same_answer : (ring : List ℕ) (s : State) (looked : StepAnswer) (r : TakenUnit) (cp bp xf buffer : List ℕ)
      → meaning looked ≡ step_found ring s → Steps ring s r cp bp xf buffer → r.answer ≡ looked
  -- "another takes it": the state left is the one after what the look told
  pub takes_it : (ring : List ℕ) (s : State) (looked : StepAnswer) (r : TakenUnit) (cp bp xf buffer : List ℕ)
      → meaning looked ≡ step_found ring s → Steps ring s r cp bp xf buffer
      → state_of r.fifo cp bp r.draw xf buffer ≡ after ring s (meaning looked)
