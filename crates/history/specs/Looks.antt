-- Document 02, L6, "Looking and taking are two things", over lists of calls on one machine.
use Rattle.std.specs.Prelude.{◌≡◌, List, [], ◌∷◌, ◌++◌}
use Rattle.command.specs.Command.{Found}
use Rattle.processor.specs.Step.{step_found}
use Rattle.history.specs.Calls.{World, Call, feed, take, look, run, write, read, after, answered, after_all, fed_all, units_all}

-- what a look tells, and what a taking answers: the next unit with its length, waiting with the bytes lacking, or a refusal
abbrev pub told_at : World → Found
told_at w = step_found w.ring w.state

-- calls that ask and change nothing: looks, and reads of a hardware register
abbrev pub Asking : Call → Type 0
Asking (feed bytes) = ⊥
Asking take = ⊥
Asking look = Unit {0}
Asking (run limit) = ⊥
Asking (write offset value) = ⊥
Asking (read offset) = Unit {0}

abbrev pub AllAsking : List Call → Type 0
AllAsking [] = Unit {0}
AllAsking (c ∷ cs) = Asking c × AllAsking cs

-- "Divide the step: one call tells what the next unit is, with its length, and changes nothing; another takes it." (proofs/Looks)
pub record LookingAndTaking : Type 0 where
  -- a look "changes nothing"
  pub changes_nothing : (w : World) → after w look ≡ w
  -- wherever a look stands in a list of calls, the list leaves the world that it leaves without the look
  pub world_same : (w : World) (cs ds : List Call) → after_all w (cs ++ (look ∷ ds)) ≡ after_all w (cs ++ ds)
  -- it accepts the bytes that it accepts without the look
  pub bytes_same : (w : World) (cs ds : List Call) → fed_all w (cs ++ (look ∷ ds)) ≡ fed_all w (cs ++ ds)
  -- and it takes the units that it takes without the look
  pub units_same : (w : World) (cs ds : List Call) → units_all w (cs ++ (look ∷ ds)) ≡ units_all w (cs ++ ds)
  -- "Looking and then taking, with nothing between, names the same unit, and refusals and waiting are the same in both, numbers and order":
  -- with nothing, or only looks and reads, between the two, the taking's answer is what the look told
  pub answer_same : (w : World) (cs : List Call) → AllAsking cs → told_at (after_all w (look ∷ cs)) ≡ told_at w
  -- of all these calls the taking alone takes a unit, the one that the look told, and where none was told none is taken
  pub unit_same : (w : World) (cs : List Call) → AllAsking cs → units_all w (look ∷ (cs ++ (take ∷ []))) ≡ answered (told_at w)
  -- and together they leave what the taking alone leaves
  pub taking_same : (w : World) (cs : List Call) → AllAsking cs → after_all w (look ∷ (cs ++ (take ∷ []))) ≡ after w take
