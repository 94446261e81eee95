-- "For any answer that is an enum, a definition gives this paper's number and values for each case": what `check` promises.
use Rattle.std.specs.Prelude.{ℕ, Result}
use Rattle.refusal.specs.Outcome.{outcome}
use Rattle.refusal.specs.declared.Reason.{Reason}

-- the number of an answer: 0, or the refusal's
abbrev pub meaning : Result (Unit {0}) Reason → ℕ
meaning = outcome
