-- For the code's own functions: a search for the first fault in parts.
use Rattle.std.specs.Prelude.{◌≡◌, List, [], ◌∷◌, ℕ, ◌-◌, ◌*◌, ◌≤◌, length, Option, MatchOption}
use Rattle.refusal.specs.Number.{number}
use Rattle.recording.specs.declared.Fault.{Fault}
use Rattle.recording.specs.Format.{number_count}
use Rattle.recording.specs.Faults.{stream_limit, first_fault, first_place}

-- what is found from number k on: the fault and its place
abbrev pub found_from : ℕ → List ℕ → ℕ → List ℕ
found_from limit file k = first_fault limit file (number_count - k) k ∷ first_place limit file (number_count - k) k ∷ []

-- the numbers from one on and before another searched: they are there and have no fault, so that the search goes on behind them, or what is
-- found is told
abbrev pub SearchesPart : List ℕ → ℕ → ℕ → Option Fault → Type 0
SearchesPart file from to r =
    MatchOption r ((found_from stream_limit file from ≡ found_from stream_limit file to) × (4 * to ≤ length file))
    (λ fault. number fault.reason ∷ fault.place ∷ [] ≡ found_from stream_limit file from)
