-- What inner functions promise to their callers: nobody needs to read this to believe the crate.
use Rattle.std.specs.Prelude.{◌≡◌, Option, Some, None, List, ℕ, ◌+◌, ◌*◌, ◌≤◌, length, drop}
use Rattle.command.specs.declared.Draw.TheVariants.{Closed}
use Rattle.command.specs.Command.{unit, load_xf}
use Rattle.command.specs.Look.{look_of}

-- how many units lead to a place that may be none: one or none
abbrev pub number_of : Option ℕ → ℕ
number_of None = 0
number_of (Some to) = 1

-- the head of an XF load of so many words at a place
pub record HeadOf (bytes : List ℕ) (at words address : ℕ) : Type 0 where
  pub here : at ≤ length bytes
  pub few : words ≤ 16
  pub found : (cp : List ℕ) → 5 + 4 * words ≤ length (drop at bytes)
      → look_of (drop at bytes) (length (drop at bytes)) cp Closed ≡ unit (load_xf words address) 0 (5 + 4 * words)
