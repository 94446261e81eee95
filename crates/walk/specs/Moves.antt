-- What the functions of one class of units promise to the one that calls them all, which promises `TakesMany`: to believe that, this need
-- not be read.
use Rattle.std.specs.Prelude.{List, ℕ, ◌≤◌, length}
use Rattle.command.specs.declared.Draw.TheVariants.{Closed}
use Rattle.walk.specs.Flat.{Core, core_of}
use Rattle.walk.specs.Walk.{Walk}

-- units from a place on: no more than are allowed, inside the bytes
pub record Moves (bytes : List ℕ) (from : ℕ) (s : Core) (most units to : ℕ) (s' : Core) : Type 0 where
  pub within : units ≤ most
  pub inside : from ≤ length bytes → to ≤ length bytes
  pub walk : Walk bytes from s units to s'

-- with no draw open
abbrev pub shut : List ℕ → List ℕ → List ℕ → List ℕ → Core
shut cp bp xf buffer = core_of cp bp Closed xf buffer

-- units that change nothing
pub record MovesOn (bytes : List ℕ) (from most units to : ℕ) : Type 0 where
  pub any : (cp bp xf buffer : List ℕ) → Moves bytes from (shut cp bp xf buffer) most units to (shut cp bp xf buffer)

-- units that change the BP registers alone
pub record MovesBp (bytes : List ℕ) (from : ℕ) (bp : List ℕ) (most units to : ℕ) (bp' : List ℕ) : Type 0 where
  pub any : (cp xf buffer : List ℕ) → Moves bytes from (shut cp bp xf buffer) most units to (shut cp bp' xf buffer)

-- units that change the XF words alone
pub record MovesXf (bytes : List ℕ) (from : ℕ) (xf : List ℕ) (most units to : ℕ) (xf' : List ℕ) : Type 0 where
  pub any : (cp bp buffer : List ℕ) → Moves bytes from (shut cp bp xf buffer) most units to (shut cp bp xf' buffer)
