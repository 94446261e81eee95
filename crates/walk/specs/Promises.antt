-- What walks and readings promise: a reading is its units one after the other, the units of a walk are the next ones of the reading, and
-- their number determines where they lead. Proved in proofs/Promises `walk_promises`.
use Rattle.std.specs.Prelude.{◌≡◌, List, [], ◌∷◌, ℕ, ◌+◌, length, take, drop}
use Rattle.command.specs.Command.{unit}
use Rattle.command.specs.Prefix.{NoUnit}
use Rattle.walk.specs.Flat.{Core, flat_found, core_after, Taken}
use Rattle.walk.specs.Walk.{Walk}
use Rattle.walk.specs.Reads.{before, stopped, read_all}

-- how many bytes units have together
unfoldable pub bytes_taken : List Taken → ℕ
bytes_taken [] = 0
bytes_taken (u ∷ us) = u.length + bytes_taken us

-- a reading from one place that goes on from another: these are the n units between
pub record ReadsOn (bytes : List ℕ) (from : ℕ) (s : Core) (n to : ℕ) (s' : Core) : Type 0 where
  pub units : List Taken
  pub number : length units ≡ n
  pub place : to ≡ from + bytes_taken units
  pub reads_on : read_all (drop from bytes) s ≡ before units (read_all (drop to bytes) s')

-- the promises of a reading, and of a walk
pub record WalkPromises : Type 0 where
  -- where a unit is found, a reading is that unit and the reading of the rest
  pub opens : (bytes : List ℕ) (s : Core) (c : List ℕ) (m l : ℕ) → flat_found bytes s ≡ unit c m l
      → read_all bytes s ≡ before (record { command = c; memory = m; length = l } ∷ [])
      (read_all (drop l bytes) (core_after c (take l bytes) s))
  -- where none is found, it ends there, with what was found
  pub stops : (bytes : List ℕ) (s : Core) → NoUnit (flat_found bytes s) → read_all bytes s ≡ stopped s (flat_found bytes s)
  -- the units of a walk are the next ones of the reading, which goes on where the walk ended
  pub reads : (bytes : List ℕ) (from : ℕ) (s : Core) (n to : ℕ) (s' : Core) → Walk bytes from s n to s' → ReadsOn bytes from s n to s'
  -- so many units from one place and state lead to one place and one state: all that is open is how many they are
  pub one : (bytes : List ℕ) (from : ℕ) (s : Core) (n to to' : ℕ) (t t' : Core) → Walk bytes from s n to t → Walk bytes from s n to' t'
      → (to ≡ to') × (t ≡ t')
