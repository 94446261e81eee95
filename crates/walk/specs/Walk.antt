-- Units one after the other off a list of bytes: what a run takes many at a time (document 01: "it keeps the units before").
use Rattle.std.specs.Prelude.{◌≡◌, List, ℕ, zero, suc, ◌+◌, ◌≤◌, length, take, drop}
use Rattle.command.specs.Command.{unit}
use Rattle.walk.specs.Flat.{Core, flat_found, core_after}

-- one unit more, after what led to a place and a state
pub record OneMore (before : ℕ → Core → Type 0) (bytes : List ℕ) (to : ℕ) (s' : Core) : Type 0 where
  pub place : ℕ
  pub core : Core
  pub command : List ℕ
  pub memory : ℕ
  pub size : ℕ
  pub came : before place core
  pub found : flat_found (drop place bytes) core ≡ unit command memory size
  pub moved : to ≡ place + size
  pub after : s' ≡ core_after command (take size (drop place bytes)) core

-- n units lead from one place of the bytes and its state to another
unfoldable pub Walk : List ℕ → ℕ → Core → ℕ → ℕ → Core → Type 0
Walk bytes from s zero to s' = (to ≡ from) × (s' ≡ s)
Walk bytes from s (suc n) to s' = OneMore (Walk bytes from s n) bytes to s'

-- what is taken off the front of the bytes: some units, no more than are allowed, and all that they leave
pub record TakesMany (bytes : List ℕ) (s : Core) (limit units used : ℕ) (s' : Core) : Type 0 where
  pub within : units ≤ limit
  pub inside : used ≤ length bytes
  pub walk : Walk bytes 0 s units used s'
