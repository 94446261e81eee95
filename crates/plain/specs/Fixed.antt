-- Bytes that are passed as one unit. That they are one, and change nothing, is not said here: the caller knows it by their opcode.
use Rattle.std.specs.Prelude.{◌≡◌, Bool, cond, ◌&&◌, List, ℕ, ◌+◌, ◌-◌, leb, length}

-- n bytes are there from a place on
unfoldable pub there_at : List ℕ → ℕ → ℕ → Bool
there_at bytes at n = leb at (length bytes) && leb n (length bytes - at)

-- one unit of n bytes where so many are there, and else none
pub record Fixed (bytes : List ℕ) (at n units to : ℕ) : Type 0 where
  pub units_are : units ≡ cond (there_at bytes at n) 1 0
  pub to_is : to ≡ cond (there_at bytes at n) (at + n) at
