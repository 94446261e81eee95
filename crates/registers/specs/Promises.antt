-- What a write of a hardware register and a read after it promise together: the statement of proofs/ReadBack `read_back`.
use Rattle.std.specs.Prelude.{◌≡◌, Bool, true, cond, ℕ, ◌<◌, ◌≤◌, eqb}
use Rattle.fifo.specs.declared.Fifo.{Fifo}
use Rattle.registers.specs.Registers.{writable, value_of, stored}

-- the offset of a half of a stored word
pub record StoredHalf (o : ℕ) : Type 0 where
  pub written : writable o ≡ true
  pub from : 0x20 ≤ o

-- "Each half takes effect at once": a half that is written is read back, and every other half of every stored word is as it was
abbrev pub ReadsBack : Type 0
ReadsBack =
    (f : Fifo) (drawing : Bool) (o p v : ℕ) → StoredHalf o → StoredHalf p → v < 0x10000
    → value_of (stored f o v) drawing p ≡ cond (eqb p o) v (value_of f drawing p)
