-- What inner functions promise to their callers: nobody needs to read this to believe the crate.
use Rattle.std.specs.Prelude.{◌≡◌, List, ℕ, ◌<◌, ◌≤◌, length, get_or}

-- zeros from a place up to another, which is no further than the end
pub record Zeros (bytes : List ℕ) (from end to : ℕ) : Type 0 where
  pub onward : from ≤ to
  pub inside : to ≤ end
  pub zero : (k : ℕ) → from ≤ k → k < to → get_or bytes k 0 ≡ 0

-- where these bits of a block are none, each of its bytes is zero
pub record Quiet (block : List ℕ) (bits : ℕ) : Type 0 where
  pub zero : bits ≡ 0 → (k : ℕ) → k < length block → get_or block k 0 ≡ 0
